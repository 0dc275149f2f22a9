-- What statements resolve to fits, where each use in them is of a name that is known and fits its declaration; and it has no CALL, and in a DOALL no DOALL.
use Rattle.std.proofs.Common.{◌≡◌, ℕ, zero, suc, ◌+◌, ◌≤◌, false, List, [], ◌∷◌, ◌++◌, map, length, Option, Some, None, refl, sym, subst, ◌∙◌, arith}
use Rattle.std.specs.List.{All}
use Rattle.std.proofs.lemmas.List.{length-append}
use Rattle.cdc_prog.specs.declared.program.Dim.{Dim}
use Rattle.cdc_prog.specs.Plain as plain
use Rattle.cdc_prog.specs.Translation.{listed}
use Rattle.cdc_prog.specs.Bodies.{HasOnly}
use Rattle.cdc_prog.specs.Data.{dims_at}
use Rattle.cdc_prog.specs.Resolved.{IsScalar, SpotFits, TargetFits, ItemFits, StmtFits}
use Rattle.cdc_tree.specs.declared.tree.Named.{Named}
use Rattle.cdc_tree.specs.Plain.{Plain, plains}
use Rattle.cdc_tree.specs.Forms.{PSpot, PShown, PText, PValue, PForm, FAssign, FLogicalIf, FPrint, FRead}
use Rattle.cdc_tree.proofs.Counts.{count_plains}
use Rattle.cdc_names.specs.declared.name_use.Role.{Role}
use Rattle.cdc_names.specs.declared.name_use.Role.TheVariants as role
use Rattle.cdc_names.specs.declared.scope.Sort.{Sort}
use Rattle.cdc_names.specs.Places.{joined}
use Rattle.cdc_names.specs.Shapes.{may_be_whole, is_read, is_misused}
use Rattle.cdc_names.specs.Table.{found}
use Rattle.cdc_names.specs.Used.{Used, used}
use Rattle.cdc_names.specs.Uses.{tree_uses, spot_uses, spots_uses, shown_uses, form_uses}
use Rattle.cdc_check.specs.declared.meaning.Meaning.{Meaning}
use Rattle.cdc_check.specs.declared.meaning.Meaning.TheVariants as meaning
use Rattle.cdc_check.specs.declared.progress.Progress.{Progress}
use Rattle.cdc_check.specs.Threads.{numbered}
use Rattle.cdc_check.specs.Meanings.{Surroundings, meaning_of, var_in, var_of}
use Rattle.cdc_check.specs.Expressions.{resolved, resolved_in}
use Rattle.cdc_check.specs.Statements.{at_site, target, targets, item, items, formed}
use Rattle.cdc_check.proofs.Fitting as fitting
use Rattle.cdc_check.proofs.Fitting.{Agrees, changed_rank, changed_no_parameter, empty}
use Rattle.cdc_check.proofs.Placed.{IsSerial, FormPlaced}

-- statements without CALL; in a DOALL, where they have no DOALL and do not print or read either
abbrev pub Allowed : List Named → plain.Stmt → Type 0
Allowed ns = HasOnly (IsSerial ns) (IsSerial ns) ⊥

-- in any unit of a program, at any number of slots
module _ (p : plain.Program) (ranks : ℕ → ℕ) (rank : ℕ) (shapes : List (List Dim)) (slots : ℕ) (sorts : List (List ℕ × Sort)) (s : Surroundings) where
  abbrev pub AllGood : List Used → Type 0
  AllGood = fitting.AllGood p.objects shapes slots sorts s

  abbrev pub Good : Used → Type 0
  Good = fitting.Good p.objects shapes slots sorts s

  abbrev AllFit : List plain.Expr → Type 0
  AllFit = fitting.AllFit p.objects shapes slots sorts s

  abbrev pub Fits : plain.Stmt → Type 0
  Fits st = StmtFits p ranks rank shapes slots st

  left : (xs ys : List Used) → AllGood (xs ++ ys) → AllGood xs
  left = fitting.good_left p.objects shapes slots sorts s

  right : (xs ys : List Used) → AllGood (xs ++ ys) → AllGood ys
  right = fitting.good_right p.objects shapes slots sorts s

  spot_in : (m : Option Meaning) (sort : Option Sort) (r : Role) (es : List plain.Expr) → may_be_whole r ≡ false → is_read r ≡ false
      → Agrees p.objects shapes slots m sort → is_misused sort r (length es) ≡ false → AllFit es → SpotFits p.objects shapes slots (var_in m) (listed es)
  spot_in None sort r es w d a h f = absurd a
  spot_in (Some (meaning.Number x)) sort r es w d a h f = absurd (changed_no_parameter r (length es) d (subst (λ o. is_misused o r (length es) ≡ false) a h))
  spot_in (Some (meaning.Variable v)) sort r [] w d a h f = (a.0, empty (dims_at p.objects shapes v) (a.1 ∙ changed_rank sort r 0 w d h))
  spot_in (Some (meaning.Variable v)) sort r (e ∷ es) w d a h f =
      (a.0, fitting.subs_fit p.objects shapes slots sorts s (dims_at p.objects shapes v) (e ∷ es) (a.1 ∙ changed_rank sort r (suc (length es)) w d h) f)

  -- the variable of a DO is a scalar
  pub counted_fits : (n : Named) → Good (used n role.Counted 0) → IsScalar p.objects shapes slots (var_of s n)
  counted_fits n g = spot_in (meaning_of s n.name) (found n.name sorts) role.Counted [] refl refl g.agrees g.fits tt

  subs_good : (r : Role) (n : Named) (ts : List Plain) (k : ℕ) → Good (used n r (length ts)) → Good (used n r (length ((resolved_in s (plains ts) k).0)))
  subs_good r n ts k g = subst (λ l. Good (used n r l)) (sym (count_plains ts) ∙ fitting.resolved_count p.objects shapes slots sorts s (plains ts) k) g

  spot_fits : (r : Role) (spot : PSpot) → may_be_whole r ≡ false → is_read r ≡ false → AllGood (spot_uses r spot) → (k : ℕ)
      → SpotFits p.objects shapes slots (var_of s spot.0) (listed ((resolved_in s (plains spot.1) k).0))
  spot_fits r spot w d g k =
      let u : Good (used spot.0 r (length ((resolved_in s (plains spot.1) k).0))) = subs_good r spot.0 spot.1 k g.0 in
      spot_in (meaning_of s spot.0.name) (found spot.0.name sorts) r ((resolved_in s (plains spot.1) k).0) w d u.agrees u.fits (fitting.trees_fit p.objects shapes slots sorts s (plains spot.1) g.1 k)

  -- ---- lists of items and targets
  abbrev Each : {A : Type 0} → (A → Type 0) → List A → Type 0
  Each P [] = Unit {0}
  Each P (x ∷ xs) = P x × Each P xs

  all_from : {A : Type 0} (P : A → Type 0) (xs : List A) → Each P xs → All P xs
  all_from P [] e k d h = absurd (omega arith)
  all_from P (x ∷ xs) e zero d h = e.0
  all_from P (x ∷ xs) e (suc k) d h = all_from P xs e.1 k d (omega arith)

  targets_fit : (spots : List PSpot) → AllGood (spots_uses role.Input spots) → (k : ℕ) → Each (TargetFits p.objects shapes slots) ((targets s spots k).0)
  targets_fit [] g k = tt
  targets_fit (spot ∷ spots) g k = (
    spot_fits role.Input spot refl refl (left (spot_uses role.Input spot) (spots_uses role.Input spots) g) k,
    targets_fit spots (right (spot_uses role.Input spot) (spots_uses role.Input spots) g) ((target s spot k).1),
  )

  numbered_le : (n : ℕ) → numbered n ≤ n
  numbered_le n = grind arith

  pub record ItemEnds (k : Progress) (r : plain.Item × Progress) : Type 0 where
    pub grows : length k.texts ≤ length (r.1.texts)
    pub fits : length (r.1.texts) ≤ length p.texts → ItemFits p.objects shapes slots (length p.texts) r.0

  item_ends : (sh : PShown) → AllGood (shown_uses sh) → (k : Progress) → ItemEnds k (item s sh k)
  item_ends (PText text) g k =
      let more : length (k.texts ++ text ∷ []) ≡ length k.texts + 1 = length-append k.texts (text ∷ []) in
      let low : numbered (length k.texts) ≤ length k.texts = numbered_le (length k.texts) in
      record { grows = omega arith; fits = λ h. omega arith }
  item_ends (PValue t) g k = record { grows = omega arith; fits = λ h. fitting.tree_fits p.objects shapes slots sorts s t g k.sites }

  pub record ItemsEnd (k : Progress) (r : List plain.Item × Progress) : Type 0 where
    pub grows : length k.texts ≤ length (r.1.texts)
    pub fits : length (r.1.texts) ≤ length p.texts → Each (ItemFits p.objects shapes slots (length p.texts)) r.0

  items_end : (shs : List PShown) → AllGood (joined (map shown_uses shs)) → (k : Progress) → ItemsEnd k (items s shs k)
  items_end [] g k = record { grows = omega arith; fits = λ h. tt }
  items_end (sh ∷ shs) g k =
      let one : ItemEnds k (item s sh k) = item_ends sh (left (shown_uses sh) (joined (map shown_uses shs)) g) k in
      let rest : ItemsEnd ((item s sh k).1) (items s shs ((item s sh k).1)) = items_end shs (right (shown_uses sh) (joined (map shown_uses shs)) g) ((item s sh k).1) in
      let first : length k.texts ≤ length ((item s sh k).1.texts) = one.grows in
      let second : length ((item s sh k).1.texts) ≤ length ((items s shs ((item s sh k).1)).1.texts) = rest.grows in
      record { grows = omega arith; fits = λ h. (one.fits (omega arith), rest.fits h) }

  -- ---- statements
  pub record Ends (k : Progress) (r : plain.Stmt × Progress) : Type 0 where
    pub grows : length k.texts ≤ length (r.1.texts)
    pub fits : length (r.1.texts) ≤ length p.texts → Fits (r.0)
    pub only : Allowed s.slots r.0

  pub nothing_ends : (k : Progress) → Ends k (plain.If plain.Skip, k)
  nothing_ends k = record { grows = omega arith; fits = λ h. tt; only = tt }

  pub form_ends : (f : PForm) → FormPlaced s.slots f → AllGood (form_uses f) → (line : ℕ) (k : Progress) → Ends k (formed f line s k)
  form_ends (FAssign spot value) placed g line k =
      let n : ℕ = (resolved_in s (plains spot.1) k.sites).1 in
      record {
        grows = omega arith;
        fits = λ t. (
          spot_fits role.Assigned spot refl refl (left (spot_uses role.Assigned spot) (tree_uses value) g) k.sites,
          fitting.tree_fits p.objects shapes slots sorts s value (right (spot_uses role.Assigned spot) (tree_uses value) g) n,
        );
        only = tt;
      }
  form_ends (FLogicalIf cond place simple) placed g line k =
      let n : ℕ = (resolved s cond k.sites).1 in
      let inner : Ends (at_site n k) (formed simple line s (at_site n k)) = form_ends simple placed (right (tree_uses cond) (form_uses simple) g) line (at_site n k) in
      record {
        grows = inner.grows;
        fits = λ t. (fitting.tree_fits p.objects shapes slots sorts s cond (left (tree_uses cond) (form_uses simple) g) k.sites, (inner.fits t, tt), tt);
        only = ((inner.only, tt), tt);
      }
  form_ends (FPrint shs) placed g line k =
      let ended : ItemsEnd k (items s shs k) = items_end shs g k in
      record { grows = ended.grows; fits = λ t. all_from (ItemFits p.objects shapes slots (length p.texts)) ((items s shs k).0) (ended.fits t); only = placed }
  form_ends (FRead spots) placed g line k =
      record { grows = omega arith; fits = λ t. all_from (TargetFits p.objects shapes slots) ((targets s spots k.sites).0) (targets_fit spots g k.sites); only = placed }
  form_ends _ placed g line k = nothing_ends k
