-- What constructs resolve to fits, where each use in them fits its declaration and each statement stands where it may; and it has no CALL, and in a DOALL no DOALL.
use Rattle.std.proofs.Common.{◌≡◌, ℕ, suc, ◌≤◌, List, [], ◌∷◌, ◌++◌, length, Option, Some, None, refl, sym, subst, arith}
use Rattle.cdc_prog.specs.declared.program.Dim.{Dim}
use Rattle.cdc_prog.specs.Plain as plain
use Rattle.cdc_prog.specs.Translation.{chain, in_arms}
use Rattle.cdc_prog.specs.Resolved.{ExprFits, ControlFits, StmtFits}
use Rattle.cdc_tree.specs.declared.tree.Named.{Named}
use Rattle.cdc_tree.specs.Plain.{Plain}
use Rattle.cdc_tree.specs.Forms.{PLoop, PStatement, PForm, FIfThen, FElseIf, FDo, FDoall}
use Rattle.cdc_tree.specs.Order.{Each}
use Rattle.cdc_tree.specs.Units.{PNode, NPlain, NIf, NElse, NLoop, PBody, Empty, More, PBranches, BNone, BMore}
use Rattle.cdc_names.specs.declared.name_use.Role.TheVariants as role
use Rattle.cdc_names.specs.declared.scope.Sort.{Sort}
use Rattle.cdc_names.specs.Used.{Used}
use Rattle.cdc_names.specs.Uses.{tree_uses, optional_uses, control_uses, names_uses, form_uses, statement_uses, closing_uses, node_uses, body_uses, branches_uses}
use Rattle.cdc_check.specs.declared.meaning.Meaning.{Meaning}
use Rattle.cdc_check.specs.declared.progress.Progress.{Progress}
use Rattle.cdc_check.specs.Threads.{next, numbered}
use Rattle.cdc_check.specs.Meanings.{Surroundings, surroundings, var_of, sites_after}
use Rattle.cdc_check.specs.Expressions.{resolved}
use Rattle.cdc_check.specs.Statements.{Resolves, at_site, with_doall, step_expr, controls, counted, looped, condition, arm, noded, nodes_in, arms_in}
use Rattle.cdc_check.proofs.Fitting as fitting
use Rattle.cdc_check.proofs.Inside as within
use Rattle.cdc_check.proofs.Stating as stating
use Rattle.cdc_check.proofs.Stating.{Allowed}
use Rattle.cdc_check.proofs.Placed.{AreSlots, HeadPlaced, NodePlaced, BodyPlaced, BranchesPlaced}

-- where P holds of the other part, it holds with each arm before it
abbrev pub EachKeeps : (plain.Stmt → Type 0) → List (plain.Stmt → plain.Stmt) → Type 0
EachKeeps P [] = Unit {0}
EachKeeps P (a ∷ rest) = ((o : plain.Stmt) → P o → P (a o)) × EachKeeps P rest

pub arms_keep : (P : plain.Stmt → Type 0) (arms : List (plain.Stmt → plain.Stmt)) (o : plain.Stmt) → EachKeeps P arms → P o → P (in_arms arms o)
arms_keep P [] o e f = f
arms_keep P (a ∷ more) o e f = e.0 (in_arms more o) (arms_keep P more o e.1 f)

-- as many slots as a DOALL has names
slots_count : (n : ℕ) → suc n ≤ 33 → next (numbered n) ≡ suc n
slots_count n h = grind arith

-- in any unit of a program, in serial code and in a DOALL, whose index and private names these are
module _ (p : plain.Program) (ranks : ℕ → ℕ) (rank : ℕ) (shapes : List (List Dim)) (sorts : List (List ℕ × Sort)) (names : List (List ℕ × Meaning)) where
  abbrev at : List Named → Surroundings
  at ns = surroundings names ns

  abbrev AllGood : List Named → List Used → Type 0
  AllGood ns = stating.AllGood p ranks rank shapes (length ns) sorts (at ns)

  abbrev Fits : List Named → plain.Stmt → Type 0
  Fits ns = stating.Fits p ranks rank shapes (length ns) sorts (at ns)

  abbrev Ends : List Named → Progress → plain.Stmt × Progress → Type 0
  Ends ns = stating.Ends p ranks rank shapes (length ns) sorts (at ns)

  left : (ns : List Named) (xs ys : List Used) → AllGood ns (xs ++ ys) → AllGood ns xs
  left ns = fitting.good_left p.objects shapes (length ns) sorts (at ns)

  right : (ns : List Named) (xs ys : List Used) → AllGood ns (xs ++ ys) → AllGood ns ys
  right ns = fitting.good_right p.objects shapes (length ns) sorts (at ns)

  pub record ListEnds (ns : List Named) (k : Progress) (r : List plain.Stmt × Progress) : Type 0 where
    pub grows : length k.texts ≤ length (r.1.texts)
    pub fits : length (r.1.texts) ≤ length p.texts → Fits ns (chain r.0)
    pub only : Allowed ns (chain r.0)

  record ArmEnds (ns : List Named) (k : Progress) (r : (plain.Stmt → plain.Stmt) × Progress) : Type 0 where
    pub grows : length k.texts ≤ length (r.1.texts)
    pub fits : length (r.1.texts) ≤ length p.texts → (o : plain.Stmt) → Fits ns o → Fits ns (r.0 o)
    pub only : (o : plain.Stmt) → Allowed ns o → Allowed ns (r.0 o)

  record ArmsEnd (ns : List Named) (k : Progress) (r : List (plain.Stmt → plain.Stmt) × Progress) : Type 0 where
    pub grows : length k.texts ≤ length (r.1.texts)
    pub fits : length (r.1.texts) ≤ length p.texts → EachKeeps (Fits ns) r.0
    pub only : EachKeeps (Allowed ns) r.0

  -- ---- controls and conditions
  tree_fits : (ns : List Named) (t : Plain) → AllGood ns (tree_uses t) → (k : ℕ) → ExprFits p.objects shapes (length ns) ((resolved (at ns) t k).0)
  tree_fits ns = fitting.tree_fits p.objects shapes (length ns) sorts (at ns)

  step_fits : (ns : List Named) (by : Option Plain) → AllGood ns (optional_uses by) → (k : ℕ) → ExprFits p.objects shapes (length ns) ((step_expr (at ns) by k).0)
  step_fits ns None g k = refl
  step_fits ns (Some t) g k = tree_fits ns t g k

  controls_fit : (ns : List Named) (line : ℕ) (l : PLoop) → AllGood ns (control_uses l) → (k : ℕ) → ControlFits p.objects shapes (length ns) ((controls line (at ns) l k).0)
  controls_fit ns line l g k =
      let two : AllGood ns (tree_uses l.1 ++ tree_uses l.2) = left ns (tree_uses l.1 ++ tree_uses l.2) (optional_uses l.3) g in (
        tree_fits ns l.1 (left ns (tree_uses l.1) (tree_uses l.2) two) k,
        tree_fits ns l.2 (right ns (tree_uses l.1) (tree_uses l.2) two) ((resolved (at ns) l.1 k).1),
        step_fits ns l.3 (right ns (tree_uses l.1 ++ tree_uses l.2) (optional_uses l.3) g) ((resolved (at ns) l.2 ((resolved (at ns) l.1 k).1)).1),
      )

  condition_fits : (ns : List Named) (f : PForm) → AllGood ns (form_uses f) → (k : ℕ) → ExprFits p.objects shapes (length ns) ((condition f (at ns) k).0)
  condition_fits ns (FIfThen c) g k = tree_fits ns c g k
  condition_fits ns (FElseIf c) g k = tree_fits ns c g k
  condition_fits ns _ g k = refl

  -- ---- loops
  counted_ends : (ns : List Named) (line : ℕ) (l : PLoop) (inner : Resolves) → AllGood ns (form_uses (FDo l)) → ((k : Progress) → ListEnds ns k (inner (at ns) k)) → (k : Progress) → Ends ns k (counted line (at ns) l inner k)
  counted_ends ns line l inner g ended k =
      let start : Progress = at_site (sites_after (var_of (at ns) l.0) ((controls line (at ns) l k.sites).1)) k in
      let done : ListEnds ns start (inner (at ns) start) = ended start in
      record {
        grows = done.grows;
        fits = λ t. (controls_fit ns line l g.1 k.sites, stating.counted_fits p ranks rank shapes (length ns) sorts (at ns) l.0 g.0, refl, refl, done.fits t);
        only = done.only;
      }

  -- the names of a DOALL are scalars
  doall_flat : (l : PLoop) (privates : List Named) → AllGood [] (form_uses (FDoall l privates)) → Each (within.IsFlat p.objects shapes sorts names) (l.0 ∷ privates)
  doall_flat l privates g =
      (within.index_flat p.objects shapes sorts names l.0 g.0, within.privates_flat p.objects shapes sorts names privates (right [] (control_uses l) (names_uses role.Private privates) g.1))

  pub doall_good : (l : PLoop) (privates : List Named) → AreSlots (l.0 ∷ privates) → AllGood [] (form_uses (FDoall l privates)) → (us : List Used) → AllGood [] us → AllGood (l.0 ∷ privates) us
  doall_good l privates slots g us good = within.all_inside p.objects shapes sorts names (l.0 ∷ privates) slots.few (doall_flat l privates g) us good

  parallel_ends : (line : ℕ) (l : PLoop) (privates : List Named) (inner : Resolves) → AreSlots (l.0 ∷ privates) → AllGood [] (form_uses (FDoall l privates))
      → ((k : Progress) → ListEnds (l.0 ∷ privates) k (inner (at (l.0 ∷ privates)) k)) → (k : Progress) → Ends [] k (looped line (FDoall l privates) inner (at []) k)
  parallel_ends line l privates inner slots g ended k =
      let start : Progress = with_doall ((controls line (at []) l k.sites).1) k in
      let done : ListEnds (l.0 ∷ privates) start (inner (at (l.0 ∷ privates)) start) = ended start in
      let count : next (numbered (length privates)) ≡ suc (length privates) = slots_count (length privates) slots.few in
      record {
        grows = done.grows;
        fits = λ t. (
          refl,
          controls_fit [] line l (left [] (control_uses l) (names_uses role.Private privates) g.1) k.sites,
          omega (arith, count),
          done.only,
          subst (λ (n : ℕ). StmtFits p ranks rank shapes n (chain ((inner (at (l.0 ∷ privates)) start).0))) (sym count) (done.fits t),
        );
        only = tt;
      }

  loop_ends : (ns : List Named) (f : PForm) (line : ℕ) (inner : Resolves) (us : List Used) (P : List Named → Type 0) → HeadPlaced ns f P → AllGood ns (form_uses f) → AllGood ns us
      → ((ms : List Named) → P ms → AllGood ms us → (k : Progress) → ListEnds ms k (inner (at ms) k)) → (k : Progress) → Ends ns k (looped line f inner (at ns) k)
  loop_ends ns (FDo l) line inner us P placed g good ended k = counted_ends ns line l inner g (ended ns placed good) k
  loop_ends [] (FDoall l ps) line inner us P placed g good ended k =
      parallel_ends line l ps inner placed.1 g (ended (l.0 ∷ ps) placed.2 (doall_good l ps placed.1 g us good)) k
  loop_ends (n ∷ ns) (FDoall l ps) line inner us P placed g good ended k = absurd placed.0
  loop_ends ns _ line inner us P placed g good ended k = absurd placed

  -- ---- branches
  arm_ends : (ns : List Named) (head : PStatement) (inner : Resolves) → AllGood ns (statement_uses head) → ((k : Progress) → ListEnds ns k (inner (at ns) k)) → (k : Progress) → ArmEnds ns k (arm head inner (at ns) k)
  arm_ends ns head inner g ended k =
      let start : Progress = at_site ((condition head.form (at ns) k.sites).1) k in
      let done : ListEnds ns start (inner (at ns) start) = ended start in
      record {
        grows = done.grows;
        fits = λ t o f. (condition_fits ns head.form g k.sites, done.fits t, f);
        only = λ o f. (done.only, f);
      }

  -- ---- constructs
  mutual
    node_ends : (ns : List Named) (n : PNode) → NodePlaced ns n → AllGood ns (node_uses n) → (k : Progress) → Ends ns k (noded n (at ns) k)
    node_ends ns (NPlain st) placed g k = stating.form_ends p ranks rank shapes (length ns) sorts (at ns) st.form placed g st.place.line k
    node_ends ns (NIf branches end) placed g k =
        let first : ArmsEnd ns k (arms_in branches (at ns) k) = arms_end ns branches placed g k in
        record {
          grows = first.grows;
          fits = λ t. arms_keep (Fits ns) ((arms_in branches (at ns) k).0) plain.Skip (first.fits t) tt;
          only = arms_keep (Allowed ns) ((arms_in branches (at ns) k).0) plain.Skip first.only tt;
        }
    node_ends ns (NElse branches head other end) placed g k =
        let rest : AllGood ns (statement_uses head ++ body_uses other) = right ns (branches_uses branches) (statement_uses head ++ body_uses other) g in
        let first : ArmsEnd ns k (arms_in branches (at ns) k) = arms_end ns branches placed.0 (left ns (branches_uses branches) (statement_uses head ++ body_uses other) g) k in
        let m : Progress = (arms_in branches (at ns) k).1 in
        let second : ListEnds ns m (nodes_in other (at ns) m) = body_ends ns other placed.2 (right ns (statement_uses head) (body_uses other) rest) m in
        let low : length k.texts ≤ length m.texts = first.grows in
        let high : length m.texts ≤ length ((nodes_in other (at ns) m).1.texts) = second.grows in
        record {
          grows = omega arith;
          fits = λ t. arms_keep (Fits ns) ((arms_in branches (at ns) k).0) (chain ((nodes_in other (at ns) m).0)) (first.fits (omega arith)) (second.fits t);
          only = arms_keep (Allowed ns) ((arms_in branches (at ns) k).0) (chain ((nodes_in other (at ns) m).0)) first.only second.only;
        }
    node_ends ns (NLoop head inner end) placed g k =
        let two : AllGood ns (statement_uses head ++ body_uses inner) = left ns (statement_uses head ++ body_uses inner) (closing_uses head.form) g in
        loop_ends ns head.form head.place.line (nodes_in inner) (body_uses inner) (λ ms. BodyPlaced ms inner) placed (left ns (statement_uses head) (body_uses inner) two)
        (right ns (statement_uses head) (body_uses inner) two) (λ ms there good. body_ends ms inner there good) k

    pub body_ends : (ns : List Named) (b : PBody) → BodyPlaced ns b → AllGood ns (body_uses b) → (k : Progress) → ListEnds ns k (nodes_in b (at ns) k)
    body_ends ns Empty placed g k = record { grows = omega arith; fits = λ t. tt; only = tt }
    body_ends ns (More n rest) placed g k =
        let one : Ends ns k (noded n (at ns) k) = node_ends ns n placed.0 (left ns (node_uses n) (body_uses rest) g) k in
        let m : Progress = (noded n (at ns) k).1 in
        let more : ListEnds ns m (nodes_in rest (at ns) m) = body_ends ns rest placed.1 (right ns (node_uses n) (body_uses rest) g) m in
        let low : length k.texts ≤ length m.texts = one.grows in
        let high : length m.texts ≤ length ((nodes_in rest (at ns) m).1.texts) = more.grows in
        record { grows = omega arith; fits = λ t. (one.fits (omega arith), more.fits t); only = (one.only, more.only) }

    arms_end : (ns : List Named) (bs : PBranches) → BranchesPlaced ns bs → AllGood ns (branches_uses bs) → (k : Progress) → ArmsEnd ns k (arms_in bs (at ns) k)
    arms_end ns BNone placed g k = record { grows = omega arith; fits = λ t. tt; only = tt }
    arms_end ns (BMore head inner rest) placed g k =
        let two : AllGood ns (statement_uses head ++ body_uses inner) = left ns (statement_uses head ++ body_uses inner) (branches_uses rest) g in
        let one : ArmEnds ns k (arm head (nodes_in inner) (at ns) k) =
        arm_ends ns head (nodes_in inner) (left ns (statement_uses head) (body_uses inner) two) (body_ends ns inner placed.1 (right ns (statement_uses head) (body_uses inner) two)) k in
        let m : Progress = (arm head (nodes_in inner) (at ns) k).1 in
        let more : ArmsEnd ns m (arms_in rest (at ns) m) = arms_end ns rest placed.2 (right ns (statement_uses head ++ body_uses inner) (branches_uses rest) g) m in
        let low : length k.texts ≤ length m.texts = one.grows in
        let high : length m.texts ≤ length ((arms_in rest (at ns) m).1.texts) = more.grows in
        record { grows = omega arith; fits = λ t. (one.fits (omega arith), more.fits t); only = (one.only, more.only) }
