-- What units resolve to keeps, where nothing in them is refused.
use Rattle.std.proofs.Common.{◌≡◌, ℕ, zero, suc, ◌≤◌, List, [], ◌∷◌, ◌++◌, map, length, None, refl, ap, ◌∙◌, arith, append_assoc}
use Rattle.std.specs.Prelude.{slice_get}
use Rattle.cdc_tree.specs.Order.{Each}
use Rattle.cdc_tree.specs.Units.{PUnit}
use Rattle.cdc_prog.specs.declared.expr.Var.TheVariants.{Slot}
use Rattle.cdc_prog.specs.Plain as plain
use Rattle.cdc_prog.specs.Numbered.{calls_in}
use Rattle.cdc_prog.specs.Translation.{chain}
use Rattle.cdc_prog.specs.Premises.{DoallsStoreAlone, DosKeepVariables}
use Rattle.cdc_prog.specs.Resolved.{StmtFits}
use Rattle.cdc_prog.specs.Units.{shapes_in, body_in}
use Rattle.cdc_prog.specs.Uses.{Stores}
use Rattle.cdc_names.specs.declared.scope.Sort.{Sort}
use Rattle.cdc_names.specs.DoallBodies.{misplaced, body_inside, doall_body_in}
use Rattle.cdc_names.specs.Duplicates.{body_lists}
use Rattle.cdc_names.specs.DoVariables.{do_variable_in}
use Rattle.cdc_names.specs.Privates.{not_private_in}
use Rattle.cdc_names.specs.Scopes.{scope_of}
use Rattle.cdc_names.specs.Shapes.{shape_in}
use Rattle.cdc_names.specs.Used.{Used}
use Rattle.cdc_names.specs.Uses.{statement_uses, statements_uses, body_uses}
use Rattle.cdc_check.specs.declared.meaning.Meaning.{Meaning}
use Rattle.cdc_check.specs.declared.progress.Shape.{Shape}
use Rattle.cdc_check.specs.Threads.{next, each}
use Rattle.cdc_check.specs.Layout.{laid_from}
use Rattle.cdc_check.specs.Meanings.{Surroundings, surroundings}
use Rattle.cdc_check.specs.Objects.{named_in}
use Rattle.cdc_check.specs.Statements.{nodes_in}
use Rattle.cdc_check.specs.Units.{Whole, unit_in, units_from}
use Rattle.cdc_check.specs.Built.{HasLoops}
use Rattle.cdc_check.proofs.Blocks as blocks
use Rattle.cdc_check.proofs.Counting as counting
use Rattle.cdc_check.proofs.Doalls.{Counts, Numbers, numbers_more, body_counts}
use Rattle.cdc_check.proofs.Extents.{none_first}
use Rattle.cdc_check.proofs.Fitting as fitting
use Rattle.cdc_check.proofs.Inside.{AreApart, nothing_around}
use Rattle.cdc_check.proofs.Known.{named_good, units_grown}
use Rattle.cdc_check.proofs.Opened.{Clear, clear_from, clear_right, Steady, steady_append, form_steady, statements_steady}
use Rattle.cdc_check.proofs.Own as own
use Rattle.cdc_check.proofs.Placed.{AreSlots, BodyPlaced, body_serial}
use Rattle.cdc_check.proofs.Stating.{Allowed}
use Rattle.cdc_check.proofs.Tables.{Grown}

-- nothing is refused in a unit
pub record IsQuiet (u : PUnit) : Type 0 where
  pub shape : shape_in (scope_of u) ≡ None
  pub do_variable : do_variable_in (scope_of u) ≡ None
  pub doall_body : doall_body_in u ≡ None
  pub not_private : not_private_in (scope_of u) ≡ None
  pub slots : Each AreSlots (body_lists u.body)
  pub loops : HasLoops u

-- the unit leaves no loop open before its body
head_steady : (u : PUnit) → HasLoops u → Steady (statement_uses u.head ++ statements_uses u.declarations)
head_steady u h = steady_append (statement_uses u.head) (statements_uses u.declarations) (form_steady u.head.form h.head) (statements_steady u.declarations h.declarations)

module _ (listed : List plain.ProgramUnit) (main : ℕ) (F : List Shape) (texts : List (List ℕ)) (sites doalls words : ℕ) (small : length F ≤ 1024) where
  abbrev p : plain.Program
  p = record { units = listed; main = main; objects = laid_from 0 F; texts = texts; sites = sites; doalls = doalls; words = words }

  pub record BodyDone (body : plain.Stmt) : Type 0 where
    pub fits : StmtFits p (λ v. 0) 0 [] 0 body
    pub only : Allowed [] body
    pub calls : calls_in body ≡ 0
    pub numbers : Numbers doalls body
    pub dos : DosKeepVariables p body
    pub stores : DoallsStoreAlone body
    pub index : Stores p (Slot 0) body → ⊥

  pub record UnitDone (u : plain.ProgramUnit) : Type 0 where
    pub alone : u.dummies ≡ []
    pub body : BodyDone u.body

  record UnitEnds (k : Whole) (r : plain.ProgramUnit × Whole) : Type 0 where
    pub grows : length k.progress.texts ≤ length (r.1.progress.texts)
    pub more : k.progress.doalls ≤ r.1.progress.doalls
    pub done : length (r.1.progress.texts) ≤ length texts → r.1.progress.doalls ≤ doalls → UnitDone r.0

  unit_ends : (number : ℕ) (u : PUnit) (k : Whole) (rest : List Shape) → F ≡ (named_in number (scope_of u) k.objects).objects ++ rest → IsQuiet u → UnitEnds k (unit_in number u (scope_of u) k)
  unit_ends number u k rest e quiet =
      let names : List (List ℕ × Meaning) = (named_in number (scope_of u) k.objects).names in
      let s : Surroundings = surroundings names [] in
      let sorts : List (List ℕ × Sort) = (scope_of u).sorts in
      let before : List Used = statement_uses u.head ++ statements_uses u.declarations in
      let good : fitting.AllGood (laid_from 0 F) [] 0 sorts s (before ++ body_uses u.body) = named_good F small number u k.objects rest e quiet.shape in
      let body : fitting.AllGood (laid_from 0 F) [] 0 sorts s (body_uses u.body) = fitting.good_right (laid_from 0 F) [] 0 sorts s before (body_uses u.body) good in
      let placed : BodyPlaced [] u.body = body_serial u.body quiet.loops.body quiet.slots (none_first misplaced (body_inside u.body) quiet.doall_body) in
      let ended : blocks.ListEnds p (λ v. 0) 0 [] sorts names [] k.progress (nodes_in u.body s k.progress) = blocks.body_ends p (λ v. 0) 0 [] sorts names [] u.body placed body k.progress in
      let counts : Counts k.progress.doalls ((nodes_in u.body s k.progress).1.doalls) (chain ((nodes_in u.body s k.progress).0)) = body_counts u.body s k.progress in
      let apart : AreApart names = own.apart F small names (own.named_own F small number (scope_of u) k.objects rest e) in
      let whole : Clear [] (before ++ body_uses u.body) = clear_from [] (before ++ body_uses u.body) quiet.do_variable quiet.not_private in
      let clear : Clear [] (body_uses u.body) = clear_right [] before (body_uses u.body) (head_steady u quiet.loops) whole in
      let kept : counting.Keeps p [] sorts names apart [] [] (chain ((nodes_in u.body s k.progress).0)) = counting.body_keeps p [] sorts names apart u.body [] [] (omega arith) placed nothing_around body clear k.progress in
      record {
        grows = ended.grows;
        more = counts.more;
        done = λ t d. record {
          alone = refl;
          body = record {
            fits = ended.fits t;
            only = ended.only;
            calls = counts.calls;
            numbers = numbers_more ((nodes_in u.body s k.progress).1.doalls) doalls (chain ((nodes_in u.body s k.progress).0)) d counts.numbers;
            dos = kept.dos;
            stores = kept.alone;
            index = kept.index;
          };
        };
      }

  abbrev pub EachDone : List plain.ProgramUnit → Type 0
  EachDone = Each UnitDone

  pub record UnitsEnd (k : Whole) (r : List plain.ProgramUnit × Whole) : Type 0 where
    pub grows : length k.progress.texts ≤ length (r.1.progress.texts)
    pub more : k.progress.doalls ≤ r.1.progress.doalls
    pub done : length (r.1.progress.texts) ≤ length texts → r.1.progress.doalls ≤ doalls → EachDone r.0

  pub units_end : (us : List PUnit) (number : ℕ) (k : Whole) (rest : List Shape) → F ≡ (each (units_from number us (map scope_of us)) k).1.objects ++ rest → Each IsQuiet us
      → UnitsEnd k (each (units_from number us (map scope_of us)) k)
  units_end [] number k rest e quiet = record { grows = omega arith; more = omega arith; done = λ t d. tt }
  units_end (u ∷ us) number k rest e quiet =
      let m : Whole = (unit_in number u (scope_of u) k).1 in
      let n : Whole = (each (units_from (next number) us (map scope_of us)) m).1 in
      let g : Grown m.objects n.objects = units_grown us (next number) m in
      let h : F ≡ m.objects ++ (g.more ++ rest) = e ∙ ap (λ l. l ++ rest) g.is ∙ append_assoc m.objects g.more rest in
      let one : UnitEnds k (unit_in number u (scope_of u) k) = unit_ends number u k (g.more ++ rest) h quiet.0 in
      let more : UnitsEnd m (each (units_from (next number) us (map scope_of us)) m) = units_end us (next number) m rest e quiet.1 in
      let low : length k.progress.texts ≤ length m.progress.texts = one.grows in
      let high : length m.progress.texts ≤ length n.progress.texts = more.grows in
      let fewer : k.progress.doalls ≤ m.progress.doalls = one.more in
      let rather : m.progress.doalls ≤ n.progress.doalls = more.more in
      record { grows = omega arith; more = omega arith; done = λ t d. (one.done (omega arith) (omega arith), more.done t d) }

  pub alone_at : (us : List plain.ProgramUnit) → EachDone us → (i : ℕ) → shapes_in (slice_get us i) ≡ []
  alone_at [] d i = refl
  alone_at (u ∷ us) d zero = ap (map (λ x. x.dims)) d.0.alone
  alone_at (u ∷ us) d (suc i) = alone_at us d.1 i

  pub body_at : (us : List plain.ProgramUnit) → EachDone us → (i : ℕ) → BodyDone (body_in (slice_get us i))
  body_at [] d i = record { fits = tt; only = tt; calls = refl; numbers = λ number slots k body is. absurd is; dos = tt; stores = tt; index = λ st. st }
  body_at (u ∷ us) d zero = d.0.body
  body_at (u ∷ us) d (suc i) = body_at us d.1 i
