-- What programs without CALL keep, and those without DOALL and CALL.
use Rattle.std.proofs.Common.{◌≡◌, ◌⊎◌, inl, inr, ℕ, zero, suc, ◌<◌, List, [], ◌∷◌, length, refl, sym, ap, ◌∙◌, subst, arith}
use Rattle.std.specs.Prelude.{slice_get}
use Rattle.std.specs.List.{Any}
use Rattle.cdc_prog.specs.declared.expr.Ref.{Ref}
use Rattle.cdc_prog.specs.declared.expr.Var.{Var}
use Rattle.cdc_prog.specs.declared.expr.Var.TheVariants as var
use Rattle.cdc_prog.specs.declared.program.Dim.{Dim}
use Rattle.cdc_prog.specs.declared.program.Object.{Object}
use Rattle.cdc_prog.specs.Plain.{Expr, Number, Scalar, Element, Un, Bin, Exprs, Empty, More, Item, Text, Value, Actual, Whole, Copy, Control, Stmt, Skip, Seq, Assign, If, Arm, Do, Doall, Call, Print, Read, ProgramUnit, Program}
use Rattle.cdc_prog.specs.Numbered.{calls_in}
use Rattle.cdc_prog.specs.Data.{Store, put, Binding, dims_at}
use Rattle.cdc_prog.specs.Input.{Input}
use Rattle.cdc_prog.specs.Process.{Process, Load, Save, Say, Tick, Fork, Join, Halt, Fail}
use Rattle.cdc_prog.specs.Units.{shapes_in, body_in, body_of, binding_of, process_of}
use Rattle.cdc_prog.specs.Bodies.{ComesOnlyTo, HasOnly}
use Rattle.cdc_prog.specs.Resolved.{IsVar, ExprFits, SubsFit, SpotFits, TargetFits, ControlFits, ItemFits, ActualFits, ActualsFit, StmtFits, IsResolved, IsSerial, HasNoDoall, HasNoCall}
use Rattle.cdc_prog.specs.Uses.{ExprMentions, SubsMention, TargetMentions, ItemMentions, ActualMentions, ControlMentions, Uses, Stores, HasCall, MayStore}
use Rattle.cdc_prog.specs.Paths.{Denotes}
use Rattle.cdc_prog.specs.Premises.{DoallsStoreAlone, StoresAlone, IsUnaliased}
use Rattle.cdc_prog.specs.Apart.{StaysApart, IsApart}
use Rattle.cdc_prog.proofs.Lists.{any_none, any_first, some_of}
use Rattle.cdc_prog.proofs.Bodies.{program_fine}
use Rattle.cdc_prog.proofs.Numbered.{fit_without_calls, no_calls}

-- ---- without CALL
no_call : (number unit : ℕ) (actuals : List Actual) (s : Stmt) → calls_in s ≡ 0 → HasCall number unit actuals s → ⊥
no_call number unit actuals Skip none h = h
no_call number unit actuals (Seq a b) none (inl h) = no_call number unit actuals a (omega (arith, none)) h
no_call number unit actuals (Seq a b) none (inr h) = no_call number unit actuals b (omega (arith, none)) h
no_call number unit actuals (Assign line t value) none h = h
no_call number unit actuals (If arms) none h = no_call number unit actuals arms none h
no_call number unit actuals (Arm line cond body other) none (inl h) = no_call number unit actuals body (omega (arith, none)) h
no_call number unit actuals (Arm line cond body other) none (inr h) = no_call number unit actuals other (omega (arith, none)) h
no_call number unit actuals (Do k first body again bump) none h = no_call number unit actuals body none h
no_call number unit actuals (Doall k n slots body) none h = no_call number unit actuals body none h
no_call number unit actuals (Call line n u others) none h = cc
no_call number unit actuals (Print line items) none h = h
no_call number unit actuals (Read line targets) none h = h

-- statements without CALL store by themselves alone
pub uncalled_stores : (p : Program) (v : Var) (s : Stmt) → calls_in s ≡ 0 → MayStore p v s → Stores p v s
uncalled_stores p v s none (inl h) = h
uncalled_stores p v s none (inr (k, number, u, w, actuals, is, has, reaches, stores)) = absurd (no_call number u actuals s none has)

uncalled_in : (us : List ProgramUnit) → ((u : ℕ) → u < length us → calls_in (body_in (slice_get us u)) ≡ 0) → (u : ℕ) → calls_in (body_in (slice_get us u)) ≡ 0
uncalled_in [] h u = refl
uncalled_in (x ∷ us) h zero = h 0 (omega arith)
uncalled_in (x ∷ us) h (suc u) = uncalled_in us (λ k lt. h (suc k) (omega (arith, lt))) u

-- no unit has a CALL, inside its DOALLs neither
pub uncalled : (p : Program) → IsResolved p → HasNoCall p → (u : ℕ) → calls_in (body_of p u) ≡ 0
uncalled p is only =
    uncalled_in p.units (λ u lt. fit_without_calls p is.ranks (is.ranks u) (shapes_in (slice_get p.units u)) 0 (Unit {0}) (Unit {0}) (body_of p u) (is.fits u lt) (only u))

-- ---- without DOALL and CALL
abbrev Plainly : Stmt → Type 0
Plainly = HasOnly (Unit {0}) ⊥ ⊥

pub may_store : (p : Program) (v : Var) (s : Stmt) → Plainly s → MayStore p v s → Stores p v s
may_store p v s only = uncalled_stores p v s (no_calls (Unit {0}) s only)

no_doall : (s : Stmt) → Plainly s → DoallsStoreAlone s
no_doall Skip only = tt
no_doall (Seq a b) only = (no_doall a only.0, no_doall b only.1)
no_doall (Assign line t value) only = tt
no_doall (If arms) only = no_doall arms only
no_doall (Arm line cond body other) only = (no_doall body only.0, no_doall other only.1)
no_doall (Do k first body again bump) only = no_doall body only
no_doall (Doall k n slots body) only = absurd only
no_doall (Call line n u others) only = tt
no_doall (Print line items) only = tt
no_doall (Read line targets) only = tt

pub serial_stores_alone : (p : Program) → IsSerial p → StoresAlone p
serial_stores_alone p serial u = no_doall (body_of p u) (serial u)

comes_apart : (p : Process) (s : Store) → ComesOnlyTo (Unit {0}) ⊥ (Unit {0}) p → StaysApart p s
comes_apart (Load path site w next) s h = comes_apart (next (s w)) s (h (s w))
comes_apart (Save path site w v next) s h = comes_apart next (put s w v) h
comes_apart (Say piece next) s h = comes_apart next s h.1
comes_apart (Tick next) s h = comes_apart next s h
comes_apart (Fork path number n from by body next) s h = absurd h
comes_apart Join s h = tt
comes_apart Halt s h = tt
comes_apart (Fail kind line) s h = tt

calls_allowed : (s : Stmt) → Plainly s → HasOnly (Unit {0}) ⊥ (Unit {0}) s
calls_allowed Skip only = tt
calls_allowed (Seq a b) only = (calls_allowed a only.0, calls_allowed b only.1)
calls_allowed (Assign line t value) only = tt
calls_allowed (If arms) only = calls_allowed arms only
calls_allowed (Arm line cond body other) only = (calls_allowed body only.0, calls_allowed other only.1)
calls_allowed (Do k first body again bump) only = calls_allowed body only
calls_allowed (Doall k n slots body) only = only
calls_allowed (Call line n u others) only = tt
calls_allowed (Print line items) only = tt
calls_allowed (Read line targets) only = tt

pub serial_has_no_doall : (p : Program) → IsSerial p → HasNoDoall p
serial_has_no_doall p serial u = calls_allowed (body_of p u) (serial u)

pub serial_apart : (p : Program) (records : Input) → IsSerial p → IsApart (process_of p records)
serial_apart p records serial s =
    comes_apart (process_of p records) s (program_fine p records (serial_has_no_doall p serial))

-- ---- references of statements that fit are to variables of the unit
module _ (os : List Object) (shapes : List (List Dim)) (v : Var) where
  -- in serial code, or in a DOALL with its slots
  abbrev Known : Type 0
  Known = (slots : ℕ) × IsVar os shapes slots v

  abbrev Of : Ref → Type 0
  Of at = at.var ≡ v

  known : (slots : ℕ) (w : Var) → IsVar os shapes slots w → w ≡ v → Known
  known slots w is e = (slots, subst (IsVar os shapes slots) e is)

  module _ (slots : ℕ) where
    mutual
      expr_known : (e : Expr) → ExprFits os shapes slots e → ExprMentions Of e → Known
      expr_known (Number n) f h = absurd h
      expr_known (Scalar at) f h = known slots at.var f.0 h
      expr_known (Element at Empty) f h = absurd f
      expr_known (Element at (More e es)) f (inl h) = known slots at.var f.0 h
      expr_known (Element at (More e es)) f (inr h) = subs_known (dims_at os shapes at.var) (More e es) f.1 h
      expr_known (Un op e) f h = expr_known e f h
      expr_known (Bin op e g) f (inl h) = expr_known e f.0 h
      expr_known (Bin op e g) f (inr h) = expr_known g f.1 h

      subs_known : (dims : List Dim) (es : Exprs) → SubsFit os shapes slots dims es → SubsMention Of es → Known
      subs_known dims Empty f h = absurd h
      subs_known [] (More e es) f h = absurd f
      subs_known (d ∷ ds) (More e es) f (inl h) = expr_known e f.0 h
      subs_known (d ∷ ds) (More e es) f (inr h) = subs_known ds es f.1 h

    spot_known : (at : Ref) (subs : Exprs) → SpotFits os shapes slots at.var subs → Of at ⊎ SubsMention Of subs → Known
    spot_known at Empty f (inl h) = known slots at.var f.0 h
    spot_known at Empty f (inr h) = absurd h
    spot_known at (More e es) f (inl h) = known slots at.var f.0 h
    spot_known at (More e es) f (inr h) = subs_known (dims_at os shapes at.var) (More e es) f.1 h

    control_known : (k : Control) → ControlFits os shapes slots k → ControlMentions Of k → Known
    control_known k f (inl h) = expr_known k.from f.0 h
    control_known k f (inr (inl h)) = expr_known k.to f.1 h
    control_known k f (inr (inr h)) = expr_known k.by f.2 h

    item_known : (texts : ℕ) (i : Item) → ItemFits os shapes slots texts i → ItemMentions Of i → Known
    item_known texts (Text number) f h = absurd h
    item_known texts (Value value) f h = expr_known value f h

  abbrev Passes : Actual → Type 0
  Passes = ActualMentions Of (λ w. w ≡ v)

  actual_known : (wanted : List Dim) (a : Actual) → ActualFits os shapes wanted a → Passes a → Known
  actual_known wanted (Whole w) f h = known 0 w f.0 h
  actual_known wanted (Copy at value) f (inl h) = known 0 at.var f.1.0 h
  actual_known wanted (Copy at value) f (inr h) = expr_known 0 value f.2 h

  actuals_known : (wanted : List (List Dim)) (actuals : List Actual) → ActualsFit os shapes wanted actuals → Any Passes actuals → Known
  actuals_known [] [] f h = absurd (any_none Passes h)
  actuals_known [] (a ∷ actuals) f h = absurd f
  actuals_known (one ∷ others) [] f h = absurd f
  actuals_known (one ∷ others) (a ∷ actuals) f h =
      elim (any_first Passes a actuals h) [ inl here ↦ actual_known one a f.0 here | inr later ↦ actuals_known others actuals f.1 later ]

module _ (p : Program) (ranks : ℕ → ℕ) (rank : ℕ) (shapes : List (List Dim)) (v : Var) where
  stmt_known : (slots : ℕ) (s : Stmt) → StmtFits p ranks rank shapes slots s → Uses v s → Known p.objects shapes v
  stmt_known slots Skip f h = absurd h
  stmt_known slots (Seq a b) f (inl h) = stmt_known slots a f.0 h
  stmt_known slots (Seq a b) f (inr h) = stmt_known slots b f.1 h
  stmt_known slots (Assign line t value) f (inl h) = spot_known p.objects shapes v slots t.at t.subs f.0 h
  stmt_known slots (Assign line t value) f (inr h) = expr_known p.objects shapes v slots value f.1 h
  stmt_known slots (If arms) f h = stmt_known slots arms f h
  stmt_known slots (Arm line cond body other) f (inl h) = expr_known p.objects shapes v slots cond f.0 h
  stmt_known slots (Arm line cond body other) f (inr (inl h)) = stmt_known slots body f.1 h
  stmt_known slots (Arm line cond body other) f (inr (inr h)) = stmt_known slots other f.2 h
  stmt_known slots (Do k first body again bump) f (inl h) = control_known p.objects shapes v slots k f.0 h
  stmt_known slots (Do k first body again bump) f (inr (inl h)) = known p.objects shapes v slots first.var f.1.0 h
  stmt_known slots (Do k first body again bump) f (inr (inr (inl h))) = stmt_known slots body f.4 h
  stmt_known slots (Do k first body again bump) f (inr (inr (inr (inl h)))) = known p.objects shapes v slots first.var f.1.0 (sym f.2 ∙ h)
  stmt_known slots (Do k first body again bump) f (inr (inr (inr (inr h)))) = known p.objects shapes v slots first.var f.1.0 (sym f.3 ∙ h)
  stmt_known slots (Doall k n own body) f (inl h) = control_known p.objects shapes v 0 k f.1 h
  stmt_known slots (Doall k n own body) f (inr h) = stmt_known own body f.4 h
  stmt_known slots (Call line n u actuals) f h = actuals_known p.objects shapes v (shapes_in (slice_get p.units u)) actuals f.3 h
  stmt_known slots (Print line items) f h =
      some_of (ItemFits p.objects shapes slots (length p.texts)) (ItemMentions (λ at. at.var ≡ v)) (item_known p.objects shapes v slots (length p.texts)) items f h
  stmt_known slots (Read line targets) f h =
      some_of (TargetFits p.objects shapes slots) (TargetMentions (λ at. at.var ≡ v)) (λ t. spot_known p.objects shapes v slots t.at t.subs) targets f h

-- in a unit without dummies two variables stand for two objects
two_variables : (os : List Object) (b : Binding) (v w : Var) (k : ℕ) → Known os [] v → Known os [] w → Denotes b v k → Denotes b w k → v ≡ w
two_variables os b (var.Object i) (var.Object j) k is also e f = ap var.Object (e ∙ sym f)
two_variables os b (var.Object i) (var.Dummy j) k is also e f = absurd (omega (arith, also.1))
two_variables os b (var.Object i) (var.Slot j) k is also e f = absurd f
two_variables os b (var.Dummy i) w k is also e f = absurd (omega (arith, is.1))
two_variables os b (var.Slot i) w k is also e f = absurd e

pub uncalled_unaliased : (p : Program) → IsResolved p → HasNoCall p → IsUnaliased p
uncalled_unaliased p is only [] u bound v w k under uses also ne stores d e =
    let fits = subst (λ shapes. StmtFits p is.ranks (is.ranks p.main) shapes 0 (body_of p p.main)) is.main_alone (is.fits p.main is.main) in
    let of_main = λ (x : Var) (h : Uses x (body_of p u)). stmt_known p is.ranks (is.ranks p.main) [] x 0 (body_of p p.main) fits (subst (λ n. Uses x (body_of p n)) under.0 h) in
    ne (two_variables p.objects (binding_of p [] u bound) v w k (of_main v uses) (of_main w also) d e)
uncalled_unaliased p is only (number ∷ path) u bound v w k (caller, outer, actuals, under, has, passed) uses also ne stores d e =
    no_call number u actuals (body_of p caller) (uncalled p is only caller) has
