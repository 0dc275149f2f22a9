-- From parts of a statement to the statement.
use Rattle.std.proofs.Common.{◌≡◌, ℕ, ◌+◌, ℤ, List, [], ◌∷◌, length, Ok, Err, refl, sym, subst, arith}
use Rattle.cdc_prog.specs.declared.expr.Ref.{Ref}
use Rattle.cdc_prog.specs.declared.expr.Expr.{Expr}
use Rattle.cdc_prog.specs.declared.expr.BinOp.TheVariants.{Add}
use Rattle.cdc_prog.specs.declared.expr.Target.{Target}
use Rattle.cdc_prog.specs.Value.{binary}
use Rattle.cdc_prog.specs.Data.{Store, Binding, base_of, dims_of}
use Rattle.cdc_prog.specs.Input.{Input}
use Rattle.cdc_prog.specs.Process.{Process, or_fail}
use Rattle.cdc_prog.specs.Expressions as process
use Rattle.cdc_prog.specs.Expressions.{Surroundings, InWord, scalar, scalar_of, fetch, keep}
use Rattle.cdc_prog.specs.Statements.{raise}
use Rattle.cdc_prog.specs.Resolved.{TargetFits}
use Rattle.cdc_prog.specs.Translation.{expr_of, exprs_of, target_of}
use Rattle.cdc_prog.specs.declared.fault.Fault.{Fault}
use Rattle.cdc_meaning.specs.declared.frame.Frame.{Frame}
use Rattle.cdc_meaning.specs.declared.cell.Cell.{Cell}
use Rattle.cdc_meaning.specs.declared.cell.Cell.TheVariants.{Word}
use Rattle.cdc_meaning.specs.Frames.{shapes_of, IsElement}
use Rattle.cdc_meaning.specs.Cells.{reached}
use Rattle.cdc_prog.specs.Held.{Same, around}
use Rattle.cdc_meaning.specs.Evaluates.{Numbers, Locates}
use Rattle.cdc_meaning.proofs.InMemory.{elements_known}
use Rattle.cdc_prog.proofs.Same.{same_after}

pub target_needs : (f : Frame) (slots : ℕ) (t : Target) (l : List Expr) → l ≡ t.subs → (length l ≡ 0 → ⊥) → TargetFits f.program.now.objects (shapes_of f) slots (target_of t) → IsElement f slots t.at.var (exprs_of l)
target_needs f slots t l same some h = go l some (subst (λ (k : List Expr). TargetFits f.program.now.objects (shapes_of f) slots (record { at = t.at; subs = exprs_of k })) (sym same) h)
  where
    go : (l : List Expr) → (length l ≡ 0 → ⊥) → TargetFits f.program.now.objects (shapes_of f) slots (record { at = t.at; subs = exprs_of l }) → IsElement f slots t.at.var (exprs_of l)
    go [] some h = absurd (some refl)
    go (e ∷ es) some h = record { known = elements_known f slots t.at.var (expr_of e) (exprs_of es) h; fits = h.1 }

module _ (b : Binding) (line : ℕ) (slots : List ℤ) (s : Store) where
  pub target_fault : (t : Target) (l : List Expr) (f : Fault) → l ≡ t.subs → (length l ≡ 0 → ⊥) → Numbers b line (dims_of b t.at.var) (exprs_of l) slots s (Err f) → Locates b line (target_of t) slots s (Err f)
  target_fault t l f same some h = subst (λ (k : List Expr). Locates b line (record { at = t.at; subs = exprs_of k }) slots s (Err f)) same (go l some h)
    where
      go : (l : List Expr) → (length l ≡ 0 → ⊥) → Numbers b line (dims_of b t.at.var) (exprs_of l) slots s (Err f) → Locates b line (record { at = t.at; subs = exprs_of l }) slots s (Err f)
      go [] some h = absurd (some refl)
      go (e ∷ es) some h = λ left rest. h left (λ n. rest (InWord b.path t.at.site (base_of b t.at.var + n)))

  pub target_word : (t : Target) (l : List Expr) (n w : ℕ) → l ≡ t.subs → (length l ≡ 0 → ⊥) → Numbers b line (dims_of b t.at.var) (exprs_of l) slots s (Ok n) → w ≡ base_of b t.at.var + n → Locates b line (target_of t) slots s (Ok (Word w))
  target_word t l n w same some h word =
      subst (λ (k : List Expr). Locates b line (record { at = t.at; subs = exprs_of k }) slots s (Ok (Word w))) same
      (subst (λ (v : ℕ). Locates b line (record { at = t.at; subs = exprs_of l }) slots s (Ok (Word v))) (sym word) (go l some h))
    where
      go : (l : List Expr) → (length l ≡ 0 → ⊥) → Numbers b line (dims_of b t.at.var) (exprs_of l) slots s (Ok n) → Locates b line (record { at = t.at; subs = exprs_of l }) slots s (Ok (Word (base_of b t.at.var + n)))
      go [] some h = absurd (some refl)
      go (e ∷ es) some h = λ left rest. h left (λ m. rest (InWord b.path t.at.site (base_of b t.at.var + m)))

  pub target_scalar : (t : Target) (l : List Expr) (cell : Cell) → l ≡ t.subs → length l ≡ 0 → ((site : ℕ) → reached b.path site cell ≡ scalar_of b site t.at.var) → Locates b line (target_of t) slots s (Ok cell)
  target_scalar t l cell same none is = subst (λ (k : List Expr). Locates b line (record { at = t.at; subs = exprs_of k }) slots s (Ok cell)) same (go l none)
    where
      go : (l : List Expr) → length l ≡ 0 → Locates b line (record { at = t.at; subs = exprs_of l }) slots s (Ok cell)
      go [] none = λ left rest. subst (λ (c : process.Cell). Same (rest c) s (rest (reached b.path t.at.site cell)) s) (is t.at.site) (record { output = refl; ends = refl })
      go (e ∷ es) none = absurd (omega (arith, none))

pub raised : (b : Binding) (line : ℕ) (again bump : Ref) (by x y : ℤ) (slots after : List ℤ) (s t : Store) (left : Input) (rest : Surroundings → Process) (p q : Cell) →
    reached b.path again.site p ≡ scalar b again → ((k : ℤ → Process) → Same (fetch (reached b.path again.site p) (around slots left) k) s (k x) s) → binary Add x by ≡ Ok y →
    reached b.path bump.site q ≡ scalar b bump → Same (keep (reached b.path bump.site q) y (around slots left) rest) s (rest (around after left)) t → Same (raise b line again bump by (around slots left) rest) s (rest (around after left)) t
raised b line again bump by x y slots after s t left rest p q from fetched sum to kept =
    let c = around slots left in
    let store = λ (v : ℤ). keep (scalar b bump) v c rest in
    let k = λ (v : ℤ). or_fail line (binary Add v by) store in
    same_after (subst (λ cell. Same (fetch cell c k) s (k x) s) from (fetched k))
    (subst (λ g. Same (or_fail line g store) s (rest (around after left)) t) (sym sum) (subst (λ cell. Same (keep cell y c rest) s (rest (around after left)) t) to kept))
