-- From parts of an expression to the expression.
use Rattle.std.proofs.Common.{◌≡◌, ℕ, ◌+◌, ℤ, List, Ok, Err, sym, ap, ◌∙◌, subst}
use Rattle.cdc_prog.specs.declared.expr.Ref.{Ref}
use Rattle.cdc_prog.specs.declared.expr.Expr.{Expr, Element}
use Rattle.cdc_prog.specs.Plain as plain
use Rattle.cdc_prog.specs.Data.{Store, Binding, base_of, dims_of}
use Rattle.cdc_prog.specs.Process.{Load}
use Rattle.cdc_prog.specs.InOrder.{output, ends}
use Rattle.cdc_prog.specs.Resolved.{ExprFits}
use Rattle.cdc_prog.specs.Translation.{expr_of, exprs_of}
use Rattle.cdc_prog.proofs.Translated.{at_element}
use Rattle.cdc_prog.specs.declared.fault.Fault.{Fault}
use Rattle.cdc_meaning.specs.declared.frame.Frame.{Frame}
use Rattle.cdc_meaning.specs.Frames.{shapes_of, IsElement}
use Rattle.cdc_meaning.specs.Evaluates.{Values, Numbers}
use Rattle.cdc_meaning.proofs.InMemory.{element_fits}

is_element : (e : Expr) (at : Ref) (subs l : List Expr) → e ≡ Element at subs → l ≡ subs → expr_of e ≡ plain.Element at (exprs_of l)
is_element e at subs l is same = ap expr_of is ∙ at_element at subs ∙ ap (λ k. plain.Element at (exprs_of k)) (sym same)

pub element_needs : (f : Frame) (slots : ℕ) (e : Expr) (at : Ref) (subs l : List Expr) → e ≡ Element at subs → l ≡ subs → ExprFits f.program.now.objects (shapes_of f) slots (expr_of e) → IsElement f slots at.var (exprs_of l)
element_needs f slots e at subs l is same h =
    element_fits f slots at (exprs_of l) (subst (ExprFits f.program.now.objects (shapes_of f) slots) (is_element e at subs l is same) h)

module _ (b : Binding) (line : ℕ) (slots : List ℤ) (s : Store) where
  pub element_fault : (at : Ref) (l : List Expr) (f : Fault) → Numbers b line (dims_of b at.var) (exprs_of l) slots s (Err f) → Values b line (plain.Element at (exprs_of l)) slots s (Err f)
  element_fault at l f h = λ left rest. let k = h left (λ n. Load b.path at.site (base_of b at.var + n) rest) in record { output = k.output; ends = k.ends }

  pub element_value : (at : Ref) (l : List Expr) (n w : ℕ) (v : ℤ) → Numbers b line (dims_of b at.var) (exprs_of l) slots s (Ok n) → w ≡ base_of b at.var + n → v ≡ s w → Values b line (plain.Element at (exprs_of l)) slots s (Ok v)
  element_value at l n w v h word value = λ left rest.
      let k = h left (λ m. Load b.path at.site (base_of b at.var + m) rest) in
      let found : s (base_of b at.var + n) ≡ v = sym (value ∙ ap s word) in
      record { output = k.output ∙ ap (λ x. output (rest x) s) found; ends = k.ends ∙ ap (λ x. ends (rest x) s) found }
