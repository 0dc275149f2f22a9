-- A form with the value of its tree, as one walk over the tree gives both.
use Rattle.std.specs.Prelude.{ℤ, Option, Some, None}
use Rattle.cdc_prog.specs.declared.expr.UnOp.{UnOp}
use Rattle.cdc_prog.specs.declared.expr.BinOp.{BinOp}
use Rattle.cdc_prog.specs.declared.affine.Scope.{Scope}
use Rattle.cdc_prog.specs.declared.affine.Affine.{Affine}
use Rattle.cdc_prog.specs.Plain.{Expr, Number, Scalar, Element, Un, Bin}
use Rattle.cdc_prog.specs.Value.{unary, binary}
use Rattle.cdc_prog.specs.Affine.{with_some, got, alone, or_form, form_un, form_bin}
use Rattle.cdc_affine.specs.declared.forms.Part.{Part}

abbrev pub part_with : (constant : Option ℤ) → Option Affine → Option Part
part_with c o = with_some o (λ f. Some (record { constant = c; form = f }))

abbrev pub or_other : Option ℤ → Option Affine → Option Part
or_other c f = part_with c (or_form c f)

abbrev pub part_un : UnOp → Part → Option Part
part_un op p = or_other (with_some p.constant (λ x. got (unary op x))) (form_un op p.form)

abbrev pub part_bin : BinOp → Part → Part → Option Part
part_bin op p q = or_other (with_some p.constant (λ x. with_some q.constant (λ y. got (binary op x y)))) (form_bin op p.form q.form)

abbrev pub part : Scope → Expr → Option Part
part sc (Number n) = or_other (Some n) None
part sc (Scalar at) = part_with None (alone sc at.var)
part sc (Element at subs) = None
part sc (Un op a) = with_some (part sc a) (part_un op)
part sc (Bin op a b) = with_some (part sc a) (λ p. with_some (part sc b) (part_bin op p))
