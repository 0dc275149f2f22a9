-- The walk gives the form.
use Rattle.std.proofs.Common.{◌≡◌, ℤ, Option, Some, None, refl, sym, ap, ◌∙◌}
use Rattle.cdc_prog.specs.declared.affine.Scope.{Scope}
use Rattle.cdc_prog.specs.declared.affine.Affine.{Affine}
use Rattle.cdc_prog.specs.Plain.{Expr, Number, Scalar, Element, Un, Bin}
use Rattle.cdc_prog.specs.Affine.{with_some, constant, or_form, form_un, form_bin, form}
use Rattle.cdc_affine.specs.declared.forms.Part.{Part}
use Rattle.cdc_affine.specs.Parts.{part_with, part_un, part_bin, part}

chained : {A B C : Type 0} (o : Option A) (f : A → Option B) (g : B → Option C) → with_some (with_some o f) g ≡ with_some o (λ a. with_some (f a) g)
chained None f g = refl
chained (Some a) f g = refl

-- the walk gives the value of a tree that has a form
pub part_is : (sc : Scope) (e : Expr) → part sc e ≡ part_with (constant e) (form sc e)
part_is sc (Number n) = refl
part_is sc (Scalar at) = refl
part_is sc (Element at subs) = refl
part_is sc (Un op a) =
    ap (λ o. with_some o (part_un op)) (part_is sc a)
    ∙ chained (form sc a) (λ f. Some (record { constant = constant a; form = f })) (part_un op)
    ∙ sym (chained (form sc a) (λ f. or_form (constant (Un op a)) (form_un op f)) (λ f. Some (record { constant = constant (Un op a); form = f })))
part_is sc (Bin op a b) =
    ap (λ o. with_some o (λ p. with_some (part sc b) (part_bin op p))) (part_is sc a)
    ∙ ap (λ o. with_some (part_with (constant a) (form sc a)) (λ p. with_some o (part_bin op p))) (part_is sc b)
    ∙ go (form sc a) (form sc b)
  where
    go : (o p : Option Affine) → with_some (part_with (constant a) o) (λ p'. with_some (part_with (constant b) p) (part_bin op p')) ≡ part_with (constant (Bin op a b)) (with_some o (λ f. with_some p (λ g. or_form (constant (Bin op a b)) (form_bin op f g))))
    go None p = refl
    go (Some f) None = refl
    go (Some f) (Some g) = refl

abbrev pub form_in : Option Part → Option Affine
form_in None = None
form_in (Some p) = Some p.form

form_in_with : (c : Option ℤ) (o : Option Affine) → form_in (part_with c o) ≡ o
form_in_with c None = refl
form_in_with c (Some f) = refl

pub part_form : (sc : Scope) (e : Expr) → form_in (part sc e) ≡ form sc e
part_form sc e = ap form_in (part_is sc e) ∙ form_in_with (constant e) (form sc e)
