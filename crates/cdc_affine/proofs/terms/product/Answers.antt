use Rattle.std.proofs.Common.{◌≡◌, ◌^◌, ◌*ℤ◌, ap, ap₂, ◌∙◌, FitsSigned, to_z, of_z, arith, lit<}
use mir.Syntax.{w64}
use Rattle.std.proofs.lemmas.Int.{to_z-of_z, fits_signed_mul}
use Rattle.cdc_affine.proofs.Merging.{small_of}
use Rattle.cdc_affine.proofs.terms.product.Goals as goal

pub returns : goal.returns
returns c =
    let a = to_z-of_z w64 c.args.a c.ranges.a in
    let b = to_z-of_z w64 c.args.b c.ranges.b in
    let same : to_z w64 (of_z w64 c.args.a) *ℤ to_z w64 (of_z w64 c.args.b) ≡ c.args.a *ℤ c.args.b = ap₂ ◌*ℤ◌ a b in
    let fits : FitsSigned w64 (c.args.a *ℤ c.args.b) =
    fits_signed_mul w64 c.args.a c.args.b (2 ^ 31) (2 ^ 31) (omega (arith, small_of c.args.a c.requires.left)) (omega (arith, small_of c.args.b c.requires.right)) (lit< tt) in
    ap (λ z. to_z w64 (of_z w64 z)) same ∙ to_z-of_z w64 (c.args.a *ℤ c.args.b) fits
