-- The store into an element.
use Rattle.std.proofs.Common.{◌≡◌, ◌≤◌, List, [], ◌∷◌, length, refl, arith}
use Rattle.cdc_prog.specs.declared.expr.Ref.{Ref}
use Rattle.cdc_prog.specs.declared.expr.Expr.{Expr}
use Rattle.cdc_prog.specs.Translation.{exprs_of}
use Rattle.cdc_path.specs.declared.point.Point.TheVariants.{Write}
use Rattle.cdc_path.specs.Courses.{at, store_course}

pub stores_element : (r : Ref) (subs : List Expr) → 1 ≤ length subs → at [] (Write r.site) ≡ store_course [] r (exprs_of subs)
stores_element r [] h = absurd (omega (arith, h))
stores_element r (e ∷ es) h = refl
