-- The rules hold in any order.
use Rattle.std.proofs.Common.{◌≡◌, Bool, true, false, refl}
use Rattle.std.specs.Prelude.{◌||◌}

pub by_cost : (constant divisor range stride : Bool) → (constant || (stride || (range || divisor))) ≡ (constant || divisor || range || stride)
by_cost true divisor range stride = refl
by_cost false true true true = refl
by_cost false true true false = refl
by_cost false true false true = refl
by_cost false true false false = refl
by_cost false false true true = refl
by_cost false false true false = refl
by_cost false false false true = refl
by_cost false false false false = refl
