use Rattle.std.proofs.Common.{◌≡◌, ℕ, arith}
use Rattle.std.specs.Prelude.{if◌then◌else◌, ◌==◌}
use Rattle.std.proofs.lemmas.Bool.Decides.{nat_tests}

pub if_yes : {A : Type 0} (x y : ℕ) (a b : A) → x ≡ y → (if x == y then a else b) ≡ a
if_yes x y a b is = grind (arith, nat_tests)

pub if_no : {A : Type 0} (x y : ℕ) (a b : A) → (x ≡ y → ⊥) → (if x == y then a else b) ≡ b
if_no x y a b other = grind (arith, nat_tests)
