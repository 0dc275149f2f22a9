-- Products and sums of which no more than one over the limit is counted.
use Rattle.std.proofs.Common.{◌≡◌, ℕ, zero, suc, ◌*◌, ◌<◌, ◌≤◌, Bool, true, false, refl, ap, sym, ◌∙◌, arith}
use Rattle.std.specs.Prelude.{if◌then◌else◌, nat_lt}
use Rattle.cdc_check.specs.Objects.{capped}

pub capped_over : (n : ℕ) → 4194305 ≤ n → capped n ≡ 4194305
capped_over n h = grind arith

pub capped_below : (n : ℕ) → n ≤ 4194305 → capped n ≡ n
capped_below n h = grind arith

pub capped_bound : (n : ℕ) → capped n ≤ 4194305
capped_bound n = grind arith

pub capped_times : (a b : ℕ) → capped (capped a * b) ≡ capped (a * b)
capped_times a zero =
    let none : capped a * 0 ≡ a * 0 = omega arith in
    ap capped none
capped_times a (suc b) = split (nat_lt 4194305 a) refl
  where
    split : (x : Bool) → nat_lt 4194305 a ≡ x → capped ((if x then 4194305 else a) * suc b) ≡ capped (a * suc b)
    split false h = refl
    split true h =
        let over : 4194305 < a = grind arith in
        let left : 4194305 ≤ 4194305 * suc b = omega arith in
        let right : 4194305 ≤ a * suc b = omega arith in
        capped_over (4194305 * suc b) left ∙ sym (capped_over (a * suc b) right)
