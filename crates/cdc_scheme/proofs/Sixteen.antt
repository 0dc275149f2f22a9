-- Numbers of 16 bits, and of a part of them.
use Rattle.std.proofs.Common.{◌≡◌, ℕ, ◌+◌, ◌-◌, ◌*◌, ◌/◌, ◌^◌, ◌<◌, ◌≤◌, sym, ◌∙◌, ap, arith}
use Rattle.std.proofs.lemmas.Nat.{pow_pos, pow-add, shr_high}

pub product_16 : (width : ℕ) → width ≤ 16 → 2 ^ width * 2 ^ (16 - width) ≡ 65536
product_16 width narrow =
    let whole : width + (16 - width) ≡ 16 = omega (arith, narrow) in
    sym (pow-add 2 width (16 - width)) ∙ ap (λ w. 2 ^ w) whole

ones : (m k : ℕ) → 0 < m → 0 < k → m * k ≡ 65536 → 65535 ≡ (m - 1) * k + (k - 1)
ones m k some_m some_k product =
    let whole : m ≡ m - 1 + 1 = omega (arith, some_m) in
    let parts : m * k ≡ (m - 1 + 1) * k = ap (λ n. n * k) whole in
    omega (arith, product, parts, some_k)

-- as many ones as the width says
pub ones_of : (width : ℕ) → width ≤ 16 → 65535 / 2 ^ (16 - width) + 1 ≡ 2 ^ width
ones_of width narrow =
    let k = 2 ^ (16 - width) in
    let below : k - 1 < k = omega (arith, pow_pos (16 - width)) in
    let quotient : 65535 / k ≡ 2 ^ width - 1 =
    ap (λ n. n / k) (ones (2 ^ width) k (pow_pos width) (pow_pos (16 - width)) (product_16 width narrow))
    ∙ shr_high (2 ^ width - 1) (16 - width) (k - 1) below in
    omega (arith, quotient, pow_pos width)
