-- Masks and 16 bits as remainders.
use Rattle.std.proofs.Common.{◌≡◌, ℕ, ◌+◌, ◌-◌, ◌*◌, ◌/◌, ◌%◌, ◌^◌, ◌<◌, ◌≤◌, sym, ◌∙◌, ap, subst, arith}
use Rattle.std.specs.Int.Bits.{bit_and}
use Rattle.std.proofs.Math.Nat.{mod-lt, mod-eq_of_lt, div-add-mod, mul-add-mod_self_left, mul_comm}
use Rattle.std.proofs.Math.Pow.{mod-mod-pow}
use Rattle.std.proofs.lemmas.Nat.{div_below, and_mask, pow_pos}
use Rattle.cdc_scheme.proofs.Sixteen.{product_16}
use Rattle.cdc_phase.specs.Phases.{pow_double}

pub masked : (n mask width : ℕ) → mask + 1 ≡ 2 ^ width → bit_and n mask ≡ n % 2 ^ width
masked n mask width is =
    let mask_is : mask ≡ 2 ^ width - 1 = omega (arith, is) in
    ap (bit_and n) mask_is ∙ and_mask n width

pub masked_low : (n mask width : ℕ) → 2 ≤ width → mask + 1 ≡ 2 ^ width → bit_and n (mask / 2) ≡ n % 2 ^ (width - 1)
masked_low n mask width wide is =
    let mask_is : mask / 2 ≡ 2 ^ (width - 1) - 1 = omega (arith, is, pow_double width wide, pow_pos (width - 1)) in
    ap (bit_and n) mask_is ∙ and_mask n (width - 1)

-- 16 bits are enough
pub in_16 : (n width : ℕ) → width ≤ 16 → n % 65536 % 2 ^ width ≡ n % 2 ^ width
in_16 n width narrow =
    let whole : 16 - width + width ≡ 16 = omega (arith, narrow) in
    ap (λ w. n % 2 ^ w % 2 ^ width) (sym whole) ∙ mod-mod-pow n (16 - width) width

-- a difference modulo a multiple of m is one modulo m
less : (m q count tag : ℕ) → 0 < m → tag < m * q → (count + (m * q - tag)) % m ≡ (count + (m - tag % m)) % m
less m q count tag pos below =
    let t = tag / m in
    let r = tag % m in
    let is : m * t + r ≡ tag = div-add-mod tag m in
    let r_below : r < m = mod-lt tag pos in
    let t_below : t < q = div_below tag m q pos (subst (λ n. tag < n) (mul_comm m q) below) in
    let d = q - 1 - t in
    let whole : q ≡ t + 1 + d = omega (arith, t_below) in
    let product : m * q ≡ m * (t + 1 + d) = ap (λ k. m * k) whole in
    let sum : count + (m * q - tag) ≡ m * d + (count + (m - r)) = omega (arith, is, r_below, product) in
    ap (λ k. k % m) sum ∙ mul-add-mod_self_left m d (count + (m - r))

pub less_in_16 : (count tag width : ℕ) → width ≤ 16 → tag < 65536 → (count + (65536 - tag)) % 65536 % 2 ^ width ≡ (count + (2 ^ width - tag % 2 ^ width)) % 2 ^ width
less_in_16 count tag width narrow below =
    let product = product_16 width narrow in
    in_16 (count + (65536 - tag)) width narrow
    ∙ ap (λ n. (count + (n - tag)) % 2 ^ width) (sym product)
    ∙ less (2 ^ width) (2 ^ (16 - width)) count tag (pow_pos width) (subst (λ n. tag < n) (sym product) below)

pub one_less_in_16 : (count width : ℕ) → 2 ≤ width → width ≤ 16 → (count + 65535) % 65536 % 2 ^ width ≡ (count + (2 ^ width - 1)) % 2 ^ width
one_less_in_16 count width wide narrow =
    let more : 1 < 2 ^ width = omega (arith, pow_double width wide, pow_pos (width - 1)) in
    less_in_16 count 1 width narrow (omega arith) ∙ ap (λ r. (count + (2 ^ width - r)) % 2 ^ width) (mod-eq_of_lt more)
