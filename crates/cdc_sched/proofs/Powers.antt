-- The powers of two up to 1,024.
use Rattle.std.proofs.Common.{◌≡◌, ◌⊎◌, ℕ, zero, suc, ◌^◌, ◌≤◌, ◌==◌, ◌&&◌, ◌||◌, nat_le, Bool, true, false, List, [], ◌∷◌, refl, sym, ◌∙◌, ap, subst, inl, inr, ⊎_elim, arith, lit<, lit≤}
use Rattle.std.specs.Int.{IsPowerOfTwo}
use Rattle.std.specs.List.{list_any}
use Rattle.std.proofs.Math.Nat.{pow-le-pow_right}
use Rattle.std.proofs.lemmas.Bool.{eqb-true, leb-true, le-leb, false≢true}
use Rattle.cdc_sched.specs.Fits.{exponents, is_small_power, is_geometry}
use Rattle.cdc_sched.specs.Headers.{cache_words}
use Rattle.cdc_sched.specs.Limits.{IsGeometry}
use Rattle.cdc_sched.specs.declared.header.Geometry.{Geometry}
use Rattle.cdc_sched.specs.declared.header_line.CacheWords.{CacheWords}

either : (a b : Bool) → (a || b) ≡ true → (a ≡ true) ⊎ (b ≡ true)
either true b e = inl refl
either false b e = inr e

power_among : (n : ℕ) (ks : List ℕ) → list_any (λ k. n == 2 ^ k) ks ≡ true → IsPowerOfTwo n
power_among n [] e = absurd (cc)
power_among n (k ∷ ks) e = ⊎_elim (λ (here : (n == 2 ^ k) ≡ true). (k, eqb-true n (2 ^ k) here)) (power_among n ks) (either (n == 2 ^ k) (list_any (λ j. n == 2 ^ j) ks) e)

pub power_of : (n : ℕ) → is_small_power n ≡ true → IsPowerOfTwo n
power_of n = power_among n exponents

pub small_power : (k : ℕ) → 2 ^ k ≤ 1024 → is_small_power (2 ^ k) ≡ true
small_power zero le = refl
small_power (suc zero) le = refl
small_power (suc (suc zero)) le = refl
small_power (suc (suc (suc zero))) le = refl
small_power (suc (suc (suc (suc zero)))) le = refl
small_power (suc (suc (suc (suc (suc zero))))) le = refl
small_power (suc (suc (suc (suc (suc (suc zero)))))) le = refl
small_power (suc (suc (suc (suc (suc (suc (suc zero))))))) le = refl
small_power (suc (suc (suc (suc (suc (suc (suc (suc zero)))))))) le = refl
small_power (suc (suc (suc (suc (suc (suc (suc (suc (suc zero))))))))) le = refl
small_power (suc (suc (suc (suc (suc (suc (suc (suc (suc (suc zero)))))))))) le = refl
small_power (suc (suc (suc (suc (suc (suc (suc (suc (suc (suc (suc k))))))))))) le =
    let big : 2 ^ 11 ≤ 2 ^ (suc (suc (suc (suc (suc (suc (suc (suc (suc (suc (suc k))))))))))) = pow-le-pow_right (lit< tt) {i = 11} {j = (suc (suc (suc (suc (suc (suc (suc (suc (suc (suc (suc k)))))))))))} (omega arith) in
    absurd (omega (arith, le, big))

both : (a b : Bool) → (a && b) ≡ true → (a ≡ true) × (b ≡ true)
both true true e = (refl, refl)
both true false e = (refl, e)
both false b e = (e, absurd (cc))

-- the numbers of a cache within their limits
pub record Shaped (c : CacheWords) : Type 0 where
  pub words : is_small_power c.words ≡ true
  pub words_most : c.words ≤ 16
  pub sets : is_small_power c.sets ≡ true
  pub ways : 1 ≤ c.ways
  pub ways_most : c.ways ≤ 8

pub shaped : (c : CacheWords) → is_geometry c ≡ true → Shaped c
shaped c e =
    let p = both (is_small_power c.words && nat_le c.words 16 && is_small_power c.sets && nat_le 1 c.ways) (nat_le c.ways 8) e in
    let q = both (is_small_power c.words && nat_le c.words 16 && is_small_power c.sets) (nat_le 1 c.ways) p.0 in
    let r = both (is_small_power c.words && nat_le c.words 16) (is_small_power c.sets) q.0 in
    let s = both (is_small_power c.words) (nat_le c.words 16) r.0 in
    record { words = s.0; words_most = leb-true c.words 16 s.1; sets = r.1; ways = leb-true 1 c.ways q.1; ways_most = leb-true c.ways 8 p.1 }

abbrev AreLow : List ℕ → Type 0
AreLow [] = Unit {0}
AreLow (k ∷ ks) = (k ≤ 10) × AreLow ks

most_among : (n : ℕ) (ks : List ℕ) → AreLow ks → list_any (λ k. n == 2 ^ k) ks ≡ true → n ≤ 1024
most_among n [] most e = absurd (cc)
most_among n (k ∷ ks) most e = ⊎_elim
    (λ (here : (n == 2 ^ k) ≡ true).
    let up : 2 ^ k ≤ 2 ^ 10 = pow-le-pow_right (lit< tt) most.0 in
    omega (arith, up, eqb-true n (2 ^ k) here))
    (most_among n ks most.1)
    (either (n == 2 ^ k) (list_any (λ j. n == 2 ^ j) ks) e)

pub small_power_most : (n : ℕ) → is_small_power n ≡ true → n ≤ 1024
small_power_most n = most_among n exponents (lit≤ tt, (lit≤ tt, (lit≤ tt, (lit≤ tt, (lit≤ tt, (lit≤ tt, (lit≤ tt, (lit≤ tt, (lit≤ tt, (lit≤ tt, (lit≤ tt, tt)))))))))))

pub geometry_is : (c : CacheWords) → is_geometry c ≡ true → IsGeometry (record { words = c.words; sets = c.sets; ways = c.ways })
geometry_is c e =
    let s = shaped c e in
    record { words = power_of c.words s.words; words_most = s.words_most; sets = power_of c.sets s.sets; sets_most = small_power_most c.sets s.sets; ways = s.ways; ways_most = s.ways_most }

power_fits : (n : ℕ) → IsPowerOfTwo n → n ≤ 1024 → is_small_power n ≡ true
power_fits n (k, e) most = subst (λ m. is_small_power m ≡ true) (sym e) (small_power k (subst (λ m. m ≤ 1024) e most))

pub geometry_fits : (g : Geometry) → IsGeometry g → is_geometry (cache_words g) ≡ true
geometry_fits g is =
    let words = power_fits g.words is.words (omega (arith, is.words_most)) in
    let sets = power_fits g.sets is.sets is.sets_most in
    rw (words, le-leb g.words 16 is.words_most, sets, le-leb 1 g.ways is.ways, le-leb g.ways 8 is.ways_most) refl

pub no_geometry : (c : CacheWords) → is_geometry c ≡ false → (g : Geometry) → IsGeometry g → cache_words g ≡ c → ⊥
no_geometry c off g is e = false≢true (sym off ∙ ap is_geometry (sym e) ∙ geometry_fits g is)
