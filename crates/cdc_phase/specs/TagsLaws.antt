-- The wrapped age is the true age, and a boundary keeps it so.
use Rattle.std.proofs.Common.{◌≡◌, ◌≢◌, ◌⊎◌, ℕ, ◌+◌, ◌-◌, ◌*◌, ◌/◌, ◌%◌, ◌<◌, ◌≤◌, max, refl, sym, ◌∙◌, ap, subst, arith, inl, inr, ⊎_elim}
use Rattle.std.specs.Prelude.{IsTrue, Option, Some, None, Bool, true, false, ◌&&◌, ◌==◌, if◌then◌else◌}
use Rattle.std.proofs.Math.Nat.{mod-lt, mod-eq_of_lt, mod-add-mod, mod_self, mod-mod, add-mod_right, mod-eq-sub-mod, div-add-mod, mul-add-div, mul-add-mod_self_left, mul-mod_right, div-eq_of_lt-le, div-eq_of_eq-mul_right}
use Rattle.std.proofs.lemmas.Bool.{cases_lt, cases_eq}
use Rattle.std.proofs.lemmas.Bool.Decides.{nat_tests}
use Rattle.cdc_prog.specs.declared.program.Mark.TheVariants.{Time}
use Rattle.cdc_scheme.specs.TrueTime.{WasDated}
use Rattle.cdc_phase.specs.Tags.{next_count, count_before, neighbour_tag, wrapped_age, tpi_admits, kept_tag, top_bit, IsTagged, AgesAreTrue}

-- a boundary that keeps a tag keeps what it says
abbrev pub KeepsTags : ℕ → ℕ → Type 0
KeepsTags half all = (e tag made kept : ℕ) → IsTagged half all e tag made → kept_tag half all (e % all) tag ≡ Some kept → IsTagged half all (e + 1) kept made

-- what is read from memory or written, and what comes in beside it, has the tag of its true time
abbrev pub StampsPresent : ℕ → ℕ → Type 0
StampsPresent half all = (e count : ℕ) → count ≡ e % all → IsTagged half all e count (e + 1)

abbrev pub StampsBeside : ℕ → ℕ → Type 0
StampsBeside half all = (e count before : ℕ) (old : Option ℕ) → count ≡ e % all → WasDated (IsTagged half all e) old before → IsTagged half all e (neighbour_tag all count old) (max e before)

-- a number below the modulus survives wrapping
wrap : (m x a : ℕ) → a < m → ((x + a) % m + (m - x % m)) % m ≡ a
wrap m x a below =
    let pos : 0 < m = omega arith in
    let r = x % m in
    let r_below : r < m = mod-lt x pos in
    let moved : (x + a) % m ≡ (r + a) % m = sym (mod-add-mod x m a) in
    elim (cases_lt (r + a) m) [
      | inl small ↦
          let is : (x + a) % m ≡ r + a = moved ∙ mod-eq_of_lt small in
          let sum : (x + a) % m + (m - r) ≡ a + m = omega (arith, is, r_below) in
          ap (λ k. k % m) sum ∙ add-mod_right a m ∙ mod-eq_of_lt below
      | inr large ↦
          let rest : r + a - m < m = omega (arith, r_below, below) in
          let is : (x + a) % m ≡ r + a - m = moved ∙ mod-eq-sub-mod large ∙ mod-eq_of_lt rest in
          let sum : (x + a) % m + (m - r) ≡ a = omega (arith, is, r_below, large) in
          ap (λ k. k % m) sum ∙ mod-eq_of_lt below
    ]

differs : (x y : ℕ) → (x == y) ≡ false → x ≡ y → ⊥
differs x y test same = grind (arith, nat_tests)

kept_cases : (a b : Bool) (tag kept : ℕ) → (if a && b then None else Some tag) ≡ Some kept → (tag ≡ kept) × ((a ≡ false) ⊎ (b ≡ false))
kept_cases true true tag kept is = absurd (cc is)
kept_cases true false tag kept is = (cc is, inr refl)
kept_cases false b tag kept is = (cc is, inl refl)

if_same : (x y z : ℕ) → x ≡ y → (if x == y then y else z) ≡ y
if_same x y z same = grind (arith, nat_tests)

if_other : (x y z : ℕ) → (x ≡ y → ⊥) → (if x == y then y else z) ≡ z
if_other x y z other = grind (arith, nat_tests)

module _ (half : ℕ) (pos : 0 < half) where
  ages : AgesAreTrue half (2 * half)
  ages e tag made tagged =
      let a = e + 1 - made in
      let x = made + (2 * half - 1) in
      let near : e < half * (e / half) + half = omega (arith, div-add-mod e half, mod-lt e pos) in
      let below : a < 2 * half = omega (arith, near, tagged.recent, tagged.past) in
      let sum : x + a ≡ e + 2 * half = omega (arith, tagged.past, pos) in
      let count : e % (2 * half) ≡ (x + a) % (2 * half) = sym (add-mod_right e (2 * half)) ∙ ap (λ k. k % (2 * half)) (sym sum) in
      let whole : tag % (2 * half) ≡ x % (2 * half) = ap (λ k. k % (2 * half)) tagged.wraps ∙ mod-mod x (2 * half) in
      let age : wrapped_age (2 * half) (e % (2 * half)) tag ≡ a = rw (count, whole) (wrap (2 * half) x a below) in
      omega (arith, age, tagged.past)

  split : (n : ℕ) → half * (2 * (n / (2 * half))) + n % (2 * half) ≡ n
  split n = omega (arith, div-add-mod n (2 * half))

  -- the half in which a wrapped number lies
  field : (n : ℕ) → top_bit half (n % (2 * half)) ≡ top_bit half n
  field n =
      let q = n / (2 * half) in
      let s = n % (2 * half) in
      let halves : n / half ≡ 2 * q + s / half = ap (λ k. k / half) (sym (split n)) ∙ mul-add-div pos (2 * q) s in
      sym (ap (λ k. k % 2) halves ∙ mul-add-mod_self_left 2 q (s / half))

  low_part : (n : ℕ) → n % (2 * half) % half ≡ n % half
  low_part n = sym (ap (λ k. k % half) (sym (split n)) ∙ mul-add-mod_self_left half (2 * (n / (2 * half))) (n % (2 * half)))

  next_is : (e : ℕ) → next_count (2 * half) (e % (2 * half)) ≡ (e + 1) % (2 * half)
  next_is e = mod-add-mod e (2 * half) 1

  -- an epoch later the phase is the same, or the next one begins
  phases : (e : ℕ) → ((e + 1) / half ≡ e / half) ⊎ (((e + 1) / half ≡ e / half + 1) × ((e + 1) % half ≡ 0))
  phases e =
      let j = e / half in
      let r_below = mod-lt e pos in
      let is = div-add-mod e half in
      elim (cases_lt (e % half + 1) half) [
        | inl inside ↦ inl (div-eq_of_lt-le half {m = e + 1} (omega (arith, is)) (omega (arith, is, inside)))
        | inr next ↦
            let turn : e + 1 ≡ half * (j + 1) = omega (arith, is, next, r_below) in
            inr (div-eq_of_eq-mul_right pos turn, ap (λ k. k % half) turn ∙ mul-mod_right half (j + 1))
      ]

  keeps : KeepsTags half (2 * half)
  keeps e tag made kept tagged is_kept =
      let j = e / half in
      let next = next_count (2 * half) (e % (2 * half)) in
      let cases = kept_cases (next % half == 0) (top_bit half tag == top_bit half next) tag kept is_kept in
      let recent : half * ((e + 1) / half) + 1 ≤ made + half =
      elim (phases e) [
        | inl same ↦ rw same tagged.recent
        | inr turned ↦ elim (cases_lt (made + half) (half * (j + 1) + 1)) [
          | inr near ↦ rw turned.0 near
          | inl far ↦
              let x = made + (2 * half - 1) in
              let at : x / half ≡ j + 1 = div-eq_of_lt-le half {m = x} (omega (arith, tagged.recent, pos)) (omega (arith, far, pos)) in
              let tag_top : top_bit half tag ≡ (j + 1) % 2 = ap (top_bit half) tagged.wraps ∙ field x ∙ ap (λ k. k % 2) at in
              let next_top : top_bit half next ≡ (j + 1) % 2 = ap (top_bit half) (next_is e) ∙ field (e + 1) ∙ ap (λ k. k % 2) turned.0 in
              let low : next % half ≡ 0 = ap (λ k. k % half) (next_is e) ∙ low_part (e + 1) ∙ turned.1 in
              let alike : top_bit half tag ≡ top_bit half next = tag_top ∙ sym next_top in
              absurd (⊎_elim (λ a. differs (next % half) 0 a low) (λ b. differs (top_bit half tag) (top_bit half next) b alike) cases.1)
        ]
      ] in
      record {
        past = omega (arith, tagged.past);
        recent = recent;
        wraps = sym cases.0 ∙ tagged.wraps;
      }

  stamps_present : StampsPresent half (2 * half)
  stamps_present e count known =
      let sum : e + 1 + (2 * half - 1) ≡ e + 2 * half = omega (arith, pos) in
      record {
        past = omega arith;
        recent = omega (arith, div-add-mod e half, pos);
        wraps = known ∙ sym (ap (λ k. k % (2 * half)) sum ∙ add-mod_right e (2 * half));
      }

  -- the tag of the epoch before
  stamps_before : (e count : ℕ) → count ≡ e % (2 * half) → IsTagged half (2 * half) e (count_before (2 * half) count) e
  stamps_before e count known = record {
    past = omega arith;
    recent = omega (arith, div-add-mod e half, pos);
    wraps = ap (count_before (2 * half)) known ∙ mod-add-mod e (2 * half) (2 * half - 1);
  }

  -- a tag that is the counter is of this epoch
  newest_is : (e count tag before : ℕ) → count ≡ e % (2 * half) → IsTagged half (2 * half) e tag before → tag ≡ count → before ≡ e + 1
  newest_is e count tag before known dated same =
      let both : 0 < 2 * half = omega arith in
      let at : tag ≡ e % (2 * half) = same ∙ known in
      let within : e % (2 * half) % (2 * half) ≡ e % (2 * half) = mod-mod e (2 * half) in
      let none : wrapped_age (2 * half) (e % (2 * half)) tag ≡ 0 =
      ap (λ t. (e % (2 * half) + (2 * half - t % (2 * half))) % (2 * half)) at
      ∙ ap (λ k. k % (2 * half)) (omega (arith, within, mod-lt e both))
      ∙ mod_self (2 * half) in
      omega (arith, ages e tag before dated, none)

  stamps_beside : StampsBeside half (2 * half)
  stamps_beside e count before None known dated = subst (IsTagged half (2 * half) e (count_before (2 * half) count)) (omega (arith, dated)) (stamps_before e count known)
  stamps_beside e count before (Some tag) known dated = elim (cases_eq tag count) [
    | inl same ↦
        let newest : before ≡ e + 1 = newest_is e count tag before known dated same in
        subst (λ b. IsTagged half (2 * half) e b (max e before)) (sym (if_same tag count (count_before (2 * half) count) same))
        (subst (IsTagged half (2 * half) e count) (omega (arith, newest)) (stamps_present e count known))
    | inr other ↦
        let past : before ≢ e + 1 = λ newest. other (dated.wraps ∙ ap (λ b. (b + (2 * half - 1)) % (2 * half)) newest ∙ sym (stamps_present e count known).wraps) in
        subst (λ b. IsTagged half (2 * half) e b (max e before)) (sym (if_other tag count (count_before (2 * half) count) other))
        (subst (IsTagged half (2 * half) e (count_before (2 * half) count)) (omega (arith, past, dated.past)) (stamps_before e count known))
  ]

-- the laws of a width: all numbers are twice a half
module _ (half all : ℕ) (pos : 0 < half) (double : all ≡ 2 * half) where
  pub ages_are_true : AgesAreTrue half all
  ages_are_true = subst (AgesAreTrue half) (sym double) (ages half pos)

  pub keeps_tags : KeepsTags half all
  keeps_tags = subst (KeepsTags half) (sym double) (keeps half pos)

  pub stamps_present_epoch : StampsPresent half all
  stamps_present_epoch = subst (StampsPresent half) (sym double) (stamps_present half pos)

  pub stamps_beside_target : StampsBeside half all
  stamps_beside_target = subst (StampsBeside half) (sym double) (stamps_beside half pos)

  -- an admitted copy is at most as old as its mark says
  pub admits_recent : (e tag made d : ℕ) → IsTagged half all e tag made → IsTrue (tpi_admits all (e % all) (Time d) tag) → e + 1 ≤ d + made
  admits_recent e tag made d tagged admitted =
      let le : wrapped_age all (e % all) tag ≤ d = grind (arith, nat_tests) in
      omega (arith, ages_are_true e tag made tagged, le)
