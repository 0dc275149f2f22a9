-- The loop over the dimensions of an object, one dimension further on and at its end.
use Rattle.std.proofs.Common.{◌≡◌, ℕ, suc, ◌+◌, ◌*◌, ◌<◌, ◌≤◌, List, ◌∷◌, ap, sym, ◌∙◌, subst, get_or, length, drop, arith}
use Rattle.std.proofs.Math.Seq.{drop-cons}
use Rattle.std.proofs.Math.Nat.{mul_assoc, mul-one}
use Rattle.std.proofs.lemmas.List.{drop_all}
use Rattle.cdc_prog.specs.declared.program.Dim.{Dim}
use Rattle.cdc_check.specs.Objects.{capped}
use Rattle.cdc_prog.specs.Data.{size_of}
use Rattle.cdc_check.proofs.Capped.{capped_times, capped_bound, capped_below}

drop_at : {A : Type 0} (xs : List A) (i : ℕ) (x : A) → i < length xs → drop i xs ≡ get_or xs i x ∷ drop (i + 1) xs
drop_at xs i x lt = let one : suc i ≡ i + 1 = omega arith in drop-cons xs i x lt ∙ ap (λ k. get_or xs i x ∷ drop k xs) one

pub size_step : (dims : List Dim) (i n m r : ℕ) (e : Dim) → i < length dims → m ≡ capped (n * (get_or dims i e).extent)
    → capped (n * size_of (drop i dims)) ≡ r → (capped (m * size_of (drop (i + 1) dims)) ≡ r) × (m ≤ 4194305)
size_step dims i n m r e lt h inv = (
  ap (λ z. capped (z * size_of (drop (i + 1) dims))) h
      ∙ capped_times (n * (get_or dims i e).extent) (size_of (drop (i + 1) dims))
      ∙ ap capped (mul_assoc n ((get_or dims i e).extent) (size_of (drop (i + 1) dims)))
      ∙ sym (ap (λ l. capped (n * size_of l)) (drop_at dims i e lt))
      ∙ inv,
  subst (λ z. z ≤ 4194305) (sym h) (capped_bound (n * (get_or dims i e).extent)),
)

pub size_end : (dims : List Dim) (i n r : ℕ) → length dims ≤ i → capped (n * size_of (drop i dims)) ≡ r → n ≤ 4194305 → n ≡ r
size_end dims i n r le inv bound =
    sym (capped_below n bound) ∙ sym (ap capped (mul-one n)) ∙ sym (ap (λ l. capped (n * size_of l)) (drop_all i dims le)) ∙ inv
