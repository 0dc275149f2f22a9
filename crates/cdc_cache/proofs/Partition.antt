-- A sum over all lines, set by set.
use Rattle.std.proofs.Common.{◌≡◌, ◌⊎◌, ℕ, zero, suc, ◌+◌, ◌%◌, ◌<◌, ◌≤◌, List, [], ◌∷◌, length, refl, sym, ◌∙◌, ap, arith, inl, inr}
use Rattle.std.specs.Prelude.{Some, sum_by, slice_get}
use Rattle.std.proofs.Math.Nat.{mod-lt}
use Rattle.std.proofs.lemmas.Bool.{cases_eq}
use Rattle.std.proofs.lemmas.List.Sums.{sum_by-cons}
use Rattle.cdc_cache.specs.declared.line.Line.{Line}
use Rattle.cdc_cache.specs.declared.set.Set.{Set}
use Rattle.cdc_cache.specs.Lines.{in_set}
use Rattle.cdc_cache.specs.Sets.{set_lines}
use Rattle.cdc_cache.proofs.InSets.{in_set-yes, in_set-no}

module _ {W : Type 0} (f : Line W → ℕ) (sets : ℕ) where
  -- over so many sets from set k on
  sum_from : ℕ → ℕ → List (Line W) → ℕ
  sum_from k zero lines = 0
  sum_from k (suc m) lines = sum_by f (in_set sets k lines) + sum_from (suc k) m lines

  outside : (k m : ℕ) (l : Line W) (ls : List (Line W)) → (l.number % sets < k) ⊎ (k + m ≤ l.number % sets) → sum_from k m (l ∷ ls) ≡ sum_from k m ls
  unfolding sum_from
  outside k zero l ls out = refl
  outside k (suc m) l ls (inl below) =
      ap (λ xs. sum_by f xs + sum_from (suc k) m (l ∷ ls)) (in_set-no sets k l ls (λ same. absurd (omega (arith, same, below))))
      ∙ ap (λ n. sum_by f (in_set sets k ls) + n) (outside (suc k) m l ls (inl (omega (arith, below))))
  outside k (suc m) l ls (inr above) =
      ap (λ xs. sum_by f xs + sum_from (suc k) m (l ∷ ls)) (in_set-no sets k l ls (λ same. absurd (omega (arith, same, above))))
      ∙ ap (λ n. sum_by f (in_set sets k ls) + n) (outside (suc k) m l ls (inr (omega (arith, above))))

  inside : (k m : ℕ) (l : Line W) (ls : List (Line W)) → k ≤ l.number % sets → l.number % sets < k + m → sum_from k m (l ∷ ls) ≡ f l + sum_from k m ls
  unfolding sum_from
  inside k zero l ls low high = absurd (omega (arith, low, high))
  inside k (suc m) l ls low high = elim (cases_eq (l.number % sets) k) [
    | inl here ↦
        let first : sum_by f (in_set sets k (l ∷ ls)) ≡ f l + sum_by f (in_set sets k ls) = ap (sum_by f) (in_set-yes sets k l ls here) ∙ sum_by-cons f l (in_set sets k ls) in
        let rest : sum_from (suc k) m (l ∷ ls) ≡ sum_from (suc k) m ls = outside (suc k) m l ls (inl (omega (arith, here))) in
        omega (arith, first, rest)
    | inr apart ↦
        let first : sum_by f (in_set sets k (l ∷ ls)) ≡ sum_by f (in_set sets k ls) = ap (sum_by f) (in_set-no sets k l ls apart) in
        let rest : sum_from (suc k) m (l ∷ ls) ≡ f l + sum_from (suc k) m ls = inside (suc k) m l ls (omega (arith, low, apart)) (omega (arith, high)) in
        omega (arith, first, rest)
  ]

  none_from : (k m : ℕ) → sum_from k m [] ≡ 0
  unfolding sum_from
  none_from k zero = refl
  none_from k (suc m) = let rest = none_from (suc k) m in omega (arith, rest)

  all_from : (lines : List (Line W)) → 0 < sets → sum_from 0 sets lines ≡ sum_by f lines
  all_from [] some = none_from 0 sets
  all_from (l ∷ lines) some = inside 0 sets l lines (omega arith) (omega (arith, mod-lt l.number some)) ∙ ap (λ n. f l + n) (all_from lines some) ∙ sym (sum_by-cons f l lines)

  items_from : (k : ℕ) (items : List (Set W)) (lines : List (Line W)) → ((i : ℕ) (set : Set W) → slice_get items i ≡ Some set → set_lines set ≡ in_set sets (k + i) lines) → sum_by (λ set. sum_by f (set_lines set)) items ≡ sum_from k (length items) lines
  unfolding sum_from
  items_from k [] lines held = refl
  items_from k (set ∷ items) lines held =
      let first : sum_by f (set_lines set) ≡ sum_by f (in_set sets k lines) = ap (sum_by f) (held 0 set refl ∙ ap (λ n. in_set sets n lines) (omega arith)) in
      let rest : sum_by (λ s. sum_by f (set_lines s)) items ≡ sum_from (suc k) (length items) lines =
      items_from (suc k) items lines (λ i other at. held (suc i) other at ∙ ap (λ n. in_set sets n lines) (omega arith)) in
      let whole = sum_by-cons (λ s. sum_by f (set_lines s)) set items in
      omega (arith, first, rest, whole)

  pub sum_by-sets : (items : List (Set W)) (lines : List (Line W)) → 0 < sets → length items ≡ sets → ((i : ℕ) (set : Set W) → slice_get items i ≡ Some set → set_lines set ≡ in_set sets i lines) → sum_by (λ set. sum_by f (set_lines set)) items ≡ sum_by f lines
  sum_by-sets items lines some many held =
      items_from 0 items lines (λ i set at. held i set at ∙ ap (λ n. in_set sets n lines) (omega arith))
      ∙ ap (λ n. sum_from 0 n lines) many
      ∙ all_from lines some

pub none_of_length : {A : Type 0} (xs : List A) → length xs ≡ 0 → xs ≡ []
none_of_length [] is = refl
none_of_length (x ∷ xs) is = absurd (omega (arith, is))
