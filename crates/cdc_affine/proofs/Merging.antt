-- Steps of the loops over terms.
use Rattle.std.proofs.Common.{◌≡◌, ℕ, zero, suc, ◌+◌, ◌^◌, ◌<◌, ◌≤◌, ◌⊎◌, true, List, [], ◌∷◌, ◌++◌, length, get_or, drop, ℤ, pos, negsuc, ◌+ℤ◌, ◌*ℤ◌, refl, sym, ap, ◌∙◌, inl, inr, arith, append_assoc, append-nil, add-one}
use Rattle.std.specs.Prelude.{nat_abs}
use Rattle.std.specs.declared.cmp.Ordering.TheVariants.{Equal}
use Rattle.std.proofs.Math.Seq.{drop-cons}
use Rattle.std.proofs.lemmas.List.{drop_all}
use Rattle.std.proofs.lemmas.Bool.{ltb-true}
use Rattle.cdc_prog.specs.declared.expr.Var.{Var}
use Rattle.cdc_prog.specs.declared.affine.Term.{Term}
use Rattle.cdc_prog.specs.Affine.{order, in_order, kept, into, sum_terms, scaled, is_small, are_small}
use Rattle.cdc_affine.proofs.Worth.{and_true}

pub small_of : (z : ℤ) → is_small z ≡ true → nat_abs z < 2 ^ 31
small_of z e = ltb-true (nat_abs z) (2 ^ 31) e

pub small_at : (ts : List Term) (i : ℕ) (d : Term) → are_small ts ≡ true → i < length ts → is_small (get_or ts i d).times ≡ true
small_at [] i d e lt = absurd (omega (arith, lt))
small_at (t ∷ ts) zero d e lt = (and_true (is_small t.times) (are_small ts) e).0
small_at (t ∷ ts) (suc i) d e lt = small_at ts i d (and_true (is_small t.times) (are_small ts) e).1 (omega (arith, lt))

pub kept_append : (xs : List Term) (v : Var) (z : ℤ) (us : List Term) → (xs ++ kept v z []) ++ us ≡ xs ++ kept v z us
kept_append xs v (pos zero) us = append_assoc xs [] us
kept_append xs v (pos (suc n)) us = append_assoc xs _ us
kept_append xs v (negsuc n) us = append_assoc xs _ us

pub scaled_at : (k : ℤ) (ts : List Term) (i : ℕ) (d : Term) → i < length ts → scaled k (drop i ts) ≡ kept (get_or ts i d).var (k *ℤ (get_or ts i d).times) (scaled k (drop (i + 1) ts))
scaled_at k ts i d lt = rw (add-one, drop-cons ts i d lt) refl

pub sum_at : (ts us : List Term) (i j : ℕ) (d e : Term) → i < length ts → j < length us → order (get_or ts i d).var (get_or us j e).var ≡ Equal → sum_terms (drop i ts) (drop j us) ≡ kept (get_or us j e).var ((get_or ts i d).times +ℤ (get_or us j e).times) (sum_terms (drop (i + 1) ts) (drop (j + 1) us))
sum_at ts us i j d e li lj q =
    ap (λ xs. sum_terms xs (drop j us)) (drop-cons ts i d li)
    ∙ ap (λ ys. into (get_or ts i d) (sum_terms (drop (suc i) ts)) ys) (drop-cons us j e lj)
    ∙ ap (λ o. in_order o (get_or ts i d ∷ sum_terms (drop (suc i) ts) (get_or us j e ∷ drop (suc j) us)) (kept (get_or us j e).var ((get_or ts i d).times +ℤ (get_or us j e).times) (sum_terms (drop (suc i) ts) (drop (suc j) us))) (get_or us j e ∷ into (get_or ts i d) (sum_terms (drop (suc i) ts)) (drop (suc j) us))) q
    ∙ rw (add-one, add-one) refl

pub sum_nil : (ts : List Term) → sum_terms ts [] ≡ ts
sum_nil [] = refl
sum_nil (t ∷ ts) = ap (λ us. t ∷ us) (sum_nil ts)

pub sum_end : (ts us : List Term) (i j : ℕ) → (length ts ≤ i) ⊎ (length us ≤ j) → sum_terms (drop i ts) (drop j us) ≡ drop i ts ++ drop j us
sum_end ts us i j (inl h) = ap (λ xs. sum_terms xs (drop j us)) (drop_all i ts h) ∙ sym (ap (λ xs. xs ++ drop j us) (drop_all i ts h))
sum_end ts us i j (inr h) = ap (λ ys. sum_terms (drop i ts) ys) (drop_all j us h) ∙ sum_nil (drop i ts) ∙ sym (ap (λ ys. drop i ts ++ ys) (drop_all j us h) ∙ append-nil (drop i ts))
