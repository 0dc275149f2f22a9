-- Each element of a list, and some element of it.
use Rattle.std.proofs.Common.{◌⊎◌, inl, inr, zero, suc, List, [], ◌∷◌, refl, sym, subst, arith}
use Rattle.std.specs.List.{All, Any}

pub all_first : {X : Type 0} (P : X → Type 0) (x : X) (xs : List X) → All P (x ∷ xs) → P x
all_first P x xs h = h 0 x (omega arith)

pub all_rest : {X : Type 0} (P : X → Type 0) (x : X) (xs : List X) → All P (x ∷ xs) → All P xs
all_rest P x xs h = λ k d lt. h (suc k) d (omega (arith, lt))

pub any_none : {X : Type 0} (P : X → Type 0) → Any P [] → ⊥
any_none P (k, x, lt, is, h) = absurd (omega (arith, lt))

pub any_first : {X : Type 0} (P : X → Type 0) (x : X) (xs : List X) → Any P (x ∷ xs) → P x ⊎ Any P xs
any_first P x xs (zero, y, lt, is, h) = inl (subst P (sym is) h)
any_first P x xs (suc k, y, lt, is, h) = inr (k, y, omega (arith, lt), is, h)

pub any_here : {X : Type 0} (P : X → Type 0) (x : X) (xs : List X) → P x → Any P (x ∷ xs)
any_here P x xs h = (0, x, omega arith, refl, h)

pub any_later : {X : Type 0} (P : X → Type 0) (x : X) (xs : List X) → Any P xs → Any P (x ∷ xs)
any_later P x xs (k, y, lt, is, h) = (suc k, y, omega (arith, lt), is, h)

-- what follows from both facts on one element
pub some_of : {X K : Type 0} (P Q : X → Type 0) → ((x : X) → P x → Q x → K) → (xs : List X) → All P xs → Any Q xs → K
some_of P Q f xs all (k, x, lt, is, h) = f x (subst P is (all k x lt)) h
