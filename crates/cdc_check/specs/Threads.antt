-- Results that hand on a state, and counters.
use Rattle.std.specs.Prelude.{ℕ, ◌+◌, List, [], ◌∷◌, if◌then◌else◌, nat_lt}

-- more than the last number of a counter is not counted; every limit lies far below it
abbrev pub next : ℕ → ℕ
next k = if nat_lt k 4294967295 then k + 1 else k

abbrev pub numbered : ℕ → ℕ
numbered n = if nat_lt n 4294967295 then n else 4294967295

abbrev pub on : {A S B : Type 0} → A × S → (A → S → B) → B
on r f = f r.0 r.1

-- one after another, each from the state that the one before it left
abbrev pub each : {A S : Type 0} → List (S → A × S) → S → List A × S
each [] k = ([], k)
each (f ∷ fs) k = on (f k) (λ a k. on (each fs k) (λ rest k. (a ∷ rest, k)))
