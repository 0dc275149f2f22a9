-- A table of names: pairs of a name and its value.
use Rattle.std.specs.Prelude.{ℕ, List, [], ◌∷◌, Option, Some, None, is_some, if◌then◌else◌}
use Rattle.std.specs.Str.{bytes_eq}

abbrev pub found : {A : Type 0} → List ℕ → List (List ℕ × A) → Option A
found name [] = None
found name (e ∷ es) = if bytes_eq name e.0 then Some e.1 else found name es

-- the table in which a name has this value; a new name comes last
abbrev pub placed : {A : Type 0} → List ℕ → A → List (List ℕ × A) → List (List ℕ × A)
placed name a [] = (name, a) ∷ []
placed name a (e ∷ es) = if bytes_eq name e.0 then (e.0, a) ∷ es else e ∷ placed name a es

-- the same, but a name that is there keeps its value
abbrev pub added : {A : Type 0} → List ℕ → A → List (List ℕ × A) → List (List ℕ × A)
added name a es = if is_some (found name es) then es else placed name a es
