-- Which of two places stands first, and the first place of several.
use Rattle.std.specs.Prelude.{Bool, true, false, if◌then◌else◌, nat_lt, nat_eq, List, [], ◌∷◌, ◌++◌, Option, Some, None}
use Rattle.cdc_base.specs.declared.place.Place.{Place}

abbrev pub before : Place → Place → Bool
before p q = if nat_eq p.line q.line then nat_lt p.column q.column else nat_lt p.line q.line

abbrev pub sooner : Option Place → Option Place → Option Place
sooner None b = b
sooner (Some p) None = Some p
sooner (Some p) (Some q) = if before q p then Some q else Some p

-- the first of the places that the items of a list give
abbrev pub first_of : {A : Type 0} → (A → Option Place) → List A → Option Place
first_of f [] = None
first_of f (x ∷ xs) = sooner (f x) (first_of f xs)

-- a place, where something is wrong there
abbrev pub at : Bool → Place → Option Place
at true p = Some p
at false p = None

abbrev pub joined : {A : Type 0} → List (List A) → List A
joined [] = []
joined (xs ∷ rest) = xs ++ joined rest
