-- An expression of a bound or the value of a PARAMETER that has no constant value.
use Rattle.std.specs.Prelude.{ℕ, ℤ, List, [], ◌∷◌, Option, Some, None}
use Rattle.cdc_base.specs.declared.place.Place.{Place}
use Rattle.cdc_tree.specs.Plain.{Plain}
use Rattle.cdc_tree.specs.Forms.{PBound}
use Rattle.cdc_names.specs.Constants.{constant, place_of}
use Rattle.cdc_names.specs.Declarations.{Declares}
use Rattle.cdc_names.specs.Places.{sooner, first_of}
use Rattle.cdc_names.specs.Scopes.{PScope, known_after}

abbrev pub unless_some : Option ℤ → Place → Option Place
unless_some None place = Some place
unless_some (Some x) place = None

abbrev pub not_constant : List (List ℕ × ℤ) → Plain → Option Place
not_constant values t = unless_some (constant values t) (place_of t)

abbrev pub optional_not_constant : List (List ℕ × ℤ) → Option Plain → Option Place
optional_not_constant values None = None
optional_not_constant values (Some t) = not_constant values t

-- the lower and the upper bound are two expressions
abbrev pub bound_not_constant : List (List ℕ × ℤ) → PBound → Option Place
bound_not_constant values b = sooner (optional_not_constant values b.0) (not_constant values b.1)

abbrev pub declares_no_constant : List (List ℕ × ℤ) → Declares → Option Place
declares_no_constant values d = sooner (first_of (bound_not_constant values) d.bounds) (optional_not_constant values d.value)

-- the first such expression, over the PARAMETERs of earlier items
abbrev pub not_constants : List (List ℕ × ℤ) → List Declares → Option Place
not_constants values [] = None
not_constants values (d ∷ ds) = sooner (declares_no_constant values d) (not_constants (known_after values d) ds)

abbrev pub not_constant_in : PScope → Option Place
not_constant_in s = not_constants [] s.declarations
