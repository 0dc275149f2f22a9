-- A use that does not fit the declaration of its name, and a declaration of a shape that no array has.
use Rattle.std.specs.Prelude.{ℕ, Bool, true, false, not, ◌||◌, ◌&&◌, nat_eq, nat_lt, ℤ, pos, int_lt, List, length, Option, Some, None}
use Rattle.std.specs.List.{list_any}
use Rattle.cdc_base.specs.declared.place.Place.{Place}
use Rattle.cdc_tree.specs.Plain.{Plain}
use Rattle.cdc_tree.specs.Forms.{PBound}
use Rattle.cdc_names.specs.declared.name_use.Role.{Role}
use Rattle.cdc_names.specs.declared.name_use.Role.TheVariants.{Read, Actual, Dummy}
use Rattle.cdc_names.specs.declared.scope.Sort.{Sort}
use Rattle.cdc_names.specs.declared.scope.Sort.TheVariants.{Scalar, Array, Parameter}
use Rattle.cdc_names.specs.Constants.{constant}
use Rattle.cdc_names.specs.Declarations.{Declares}
use Rattle.cdc_names.specs.Places.{at, sooner, first_of}
use Rattle.cdc_names.specs.Scopes.{PScope}
use Rattle.cdc_names.specs.Table.{found}
use Rattle.cdc_names.specs.Used.{Used}

-- an array may stand whole as an actual and in a dummy list
abbrev pub may_be_whole : Role → Bool
may_be_whole Actual = true
may_be_whole Dummy = true
may_be_whole role = false

abbrev pub is_read : Role → Bool
is_read Read = true
is_read Actual = true
is_read role = false

-- a name that is not declared is a scalar
abbrev pub is_misused : Option Sort → Role → ℕ → Bool
is_misused None role subs = not (nat_eq subs 0)
is_misused (Some Scalar) role subs = not (nat_eq subs 0)
is_misused (Some (Array n)) role subs = not (nat_eq subs n) && not (may_be_whole role && nat_eq subs 0)
is_misused (Some Parameter) role subs = not (nat_eq subs 0) || not (is_read role)

abbrev pub misused : PScope → Used → Option Place
misused s u = at (is_misused (found u.name s.sorts) u.role u.subs) u.place

-- the lower bound is 1 where none is written
abbrev pub low_of : List (List ℕ × ℤ) → Option Plain → Option ℤ
low_of values None = Some (pos 1)
low_of values (Some t) = constant values t

abbrev pub is_above : Option ℤ → Option ℤ → Bool
is_above (Some low) (Some high) = int_lt high low
is_above low high = false

abbrev pub is_reversed : List (List ℕ × ℤ) → PBound → Bool
is_reversed values b = is_above (low_of values b.0) (constant values b.1)

-- more than three dimensions, or a lower bound above the upper
abbrev pub misshapen : List (List ℕ × ℤ) → Declares → Option Place
misshapen values d = at (nat_lt 3 (length d.bounds) || list_any (is_reversed values) d.bounds) d.named.place

abbrev pub shape_in : PScope → Option Place
shape_in s = sooner (first_of (misused s) s.uses) (first_of (misshapen s.values) s.declarations)
