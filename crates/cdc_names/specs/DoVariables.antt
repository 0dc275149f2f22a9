-- A change of the variable of a DO inside that DO.
use Rattle.std.specs.Prelude.{ℕ, Bool, true, false, ◌&&◌, ◌-◌, if◌then◌else◌, List, [], ◌∷◌, ◌++◌, take, length, Option, Some, None}
use Rattle.std.specs.Str.{bytes_eq}
use Rattle.cdc_base.specs.declared.place.Place.{Place}
use Rattle.cdc_names.specs.declared.name_use.Role.{Role}
use Rattle.cdc_names.specs.declared.name_use.Role.TheVariants.{Assigned, Input, Counted, Index, Private, Closed}
use Rattle.cdc_names.specs.Places.{at, sooner}
use Rattle.cdc_names.specs.Scopes.{PScope}
use Rattle.cdc_names.specs.Used.{Used}

-- what the innermost open loop of a name uses it as; the names of the open loops are listed with the innermost last
abbrev pub opened_as : Option Role → List ℕ → List (List ℕ × Role) → Option Role
opened_as outer name [] = outer
opened_as outer name (o ∷ os) = opened_as (if bytes_eq name o.0 then Some o.1 else outer) name os

-- the names of the open loops after a use
abbrev pub opened_after : List (List ℕ × Role) → Role → List ℕ → List (List ℕ × Role)
opened_after os Counted name = os ++ (name, Counted) ∷ []
opened_after os Index name = os ++ (name, Index) ∷ []
opened_after os Private name = os ++ (name, Private) ∷ []
opened_after os Closed name = take (length os - 1) os
opened_after os role name = os

abbrev pub changes : Role → Bool
changes Assigned = true
changes Input = true
changes Counted = true
changes role = false

abbrev pub is_counted : Option Role → Bool
is_counted (Some Counted) = true
is_counted role = false

abbrev pub spoiled : List (List ℕ × Role) → Used → Option Place
spoiled os u = at (changes u.role && is_counted (opened_as None u.name os)) u.place

-- the first change of the variable of an open DO
abbrev pub spoiled_from : List (List ℕ × Role) → List Used → Option Place
spoiled_from os [] = None
spoiled_from os (u ∷ us) = sooner (spoiled os u) (spoiled_from (opened_after os u.role u.name) us)

abbrev pub do_variable_in : PScope → Option Place
do_variable_in s = spoiled_from [] s.uses
