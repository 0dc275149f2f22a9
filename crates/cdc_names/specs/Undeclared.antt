-- A use of a name that is neither declared nor implicitly integer.
use Rattle.std.specs.Prelude.{ℕ, Bool, false, not, ◌||◌, ◌&&◌, nat_le, is_some, List, [], ◌∷◌, Option}
use Rattle.cdc_base.specs.declared.place.Place.{Place}
use Rattle.cdc_names.specs.Places.{at, first_of}
use Rattle.cdc_names.specs.Scopes.{PScope}
use Rattle.cdc_names.specs.Table.{found}
use Rattle.cdc_names.specs.Used.{Used}

-- a name that begins with I to N
abbrev pub is_integer : List ℕ → Bool
is_integer [] = false
is_integer (c ∷ cs) = nat_le 73 c && nat_le c 78

abbrev pub is_declared : PScope → List ℕ → Bool
is_declared s name = is_some (found name s.sorts) || (s.implicit && is_integer name)

abbrev pub undeclared : PScope → Used → Option Place
undeclared s u = at (not (is_declared s u.name)) u.place

abbrev pub undeclared_in : PScope → Option Place
undeclared_in s = first_of (undeclared s) s.uses
