-- A scalar that is changed in the body of a DOALL in which it is not private.
use Rattle.std.specs.Prelude.{ℕ, Bool, true, false, not, ◌&&◌, nat_eq, List, [], ◌∷◌, Option, None}
use Rattle.std.specs.List.{list_any}
use Rattle.std.specs.Str.{bytes_eq}
use Rattle.cdc_base.specs.declared.place.Place.{Place}
use Rattle.cdc_names.specs.declared.name_use.Role.{Role}
use Rattle.cdc_names.specs.declared.name_use.Role.TheVariants.{Assigned, Counted, Index, Private}
use Rattle.cdc_names.specs.DoVariables.{opened_after}
use Rattle.cdc_names.specs.Places.{at, sooner}
use Rattle.cdc_names.specs.Scopes.{PScope}
use Rattle.cdc_names.specs.Used.{Used}

abbrev pub is_index : Role → Bool
is_index Index = true
is_index role = false

abbrev pub is_private : Role → Bool
is_private Private = true
is_private role = false

-- a DOALL is open
abbrev pub in_doall : List (List ℕ × Role) → Bool
in_doall os = list_any (λ o. is_index o.1) os

-- the name is private in an open DOALL
abbrev pub is_private_in : List ℕ → List (List ℕ × Role) → Bool
is_private_in name os = list_any (λ o. bytes_eq name o.0 && is_private o.1) os

-- a scalar is assigned, or is the variable of a DO
abbrev pub sets_scalar : Role → (subs : ℕ) → Bool
sets_scalar Assigned subs = nat_eq subs 0
sets_scalar Counted subs = true
sets_scalar role subs = false

abbrev pub shared : List (List ℕ × Role) → Used → Option Place
shared os u = at (sets_scalar u.role u.subs && (in_doall os && not (is_private_in u.name os))) u.place

-- the first change of a scalar in a DOALL in which it is not private; the index is not
abbrev pub shared_from : List (List ℕ × Role) → List Used → Option Place
shared_from os [] = None
shared_from os (u ∷ us) = sooner (shared os u) (shared_from (opened_after os u.role u.name) us)

abbrev pub not_private_in : PScope → Option Place
not_private_in s = shared_from [] s.uses
