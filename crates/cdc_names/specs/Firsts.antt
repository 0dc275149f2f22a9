-- What is shown stands first: it is one of the places at which something of its kind is wrong, and none of them is before it.
use Rattle.std.specs.Prelude.{◌≡◌, ◌⊎◌, ℕ, ℤ, Bool, false, List, [], ◌∷◌, ◌++◌, map, Option, Some, None}
use Rattle.cdc_base.specs.declared.place.Place.{Place}
use Rattle.cdc_tree.specs.Forms.{PBound}
use Rattle.cdc_tree.specs.Units.{PUnit}
use Rattle.cdc_names.specs.declared.name_use.Role.{Role}
use Rattle.cdc_names.specs.Declarations.{Declares}
use Rattle.cdc_names.specs.DoallBodies.{misplaced, body_inside, doall_body_in}
use Rattle.cdc_names.specs.DoVariables.{opened_after, spoiled, do_variable_in}
use Rattle.cdc_names.specs.Duplicates.{before_pair, twice, name_lists, duplicate_in}
use Rattle.cdc_names.specs.NotConstant.{not_constant, optional_not_constant, not_constant_in}
use Rattle.cdc_names.specs.Places.{before, first_of, joined}
use Rattle.cdc_names.specs.Privates.{shared, not_private_in}
use Rattle.cdc_names.specs.Scopes.{PScope, known_after}
use Rattle.cdc_names.specs.Shapes.{misused, misshapen, shape_in}
use Rattle.cdc_names.specs.Undeclared.{undeclared, undeclared_in}
use Rattle.cdc_names.specs.Used.{Used}

abbrev pub Finds : {P : Type 0} → List (Option P) → P → Type 0
Finds [] p = ⊥
Finds (o ∷ os) p = (o ≡ Some p) ⊎ Finds os p

abbrev pub IsFirst : {P : Type 0} → (P → P → Bool) → List (Option P) → Option P → Type 0
IsFirst {P} before os None = (p : P) → Finds os p → ⊥
IsFirst {P} before os (Some p) = Finds os p × ((q : P) → Finds os q → before q p ≡ false)

-- ---- where something is wrong

abbrev pub undeclareds : PScope → List (Option Place)
undeclareds s = map (undeclared s) s.uses

-- both expressions of each bound, and the value of a PARAMETER
abbrev pub bound_faults : List (List ℕ × ℤ) → PBound → List (Option Place)
bound_faults values b = optional_not_constant values b.0 ∷ not_constant values b.1 ∷ []

abbrev pub declares_faults : List (List ℕ × ℤ) → Declares → List (Option Place)
declares_faults values d = joined (map (bound_faults values) d.bounds) ++ optional_not_constant values d.value ∷ []

abbrev pub constant_faults : List (List ℕ × ℤ) → List Declares → List (Option Place)
constant_faults values [] = []
constant_faults values (d ∷ ds) = declares_faults values d ++ constant_faults (known_after values d) ds

abbrev pub shape_faults : PScope → List (Option Place)
shape_faults s = map (misused s) s.uses ++ map (misshapen s.values) s.declarations

abbrev pub spoils : List (List ℕ × Role) → List Used → List (Option Place)
spoils os [] = []
spoils os (u ∷ us) = spoiled os u ∷ spoils (opened_after os u.role u.name) us

-- every statement in the bodies of DOALL loops
abbrev pub misfits : PUnit → List (Option Place)
misfits u = map misplaced (body_inside u.body)

abbrev pub shares : List (List ℕ × Role) → List Used → List (Option Place)
shares os [] = []
shares os (u ∷ us) = shared os u ∷ shares (opened_after os u.role u.name) us

-- in all units
abbrev pub FindsFirst : (PScope → List (Option Place)) → (PScope → Option Place) → Type 0
FindsFirst found first = (ss : List PScope) → IsFirst before (joined (map found ss)) (first_of first ss)

pub record FirstsStandFirst : Type 0 where
  pub undeclared : FindsFirst undeclareds undeclared_in
  pub duplicate : (us : List PUnit) → IsFirst before_pair (map twice (name_lists us)) (duplicate_in us)
  pub not_constant : FindsFirst (λ s. constant_faults [] s.declarations) not_constant_in
  pub shape : FindsFirst shape_faults shape_in
  pub do_variable : FindsFirst (λ s. spoils [] s.uses) do_variable_in
  pub doall_body : (us : List PUnit) → IsFirst before (joined (map misfits us)) (first_of doall_body_in us)
  pub not_private : FindsFirst (λ s. shares [] s.uses) not_private_in
