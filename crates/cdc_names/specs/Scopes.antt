-- What the names of a unit are declared as, and the values of its PARAMETERs.
use Rattle.std.specs.Prelude.{ℕ, zero, suc, ℤ, Bool, List, [], ◌∷◌, Option, Some, None, map, length, is_some, is_none, option_and_then, if◌then◌else◌}
use Rattle.cdc_tree.specs.Units.{PUnit}
use Rattle.cdc_names.specs.declared.scope.Sort.{Sort}
use Rattle.cdc_names.specs.declared.scope.Sort.TheVariants.{Scalar, Array, Parameter}
use Rattle.cdc_names.specs.declared.scope.Scope.{Scope}
use Rattle.cdc_names.specs.Constants.{constant}
use Rattle.cdc_names.specs.Declarations.{Declares, declared_in, plain_declaration}
use Rattle.cdc_names.specs.Table.{added}
use Rattle.cdc_names.specs.Used.{Used}
use Rattle.cdc_names.specs.Uses.{unit_uses}

abbrev pub sort_by_dimensions : ℕ → Sort
sort_by_dimensions zero = Scalar
sort_by_dimensions (suc n) = Array (suc n)

abbrev pub sort_of : Declares → Sort
sort_of d = if is_some d.value then Parameter else sort_by_dimensions (length d.bounds)

-- the first declaration of a name counts
abbrev pub sorts_from : List (List ℕ × Sort) → List Declares → List (List ℕ × Sort)
sorts_from sorts [] = sorts
sorts_from sorts (d ∷ ds) = sorts_from (added d.named.name (sort_of d) sorts) ds

-- the value of a PARAMETER over those that are known
abbrev pub value_in : List (List ℕ × ℤ) → Declares → Option ℤ
value_in values d = option_and_then (constant values) d.value

abbrev pub defined : List ℕ → Option ℤ → List (List ℕ × ℤ) → List (List ℕ × ℤ)
defined name None values = values
defined name (Some x) values = added name x values

-- the PARAMETERs that are known after a declaration
abbrev pub known_after : List (List ℕ × ℤ) → Declares → List (List ℕ × ℤ)
known_after values d = defined d.named.name (value_in values d) values

abbrev pub values_from : List (List ℕ × ℤ) → List Declares → List (List ℕ × ℤ)
values_from values [] = values
values_from values (d ∷ ds) = values_from (known_after values d) ds

-- what a unit declares, and its uses of names
pub record PScope : Type 0 where
  pub implicit : Bool
  pub declarations : List Declares
  pub sorts : List (List ℕ × Sort)
  pub values : List (List ℕ × ℤ)
  pub uses : List Used

abbrev pub scope_of : PUnit → PScope
scope_of u = record {
  implicit = is_none u.none;
  declarations = declared_in u.declarations;
  sorts = sorts_from [] (declared_in u.declarations);
  values = values_from [] (declared_in u.declarations);
  uses = unit_uses u;
}

-- a scope in which nothing is declared or used
abbrev pub bare : Bool → PScope
bare implicit = record { implicit = implicit; declarations = []; sorts = []; values = []; uses = [] }

-- a scope without pointers
abbrev pub plain_scope : Scope → PScope
plain_scope s = record { implicit = s.implicit; declarations = map plain_declaration s.declarations; sorts = s.sorts; values = s.values; uses = s.uses }
