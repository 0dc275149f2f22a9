-- The objects of a unit: its declared variables, then the implicit ones in order of first appearance.
use Rattle.std.specs.Prelude.{ℕ, ◌+◌, nat_lt, ℤ, pos, ◌+ℤ◌, ◌-ℤ◌, List, [], ◌∷◌, ◌++◌, map, length, Option, Some, None, is_some, if◌then◌else◌}
use Rattle.cdc_tree.specs.Forms.{PBound}
use Rattle.cdc_prog.specs.declared.expr.Var.TheVariants.{Object}
use Rattle.cdc_prog.specs.declared.program.Dim.{Dim}
use Rattle.cdc_prog.specs.declared.program.Kind.TheVariants.{Words}
use Rattle.cdc_prog.specs.Limits.{limit}
use Rattle.cdc_prog.specs.Value.{at_least_zero}
use Rattle.cdc_names.specs.Constants.{constant}
use Rattle.cdc_names.specs.Declarations.{Declares}
use Rattle.cdc_names.specs.Scopes.{PScope}
use Rattle.cdc_names.specs.Shapes.{low_of}
use Rattle.cdc_names.specs.Table.{found, added, placed}
use Rattle.cdc_names.specs.Used.{Used}
use Rattle.cdc_check.specs.declared.meaning.Meaning.{Meaning}
use Rattle.cdc_check.specs.declared.meaning.Meaning.TheVariants.{Variable, Number}
use Rattle.cdc_check.specs.declared.progress.Shape.{Shape}
use Rattle.cdc_check.specs.Threads.{numbered}

-- one more than the words of memory that a program may have; more is counted as this
abbrev pub capped : ℕ → ℕ
capped n = if nat_lt (limit Words + 1) n then limit Words + 1 else n

abbrev pub extent : ℤ → ℤ → ℕ
extent low high = capped (at_least_zero ((high -ℤ low) +ℤ pos 1))

abbrev pub dim_between : Option ℤ → Option ℤ → Dim
dim_between (Some low) (Some high) = record { low = low; extent = extent low high }
dim_between low high = record { low = pos 0; extent = 1 }

-- the lower bound of a dimension and its number of positions
abbrev pub dim : List (List ℕ × ℤ) → PBound → Dim
dim values b = dim_between (low_of values b.0) (constant values b.1)

-- what names stand for, and the objects of the program so far
pub record Naming : Type 0 where
  pub names : List (List ℕ × Meaning)
  pub objects : List Shape

abbrev pub naming : List (List ℕ × Meaning) → List Shape → Naming
naming names objects = record { names = names; objects = objects }

abbrev pub shape : ℕ → List ℕ → List Dim → Shape
shape unit name dims = record { unit = unit; name = name; dims = dims }

-- a name that is not known yet is the next object
abbrev pub with_object : ℕ → List ℕ → List Dim → Naming → Naming
with_object unit name dims n =
    if is_some (found name n.names) then n
    else naming (placed name (Variable (Object (numbered (length n.objects)))) n.names) (n.objects ++ shape unit name dims ∷ [])

-- every PARAMETER of an accepted program has a value
abbrev pub with_value : List ℕ → Option ℤ → Naming → Naming
with_value name None n = naming (added name (Number (pos 0)) n.names) n.objects
with_value name (Some x) n = naming (added name (Number x) n.names) n.objects

-- a PARAMETER is a number, a variable is an object
abbrev pub with_declared : ℕ → List (List ℕ × ℤ) → Naming → Declares → Naming
with_declared unit values n d =
    if is_some d.value then with_value d.named.name (found d.named.name values) n
    else with_object unit d.named.name (map (dim values) d.bounds) n

abbrev pub declared_from : ℕ → List (List ℕ × ℤ) → Naming → List Declares → Naming
declared_from unit values n [] = n
declared_from unit values n (d ∷ ds) = declared_from unit values (with_declared unit values n d) ds

abbrev pub implied_from : ℕ → Naming → List Used → Naming
implied_from unit n [] = n
implied_from unit n (u ∷ us) = implied_from unit (with_object unit u.name [] n) us

-- what the names of a unit stand for, and the objects after it
abbrev pub named_in : ℕ → PScope → List Shape → Naming
named_in unit s objects = implied_from unit (declared_from unit s.values (naming [] objects) s.declarations) s.uses
