-- What names stand for at a place of a unit.
use Rattle.std.specs.Prelude.{ℕ, List, [], ◌∷◌, Option, Some, None, if◌then◌else◌}
use Rattle.std.specs.Str.{bytes_eq}
use Rattle.cdc_base.specs.declared.place.Place.{Place}
use Rattle.cdc_tree.specs.declared.tree.Named.{Named}
use Rattle.cdc_prog.specs.declared.expr.Ref.{Ref}
use Rattle.cdc_prog.specs.declared.expr.Var.{Var}
use Rattle.cdc_prog.specs.declared.expr.Var.TheVariants.{Object, Slot}
use Rattle.cdc_names.specs.Table.{found}
use Rattle.cdc_check.specs.declared.meaning.Meaning.{Meaning}
use Rattle.cdc_check.specs.declared.meaning.Meaning.TheVariants.{Variable, Number}
use Rattle.cdc_check.specs.Threads.{next}

-- the names of a unit, and the index and private names of the DOALL around the place
pub record Surroundings : Type 0 where
  pub names : List (List ℕ × Meaning)
  pub slots : List Named

abbrev pub surroundings : List (List ℕ × Meaning) → List Named → Surroundings
surroundings names slots = record { names = names; slots = slots }

abbrev pub slots_of : Option Named → List Named → List Named
slots_of None privates = []
slots_of (Some index) privates = index ∷ privates

-- the slot of a name, where slots are counted from this number
abbrev pub slot_from : ℕ → List ℕ → List Named → Option ℕ
slot_from k name [] = None
slot_from k name (n ∷ ns) = if bytes_eq name n.name then Some k else slot_from (next k) name ns

abbrev pub slot_or : Option ℕ → Option Meaning → Option Meaning
slot_or (Some k) outer = Some (Variable (Slot k))
slot_or None outer = outer

-- inside a DOALL its index and private names mean the iteration's own slots
abbrev pub meaning_of : Surroundings → List ℕ → Option Meaning
meaning_of s name = slot_or (slot_from 0 name s.slots) (found name s.names)

-- every name of an accepted program that is no PARAMETER is a variable
abbrev pub var_in : Option Meaning → Var
var_in (Some (Variable v)) = v
var_in (Some (Number n)) = Object 0
var_in None = Object 0

abbrev pub var_of : Surroundings → Named → Var
var_of s n = var_in (meaning_of s n.name)

-- the last site after an access of a variable; a slot has no sites
abbrev pub sites_after : Var → ℕ → ℕ
sites_after (Slot i) k = k
sites_after v k = next k

abbrev pub site_of : Var → ℕ → ℕ
site_of (Slot i) k = 0
site_of v k = next k

abbrev pub reference : Var → Place → ℕ → Ref
reference v place k = record { var = v; site = site_of v k; place = place }
