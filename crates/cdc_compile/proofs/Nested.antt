-- The units of a source whose statements are built: there is one at least, each of their statements is built, and each DO and DOALL is the head of its loop.
use Rattle.std.proofs.Common.{◌≡◌, ℕ, ◌<◌, List, [], ◌∷◌, length, map, subst, arith}
use Rattle.cdc_tree.specs.declared.unit.UnitText.{UnitText}
use Rattle.cdc_tree.specs.Order.{Each}
use Rattle.cdc_tree.specs.Units.{PUnit, unit}
use Rattle.cdc_nest.specs.Units.{mains}
use Rattle.cdc_check.specs.Built.{AllBuilt, AreBuilt}
use Rattle.cdc_compile.specs.Source.{HasBuiltUnits}
use Rattle.cdc_compile.proofs.Looped.{IsStraight, lines_straight, units_loops}

some_unit : (us : List UnitText) → mains (map unit us) ≡ 1 → 0 < length us
some_unit [] h = absurd (omega arith)
some_unit (u ∷ us) h = omega arith

pub some_units : (source : List ℕ) (us : List UnitText) → HasBuiltUnits source (map unit us) → 0 < length us
some_units source us has = some_unit us has.has_units.are_units.one_main

pub are_built : (source : List ℕ) (us : List PUnit) → HasBuiltUnits source us → AreBuilt us
are_built source us has = record {
  statements = subst AllBuilt has.has_units.are_units.parts has.all_built;
  loops = units_loops us has.has_units.are_units.are_units
      (subst (Each IsStraight) has.has_units.are_units.parts (lines_straight has.statements has.has_units.has_statements.lines has.has_units.has_statements.are_statements));
}
