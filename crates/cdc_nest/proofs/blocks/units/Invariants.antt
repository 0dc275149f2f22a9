use Rattle.std.proofs.Common.{map}
use Rattle.cdc_tree.specs.Forms.{statement}
use Rattle.cdc_nest.proofs.UnitLaws.{Goes}
use Rattle.cdc_nest.proofs.blocks.units.Given as goal

abbrev pub invariant-loop-statement : goal.invariant-loop-statement
invariant-loop-statement l = Goes (map statement l.fn.statements) (map statement l.statement-iterator.rest.items) l.progress
