use Rattle.std.proofs.Common.{◌≡◌, take, map}
use Rattle.cdc_prog.specs.declared.program.Dummy.{Dummy}
use Rattle.cdc_prog.specs.declared.program.Unit.{Unit as ProgramUnit}
use Rattle.cdc_emit.proofs.copies.shapes.Given as goal

abbrev pub invariant-loop-unit : goal.invariant-loop-unit
invariant-loop-unit l = l.all.items ≡ map (λ (u : ProgramUnit). map (λ (d : Dummy). d.dims) u.dummies) (take l.unit-index l.units)
