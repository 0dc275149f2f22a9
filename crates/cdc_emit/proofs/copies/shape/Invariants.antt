use Rattle.std.proofs.Common.{◌≡◌, take, map}
use Rattle.cdc_prog.specs.declared.program.Dummy.{Dummy}
use Rattle.cdc_emit.proofs.copies.shape.Given as goal

abbrev pub invariant-loop-dummy : goal.invariant-loop-dummy
invariant-loop-dummy l = l.dims.items ≡ map (λ (d : Dummy). d.dims) (take l.dummy-index l.dummy-items)
