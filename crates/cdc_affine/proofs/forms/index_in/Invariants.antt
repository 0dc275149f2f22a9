use Rattle.std.proofs.Common.{◌≡◌, drop}
use Rattle.cdc_prog.specs.Affine.{index_in}
use Rattle.cdc_affine.proofs.forms.index_in.Given as goal

abbrev pub invariant-loop-i : goal.invariant-loop-i
invariant-loop-i l = index_in (drop l.i-index l.indexes) l.v ≡ index_in l.indexes l.v
