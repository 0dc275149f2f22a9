use Rattle.std.proofs.Common.{◌≡◌, drop}
use Rattle.cdc_prog.specs.Affine.{is_in}
use Rattle.cdc_affine.proofs.forms.is_in.Given as goal

abbrev pub invariant-loop-u : goal.invariant-loop-u
invariant-loop-u l = is_in (drop l.u-index l.vars) l.v ≡ is_in l.vars l.v
