use Rattle.std.proofs.Common.{◌<◌, drop}
use Rattle.cdc_prog.specs.Data.{size_of}
use Rattle.cdc_prog.specs.Held.{store_of}
use Rattle.cdc_meaning.specs.Frames.{binding}
use Rattle.cdc_meaning.proofs.Subscripts.{Strides, LeadsTo}
use Rattle.cdc_meaning.proofs.expr.+evaluate.Given as goal

abbrev pub invariant-number-loop-k : goal.invariant-number-loop-k
invariant-number-loop-k l = record {
  leads : LeadsTo (binding l.frame) l.slots (store_of l.words) l.dims l.subs l.k l.folded;
  strides : Strides l.folded.stride (drop l.k l.dims) (size_of l.dims);
  below : l.folded.number < l.folded.stride;
}
