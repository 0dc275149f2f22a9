use Rattle.std.proofs.Common.{◌≡◌, take}
use Rattle.cdc_base.specs.Gathered.{waiting, HandsOn}
use Rattle.cdc_report.specs.Listing.{lines_from}
use Rattle.cdc_report.proofs.listing.write_code.Given as goal

abbrev pub invariant-loop-step : goal.invariant-loop-step
invariant-loop-step g l = record {
  place : l.place ≡ l.step-index;
  so_far : HandsOn (g.K.Sink.taken l.initial.out) (g.K.Sink.taken l.out) (lines_from l.named 0 (take l.step-index l.step-items)) (waiting l.gathered);
  quiet : g.K.Sink.faults l.out ≡ g.K.Sink.faults l.initial.out;
}
