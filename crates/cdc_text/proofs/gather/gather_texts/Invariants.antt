use Rattle.std.proofs.Common.{◌≡◌, take, ◌++◌}
use Rattle.cdc_base.specs.Gathered.{waiting, HandsOn}
use Rattle.cdc_text.specs.Pieces.{texts_bytes}
use Rattle.cdc_text.proofs.gather.gather_texts.Given as goal

abbrev pub invariant-loop-text : goal.invariant-loop-text
invariant-loop-text g l = record {
  so_far : HandsOn (g.K.Sink.taken l.initial.out) (g.K.Sink.taken l.out) (waiting l.initial.gathered ++ texts_bytes (take l.text-index l.texts)) (waiting l.gathered);
  quiet : g.K.Sink.faults l.out ≡ g.K.Sink.faults l.initial.out;
}
