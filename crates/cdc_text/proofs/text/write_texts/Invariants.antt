use Rattle.std.proofs.Common.{◌≡◌, take}
use Rattle.cdc_base.specs.Outside.{grown}
use Rattle.cdc_text.specs.Pieces.{texts_bytes}
use Rattle.cdc_text.proofs.text.write_texts.Given as goal

abbrev pub invariant-loop-text : goal.invariant-loop-text
invariant-loop-text g l = record {
  so_far : g.K.Sink.taken l.out ≡ grown (g.K.Sink.taken l.initial.out) (texts_bytes (take l.text-index l.texts));
  quiet : g.K.Sink.faults l.out ≡ g.K.Sink.faults l.initial.out;
}
