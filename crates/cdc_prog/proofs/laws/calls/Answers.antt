use Rattle.cdc_prog.proofs.Numbered as lemma
use Rattle.cdc_prog.proofs.laws.calls.Goals as goal

pub returns : goal.returns
returns c = record {
  in_order = λ p. lemma.unit_numbers_in_order 0 p.units;
  resolved = lemma.resolved_numbered;
  without_calls = lemma.without_calls;
  serial = lemma.serial_numbered;
}
