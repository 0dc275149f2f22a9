use Rattle.cdc_along.proofs.Told as lemma
use Rattle.cdc_along.proofs.laws.marks.Goals as goal

pub returns : goal.returns
returns c = record { marks = lemma.mark_tells; entries = lemma.entry_tells; exits = lemma.exit_tells }
