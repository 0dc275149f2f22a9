use Rattle.cdc_prog.proofs.Serial as lemma
use Rattle.cdc_prog.proofs.laws.uncalled.Goals as goal

pub returns : goal.returns
returns c = record { unaliased = lemma.uncalled_unaliased; stores = lemma.uncalled_stores }
