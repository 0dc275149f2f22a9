use Rattle.cdc_prog.proofs.Parallel as lemma
use Rattle.cdc_prog.proofs.laws.parallel.Goals as goal

pub returns : goal.returns
returns c = record { apart = λ p records apart. lemma.parallel_is_apart p apart records; numbers = lemma.apart_by_number }
