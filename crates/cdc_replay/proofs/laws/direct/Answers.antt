use Rattle.cdc_replay.proofs.Direct.{events_tell_counts, engines_count_directly}
use Rattle.cdc_replay.proofs.laws.direct.Goals as goal

pub returns-clause-memory : goal.returns-clause-memory
returns-clause-memory c = events_tell_counts

pub returns-clause-engine : goal.returns-clause-engine
returns-clause-engine c = engines_count_directly
