use Rattle.cdc_replay.proofs.Ample.{every_ample_run_ends}
use Rattle.cdc_replay.proofs.laws.ample.Goals as goal

pub returns : goal.returns
returns c = every_ample_run_ends
