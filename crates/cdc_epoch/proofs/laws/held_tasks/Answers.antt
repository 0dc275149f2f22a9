use Rattle.cdc_epoch.proofs.ReadyOnCode.{tasks_go}
use Rattle.cdc_epoch.proofs.laws.held_tasks.Goals as goal

pub returns : goal.returns
returns c = λ code sound arrays records events live i lt. tasks_go code sound arrays records events live i lt
