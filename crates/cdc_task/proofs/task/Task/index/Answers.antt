use Rattle.std.proofs.Common.{◌≤◌, length, sym, subst}
use Rattle.cdc_task.proofs.Room.{enough}
use Rattle.cdc_task.proofs.task.Task.index.Goals as goal

pub top-requires : goal.top-requires
top-requires c = subst (λ dims. length dims ≤ length c.args.self.now.stack) (sym c.dims-dims.ensures) (enough c.requires.fit.0 _ _ _ _ c.requires.fit.2.1)

pub drop_top-requires : goal.drop_top-requires
drop_top-requires c = subst (λ dims. length dims ≤ length c.args.self.now.stack) (sym c.dims-dims.ensures) (enough c.requires.fit.0 _ _ _ _ c.requires.fit.2.1)
