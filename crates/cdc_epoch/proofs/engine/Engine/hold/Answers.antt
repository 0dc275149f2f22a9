use Rattle.std.proofs.Common.{◌≡◌, ℤ, pos, ◌+ℤ◌, ◌*ℤ◌, refl, ap, ap₂, ◌∙◌, rules, w64, to_z, of_z}
use Rattle.cdc_task.specs.Held.{begun}
use Rattle.cdc_epoch.proofs.Holding.{holds_serial, holds_iteration}
use Rattle.cdc_epoch.proofs.engine.Engine.hold.Goals as goal

pub returns-in_default : goal.returns-in_default
returns-in_default g c =
    λ m at can free. let r = c.take.ensures in
    holds_serial g.F.Fabric c.args.self.now m c.args.p c.args.i at c.requires.proc can free c.take.new.self (record { count = r.count; taken = r.taken; held = r.held }) _ (record { code = refl; records = refl; memory = refl; parts = refl }) c.in_default.not-Doall

pub returns : goal.returns
returns g c =
    λ m at can free. let r = c.take.ensures in
    let fork = c.in-Doall.fork in
    let from : to_z w64 (of_z w64 fork.from) ≡ fork.from = search rules in
    let by : to_z w64 (of_z w64 fork.by) ≡ fork.by = search rules in
    let index : to_z w64 (of_z w64 c.index_of-index.result) ≡ c.index_of-index.result = search rules in
    let is : to_z w64 (of_z w64 c.index_of-index.result) ≡ fork.from +ℤ (pos c.args.i *ℤ fork.by) = index ∙ c.index_of-index.ensures ∙ ap₂ (λ (x y : ℤ). x +ℤ (pos c.args.i *ℤ y)) from by in
    holds_iteration g.F.Fabric c.args.self.now m c.args.p c.args.i at c.requires.proc can free c.take.new.self (record { count = r.count; taken = r.taken; held = r.held }) _ fork c.iteration.new.self c.in-Doall.is
    (record { code = refl; records = refl; memory = refl; parts = refl })
    (λ path records. c.iteration.ensures path records ∙ ap (begun path records c.args.self.now.serial) is)
