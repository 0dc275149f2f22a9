use Rattle.std.proofs.Common.{sym, subst, refl}
use Rattle.cdc_task.specs.declared.end.StepEnd.TheVariants.{Went, Printed, Faulted}
use Rattle.cdc_machine.specs.declared.effect.Effect.TheVariants as effect
use Rattle.cdc_epoch.proofs.Acts.{EndsHand}
use Rattle.cdc_epoch.proofs.Iterates.{iteration_stands, iteration_shows, iteration_goes, iteration_stops, iteration_faults}
use Rattle.cdc_epoch.proofs.Applies.{held_goes}
use Rattle.cdc_task.specs.Steps.{GoesOn}
use Rattle.cdc_epoch.proofs.engine.Engine.act_on_iteration.Goals as goal

pub step_on-requires-clause-goes : goal.step_on-requires-clause-goes
step_on-requires-clause-goes g c =
    let old = c.args.self.now in
    let h = c.requires.held in
    let stands = iteration_stands g.F.Fabric old h.0 h.2.ties c.args.p c.args.i h.1 h.3 c.requires.doall.0 c.requires.doall.1 c.index_mut-lane.result.now c.index_mut-lane.ensures.value in
    (h.1.kept.path, subst (GoesOn old.code) (sym stands) (held_goes g.F.Fabric old h.0 h.2 c.args.p c.args.i h.1 h.3))

pub returns-in-Went : goal.returns-in-Went
returns-in-Went g c = λ m at can held.
    let old = c.args.self.now in
    let shown = iteration_shows g.F.Fabric old m can.ties c.args.p c.args.i at held c.requires.doall.0 c.requires.doall.1 Went c.index_mut-lane.result.now c.step_on.new.task c.step_on.new.side c.index_mut-lane.ensures.value c.in-Went.ensures.step in
    iteration_goes g.F.Fabric old m can.ties c.args.p c.args.i at held c.requires.doall.0 c.requires.doall.1 c.step_on.new.task effect.Stepped _ refl refl c.in-Went.ensures.stays effect.Stepped shown refl refl

pub returns-in-Printed : goal.returns-in-Printed
returns-in-Printed g c = λ m at can held.
    let old = c.args.self.now in
    let piece = c.in-Printed.piece in
    let shown = iteration_shows g.F.Fabric old m can.ties c.args.p c.args.i at held c.requires.doall.0 c.requires.doall.1 (Printed piece) c.index_mut-lane.result.now c.step_on.new.task c.step_on.new.side c.index_mut-lane.ensures.value c.in-Printed.ensures.step in
    iteration_goes g.F.Fabric old m can.ties c.args.p c.args.i at held c.requires.doall.0 c.requires.doall.1 c.step_on.new.task (effect.Printed piece) _ refl refl c.in-Printed.ensures.stays (effect.Printed piece) shown refl refl

pub returns-in-Faulted : goal.returns-in-Faulted
returns-in-Faulted g c = λ m at can held.
    let old = c.args.self.now in
    let f = c.in-Faulted in
    let shown = iteration_shows g.F.Fabric old m can.ties c.args.p c.args.i at held c.requires.doall.0 c.requires.doall.1 (Faulted f.kind f.line) c.index_mut-lane.result.now c.step_on.new.task c.step_on.new.side c.index_mut-lane.ensures.value f.ensures.step in
    let ends : EndsHand c.args.p old.roster c.end.new.self = record { count = c.end.ensures.count; taken = c.end.ensures.taken; held = c.end.ensures.held } in
    iteration_faults g.F.Fabric old m can.ties c.args.p c.args.i at held c.requires.doall.0 c.requires.doall.1 c.step_on.new.task effect.Stepped _ refl refl f.ensures.stays (record { kind = f.kind; line = f.line }) shown.0 shown.1 refl ends c.note_fault.ensures refl

pub returns-in-Forked : goal.returns-in-Forked
returns-in-Forked g c = λ m at can held.
    let old = c.args.self.now in
    let shown = iteration_shows g.F.Fabric old m can.ties c.args.p c.args.i at held c.requires.doall.0 c.requires.doall.1 c.step_on.result c.index_mut-lane.result.now c.step_on.new.task c.step_on.new.side c.index_mut-lane.ensures.value c.step_on.ensures.step in
    let ends : EndsHand c.args.p old.roster c.end-in-Forked.new.self = record { count = c.end-in-Forked.ensures.count; taken = c.end-in-Forked.ensures.taken; held = c.end-in-Forked.ensures.held } in
    iteration_stops g.F.Fabric old m can.ties c.args.p c.args.i at held c.requires.doall.0 c.requires.doall.1 c.step_on.new.task effect.Stepped _ refl refl c.step_on.ensures.stays c.step_on.result c.in-Forked.is shown refl ends refl
