use Rattle.std.proofs.Common.{refl, sym, subst, ◌∙◌, ap₂, ℤ, w64, SFits, rules}
use Rattle.std.proofs.lemmas.Int.{to_z-of_z}
use Rattle.cdc_task.specs.declared.end.StepEnd.TheVariants.{Went, Printed, Forked, Faulted}
use Rattle.cdc_machine.specs.declared.effect.Effect.TheVariants as effect
use Rattle.cdc_epoch.specs.declared.engine.Epoch.TheVariants as epoch
use Rattle.cdc_epoch.proofs.Acts.{EndsHand, stands_there, serial_shows, serial_goes, serial_forks, serial_ends, serial_stops}
use Rattle.cdc_epoch.proofs.Applies.{held_goes}
use Rattle.cdc_task.specs.Steps.{GoesOn}
use Rattle.cdc_epoch.proofs.engine.Engine.act_on_serial.Goals as goal

pub step_on-requires-clause-goes : goal.step_on-requires-clause-goes
step_on-requires-clause-goes g c =
    let old = c.args.self.now in
    let h = c.requires.held in
    (h.1.kept.path, subst (GoesOn old.code) (sym (stands_there g.F.Fabric old h.0 h.2.ties c.args.p h.1 h.3 c.requires.serial)) (held_goes g.F.Fabric old h.0 h.2 c.args.p 0 h.1 h.3))

pub returns-in-Went : goal.returns-in-Went
returns-in-Went g c = λ m at can held.
    let shown = serial_shows g.F.Fabric c.args.self.now m can.ties c.args.p at held c.requires.serial Went c.step_on.new.task c.step_on.new.side c.in-Went.ensures.step in
    serial_goes g.F.Fabric c.args.self.now m can.ties c.args.p at held c.requires.serial effect.Stepped _ refl refl c.in-Went.ensures.stays effect.Stepped shown refl refl

pub returns-in-Printed : goal.returns-in-Printed
returns-in-Printed g c = λ m at can held.
    let piece = c.in-Printed.piece in
    let shown = serial_shows g.F.Fabric c.args.self.now m can.ties c.args.p at held c.requires.serial (Printed piece) c.step_on.new.task c.step_on.new.side c.in-Printed.ensures.step in
    serial_goes g.F.Fabric c.args.self.now m can.ties c.args.p at held c.requires.serial (effect.Printed piece) _ refl refl c.in-Printed.ensures.stays (effect.Printed piece) shown refl refl

pub returns-in-Forked : goal.returns-in-Forked
returns-in-Forked g c = λ m at can held.
    let f = c.in-Forked in
    let shown = serial_shows g.F.Fabric c.args.self.now m can.ties c.args.p at held c.requires.serial (Forked f.number f.count f.from f.by) c.step_on.new.task c.step_on.new.side f.ensures.step in
    let from : SFits w64 f.from = search rules in
    let by : SFits w64 f.by = search rules in
    let ends : EndsHand c.args.p c.args.self.now.roster c.end.new.self = record { count = c.end.ensures.count; taken = c.end.ensures.taken; held = c.end.ensures.held } in
    serial_forks g.F.Fabric c.args.self.now m can.ties c.args.p at held c.requires.serial effect.Stepped _ refl refl f.ensures.stays (record { number = f.number; count = f.count; from = f.from; by = f.by }) shown.0 shown.1 shown.2 refl ends
    (c.become_forked.ensures ∙ ap₂ (λ (a b : ℤ). epoch.Forked (record { number = f.number; count = f.count; from = a; by = b })) (to_z-of_z w64 f.from from) (to_z-of_z w64 f.by by)) refl

pub returns-in-Joined : goal.returns-in-Joined
returns-in-Joined g c = λ m at can held.
    let shown = serial_shows g.F.Fabric c.args.self.now m can.ties c.args.p at held c.requires.serial c.step_on.result c.step_on.new.task c.step_on.new.side c.step_on.ensures.step in
    serial_stops g.F.Fabric c.args.self.now m can.ties c.args.p at held c.requires.serial effect.Ended _ refl refl c.step_on.ensures.stays c.step_on.result c.in-Joined.is shown refl refl

pub returns-in-Faulted : goal.returns-in-Faulted
returns-in-Faulted g c = λ m at can held.
    let f = c.in-Faulted in
    let shown = serial_shows g.F.Fabric c.args.self.now m can.ties c.args.p at held c.requires.serial (Faulted f.kind f.line) c.step_on.new.task c.step_on.new.side f.ensures.step in
    serial_ends g.F.Fabric c.args.self.now m can.ties c.args.p at held c.requires.serial (effect.Faulted f.kind f.line) _ refl refl f.ensures.stays _ (effect.Faulted f.kind f.line) _ shown.0 refl refl refl shown.1 refl refl
