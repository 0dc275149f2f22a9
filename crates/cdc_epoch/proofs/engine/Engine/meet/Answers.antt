use Rattle.std.proofs.Common.{◌<◌, refl, sym, ap, ◌∙◌, subst}
use Rattle.cdc_machine.specs.Machine.{DeedOf, deed}
use Rattle.cdc_code.specs.Frames.{Frame}
use Rattle.cdc_sched.specs.declared.event.Event.{Event}
use Rattle.cdc_epoch.specs.Ties.{DoesDeed, is_over, processor}
use Rattle.cdc_epoch.proofs.Applies.{over, not_is_over, does_held}
use Rattle.cdc_epoch.proofs.engine.Engine.meet.Goals as goal

pub returns-in-Over : goal.returns-in-Over
returns-in-Over g c = λ m ties ready. over g.F.Fabric c.args.self.now m ties (subst is_over (sym c.in-Over.is) tt) c.args.event

pub act-requires : goal.act-requires
act-requires g c =
    let old = c.args.self.now in
    let r = c.requires.ready in
    let live = not_is_over old.epoch c.in_default.not-Over in
    let h = does_held g.F.Fabric old r.0 r.1 live c.in-Next.p c.in-Some.i (sym c.hand.ensures ∙ c.in-Some.is) in
    record {
      proc = subst (λ (e : Event). processor e < g.F.Fabric.procs old.side) c.in-Next.is c.requires.proc;
      held = (r.0, h.at, record { ties = r.1; ready = r.2; live = live }, h.held);
    }

pub meet_rarely-requires : goal.meet_rarely-requires
meet_rarely-requires g c =
    let old = c.args.self.now in
    let r = c.requires.ready in
    record {
      proc = subst (λ (e : Event). processor e < g.F.Fabric.procs old.side) c.in-Next.is c.requires.proc;
      can = (r.0, record { ties = r.1; ready = r.2; live = not_is_over old.epoch c.in_default.not-Over });
    }

pub returns-in-Some : goal.returns-in-Some
returns-in-Some g c = λ m ties ready.
    let old = c.args.self.now in
    let live = not_is_over old.epoch c.in_default.not-Over in
    let h = does_held g.F.Fabric old m ties live c.in-Next.p c.in-Some.i (sym c.hand.ensures ∙ c.in-Some.is) in
    subst (λ (d : DeedOf Frame). DoesDeed g.F.Fabric d m old c.act.result c.act.new.self) (sym (ap (λ (e : Event). deed e m) c.in-Next.is ∙ h.by_next))
    (c.act.ensures m h.at (record { ties = ties; ready = ready; live = live }) h.held)

pub returns-in-None : goal.returns-in-None
returns-in-None g c = λ m ties ready.
    let old = c.args.self.now in
    let live = not_is_over old.epoch c.in_default.not-Over in
    subst (λ (d : DeedOf Frame). DoesDeed g.F.Fabric d m old c.meet_rarely.result c.meet_rarely.new.self) (sym (ap (λ (e : Event). deed e m) c.in-Next.is))
    (c.meet_rarely.ensures m (record { ties = ties; ready = ready; live = live }))
