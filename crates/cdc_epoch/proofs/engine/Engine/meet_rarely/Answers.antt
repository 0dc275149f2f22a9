use Rattle.std.proofs.Common.{◌<◌, refl, sym, ap, ◌∙◌, subst}
use Rattle.cdc_machine.specs.Machine.{DeedOf, Takes, closing, deed}
use Rattle.cdc_code.specs.Frames.{Frame}
use Rattle.cdc_sched.specs.declared.event.Event.{Event}
use Rattle.cdc_epoch.specs.Ties.{DoesDeed, processor}
use Rattle.cdc_epoch.proofs.Applies.{does_held, step_closes, next_closes, takes_least, same_can, same_free, from_mid}
use Rattle.cdc_epoch.proofs.engine.Engine.meet_rarely.Goals as goal

pub act_apart-requires : goal.act_apart-requires
act_apart-requires g c =
    let old = c.args.self.now in
    let r = c.requires.can in
    let h = does_held g.F.Fabric old r.0 r.1.ties r.1.live c.in-Step.p c.in-Some.i (sym c.hand.ensures ∙ c.in-Some.is) in
    record {
      proc = subst (λ (e : Event). processor e < g.F.Fabric.procs old.side) c.in-Step.is c.requires.proc;
      held = (r.0, h.at, r.1, h.held);
    }

pub act_apart-requires-in-Some-hand : goal.act_apart-requires-in-Some-hand
act_apart-requires-in-Some-hand g c =
    let old = c.args.self.now in
    let r = c.requires.can in
    let h = does_held g.F.Fabric old r.0 r.1.ties r.1.live c.in-Next.p c.in-Some-hand.i (sym c.hand-in-Next.ensures ∙ c.in-Some-hand.is) in
    record {
      proc = subst (λ (e : Event). processor e < g.F.Fabric.procs old.side) c.in-Next.is c.requires.proc;
      held = (r.0, h.at, r.1, h.held);
    }

pub hold-requires : goal.hold-requires
hold-requires g c =
    let old = c.args.self.now in
    let r = c.requires.can in
    let e = c.least_free.ensures in
    let t = takes_least g.F.Fabric old r.0 r.1.ties r.1.live c.in-Next.p c.in-Some-least_free.i (sym c.hand-in-Next.ensures ∙ c.in-None-hand.is) c.in-Some-least_free.ensures.least in
    record {
      proc = subst (λ (e : Event). processor e < g.F.Fabric.procs old.side) c.in-Next.is c.requires.proc;
      free = (r.0, t.at, same_can g.F.Fabric old _ refl refl refl r.0 refl e.count e.taken e.held (r.1), same_free g.F.Fabric old _ refl refl refl e.held r.0 c.in-Next.p c.in-Some-least_free.i t.at t.free);
    }

pub close_if_complete-requires-in-None-least_free : goal.close_if_complete-requires-in-None-least_free
close_if_complete-requires-in-None-least_free g c =
    let old = c.args.self.now in
    let r = c.requires.can in
    let e = c.least_free.ensures in
    record { can = (r.0, same_can g.F.Fabric old _ refl refl refl r.0 refl e.count e.taken e.held (r.1)) }

pub returns-in-Some : goal.returns-in-Some
returns-in-Some g c = λ m can.
    let old = c.args.self.now in
    let h = does_held g.F.Fabric old m can.ties can.live c.in-Step.p c.in-Some.i (sym c.hand.ensures ∙ c.in-Some.is) in
    subst (λ (d : DeedOf Frame). DoesDeed g.F.Fabric d m old c.act_apart.result c.act_apart.new.self) (sym (ap (λ (e : Event). deed e m) c.in-Step.is ∙ h.by_step))
    (c.act_apart.ensures m h.at can h.held)

pub returns-in-None : goal.returns-in-None
returns-in-None g c = λ m can.
    let old = c.args.self.now in
    subst (λ (d : DeedOf Frame). DoesDeed g.F.Fabric d m old c.close_if_complete.result c.close_if_complete.new.self)
    (sym (ap (λ (e : Event). deed e m) c.in-Step.is ∙ step_closes g.F.Fabric old m can.ties can.live c.in-Step.p (sym c.hand.ensures ∙ c.in-None.is)))
    (c.close_if_complete.ensures m can)

pub returns-in-Some-hand : goal.returns-in-Some-hand
returns-in-Some-hand g c = λ m can.
    let old = c.args.self.now in
    let h = does_held g.F.Fabric old m can.ties can.live c.in-Next.p c.in-Some-hand.i (sym c.hand-in-Next.ensures ∙ c.in-Some-hand.is) in
    subst (λ (d : DeedOf Frame). DoesDeed g.F.Fabric d m old c.act_apart-in-Some-hand.result c.act_apart-in-Some-hand.new.self) (sym (ap (λ (e : Event). deed e m) c.in-Next.is ∙ h.by_next))
    (c.act_apart-in-Some-hand.ensures m h.at can h.held)

pub returns-in-Some-least_free : goal.returns-in-Some-least_free
returns-in-Some-least_free g c = λ m can.
    let old = c.args.self.now in
    let e = c.least_free.ensures in
    let t = takes_least g.F.Fabric old m can.ties can.live c.in-Next.p c.in-Some-least_free.i (sym c.hand-in-Next.ensures ∙ c.in-None-hand.is) c.in-Some-least_free.ensures.least in
    subst (λ (d : DeedOf Frame). DoesDeed g.F.Fabric d m old c.hold.result c.hold.new.self) (sym (ap (λ (e : Event). deed e m) c.in-Next.is ∙ t.by_next))
    (from_mid g.F.Fabric old _ refl refl refl (Takes c.in-Next.p c.in-Some-least_free.i t.at) m c.hold.result c.hold.new.self
    (c.hold.ensures m t.at (same_can g.F.Fabric old _ refl refl refl m refl e.count e.taken e.held can) (same_free g.F.Fabric old _ refl refl refl e.held m c.in-Next.p c.in-Some-least_free.i t.at t.free)))

pub returns-in-None-least_free : goal.returns-in-None-least_free
returns-in-None-least_free g c = λ m can.
    let old = c.args.self.now in
    let e = c.least_free.ensures in
    subst (λ (d : DeedOf Frame). DoesDeed g.F.Fabric d m old c.close_if_complete-in-None-least_free.result c.close_if_complete-in-None-least_free.new.self)
    (sym (ap (λ (e : Event). deed e m) c.in-Next.is ∙ next_closes g.F.Fabric old m can.ties can.live c.in-Next.p (sym c.hand-in-Next.ensures ∙ c.in-None-hand.is) c.in-None-least_free.ensures.least))
    (from_mid g.F.Fabric old _ refl refl refl (closing m) m c.close_if_complete-in-None-least_free.result c.close_if_complete-in-None-least_free.new.self
    (c.close_if_complete-in-None-least_free.ensures m (same_can g.F.Fabric old _ refl refl refl m refl e.count e.taken e.held can)))
