use Rattle.std.proofs.Common.{refl, subst, inl, inr, rules}
use Rattle.cdc_prog.specs.Input.{Input}
use Rattle.cdc_base.specs.declared.place.Place.{Place}
use Rattle.cdc_top.specs.Answer.{ScheduleAnswers, Said}
use Rattle.cdc_top.specs.Sequential.{InputIs, IsGoodInput, IsBadInput, input_bad}
use Rattle.cdc_top.proofs.Ends.{ended_memory, ended_said, ended_behind, with_schedule, unread, unread_told}
use Rattle.cdc_top.proofs.run.run_input.Goals as goal

pub returns-in-Ok : goal.returns-in-Ok
returns-in-Ok g c =
    let code = c.args.compiled.code in
    let good : IsGoodInput c.args.input.now = record { within = c.requires.within; no_fault = c.in-Ok.ensures.good } in
    ended_behind (λ f. f) _ _ _ _ _ _ _ _ (λ f told. told)
    (λ f a is. inr (inr (good, subst (λ (r : Input). ScheduleAnswers code f.schedule r a) c.in-Ok.ensures.records is)))
    (λ f a is. inr (inr (good, subst (λ (r : Input). ScheduleAnswers code f.schedule r a) c.in-Ok.ensures.records is)))
    (λ f rose. (good, rose)) (λ name. refl) c.run_schedule.ensures

pub returns-in-Err-BadNumber : goal.returns-in-Err-BadNumber
returns-in-Err-BadNumber g c =
    let told = g.S.Store.told c.args.store.now c.args.schedule.now in
    let code = c.args.compiled.code in
    let bad : IsBadInput c.args.input.now c.in-Err-BadNumber.place = record { within = c.requires.within; fails = search rules } in
    let is : InputIs (ScheduleAnswers code (unread told)) c.args.input.now (input_bad c.in-Err-BadNumber.place) = inr (inl (c.in-Err-BadNumber.place, bad, refl)) in
    let said : Said (input_bad c.in-Err-BadNumber.place) c.say_bad_input.result (g.K.Sink.taken c.args.out.now) (g.K.Sink.taken c.say_bad_input.new.out) (g.K.Sink.faults c.args.out.now) (g.K.Sink.faults c.say_bad_input.new.out) =
    subst (λ (q : Place). Said (input_bad q) c.say_bad_input.result (g.K.Sink.taken c.args.out.now) (g.K.Sink.taken c.say_bad_input.new.out) (g.K.Sink.faults c.args.out.now) (g.K.Sink.faults c.say_bad_input.new.out)) c.in-Err-BadNumber.place-is c.say_bad_input.ensures in
    ended_said (with_schedule (unread told)) (input_bad c.in-Err-BadNumber.place) _ _ _ _ _ _ _ (unread_told told) is is (λ name. refl) said

pub returns : goal.returns
returns g c = let told = g.S.Store.told c.args.store.now c.args.schedule.now in ended_memory (with_schedule (unread told)) (unread_told told) _ _ _ _
