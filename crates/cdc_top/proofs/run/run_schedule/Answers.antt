use Rattle.std.proofs.Common.{ap, sym, subst, refl, Err, inl, inr}
use Rattle.std.specs.Prelude.{List, ℕ}
use Rattle.cdc_top.specs.Answer.{IsTold, ScheduleAnswers}
use Rattle.cdc_top.specs.Schedule.{schedule_too_long}
use Rattle.cdc_top.proofs.Ends.{ended_memory, ended_read, ended_said, ended_one_of, with_schedule, unread, unread_told, too_long, too_long_told, too_long_long, whole_told, not_failed}
use Rattle.cdc_top.specs.declared.limits.TheConstants.{SCHEDULE_LIMIT}
use Rattle.cdc_top.proofs.run.run_schedule.Goals as goal

pub returns-in-Err-Memory : goal.returns-in-Err-Memory
returns-in-Err-Memory g c = let told = g.S.Store.told c.args.store.now c.args.schedule.now in ended_memory (with_schedule (unread told)) (unread_told told) _ _ _ _

pub returns-in-Err-Failed : goal.returns-in-Err-Failed
returns-in-Err-Failed g c =
    let told = g.S.Store.told c.args.store.now c.args.schedule.now in
    ended_read (with_schedule (unread told)) (unread_told told) _ _ _ _ (c.in-Err-Failed.ensures.cause.failed (ap Err c.in-Err-Failed.field-0-is))

pub returns-in-Err-TooLong : goal.returns-in-Err-TooLong
returns-in-Err-TooLong g c =
    let told = g.S.Store.told c.args.store.now c.args.schedule.now in
    let bytes = too_long SCHEDULE_LIMIT told in
    let long = too_long_long SCHEDULE_LIMIT told (c.in-Err-TooLong.ensures.long (ap Err c.in-Err-TooLong.field-0-is)) in
    let is : ScheduleAnswers c.args.compiled.code bytes c.args.records.records schedule_too_long = inl (long, refl) in
    ended_said (with_schedule bytes) schedule_too_long _ _ _ _ _ _ _ (too_long_told SCHEDULE_LIMIT told) is is (c.in-Err-TooLong.ensures.cause.kept (not_failed _ (ap Err c.in-Err-TooLong.field-0-is))) c.say.ensures

pub returns : goal.returns
returns g c =
    let bytes = c.in-Ok.bytes.items in
    ended_one_of (with_schedule bytes) _ _ _ _ _ _ _ (whole_told SCHEDULE_LIMIT _ _ c.in-Ok.ensures.whole) (λ a is. is) (c.in-Ok.ensures.cause.kept (λ e. cc e)) c.run_bytes.ensures
