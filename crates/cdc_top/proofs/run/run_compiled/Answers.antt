use Rattle.std.proofs.Common.{ap, sym, subst, refl, [], Err, inl, inr}
use Rattle.std.specs.Prelude.{List, ℕ}
use Rattle.cdc_base.specs.Causes.{Rose}
use Rattle.cdc_top.specs.Answer.{Files, IsTold, ScheduleAnswers}
use Rattle.cdc_top.specs.Sequential.{InputIs, input_too_long}
use Rattle.cdc_top.proofs.Ends.{ended_memory, ended_read, ended_said, ended_behind, unread, unread_told, too_long, too_long_told, too_long_long, whole_told, not_failed}
use Rattle.cdc_top.specs.declared.limits.TheConstants.{INPUT_LIMIT}
use Rattle.cdc_top.proofs.run.run_compiled.Goals as goal

abbrev with_both : List ℕ → List ℕ → Files
with_both input schedule = record { program = []; input = input; schedule = schedule }

pub returns-in-Err-Memory : goal.returns-in-Err-Memory
returns-in-Err-Memory g c =
    let input = g.S.Store.told c.args.store.now c.args.input.now in
    let schedule = g.S.Store.told c.args.store.now c.args.schedule.now in
    ended_memory (with_both (unread input) (unread schedule)) (unread_told input, unread_told schedule) _ _ _ _

pub returns-in-Err-Failed : goal.returns-in-Err-Failed
returns-in-Err-Failed g c =
    let input = g.S.Store.told c.args.store.now c.args.input.now in
    let schedule = g.S.Store.told c.args.store.now c.args.schedule.now in
    ended_read (with_both (unread input) (unread schedule)) (unread_told input, unread_told schedule) _ _ _ _ (inl (c.in-Err-Failed.ensures.cause.failed (ap Err c.in-Err-Failed.field-0-is)))

pub returns-in-Err-TooLong : goal.returns-in-Err-TooLong
returns-in-Err-TooLong g c =
    let input = g.S.Store.told c.args.store.now c.args.input.now in
    let schedule = g.S.Store.told c.args.store.now c.args.schedule.now in
    let long = too_long_long INPUT_LIMIT input (c.in-Err-TooLong.ensures.long (ap Err c.in-Err-TooLong.field-0-is)) in
    let is : InputIs (ScheduleAnswers c.args.compiled.code (unread schedule)) (too_long INPUT_LIMIT input) input_too_long = inl (long, refl) in
    ended_said (with_both (too_long INPUT_LIMIT input) (unread schedule)) input_too_long _ _ _ _ _ _ _ (too_long_told INPUT_LIMIT input, unread_told schedule) is is
    (c.in-Err-TooLong.ensures.cause.kept (not_failed _ (ap Err c.in-Err-TooLong.field-0-is))) c.say_long_input.ensures

pub returns : goal.returns
returns g c =
    let bytes = c.deref.result.now in
    let same = c.in-Ok.ensures.cause.kept (λ e. cc e) in
    let told = g.S.Store.told c.args.store.now c.args.input.now in
    let read : IsTold told bytes = subst (λ (b : List ℕ). IsTold told b) (sym c.deref.ensures.value) (whole_told INPUT_LIMIT _ _ c.in-Ok.ensures.whole) in
    ended_behind (λ (f : Files). record { program = f.program; input = bytes; schedule = f.schedule }) _ _ _ _ _ _ _ _
    (λ f is. (read, subst (λ o. IsTold o f.schedule) (c.in-Ok.ensures.told c.args.schedule.now) is)) (λ f a is. is) (λ f a is. is)
    (λ f failed. inr (failed.0, subst (λ k. Rose k (g.S.Store.faults c.run_input.new.store c.args.schedule.now)) (same c.args.schedule.now) failed.1)) same c.run_input.ensures
