use Rattle.std.proofs.Common.{◌≤◌, subst, arith, length, refl, inl, inr}
use Rattle.std.specs.Prelude.{List, ℕ}
use Rattle.cdc_sched.specs.Headers.{HasHeader, bad_number}
use Rattle.cdc_top.specs.Answer.{ScheduleAnswers}
use Rattle.cdc_top.specs.Run.{told_in}
use Rattle.cdc_top.specs.Schedule.{IsSchedule, IsBadSchedule, header_refused}
use Rattle.cdc_top.specs.declared.limits.TheConstants.{SCHEDULE_LIMIT}
use Rattle.cdc_top.proofs.run.run_bytes.Goals as goal

pub returns-in-Err : goal.returns-in-Err
returns-in-Err g c =
    let code = c.args.compiled.code in
    let bytes = c.deref.result.now in
    let line = bad_number c.in-Err.refusal in
    let within : length bytes ≤ SCHEDULE_LIMIT = omega (arith, c.deref.ensures.len, c.requires.within) in
    let bad : IsBadSchedule bytes line = record { within = within; bad = c.in-Err.ensures.refused } in
    let answers : ScheduleAnswers code bytes c.args.records.records (header_refused line) = inr (inl (line, bad, refl)) in
    inr (header_refused line, subst (λ (b : List ℕ). ScheduleAnswers code b c.args.records.records (header_refused line)) c.deref.ensures.value answers, c.say_bad_header.ensures)

pub new-events-requires-clause-header : goal.new-events-requires-clause-header
new-events-requires-clause-header g c = (c.in-Ok.header, subst (λ (b : List ℕ). HasHeader b c.in-Ok.header c.in-Ok.at) c.deref.ensures.value c.in-Ok.ensures.header, refl)

pub run_events-requires-clause-some : goal.run_events-requires-clause-some
run_events-requires-clause-some g c = c.in-Ok.ensures.header.front.limits.procs

pub returns-in-Ok : goal.returns-in-Ok
returns-in-Ok g c =
    let bytes = c.args.schedule.items in
    let h = c.in-Ok.header in
    let at = c.in-Ok.at in
    let within : length c.deref.result.now ≤ SCHEDULE_LIMIT = omega (arith, c.deref.ensures.len, c.requires.within) in
    let read : IsSchedule c.deref.result.now h at = record { within = within; has = c.in-Ok.ensures.header } in
    let is : IsSchedule bytes h at = subst (λ (b : List ℕ). IsSchedule b h at) c.deref.ensures.value read in
    elim (c.run_events.ensures (told_in bytes h at) c.new-events.ensures.told) [
      | inl nothing ↦ inl nothing
      | inr said ↦ inr (said.0, inr (inr (h, at, is, said.1)), said.2)
    ]
