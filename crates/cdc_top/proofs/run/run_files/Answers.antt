use Rattle.std.proofs.Common.{ap, sym, subst, Err, inl, inr}
use Rattle.std.specs.Prelude.{List, ℕ}
use Rattle.cdc_check.specs.declared.refusal.CheckRefusal.TheVariants.{TooMany}
use Rattle.cdc_compile.specs.declared.refusal.Refusal.TheVariants.{Check}
use Rattle.cdc_compile.specs.Texts.{refusal_text}
use Rattle.cdc_prog.specs.declared.program.Kind.TheVariants.{Source}
use Rattle.cdc_top.specs.Answer.{Files, IsTold, RunAnswers}
use Rattle.cdc_top.specs.Report.{answer}
use Rattle.cdc_top.proofs.Ends.{ended_memory, ended_read, ended_said, ended_behind, unread, unread_told, too_long, too_long_told, too_long_long, whole_told, source_too_long, not_failed, failed_before}
use Rattle.cdc_top.proofs.One.{one_run}
use Rattle.cdc_prog.specs.Limits.{limit}
use Rattle.cdc_prog.specs.declared.program.Kind.TheVariants as kind
use Rattle.cdc_top.specs.declared.status.TheConstants.{PROGRAM_REFUSED}
use Rattle.cdc_top.proofs.run.run_files.Goals as goal

abbrev with_files : List ℕ → List ℕ → List ℕ → Files
with_files program input schedule = record { program = program; input = input; schedule = schedule }

pub returns-in-Err-Memory : goal.returns-in-Err-Memory
returns-in-Err-Memory g c =
    let told = g.S.Store.told c.args.store.now in
    let program = told c.args.program.now in
    let input = told c.args.input.now in
    let schedule = told c.args.schedule.now in
    ended_memory (with_files (unread program) (unread input) (unread schedule)) (unread_told program, unread_told input, unread_told schedule) _ _ _ _

pub returns-in-Err-Failed : goal.returns-in-Err-Failed
returns-in-Err-Failed g c =
    let told = g.S.Store.told c.args.store.now in
    let program = told c.args.program.now in
    let input = told c.args.input.now in
    let schedule = told c.args.schedule.now in
    ended_read (with_files (unread program) (unread input) (unread schedule)) (unread_told program, unread_told input, unread_told schedule) _ _ _ _ (inl (c.in-Err-Failed.ensures.cause.failed (ap Err c.in-Err-Failed.field-0-is)))

pub returns-in-Err-TooLong : goal.returns-in-Err-TooLong
returns-in-Err-TooLong g c =
    let told = g.S.Store.told c.args.store.now in
    let program = told c.args.program.now in
    let input = told c.args.input.now in
    let schedule = told c.args.schedule.now in
    let bytes = too_long (limit kind.Source) program in
    let files = with_files bytes (unread input) (unread schedule) in
    let long = too_long_long (limit kind.Source) program (rw c.limit.ensures at (c.in-Err-TooLong.ensures.long (ap Err c.in-Err-TooLong.field-0-is))) in
    let is : RunAnswers files (answer (refusal_text (Check (TooMany Source))) PROGRAM_REFUSED) = inl (source_too_long bytes long) in
    ended_said files (answer (refusal_text (Check (TooMany Source))) PROGRAM_REFUSED) _ _ _ _ _ _ _ (too_long_told (limit kind.Source) program, unread_told input, unread_told schedule) is (λ b other. one_run files _ b is other)
    (c.in-Err-TooLong.ensures.cause.kept (not_failed _ (ap Err c.in-Err-TooLong.field-0-is))) c.say_refused.ensures

pub returns-in-Ok : goal.returns-in-Ok
returns-in-Ok g c =
    let told = g.S.Store.told c.args.store.now c.args.program.now in
    let bytes = c.deref.result.now in
    let same = c.in-Ok.ensures.cause.kept (λ e. cc e) in
    let read : IsTold told bytes = subst (λ (b : List ℕ). IsTold told b) (sym c.deref.ensures.value) (whole_told c.limit.result _ _ c.in-Ok.ensures.whole) in
    ended_behind (λ (f : Files). f) _ _ _ _ _ _ _ _
    (λ f is. (subst (λ (b : List ℕ). IsTold told b) is.0 read, subst (λ o. IsTold o f.input) (c.in-Ok.ensures.told c.args.input.now) is.1, subst (λ o. IsTold o f.schedule) (c.in-Ok.ensures.told c.args.schedule.now) is.2))
    (λ f a is. is) (λ f a is b other. one_run f a b is other)
    (λ f failed. inr (failed.0, failed.1, failed_before c.args.input.now c.args.schedule.now f (g.S.Store.faults c.args.store.now) (g.S.Store.faults c.read_all.new.store) (g.S.Store.faults c.run_source.new.store) same failed.2)) same c.run_source.ensures
