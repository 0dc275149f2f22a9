use Rattle.std.proofs.Common.{ap, subst, sym, [], Err, inl}
use Rattle.std.specs.Prelude.{List, ℕ}
use Rattle.cdc_compile.specs.declared.refusal.Refusal.TheVariants.{Check}
use Rattle.cdc_compile.specs.Texts.{refusal_text}
use Rattle.cdc_check.specs.declared.refusal.CheckRefusal.TheVariants.{TooMany}
use Rattle.cdc_prog.specs.declared.program.Kind.TheVariants.{Source}
use Rattle.cdc_top.specs.Answer.{Files, IsTold}
use Rattle.cdc_top.specs.Report.{answer}
use Rattle.cdc_top.proofs.Ends.{ended_memory, ended_read, ended_said, ended_one_of, unread, unread_told, too_long, too_long_told, too_long_long, whole_told, source_too_long}
use Rattle.cdc_top.proofs.One.{one_source, refused_answers}
use Rattle.cdc_prog.specs.Limits.{limit}
use Rattle.cdc_prog.specs.declared.program.Kind.TheVariants as kind
use Rattle.cdc_top.specs.declared.status.TheConstants.{PROGRAM_REFUSED}
use Rattle.cdc_top.proofs.source.ask_file.Goals as goal

abbrev with_program : List ℕ → Files
with_program program = record { program = program; input = []; schedule = [] }

pub returns-in-Err-Memory : goal.returns-in-Err-Memory
returns-in-Err-Memory g c = let told = g.S.Store.told c.args.store.now c.args.program.now in ended_memory (with_program (unread told)) (unread_told told) _ _ _ _

pub returns-in-Err-Failed : goal.returns-in-Err-Failed
returns-in-Err-Failed g c =
    let told = g.S.Store.told c.args.store.now c.args.program.now in
    ended_read (with_program (unread told)) (unread_told told) _ _ _ _ (c.in-Err-Failed.ensures.cause.failed (ap Err c.in-Err-Failed.field-0-is))

pub returns-in-Err-TooLong : goal.returns-in-Err-TooLong
returns-in-Err-TooLong g c =
    let told = g.S.Store.told c.args.store.now c.args.program.now in
    let bytes = too_long (limit kind.Source) told in
    let long = too_long_long (limit kind.Source) told (rw c.limit.ensures at (c.in-Err-TooLong.ensures.long (ap Err c.in-Err-TooLong.field-0-is))) in
    ended_said (with_program bytes) (answer (refusal_text (Check (TooMany Source))) PROGRAM_REFUSED) _ _ _ _ _ _ _ (too_long_told (limit kind.Source) told) (refused_answers c.args.question bytes _ (source_too_long bytes long)) (λ b is. one_source c.args.question bytes _ b (refused_answers c.args.question bytes _ (source_too_long bytes long)) is) (c.in-Err-TooLong.ensures.cause.kept (λ e. cc (e, c.in-Err-TooLong.field-0-is))) c.say_refused.ensures

pub returns-in-Ok : goal.returns-in-Ok
returns-in-Ok g c =
    let told = g.S.Store.told c.args.store.now c.args.program.now in
    let bytes = c.deref.result.now in
    let read : IsTold told bytes = subst (λ (b : List ℕ). IsTold told b) (sym c.deref.ensures.value) (whole_told c.limit.result _ _ c.in-Ok.ensures.whole) in
    ended_one_of (with_program bytes) _ _ _ _ _ _ _ read (λ a is b other. one_source c.args.question bytes a b is other) (c.in-Ok.ensures.cause.kept (λ e. cc e)) c.answer_source.ensures
