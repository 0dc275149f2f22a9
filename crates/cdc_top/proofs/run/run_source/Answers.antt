use Rattle.std.proofs.Common.{◌≡◌, ◌≢◌, refl, inl, inr, subst, rules}
use Rattle.std.specs.Prelude.{List, ℕ}
use Rattle.cdc_compile.specs.declared.refusal.Refusal.TheVariants.{Memory}
use Rattle.cdc_compile.specs.Compiled.{IsCompiledTo}
use Rattle.cdc_compile.specs.Texts.{refusal_text}
use Rattle.cdc_compile.proofs.Coded.{sound_is_code}
use Rattle.cdc_code.specs.declared.code.Code.{Code}
use Rattle.cdc_code.specs.Template.{code_of}
use Rattle.cdc_prog.specs.Translation.{program_of}
use Rattle.cdc_top.specs.Answer.{Files, IsRefusedWith, RunAnswers, ScheduleAnswers}
use Rattle.cdc_top.specs.Report.{Answer, answer}
use Rattle.cdc_top.specs.Sequential.{InputIs}
use Rattle.cdc_top.proofs.Ends.{ended_memory, ended_said, ended_behind, unread, unread_told}
use Rattle.cdc_top.specs.declared.status.TheConstants.{PROGRAM_REFUSED}
use Rattle.cdc_top.proofs.run.run_source.Goals as goal

abbrev with_files : List ℕ → List ℕ → List ℕ → Files
with_files program input schedule = record { program = program; input = input; schedule = schedule }

pub returns-in-Err-Memory : goal.returns-in-Err-Memory
returns-in-Err-Memory g c =
    let input = g.S.Store.told c.args.store.now c.args.input.now in
    let schedule = g.S.Store.told c.args.store.now c.args.schedule.now in
    ended_memory (with_files c.args.source.now (unread input) (unread schedule)) (refl, unread_told input, unread_told schedule) _ _ _ _

pub returns-in-Err : goal.returns-in-Err
returns-in-Err g c =
    let input = g.S.Store.told c.args.store.now c.args.input.now in
    let schedule = g.S.Store.told c.args.store.now c.args.schedule.now in
    let refusal = c.in-Err.refusal in
    let other : refusal ≢ Memory = search rules in
    let is : IsRefusedWith c.args.source.now (answer (refusal_text refusal) PROGRAM_REFUSED) = (refusal, other, c.in-Err.ensures.answer, refl) in
    ended_said (with_files c.args.source.now (unread input) (unread schedule)) (answer (refusal_text refusal) PROGRAM_REFUSED) _ _ _ _ _ _ _ (refl, unread_told input, unread_told schedule) (inl is) (inl is) (λ name. refl) c.say_refused.ensures

pub run_compiled-requires : goal.run_compiled-requires
run_compiled-requires g c =
    let compiled = c.in-Ok.compiled in
    let p = program_of compiled.program in
    record {
      compiled = record {
        source = c.args.source.now;
        program = p;
        marks = compiled.marks;
        compiled = record { accepted = c.in-Ok.ensures.answer; marks_are = c.in-Ok.ensures.marks };
        code_is = sound_is_code p compiled.marks compiled.code c.in-Ok.ensures.sound;
      };
    }

pub returns-in-Ok : goal.returns-in-Ok
returns-in-Ok g c =
    let compiled = c.in-Ok.compiled in
    let p = program_of compiled.program in
    let marks = compiled.marks in
    let answer = c.in-Ok.ensures.answer in
    let is : IsCompiledTo c.args.source.now p marks = record { accepted = answer; marks_are = c.in-Ok.ensures.marks } in
    let same : compiled.code ≡ code_of p marks = sound_is_code p marks compiled.code c.in-Ok.ensures.sound in
    let wide = λ (f : Files). with_files c.args.source.now f.input f.schedule in
    let answered : (f : Files) (a : Answer) → InputIs (ScheduleAnswers compiled.code f.schedule) f.input a → RunAnswers (wide f) a =
    λ f a is_answer. inr (p, marks, is, subst (λ (k : Code). InputIs (ScheduleAnswers k f.schedule) f.input a) same is_answer) in
    ended_behind wide _ _ _ _ _ _ _ _
    (λ f told. (refl, told.0, told.1)) answered answered (λ f failed. (p, answer, failed)) (λ name. refl) c.run_compiled.ensures
