use Rattle.std.proofs.Common.{◌≢◌, refl, inl, inr, rules}
use Rattle.cdc_compile.specs.declared.refusal.Refusal.TheVariants.{Memory}
use Rattle.cdc_compile.specs.Texts.{refusal_text}
use Rattle.cdc_prog.specs.Translation.{program_of}
use Rattle.cdc_top.specs.Answer.{Files, IsRefusedWith}
use Rattle.cdc_top.specs.Report.{answer}
use Rattle.cdc_top.proofs.Ends.{with_input, ended_memory, ended_said, ended_behind, unread, unread_told}
use Rattle.cdc_top.specs.declared.status.TheConstants.{PROGRAM_REFUSED}
use Rattle.cdc_top.proofs.seq.seq_source.Goals as goal

pub returns-in-Err-Memory : goal.returns-in-Err-Memory
returns-in-Err-Memory g c = let told = g.S.Store.told c.args.store.now c.args.input.now in ended_memory (with_input (unread told)) (unread_told told) _ _ _ _

pub returns-in-Err : goal.returns-in-Err
returns-in-Err g c =
    let told = g.S.Store.told c.args.store.now c.args.input.now in
    let refusal = c.in-Err.refusal in
    let other : refusal ≢ Memory = search rules in
    let is : IsRefusedWith c.args.source.now (answer (refusal_text refusal) PROGRAM_REFUSED) = (refusal, other, c.in-Err.ensures.answer, refl) in
    ended_said (with_input (unread told)) (answer (refusal_text refusal) PROGRAM_REFUSED) _ _ _ _ _ _ _ (unread_told told) (inl is) (inl is) (λ name. refl) c.say_refused.ensures

pub returns-in-Ok : goal.returns-in-Ok
returns-in-Ok g c =
    let accepted = program_of c.in-Ok.program in
    let answer = c.in-Ok.ensures.answer in
    ended_behind (λ (f : Files). f) _ _ _ _ _ _ _ _ (λ f told. told) (λ f a is. inr (accepted, answer, is)) (λ f a is. inr (accepted, answer, is)) (λ f rose. (accepted, answer, rose)) (λ name. refl) c.seq_program.ensures
