-- `check`, `seq` and `run` have one answer, as a source has.
use Rattle.std.proofs.Common.{◌≡◌, ◌≢◌, ℕ, ◌≤◌, List, length, sym, ◌∙◌, ap, ap₂, subst, arith, inl, inr, Result, Ok, Err, Option, Some, None}
use Rattle.cdc_base.specs.declared.place.Place.{Place}
use Rattle.cdc_compile.specs.declared.refusal.Refusal.{Refusal}
use Rattle.cdc_compile.specs.declared.refusal.Refusal.TheVariants.{Memory}
use Rattle.cdc_compile.specs.Source.{IsProgramOf}
use Rattle.cdc_compile.specs.Texts.{refusal_text}
use Rattle.cdc_compile.proofs.OneAnswer.{one_answer}
use Rattle.cdc_compile.proofs.OneCode.{one_program, compiled_once}
use Rattle.cdc_input.specs.Refusals.{IsNotAfter}
use Rattle.cdc_prog.specs.declared.program.Marks.{Marks}
use Rattle.cdc_prog.specs.Plain.{Program}
use Rattle.cdc_code.specs.declared.code.Code.{Code}
use Rattle.cdc_code.specs.Template.{code_of}
use Rattle.cdc_prog.specs.Input.{Input}
use Rattle.cdc_prog.specs.Meaning.{meaning}
use Rattle.cdc_input.specs.Records.{records_of}
use Rattle.cdc_sched.specs.declared.header.Header.{Header}
use Rattle.cdc_sched.specs.Told.{Told}
use Rattle.cdc_sched.proofs.Same.{one_header, one_refusal as one_bad_line}
use Rattle.cdc_top.specs.Run.{told_in, played}
use Rattle.cdc_top.specs.Schedule.{IsSchedule, header_refused}
use Rattle.cdc_top.specs.Answer.{Files, IsRefusedWith, CheckAnswers, TextAnswers, listing, SourceAnswers, SeqAnswers, ScheduleAnswers, RunAnswers, ran}
use Rattle.cdc_report.specs.Accepted.{accepted_text}
use Rattle.cdc_report.specs.MarkLines.{marks_text}
use Rattle.cdc_top.specs.declared.source.Question.{Question}
use Rattle.cdc_top.specs.declared.source.Question.TheVariants.{Check, Marking, Listing}
use Rattle.cdc_top.specs.Report.{Answer, answer}
use Rattle.cdc_top.specs.Sequential.{InputIs, IsCarriedOut, IsBadInput, input_bad}
use Rattle.cdc_top.specs.declared.status.TheConstants.{PROGRAM_REFUSED}

abbrev Ends : Type 0
Ends = Result Program Refusal

abbrev refused : Refusal → Ends
refused r = Err r

abbrev accepts : Program → Ends
accepts p = Ok p

not_memory : (r : Refusal) → r ≢ Memory → refused r ≢ refused Memory
not_memory r other is = other cc

-- a source that is refused is refused so alone
one_refusal : (source : List ℕ) (a b : Answer) → IsRefusedWith source a → IsRefusedWith source b → b ≡ a
one_refusal source a b (r, other, is, text) (s, unlike, same, words) =
    let e : refused r ≡ refused s = one_answer source (refused r) (refused s) is same (not_memory r other) (not_memory s unlike) in
    let f : r ≡ s = cc in
    words ∙ ap (λ (t : Refusal). answer (refusal_text t) PROGRAM_REFUSED) (sym f) ∙ sym text

-- and is not accepted
pub none_accepted : (source : List ℕ) (a : Answer) (program : Program) → IsRefusedWith source a → IsProgramOf source (Ok program) → ⊥
none_accepted source a program (r, other, is, text) accepted =
    let e : refused r ≡ accepts program = one_answer source (refused r) (accepts program) is accepted (not_memory r other) (λ e. cc e) in cc e

pub one_check : (source : List ℕ) (a b : Answer) → CheckAnswers source a → CheckAnswers source b → b ≡ a
one_check source a b (inl refused) (inl other) = one_refusal source a b refused other
one_check source a b (inl refused) (inr (q, is, text)) = absurd (none_accepted source a q refused is)
one_check source a b (inr (p, is, text)) (inl other) = absurd (none_accepted source b p other is)
one_check source a b (inr (p, is, text)) (inr (q, same, words)) = words ∙ ap (λ (r : Program). answer (accepted_text r) 0) (one_program source q p same is) ∙ sym text

one_text : (text : Program → Marks → List ℕ) (source : List ℕ) (a b : Answer) → TextAnswers text source a → TextAnswers text source b → b ≡ a
one_text text source a b (inl refused) (inl other) = one_refusal source a b refused other
one_text text source a b (inl refused) (inr (q, n, is, same)) = absurd (none_accepted source a q refused is.accepted)
one_text text source a b (inr (p, m, is, same)) (inl other) = absurd (none_accepted source b p other is.accepted)
one_text text source a b (inr (p, m, is, same)) (inr (q, n, also, words)) =
    let one = compiled_once source q p n m also is in words ∙ ap₂ (λ (r : Program) (k : Marks). answer (text r k) 0) one.0 one.1 ∙ sym same

-- a source has one answer to a question
pub one_source : (question : Question) (source : List ℕ) (a b : Answer) → SourceAnswers question source a → SourceAnswers question source b → b ≡ a
one_source Check = one_check
one_source Marking = one_text marks_text
one_source Listing = one_text listing

-- two least places are one
one_place : (p q : Place) → IsNotAfter p q → IsNotAfter q p → p ≡ q
one_place p q a b =
    let l : p.line ≡ q.line = grind (arith, a, b) in
    let c : p.column ≡ q.column = grind (arith, a, b) in λ k. record { line = l k; column = c k }

one_bad : (bytes : List ℕ) (p q : Place) → IsBadInput bytes p → IsBadInput bytes q → p ≡ q
one_bad bytes p q a b = one_place p q (a.fails.1 q b.fails.0) (b.fails.1 p a.fails.0)

-- a good input has no fault, and one over its limit is neither good nor bad
pub one_input : (answers : Input → Answer → Type 0) (bytes : List ℕ) (a b : Answer) → (answers (records_of bytes) a → answers (records_of bytes) b → b ≡ a) → InputIs answers bytes a → InputIs answers bytes b → b ≡ a
one_input answers bytes a b one (inl (long, is)) (inl (more, same)) = same ∙ sym is
one_input answers bytes a b one (inl (long, is)) (inr (inl (q, bad, same))) = absurd (let w : length bytes ≤ 1048576 = bad.within in omega (arith, long, w))
one_input answers bytes a b one (inl (long, is)) (inr (inr (good, same))) = absurd (let w : length bytes ≤ 1048576 = good.within in omega (arith, long, w))
one_input answers bytes a b one (inr (inl (p, bad, is))) (inl (more, same)) = absurd (let w : length bytes ≤ 1048576 = bad.within in omega (arith, more, w))
one_input answers bytes a b one (inr (inl (p, bad, is))) (inr (inl (q, worse, same))) = same ∙ ap input_bad (one_bad bytes q p worse bad) ∙ sym is
one_input answers bytes a b one (inr (inl (p, bad, is))) (inr (inr (good, same))) = absurd (good.no_fault p bad.fails.0)
one_input answers bytes a b one (inr (inr (good, is))) (inl (more, same)) = absurd (let w : length bytes ≤ 1048576 = good.within in omega (arith, more, w))
one_input answers bytes a b one (inr (inr (good, is))) (inr (inl (q, bad, same))) = absurd (good.no_fault q bad.fails.0)
one_input answers bytes a b one (inr (inr (good, is))) (inr (inr (fine, same))) = one is same

pub one_seq : (source input : List ℕ) (a b : Answer) → SeqAnswers source input a → SeqAnswers source input b → b ≡ a
one_seq source input a b (inl refused) (inl other) = one_refusal source a b refused other
one_seq source input a b (inl refused) (inr (q, is, text)) = absurd (none_accepted source a q refused is)
one_seq source input a b (inr (p, is, answered)) (inl other) = absurd (none_accepted source b p other is)
one_seq source input a b (inr (p, is, answered)) (inr (q, same, words)) =
    one_input (IsCarriedOut (meaning p)) input a b (λ one other. other ∙ sym one) answered (subst (λ (r : Program). InputIs (IsCarriedOut (meaning r)) input b) (one_program source q p same is) words)

-- a schedule has one header, and one list of events behind it
one_ran : (code : Code) (records : Input) (schedule : List ℕ) (h k : Header) (at to : ℕ) → IsSchedule schedule h at → IsSchedule schedule k to → ran code records schedule k to ≡ ran code records schedule h at
one_ran code records schedule h k at to is also =
    let one = one_header schedule k h to at also.has is.has in
    let told : told_in schedule k to ≡ told_in schedule k at = λ i. record { events = one.events k.procs i; bad = one.bad k.procs i } in
    ap (λ (t : Told). played code records t k) told ∙ ap (λ (l : Header). ran code records schedule l at) one.header

one_schedule : (code : Code) (schedule : List ℕ) (records : Input) (a b : Answer) → ScheduleAnswers code schedule records a → ScheduleAnswers code schedule records b → b ≡ a
one_schedule code schedule records a b (inl (long, is)) (inl (more, same)) = same ∙ sym is
one_schedule code schedule records a b (inl (long, is)) (inr (inl (n, bad, same))) = absurd (let w : length schedule ≤ 16777216 = bad.within in omega (arith, long, w))
one_schedule code schedule records a b (inl (long, is)) (inr (inr (h, at, has, same))) = absurd (let w : length schedule ≤ 16777216 = has.within in omega (arith, long, w))
one_schedule code schedule records a b (inr (inl (n, bad, is))) (inl (long, same)) = absurd (let w : length schedule ≤ 16777216 = bad.within in omega (arith, long, w))
one_schedule code schedule records a b (inr (inl (n, bad, is))) (inr (inl (m, worse, same))) = same ∙ ap header_refused (one_bad_line.one schedule m n worse.bad bad.bad) ∙ sym is
one_schedule code schedule records a b (inr (inl (n, bad, is))) (inr (inr (h, at, has, same))) = absurd (one_bad_line.not_both schedule h at n has.has bad.bad)
one_schedule code schedule records a b (inr (inr (h, at, has, is))) (inl (long, same)) = absurd (let w : length schedule ≤ 16777216 = has.within in omega (arith, long, w))
one_schedule code schedule records a b (inr (inr (h, at, has, is))) (inr (inl (n, bad, same))) = absurd (one_bad_line.not_both schedule h at n has.has bad.bad)
one_schedule code schedule records a b (inr (inr (h, at, has, is))) (inr (inr (k, to, also, same))) = same ∙ one_ran code records schedule h k at to has also ∙ sym is

pub one_run : (files : Files) (a b : Answer) → RunAnswers files a → RunAnswers files b → b ≡ a
one_run files a b (inl refused) (inl other) = one_refusal files.program a b refused other
one_run files a b (inl refused) (inr (q, n, is, text)) = absurd (none_accepted files.program a q refused is.accepted)
one_run files a b (inr (p, m, is, answered)) (inl other) = absurd (none_accepted files.program b p other is.accepted)
one_run files a b (inr (p, m, is, answered)) (inr (q, n, also, words)) =
    let one = compiled_once files.program q p n m also is in
    one_input (ScheduleAnswers (code_of p m) files.schedule) files.input a b (one_schedule (code_of p m) files.schedule (records_of files.input) a b) answered
    (subst (λ (k : Code). InputIs (ScheduleAnswers k files.schedule) files.input b) (ap₂ code_of one.0 one.1) words)

-- a refusal answers each question
pub refused_answers : (question : Question) (source : List ℕ) (a : Answer) → IsRefusedWith source a → SourceAnswers question source a
refused_answers Check source a refused = inl refused
refused_answers Marking source a refused = inl refused
refused_answers Listing source a refused = inl refused
