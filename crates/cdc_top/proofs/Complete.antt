-- A call whose files are good is done, where no count rose and memory was there.
use Rattle.std.proofs.Common.{◌≡◌, ◌⊎◌, ℕ, zero, suc, ◌≤◌, List, length, refl, sym, ap, subst, ◌∙◌, arith, inl, inr}
use Rattle.std.specs.Prelude.{Option, Some, None, Ok}
use Rattle.cdc_code.specs.Template.{code_of}
use Rattle.cdc_compile.specs.Compiled.{IsCompiledTo}
use Rattle.cdc_prog.specs.declared.program.Marks.{Marks}
use Rattle.cdc_prog.specs.Plain.{Program}
use Rattle.cdc_top.specs.Answer.{Command, Run, Ask, Seq, Usage, Files, IsTold, AreTold, Answers, ScheduleAnswers, RunAnswers, SeqAnswers, CheckAnswers, TextAnswers, listing, ReadFailed, ToolEnded}
use Rattle.cdc_input.specs.Records.{records_of}
use Rattle.cdc_sched.specs.declared.header.Header.{Header}
use Rattle.cdc_sched.proofs.Same.{one_refusal}
use Rattle.cdc_top.specs.Complete.{AllTold, AreGood, HasProgram, AllStayed, IsRun, IsDone, Completes}
use Rattle.cdc_top.specs.Report.{Answer, status_of}
use Rattle.cdc_top.specs.Schedule.{IsSchedule}
use Rattle.cdc_top.specs.Sequential.{InputIs, IsGoodInput}
use Rattle.cdc_top.proofs.Laws.{ample_end}
use Rattle.cdc_top.specs.Status.{IsFinished}
use Rattle.cdc_top.specs.declared.source.Question.TheVariants.{Check, Marking, Listing}
use Rattle.cdc_report.specs.MarkLines.{marks_text}
use Rattle.cdc_compile.proofs.OneCode.{one_program}
use Rattle.cdc_top.proofs.One.{none_accepted}
use Rattle.cdc_top.specs.declared.status.TheConstants.{READ_FAULT, WRITE_FAULT, OUT_OF_MEMORY}

-- a status says that the call ended by itself, or why it did not
which : (n : ℕ) → IsFinished n ⊎ ((n ≡ READ_FAULT) ⊎ ((n ≡ WRITE_FAULT) ⊎ (n ≡ OUT_OF_MEMORY)))
which zero = inl (λ e. absurd (omega arith), λ e. absurd (omega arith), λ e. absurd (omega arith))
which (suc zero) = inl (λ e. absurd (omega arith), λ e. absurd (omega arith), λ e. absurd (omega arith))
which (suc (suc zero)) = inl (λ e. absurd (omega arith), λ e. absurd (omega arith), λ e. absurd (omega arith))
which (suc (suc (suc zero))) = inl (λ e. absurd (omega arith), λ e. absurd (omega arith), λ e. absurd (omega arith))
which (suc (suc (suc (suc zero)))) = inl (λ e. absurd (omega arith), λ e. absurd (omega arith), λ e. absurd (omega arith))
which (suc (suc (suc (suc (suc zero))))) = inr (inl refl)
which (suc (suc (suc (suc (suc (suc zero)))))) = inr (inr (inl refl))
which (suc (suc (suc (suc (suc (suc (suc zero))))))) = inr (inr (inr refl))
which (suc (suc (suc (suc (suc (suc (suc (suc n)))))))) = inl (λ e. absurd (omega arith), λ e. absurd (omega arith), λ e. absurd (omega arith))

-- the bytes that are told are those of the file
same_bytes : (o : Option (List ℕ)) (bytes read : List ℕ) → o ≡ Some bytes → IsTold o read → read ≡ bytes
same_bytes None bytes read is told = absurd (cc is)
same_bytes (Some held) bytes read is told = cc

-- no file's count rose, so none failed
none_failed : (command : Command) (files : Files) (before now : List ℕ → ℕ) → AllStayed command before now → ReadFailed command files before now → ⊥
none_failed (Run program input schedule) files before now stayed (inl rose) = stayed.0 rose
none_failed (Run program input schedule) files before now stayed (inr failed) = elim failed.2 [ inl rose ↦ stayed.1 rose | inr later ↦ stayed.2 later.1 ]
none_failed (Ask question program) files before now stayed failed = stayed failed
none_failed (Seq program input) files before now stayed (inl rose) = stayed.0 rose
none_failed (Seq program input) files before now stayed (inr failed) = stayed.1 failed.2
none_failed Usage files before now stayed failed = failed

-- ---- the answers over good files
-- the run of a schedule that is good
machine_done : (files : Files) (a : Answer) (p : Program) (m : Marks) → IsCompiledTo files.program p m → (h : Header) (at : ℕ) → IsSchedule files.schedule h at
    → InputIs (ScheduleAnswers (code_of p m) files.schedule) files.input a → IsGoodInput files.input → IsRun files a.status
machine_done files a p m is h at has (inl long) good = absurd (let within : length files.input ≤ 1048576 = good.within in omega (arith, long.0, within))
machine_done files a p m is h at has (inr (inl bad)) good = absurd (good.no_fault bad.0 bad.1.fails.0)
machine_done files a p m is h at has (inr (inr (fine, inl long))) good = absurd (let within : length files.schedule ≤ 16777216 = has.within in omega (arith, long.0, within))
machine_done files a p m is h at has (inr (inr (fine, inr (inl bad)))) good = absurd (one_refusal.not_both files.schedule h at bad.0 has.has bad.1.bad)
machine_done files a p m is h at has (inr (inr (fine, inr (inr (k, to, also, same))))) good = record {
  accepted = p;
  marks = m;
  compiled = is;
  header = k;
  at = to;
  is_schedule = also;
  status_is = ap (λ (b : Answer). b.status) same;
  ends = λ ample. ap (λ (b : Answer). b.status) same ∙ ap status_of (ample_end files.program p m is (records_of files.input) files.schedule k to also.has.front.limits.procs ample);
}

run_done : (files : Files) (a : Answer) (program input schedule : List ℕ) → AreGood (Run program input schedule) files → RunAnswers files a → IsDone (Run program input schedule) files a.status
run_done files a program input schedule good (inl refused) = absurd (none_accepted files.program a good.0.0 refused good.0.1)
run_done files a program input schedule good (inr (accepted, marks, is, answered)) = machine_done files a accepted marks is good.2.0 good.2.1 good.2.2 answered good.1

seq_done : (files : Files) (a : Answer) (program input : List ℕ) → AreGood (Seq program input) files → SeqAnswers files.program files.input a → IsDone (Seq program input) files a.status
seq_done files a program input good (inl refused) = absurd (none_accepted files.program a good.0.0 refused good.0.1)
seq_done files a program input good (inr (accepted, is, inl long)) = absurd (let within : length files.input ≤ 1048576 = good.1.within in omega (arith, long.0, within))
seq_done files a program input good (inr (accepted, is, inr (inl bad))) = absurd (good.1.no_fault bad.0 bad.1.fails.0)
seq_done files a program input good (inr (accepted, is, inr (inr fine))) = (accepted, is, ap (λ (b : Answer). b.status) fine.1)

check_done : (source : List ℕ) (a : Answer) → HasProgram source → CheckAnswers source a → a.status ≡ 0
check_done source a good (inl refused) = absurd (none_accepted source a good.0 refused good.1)
check_done source a good (inr accepted) = ap (λ (b : Answer). b.status) accepted.2

text_done : (text : Program → Marks → List ℕ) (source : List ℕ) (a : Answer) → HasProgram source → TextAnswers text source a → a.status ≡ 0
text_done text source a good (inl refused) = absurd (none_accepted source a good.0 refused good.1)
text_done text source a good (inr written) = ap (λ (b : Answer). b.status) written.3

-- ---- the files that were read are those that are told
answered : (command : Command) (told : List ℕ → Option (List ℕ)) (files read : Files) (a : Answer) → AllTold command told files → AreTold command told read → AreGood command files → Answers command read a → IsDone command files a.status
answered (Run program input schedule) told files read a all are good is =
    let p : read.program ≡ files.program = same_bytes (told program) files.program read.program all.0 are.0 in
    let i : read.input ≡ files.input = same_bytes (told input) files.input read.input all.1 are.1 in
    let s : read.schedule ≡ files.schedule = same_bytes (told schedule) files.schedule read.schedule all.2 are.2 in
    let same : read ≡ files = λ k. record { program = p k; input = i k; schedule = s k } in
    run_done files a program input schedule good (subst (λ (f : Files). RunAnswers f a) same is)
answered (Ask Check program) told files read a all are good is =
    check_done files.program a good (subst (λ (b : List ℕ). CheckAnswers b a) (same_bytes (told program) files.program read.program all are) is)
answered (Ask Marking program) told files read a all are good is =
    text_done marks_text files.program a good (subst (λ (b : List ℕ). TextAnswers marks_text b a) (same_bytes (told program) files.program read.program all are) is)
answered (Ask Listing program) told files read a all are good is =
    text_done listing files.program a good (subst (λ (b : List ℕ). TextAnswers listing b a) (same_bytes (told program) files.program read.program all are) is)
answered (Seq program input) told files read a all are good is =
    let p : read.program ≡ files.program = same_bytes (told program) files.program read.program all.0 are.0 in
    let i : read.input ≡ files.input = same_bytes (told input) files.input read.input all.1 are.1 in
    seq_done files a program input good (subst (λ (b : List ℕ). SeqAnswers files.program b a) i (subst (λ (b : List ℕ). SeqAnswers b read.input a) p is))
answered Usage told files read a all are good is = ap (λ (b : Answer). b.status) is

pub completes : (command : Command) (told : List ℕ → Option (List ℕ)) (status : ℕ) (old new : Option (List ℕ)) (before now : List ℕ → ℕ) (sink_before sink_now : ℕ)
    → ToolEnded command told status old new before now sink_before sink_now → Completes command told status before now sink_before sink_now
completes command told status old new before now sink_before sink_now ended files all good stayed quiet = elim (which status) [
  | inl finished ↦
      let w = ended.whole finished in inl (subst (IsDone command files) (sym w.3) (answered command told files ended.files w.0 all ended.told good w.1))
  | inr (inl five) ↦ absurd (none_failed command ended.files before now stayed (ended.read_fault five))
  | inr (inr (inl six)) ↦ absurd (quiet (ended.write_fault six))
  | inr (inr (inr seven)) ↦ inr seven
]
