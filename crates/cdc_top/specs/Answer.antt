-- What the tool answers to the words of a command line: bytes and a status.
use Rattle.std.specs.Prelude.{◌≡◌, ◌≢◌, ℕ, ◌<◌, List, [], ◌∷◌, length, Option, Some, None, Ok, Err, codes, ◌⊎◌}
use Rattle.cdc_base.specs.Causes.{Rose}
use Rattle.cdc_base.specs.Outside.{grown}
use Rattle.cdc_compile.specs.declared.refusal.Refusal.{Refusal}
use Rattle.cdc_compile.specs.declared.refusal.Refusal.TheVariants.{Memory}
use Rattle.cdc_compile.specs.Source.{IsProgramOf}
use Rattle.cdc_compile.specs.Compiled.{IsCompiledTo}
use Rattle.cdc_compile.specs.Texts.{refusal_text}
use Rattle.cdc_prog.specs.declared.program.Marks.{Marks}
use Rattle.cdc_prog.specs.Plain.{Program}
use Rattle.cdc_prog.specs.Input.{Input}
use Rattle.cdc_prog.specs.Meaning.{meaning}
use Rattle.cdc_code.specs.declared.code.Code.{Code}
use Rattle.cdc_code.specs.Template.{code_of}
use Rattle.cdc_report.specs.Accepted.{accepted_text}
use Rattle.cdc_report.specs.Listing.{code_text}
use Rattle.cdc_report.specs.MarkLines.{marks_text}
use Rattle.cdc_text.specs.Texts.{joined, line}
use Rattle.cdc_text.specs.Pieces.{GrewByFront}
use Rattle.cdc_words.specs.Commands as w
use Rattle.cdc_top.specs.declared.source.Question.{Question}
use Rattle.cdc_top.specs.declared.source.Question.TheVariants.{Check, Marking, Listing}
use Rattle.cdc_sched.specs.declared.header.Header.{Header}
use Rattle.cdc_top.specs.Report.{Answer, answer}
use Rattle.cdc_top.specs.Run.{told_in, played}
use Rattle.cdc_top.specs.Schedule.{IsSchedule, IsBadSchedule, schedule_too_long, header_refused}
use Rattle.cdc_top.specs.Sequential.{InputIs, IsCarriedOut, IsGoodInput}
use Rattle.cdc_top.specs.Status.{IsFinished}
use Rattle.cdc_top.specs.declared.limits.TheConstants.{SCHEDULE_LIMIT}
use Rattle.cdc_top.specs.declared.status.TheConstants.{NO_COMMAND, PROGRAM_REFUSED, INPUT_REFUSED, READ_FAULT, WRITE_FAULT, OUT_OF_MEMORY, DONE}

-- what is carried out for the words of a command line
pub data Command : Type 0 where
  Run : (program input schedule : List ℕ) → Command
  Ask : Question → (program : List ℕ) → Command
  Seq : (program input : List ℕ) → Command
  Usage : Command

-- by the line of the command table that they are, if they are one; `bench` is not built yet
abbrev pub built : Option w.Command → Command
built (Some (w.Run program input schedule)) = Run program input schedule
built (Some (w.Check program)) = Ask Check program
built (Some (w.Marks program)) = Ask Marking program
built (Some (w.Code program)) = Ask Listing program
built (Some (w.Seq program input)) = Seq program input
built words = Usage

abbrev pub command_of : List (List ℕ) → Command
command_of words = built (w.command_of words)

abbrev pub usage_text : List ℕ
usage_text = joined (
    line (codes "usage: cdcc run PROG INPUT SCHED" ∷ []) ∷ line (codes "       cdcc check PROG" ∷ []) ∷ line (codes "       cdcc marks PROG" ∷ [])
    ∷ line (codes "       cdcc code PROG" ∷ []) ∷ line (codes "       cdcc seq PROG INPUT" ∷ []) ∷ line (codes "       cdcc bench N" ∷ []) ∷ [])

-- the bytes of the files that a command reads, each as it was read
pub record Files : Type 0 where
  pub program : List ℕ
  pub input : List ℕ
  pub schedule : List ℕ

-- what is answered where code is run on the records as the schedule says
abbrev pub ran : Code → Input → (schedule : List ℕ) → Header → (at : ℕ) → Answer
ran code records schedule h at = played code records (told_in schedule h at) h

-- the schedule is too long, a line of its header is refused, or the code is run
abbrev pub ScheduleAnswers : Code → (schedule : List ℕ) → Input → Answer → Type 0
ScheduleAnswers code schedule records a =
    ((SCHEDULE_LIMIT < length schedule) × (a ≡ schedule_too_long))
    ⊎ (((number : ℕ) × IsBadSchedule schedule number × (a ≡ header_refused number))
    ⊎ ((h : Header) × (at : ℕ) × IsSchedule schedule h at × (a ≡ ran code records schedule h at)))

-- the first refusal of the program is answered; want of memory is no refusal
abbrev pub IsRefusedWith : List ℕ → Answer → Type 0
IsRefusedWith source a = (refusal : Refusal) × (refusal ≢ Memory) × IsProgramOf source (Err refusal) × (a ≡ answer (refusal_text refusal) PROGRAM_REFUSED)

-- or that it is accepted, with its numbers
abbrev pub CheckAnswers : List ℕ → Answer → Type 0
CheckAnswers source a = IsRefusedWith source a ⊎ ((program : Program) × IsProgramOf source (Ok program) × (a ≡ answer (accepted_text program) DONE))

-- or a text on its program and its marks is written
abbrev pub TextAnswers : (text : Program → Marks → List ℕ) → List ℕ → Answer → Type 0
TextAnswers text source a = IsRefusedWith source a ⊎ ((program : Program) × (marks : Marks) × IsCompiledTo source program marks × (a ≡ answer (text program marks) DONE))

-- the listing of the code with these marks
abbrev pub listing : Program → Marks → List ℕ
listing program marks = code_text program (code_of program marks)

abbrev pub SourceAnswers : Question → List ℕ → Answer → Type 0
SourceAnswers Check = CheckAnswers
SourceAnswers Marking = TextAnswers marks_text
SourceAnswers Listing = TextAnswers listing

-- or the input is refused, or what the program prints on its records is answered, with its end
abbrev pub SeqAnswers : List ℕ → List ℕ → Answer → Type 0
SeqAnswers source input a = IsRefusedWith source a ⊎ ((program : Program) × IsProgramOf source (Ok program) × InputIs (IsCarriedOut (meaning program)) input a)

-- or the input or the schedule is refused, or the program is run
abbrev pub RunAnswers : Files → Answer → Type 0
RunAnswers files a =
    IsRefusedWith files.program a
    ⊎ ((program : Program) × (marks : Marks) × IsCompiledTo files.program program marks × InputIs (ScheduleAnswers (code_of program marks) files.schedule) files.input a)

-- the answer to a command over the bytes of its files
abbrev pub Answers : Command → Files → Answer → Type 0
Answers (Run program input schedule) files a = RunAnswers files a
Answers (Ask question program) files a = SourceAnswers question files.program a
Answers (Seq program input) files a = SeqAnswers files.program files.input a
Answers Usage files a = a ≡ answer usage_text NO_COMMAND

-- the bytes of a file, where they are told, are these
abbrev pub IsTold : Option (List ℕ) → List ℕ → Type 0
IsTold None bytes = Unit {0}
IsTold (Some told) bytes = bytes ≡ told

-- the files of a command have the bytes that the store tells, where it tells them
abbrev pub AreTold : Command → (List ℕ → Option (List ℕ)) → Files → Type 0
AreTold (Run program input schedule) told files = IsTold (told program) files.program × IsTold (told input) files.input × IsTold (told schedule) files.schedule
AreTold (Ask question program) told files = IsTold (told program) files.program
AreTold (Seq program input) told files = IsTold (told program) files.program × IsTold (told input) files.input
AreTold Usage told files = Unit {0}

-- a file's count rose, and nothing before its reading is refused
abbrev pub InputFailed : List ℕ → List ℕ → Files → (List ℕ → ℕ) → (List ℕ → ℕ) → Type 0
InputFailed input schedule files before now = Rose (before input) (now input) ⊎ (IsGoodInput files.input × Rose (before schedule) (now schedule))

abbrev pub ReadFailed : Command → Files → (List ℕ → ℕ) → (List ℕ → ℕ) → Type 0
ReadFailed (Run program input schedule) files before now =
    Rose (before program) (now program) ⊎ ((accepted : Program) × IsProgramOf files.program (Ok accepted) × InputFailed input schedule files before now)
ReadFailed (Ask question program) files before now = Rose (before program) (now program)
ReadFailed (Seq program input) files before now =
    Rose (before program) (now program) ⊎ ((accepted : Program) × IsProgramOf files.program (Ok accepted) × Rose (before input) (now input))
ReadFailed Usage files before now = ⊥

-- there is no other answer
abbrev pub Only : (Files → Answer → Type 0) → Files → Answer → Type 0
Only answers files a = (b : Answer) → answers files b → b ≡ a

-- How a call ended, by what files it may have read, what their answers are, which is the only one and when a reading of them fails.
pub record Ended (are_told : Files → Type 0) (answers only : Files → Answer → Type 0) (failed : Files → Type 0) (status : ℕ) (old new : Option (List ℕ)) (before now : List ℕ → ℕ) (sink_before sink_now : ℕ) : Type 0 where
  pub files : Files
  pub told : are_told files
  -- the status is the answer's, and the sink grew by the answer's bytes
  pub whole : IsFinished status → (a : Answer) × answers files a × only files a × (status ≡ a.status) × (new ≡ grown old a.bytes)
  -- a fault of the sink leaves a front of the answer's bytes
  pub part : status ≡ WRITE_FAULT → (a : Answer) × answers files a × GrewByFront old new a.bytes
  -- a fault of a file and want of memory leave nothing
  pub nothing : (status ≡ READ_FAULT) ⊎ (status ≡ OUT_OF_MEMORY) → new ≡ old
  pub read_fault : status ≡ READ_FAULT → failed files
  pub write_fault : status ≡ WRITE_FAULT → Rose sink_before sink_now
  -- no fault is passed over
  pub quiet : IsFinished status → ((name : List ℕ) → now name ≡ before name) × (sink_now ≡ sink_before)

-- the same of a step of a command, where the answer is not said to be the only one
abbrev pub StepEnded : (are_told : Files → Type 0) (answers : Files → Answer → Type 0) (failed : Files → Type 0) → ℕ → Option (List ℕ) → Option (List ℕ) → (List ℕ → ℕ) → (List ℕ → ℕ) → ℕ → ℕ → Type 0
StepEnded are_told answers failed status old new before now sink_before sink_now = Ended are_told answers answers failed status old new before now sink_before sink_now

-- how a call of the tool ended
abbrev pub ToolEnded : Command → (List ℕ → Option (List ℕ)) → ℕ → Option (List ℕ) → Option (List ℕ) → (List ℕ → ℕ) → (List ℕ → ℕ) → ℕ → ℕ → Type 0
ToolEnded command told status old new before now sink_before sink_now =
    Ended (AreTold command told) (Answers command) (Only (Answers command)) (λ files. ReadFailed command files before now) status old new before now sink_before sink_now

-- an answer was written whole, or a front of it where the sink failed, or nothing for want of memory
pub record Said (a : Answer) (status : ℕ) (old new : Option (List ℕ)) (before now : ℕ) : Type 0 where
  pub whole : IsFinished status → (status ≡ a.status) × (new ≡ grown old a.bytes) × (now ≡ before)
  pub part : status ≡ WRITE_FAULT → GrewByFront old new a.bytes × Rose before now
  pub memory : status ≡ OUT_OF_MEMORY → new ≡ old
  pub reads : status ≢ READ_FAULT

-- one of the answers was said, or memory ran out and nothing was written
abbrev pub SaidOneOf : (Answer → Type 0) → ℕ → Option (List ℕ) → Option (List ℕ) → ℕ → ℕ → Type 0
SaidOneOf answers status old new before now =
    ((status ≡ OUT_OF_MEMORY) × (new ≡ old) × (now ≡ before)) ⊎ ((a : Answer) × answers a × Said a status old new before now)
