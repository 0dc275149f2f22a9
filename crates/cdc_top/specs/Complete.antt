-- What a call promises where its files are told, nothing of them is refused and no count rose: the command is done, or memory ran out.
use Rattle.std.specs.Prelude.{◌≡◌, ◌⊎◌, ℕ, List, Option, Some, Ok}
use Rattle.cdc_base.specs.Causes.{Rose}
use Rattle.cdc_compile.specs.Compiled.{IsCompiledTo}
use Rattle.cdc_compile.specs.Source.{IsProgramOf}
use Rattle.cdc_input.specs.Records.{records_of}
use Rattle.cdc_prog.specs.declared.program.Marks.{Marks}
use Rattle.cdc_prog.specs.Meaning.{meaning}
use Rattle.cdc_prog.specs.Plain.{Program}
use Rattle.cdc_replay.specs.Refused.{end_of}
use Rattle.cdc_code.specs.Template.{code_of}
use Rattle.cdc_sched.specs.declared.header.Header.{Header}
use Rattle.cdc_top.specs.Answer.{Command, Run, Ask, Seq, Usage, Files, ran}
use Rattle.cdc_top.specs.Report.{status_of}
use Rattle.cdc_top.specs.Run.{IsAmpleFor, told_in}
use Rattle.cdc_top.specs.Schedule.{IsSchedule}
use Rattle.cdc_top.specs.Sequential.{IsGoodInput}
use Rattle.cdc_top.specs.declared.status.TheConstants.{DONE, NO_COMMAND, OUT_OF_MEMORY}

-- the store tells the bytes of each file of the command
abbrev pub AllTold : Command → (List ℕ → Option (List ℕ)) → Files → Type 0
AllTold (Run program input schedule) told files = (told program ≡ Some files.program) × (told input ≡ Some files.input) × (told schedule ≡ Some files.schedule)
AllTold (Ask question program) told files = told program ≡ Some files.program
AllTold (Seq program input) told files = (told program ≡ Some files.program) × (told input ≡ Some files.input)
AllTold Usage told files = Unit {0}

-- the source is accepted
abbrev pub HasProgram : List ℕ → Type 0
HasProgram source = (accepted : Program) × IsProgramOf source (Ok accepted)

-- nothing of the files is refused
abbrev pub AreGood : Command → Files → Type 0
AreGood (Run program input schedule) files = HasProgram files.program × IsGoodInput files.input × ((h : Header) × (at : ℕ) × IsSchedule files.schedule h at)
AreGood (Ask question program) files = HasProgram files.program
AreGood (Seq program input) files = HasProgram files.program × IsGoodInput files.input
AreGood Usage files = Unit {0}

-- a count that did not rise
abbrev pub Stayed : ℕ → ℕ → Type 0
Stayed before now = Rose before now → ⊥

-- the count of no file of the command rose
abbrev pub AllStayed : Command → (before now : List ℕ → ℕ) → Type 0
AllStayed (Run program input schedule) before now =
    Stayed (before program) (now program) × Stayed (before input) (now input) × Stayed (before schedule) (now schedule)
AllStayed (Ask question program) before now = Stayed (before program) (now program)
AllStayed (Seq program input) before now = Stayed (before program) (now program) × Stayed (before input) (now input)
AllStayed Usage before now = Unit {0}

-- the status is that of the run; where the schedule is ample for the program, it is that of the program on one memory
pub record IsRun (files : Files) (status : ℕ) : Type 0 where
  pub accepted : Program
  pub marks : Marks
  pub compiled : IsCompiledTo files.program accepted marks
  pub header : Header
  pub at : ℕ
  pub is_schedule : IsSchedule files.schedule header at
  pub status_is : status ≡ (ran (code_of accepted marks) (records_of files.input) files.schedule header at).status
  pub ends : IsAmpleFor accepted (records_of files.input) (told_in files.schedule header at) header → status ≡ status_of (end_of (meaning accepted (records_of files.input)).end)

-- the status says that the command is done: how the run or the program ended, or that the program is accepted or listed
abbrev pub IsDone : Command → Files → (status : ℕ) → Type 0
IsDone (Run program input schedule) files status = IsRun files status
IsDone (Ask question program) files status = status ≡ DONE
IsDone (Seq program input) files status =
    (accepted : Program) × IsProgramOf files.program (Ok accepted) × (status ≡ status_of (end_of (meaning accepted (records_of files.input)).end))
IsDone Usage files status = status ≡ NO_COMMAND

abbrev pub Completes : Command → (told : List ℕ → Option (List ℕ)) → (status : ℕ) → (before now : List ℕ → ℕ) → (sink_before sink_now : ℕ) → Type 0
Completes command told status before now sink_before sink_now =
    (files : Files) → AllTold command told files → AreGood command files → AllStayed command before now → Stayed sink_before sink_now → IsDone command files status ⊎ (status ≡ OUT_OF_MEMORY)
