-- What a run owes the sequential program and the memory.
use Rattle.std.specs.Prelude.{◌≡◌, ℕ, ◌+◌}
use Rattle.cdc_compile.specs.Compiled.{IsCompiledTo}
use Rattle.cdc_fabric.specs.declared.counts.Counts.{Counts}
use Rattle.cdc_input.specs.Records.{records_of}
use Rattle.cdc_prog.specs.declared.program.Marks.{Marks}
use Rattle.cdc_prog.specs.Meaning.{meaning}
use Rattle.cdc_prog.specs.Plain.{Program}
use Rattle.cdc_replay.specs.Direct.{direct_counts}
use Rattle.cdc_sched.specs.declared.header.Header.{Header}
use Rattle.cdc_code.specs.Template.{code_of}
use Rattle.cdc_machine.specs.Code.{run, IsMeant}
use Rattle.cdc_top.specs.Answer.{Files}
use Rattle.cdc_top.specs.Run.{told_in, events_in}
use Rattle.cdc_top.specs.Schedule.{IsSchedule}
use Rattle.cdc_top.specs.Sequential.{IsGoodInput}

-- the files of a run of which nothing is refused
pub record AreRun (files : Files) (p : Program) (marks : Marks) (h : Header) (at : ℕ) : Type 0 where
  pub compiled : IsCompiledTo files.program p marks
  pub good : IsGoodInput files.input
  pub schedule : IsSchedule files.schedule h at

-- For such files the output of the run is that of the sequential source on one memory: all of it, with the same end, where the machine ended, else a front of it.
abbrev pub MeansTheSource : Type 0
MeansTheSource = (files : Files) (p : Program) (marks : Marks) (h : Header) (at : ℕ) → AreRun files p marks h at → let records = records_of files.input in
    let code = code_of p marks in IsMeant p.texts (meaning p records) (run code records (events_in code records (told_in files.schedule h at) h)).machine

-- the reads that are counted as hits
abbrev pub hits : Counts → ℕ
hits c = c.ordinary + c.marked

-- The only scheme is memory without caches: no read of any processor is a hit, so none gives another value than memory's.
abbrev pub NoReadHits : Type 0
NoReadHits = (files : Files) (p : Program) (marks : Marks) (h : Header) (at q : ℕ) → AreRun files p marks h at → let records = records_of files.input in
    let code = code_of p marks in hits (direct_counts code records (events_in code records (told_in files.schedule h at) h) q) ≡ 0
