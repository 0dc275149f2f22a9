-- What the steps of a run take: the code of an accepted source, and a machine before its first event.
use Rattle.std.specs.Prelude.{◌≡◌, ℕ, List, []}
use Rattle.cdc_prog.specs.declared.program.Marks.{Marks}
use Rattle.cdc_prog.specs.Input.{Input}
use Rattle.cdc_prog.specs.Plain.{Program}
use Rattle.cdc_code.specs.declared.code.Code.{Code}
use Rattle.cdc_code.specs.Template.{code_of}
use Rattle.cdc_compile.specs.Compiled.{IsCompiledTo}
use Rattle.cdc_fabric.specs.UncachedSteps.{uncached_procs, uncached_words}
use Rattle.cdc_fabric.specs.contracts.uncached.UncachedFabric.TheImpl.{ghosts}
use Rattle.cdc_fabric.specs.declared.uncached.Uncached.{Uncached}
use Rattle.cdc_epoch.specs.declared.engine.Engine.{Engine}
use Rattle.cdc_epoch.specs.Ties.{StandsFor}
use Rattle.cdc_replay.specs.Direct.{HasNoCounts}
use Rattle.cdc_replay.specs.Replays.{CanReplay}

-- the code that a source is compiled to
pub record IsCompiledCode (code : Code) : Type 0 where
  pub source : List ℕ
  pub program : Program
  pub marks : Marks
  pub compiled : IsCompiledTo source program marks
  pub code_is : code ≡ code_of program marks

-- an engine on memory without caches, before its first event
pub record IsBegun (code : Code) (records : Input) (procs : ℕ) (engine : Engine Uncached ghosts) : Type 0 where
  pub code_is : engine.code ≡ code
  pub records_are : engine.records.records ≡ records
  pub procs_are : uncached_procs engine.side ≡ procs
  pub words_are : uncached_words engine.side ≡ code.words
  pub first : StandsFor ghosts engine []
  pub counts : HasNoCounts engine.side
  pub can : CanReplay ghosts engine
