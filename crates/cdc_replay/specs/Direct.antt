-- What a run on memory without caches counts, told by its events alone.
use Rattle.std.specs.Prelude.{◌≡◌, ℕ, ◌+◌, ◌<◌, List, [], ◌∷◌, ◌==◌, if◌then◌else◌, false}
use Rattle.cdc_prog.specs.Input.{Input}
use Rattle.cdc_code.specs.declared.code.Code.{Code}
use Rattle.cdc_code.specs.Rows.{act}
use Rattle.cdc_fabric.specs.Calls.{Call, Load, Store, Evict, Boundary}
use Rattle.cdc_fabric.specs.Counting.{no_counts, after_read, without_steps}
use Rattle.cdc_fabric.specs.UncachedSteps.{uncached_procs, uncached_counts}
use Rattle.cdc_fabric.specs.contracts.uncached.UncachedFabric.TheImpl.{ghosts}
use Rattle.cdc_fabric.specs.declared.counts.Access.TheVariants.{Miss}
use Rattle.cdc_fabric.specs.declared.counts.Counts.{Counts}
use Rattle.cdc_fabric.specs.declared.uncached.Uncached.{Uncached}
use Rattle.cdc_sched.specs.declared.event.Event.{Event}
use Rattle.cdc_machine.specs.Machine.{deed, told}
use Rattle.cdc_machine.specs.Code.{entry_of, exit_of, run}
use Rattle.cdc_epoch.specs.declared.engine.Engine.{Engine}
use Rattle.cdc_epoch.specs.Ties.{StandsFor, counts_of}
use Rattle.cdc_replay.specs.Effects.{idles}
use Rattle.cdc_replay.specs.Replays.{Led}

-- what the accesses of processor p are counted as: of these calls, the newest first, each load of p is a miss that drops nothing
abbrev pub counted : List Call → (p : ℕ) → Counts
counted [] p = no_counts
counted (Load q word mark ∷ calls) p = if q == p then after_read (Miss false) (counted calls p) else counted calls p
counted (Store q word value ∷ calls) p = counted calls p
counted (Evict q line ∷ calls) p = counted calls p
counted (Boundary written ∷ calls) p = counted calls p

-- the steps and the accesses of processor p in these events, the newest first
abbrev pub direct_counts : Code → Input → List Event → (p : ℕ) → Counts
direct_counts code records events p = let h = run code records events in record (counted h.calls p) { steps = h.machine.steps p }

-- how many of these events were idle, where no line is ever in a cache
abbrev pub idle_events : Code → Input → List Event → ℕ
idle_events code records [] = 0
idle_events code records (e ∷ events) =
    let m = (run code records events).machine in
    idle_events code records events + idles (told (act code) (entry_of code) (exit_of code) (deed e m) m false)

-- ---- the laws
-- nothing is counted of any processor
abbrev pub HasNoCounts : Uncached → Type 0
HasNoCounts memory = (p : ℕ) → p < uncached_procs memory → uncached_counts memory p ≡ no_counts

-- the memory counts what the calls of these events are counted as, and so many of the events were idle
pub record CountsDirectly (code : Code) (records : Input) (events : List Event) (start now : Uncached) (idle : ℕ) : Type 0 where
  pub procs : uncached_procs now ≡ uncached_procs start
  pub counts : (p : ℕ) → p < uncached_procs start → uncached_counts now p ≡ without_steps (counted (run code records events).calls p)
  pub idle_is : idle ≡ idle_events code records events

-- the events that led a memory from where nothing is counted tell what it counts
abbrev pub EventsTellCounts : Type 0
EventsTellCounts = (code : Code) (records : Input) (events : List Event) (start now : Uncached) (idle : ℕ)
    → HasNoCounts start → Led ghosts code records events start now idle → CountsDirectly code records events start now idle

-- and what an engine on it counts
abbrev pub EnginesCountDirectly : Type 0
EnginesCountDirectly = (engine : Engine Uncached ghosts) (code : Code) (records : Input) (events : List Event) (start : Uncached) (idle : ℕ)
    → engine.code ≡ code → engine.records.records ≡ records → HasNoCounts start → StandsFor ghosts engine events → Led ghosts code records events start engine.side idle
    → (p : ℕ) → p < uncached_procs start → counts_of ghosts engine p ≡ direct_counts code records events p
