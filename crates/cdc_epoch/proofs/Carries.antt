-- An engine over a lawful memory side stands where its code and records lead, as long as its calls are in order.
use Rattle.std.proofs.Common.{◌≡◌, ℕ, ◌<◌, ℤ, List, ◌∷◌, Option, Some, None, refl, sym, ap, ap₂, subst, if◌then◌else◌, ◌==◌}
use Rattle.cdc_prog.specs.declared.program.Mark.{Mark}
use Rattle.cdc_prog.specs.Input.{Input}
use Rattle.cdc_code.specs.declared.code.Code.{Code}
use Rattle.cdc_code.specs.Act.{Act, Goes, Reads, Writes, Prints, Forks, Joins, Halts, Faults, Stuck}
use Rattle.cdc_code.specs.Frames.{Frame}
use Rattle.cdc_code.specs.Rows.{act}
use Rattle.cdc_fabric.specs.Calls.{Call, Load, Store, Evict, Boundary, last_store}
use Rattle.cdc_fabric.specs.Made.{IsWrittenList, IsInOrder}
use Rattle.cdc_fabric.specs.declared.fabric.Fabric.{Ghosts}
use Rattle.cdc_sched.specs.declared.event.Event.{Event}
use Rattle.cdc_machine.specs.declared.effect.Effect.{Effect}
use Rattle.cdc_machine.specs.Machine.{TaskOf, StateOf, DeedOf, Rests, Takes, Acts, Closes, Drops, task_after, call_by, call, acted, done, deed}
use Rattle.cdc_machine.specs.History.{HistoryOf, given, noted}
use Rattle.cdc_machine.specs.Code.{entry_of, exit_of, run}
use Rattle.cdc_epoch.specs.declared.engine.Engine.{Engine}
use Rattle.cdc_epoch.specs.Side.{Made, IsCallFor}
use Rattle.cdc_epoch.specs.Ties.{Ties, DoesDeed, StandsFor}

-- the laws that a memory side keeps
pub record IsLawful {F : Type 0} (side : Ghosts F) : Type 0 where
  pub load_right : (old new : F) (p word : ℕ) (mark : Mark) (value : ℤ) (calls : List Call) → p < side.procs old → word < side.words old
      → IsInOrder (side.plain old) (side.made old) (Load p word mark ∷ calls) → side.loads old p word mark value new → side.stands old calls → value ≡ last_store word calls
  pub load_carries : (old new : F) (p word : ℕ) (mark : Mark) (value : ℤ) (calls : List Call) → p < side.procs old → word < side.words old
      → IsInOrder (side.plain old) (side.made old) (Load p word mark ∷ calls) → side.loads old p word mark value new → side.stands old calls → side.stands new (Load p word mark ∷ calls)
  pub store_carries : (old new : F) (p word : ℕ) (value : ℤ) (calls : List Call) → p < side.procs old → word < side.words old
      → IsInOrder (side.plain old) (side.made old) (Store p word value ∷ calls) → side.stores old p word value new → side.stands old calls → side.stands new (Store p word value ∷ calls)
  pub evict_carries : (old new : F) (p line : ℕ) (calls : List Call) → p < side.procs old
      → IsInOrder (side.plain old) (side.made old) (Evict p line ∷ calls) → side.evicts old p line new → side.stands old calls → side.stands new (Evict p line ∷ calls)
  pub boundary_carries : (old new : F) (written : List ℕ) (calls : List Call) → IsWrittenList (side.made old) written
      → IsInOrder (side.plain old) (side.made old) (Boundary written ∷ calls) → side.bounds old written new → side.stands old calls → side.stands new (Boundary written ∷ calls)

-- v is what the call gives, where it is a load
abbrev GivesBoth : Option Call → (v w : ℤ) → Type 0
GivesBoth (Some (Load p word mark)) v w = v ≡ w
GivesBoth c v w = Unit {0}

module _ {T : Type 0} (look : T → Act T) (entry exit : ℕ → List ℕ) where
  task_same : (v w : ℤ) (p : ℕ) (at : T) (a : Act T) → GivesBoth (call_by look entry exit p a) v w → task_after v p at a ≡ task_after w p at a
  task_same v w p at (Goes g) h = refl
  task_same v w p at (Reads path site mark word next) h = ap (λ x. task_after x p at (Reads path site mark word next)) h
  task_same v w p at (Writes path site word value g) h = refl
  task_same v w p at (Prints piece g) h = refl
  task_same v w p at (Forks path number count from by body next) h = refl
  task_same v w p at Joins h = refl
  task_same v w p at Halts h = refl
  task_same v w p at (Faults kind line) h = refl
  task_same v w p at Stuck h = refl

  -- what is not loaded changes nothing
  done_same : (v w : ℤ) (d : DeedOf T) (m : StateOf T) → GivesBoth (call look entry exit d m) v w → done look entry exit v d m ≡ done look entry exit w d m
  done_same v w Rests m h = refl
  done_same v w (Takes p i at) m h = refl
  done_same v w (Acts p i at) m h = by_task (task_after v p at (look at)) (task_after w p at (look at)) (task_same v w p at (look at) h)
    where
      to : TaskOf T → StateOf T
      to t = record (acted look entry exit v p i at (look at) m) { tasks = λ j. if j == i then t else m.tasks j }

      by_task : (t u : TaskOf T) → t ≡ u → to t ≡ to u
      by_task t u e = ap to e
  done_same v w Closes m h = refl
  done_same v w (Drops p line) m h = refl

module _ {F : Type 0} (side : Ghosts F) (laws : IsLawful side) where
  -- one call
  call_carries : (c : Option Call) (calls : List Call) (old new : F) (v : ℤ) → IsCallFor side old c → IsInOrder (side.plain old) (side.made old) (noted c calls) → Made side c old v new → side.stands old calls
      → GivesBoth c v (given c calls) × side.stands new (noted c calls)
  call_carries None calls old new v fits order made stands = (tt, subst (λ f. side.stands f calls) (sym made) stands)
  call_carries (Some (Load p word mark)) calls old new v fits order made stands =
      (laws.load_right old new p word mark v calls fits.0 fits.1 order made stands, laws.load_carries old new p word mark v calls fits.0 fits.1 order made stands)
  call_carries (Some (Store p word value)) calls old new v fits order made stands = (tt, laws.store_carries old new p word value calls fits.0 fits.1 order made stands)
  call_carries (Some (Evict p line)) calls old new v fits order made stands = (tt, laws.evict_carries old new p line calls fits order made stands)
  call_carries (Some (Boundary written)) calls old new v fits order made stands = (tt, laws.boundary_carries old new written calls fits order made stands)

  -- one event
  pub event_carries : (e : Event) (events : List Event) (old new : Engine F side) (effect : Effect) →
      let h = run old.code old.records.records events in
      let d = deed e h.machine in
      let c = call (act old.code) (entry_of old.code) (exit_of old.code) d h.machine in
      StandsFor side old events → IsCallFor side old.side c → IsInOrder (side.plain old.side) (side.made old.side) (noted c h.calls) → DoesDeed side d h.machine old effect new → StandsFor side new (e ∷ events)
  event_carries e events old new effect stands fits order does =
      let h = run old.code old.records.records events in
      let d = deed e h.machine in
      let look = act old.code in
      let c = call look (entry_of old.code) (exit_of old.code) d h.machine in
      let one = call_carries c h.calls old.side new.side does.v fits order does.made stands.calls in
      let ties : Ties side new (run old.code old.records.records (e ∷ events)).machine =
      subst (Ties side new) (done_same look (entry_of old.code) (exit_of old.code) does.v (given c h.calls) d h.machine one.0) does.stands in
      let same : run old.code old.records.records (e ∷ events) ≡ run new.code new.records.records (e ∷ events) =
      ap₂ (λ (k : Code) (r : Input). run k r (e ∷ events)) (sym does.code) (ap (λ r. r.records) (sym does.records)) in
      record {
        ties = subst (λ (x : HistoryOf Frame). Ties side new x.machine) same ties;
        calls = subst (λ (x : HistoryOf Frame). side.stands new.side x.calls) same one.1;
      }
