-- The machine whose loads give the last stored values: where it stands after a list of events, the calls that it has made on memory, and what its tasks have done in the present epoch.
use Rattle.std.specs.Prelude.{ℕ, suc, ℤ, pos, List, [], ◌∷◌, ◌++◌, Option, Some, None}
use Rattle.cdc_prog.specs.Data.{Store}
use Rattle.cdc_prog.specs.Alone.{Access, Read, Write}
use Rattle.cdc_code.specs.Act.{Act, Reads, Writes}
use Rattle.cdc_fabric.specs.Calls.{Call, Load, last_store}
use Rattle.cdc_sched.specs.declared.event.Event.{Event}
use Rattle.cdc_machine.specs.Machine.{TaskOf, Waiting, Running, Ended, StateOf, DeedOf, Rests, Acts, Closes, Drops, with_at, deed, call, done, begun}

-- what a word has, by the calls so far
abbrev pub memory : List Call → Store
memory calls word = last_store word calls

-- what a call gives
abbrev pub given : Option Call → List Call → ℤ
given (Some (Load p word mark)) calls = last_store word calls
given c calls = pos 0

abbrev pub noted : {A : Type 0} → Option A → List A → List A
noted None l = l
noted (Some a) l = a ∷ l

-- where the tasks of the present epoch began, the calls before it, and the accesses that each has made, in order
pub record EpochOf (T : Type 0) : Type 0 where
  pub first : ℕ → T
  pub before : List Call
  pub made : ℕ → List Access

pub record HistoryOf (T : Type 0) : Type 0 where
  pub machine : StateOf T
  pub calls : List Call
  pub epoch : EpochOf T

abbrev pub place : {T : Type 0} → TaskOf T → T
place (Waiting at) = at
place (Running p at) = at
place (Ended p at) = at

abbrev pub epoch_of : {T : Type 0} → StateOf T → List Call → EpochOf T
epoch_of m calls = record { first = λ i. place (m.tasks i); before = calls; made = λ i. [] }

-- a closing that calls for a boundary begins an epoch
abbrev pub epoch_by : {T : Type 0} → Option Call → StateOf T → List Call → EpochOf T → EpochOf T
epoch_by None m calls e = e
epoch_by (Some c) m calls e = epoch_of m calls

abbrev pub access_by : {T : Type 0} → (v : ℤ) → Act T → List Access
access_by v (Reads path site mark word next) = Read path site word v ∷ []
access_by v (Writes path site word value next) = Write path site word value ∷ []
access_by v a = []

-- a deed counts, other than a rest and a drop
abbrev pub counted : {T : Type 0} → DeedOf T → ℕ → ℕ
counted Rests n = n
counted (Drops p line) n = n
counted d n = suc n

module _ {T : Type 0} (look : T → Act T) (entry exit : (number : ℕ) → List ℕ) where
  -- the epoch after a deed that made this call and gave v, and led to a state with these calls
  abbrev pub epoch_after : (v : ℤ) → DeedOf T → Option Call → StateOf T → List Call → EpochOf T → EpochOf T
  epoch_after v (Acts p i at) c m calls e = record e { made = with_at e.made i (e.made i ++ access_by v (look at)) }
  epoch_after v Closes c m calls e = epoch_by c m calls e
  epoch_after v d c m calls e = e

  abbrev pub went : (v : ℤ) → DeedOf T → HistoryOf T → HistoryOf T
  went v d h =
      let m = done look entry exit v d h.machine in
      let c = call look entry exit d h.machine in
      let calls = noted c h.calls in
      record { machine = m; calls = calls; epoch = epoch_after v d c m calls h.epoch }

  abbrev pub on : Event → HistoryOf T → HistoryOf T
  on e h = let d = deed e h.machine in went (given (call look entry exit d h.machine) h.calls) d h

  -- after these events, the newest first, from one serial task on memory of zeros
  abbrev pub after : T → List Event → HistoryOf T
  after main [] = record { machine = begun main; calls = []; epoch = epoch_of (begun main) [] }
  after main (e ∷ events) = on e (after main events)

  -- how many of these events were enabled, other than drops
  abbrev pub spent : T → List Event → ℕ
  spent main [] = 0
  spent main (e ∷ events) = counted (deed e (after main events).machine) (spent main events)
