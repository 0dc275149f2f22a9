-- The machine: processors that take the tasks of an epoch and carry them out, whatever a task is. Of memory it asks one call for an event at most.
use Rattle.std.specs.Prelude.{ℕ, nat_lt, ℤ, List, [], ◌∷◌, ◌++◌, Bool, Option, Some, None, ◌==◌, if◌then◌else◌}
use Rattle.cdc_base.specs.Numbers.{one_more}
use Rattle.cdc_prog.specs.declared.piece.Piece.{Piece}
use Rattle.cdc_prog.specs.declared.fault.Fault.{Fault}
use Rattle.cdc_prog.specs.InOrder.{End, Done, Faulted, first_of, choose}
use Rattle.cdc_code.specs.Act.{Act, Goes, Reads, Writes, Prints, Forks, Joins, Halts, Faults}
use Rattle.cdc_fabric.specs.Calls.{Call, Load, Store, Evict, Boundary}
use Rattle.cdc_sched.specs.declared.event.Event.{Event}
use Rattle.cdc_sched.specs.declared.event.Event.TheVariants as event
use Rattle.cdc_machine.specs.declared.effect.Effect.{Effect}
use Rattle.cdc_machine.specs.declared.effect.Effect.TheVariants as effect

-- ---- the state
-- a task that no processor has taken, that a processor holds, or that has ended on a processor at its last instruction
pub data TaskOf (T : Type 0) : Type 0 where
  Waiting : (at : T) → TaskOf T
  Running : (p : ℕ) → (at : T) → TaskOf T
  Ended : (p : ℕ) → (at : T) → TaskOf T

-- a serial epoch; the epoch of a DOALL, which has its number and the task that goes on after it; or the end
pub data PhaseOf (T : Type 0) : Type 0 where
  Serial : PhaseOf T
  Doall : (number : ℕ) → (next : T) → PhaseOf T
  Over : (end : End) → PhaseOf T

-- the tasks of the epoch below `count`, the instructions that each processor has carried out, the boundaries, and what was printed. Its memory is apart
pub record StateOf (T : Type 0) : Type 0 where
  pub phase : PhaseOf T
  pub count : ℕ
  pub tasks : ℕ → TaskOf T
  pub steps : ℕ → ℕ
  pub boundaries : ℕ
  pub printed : List Piece

-- the function with another value at one place
abbrev pub with_at : {A : Type 0} → (ℕ → A) → ℕ → A → ℕ → A
with_at f k a i = if i == k then a else f i

-- ---- what is enabled
abbrev pub held : {T : Type 0} → (p i : ℕ) → TaskOf T → Option (ℕ × T)
held p i (Running q at) = if q == p then Some (i, at) else None
held p i t = None

abbrev pub waiting : {T : Type 0} → (i : ℕ) → TaskOf T → Option (ℕ × T)
waiting i (Waiting at) = Some (i, at)
waiting i t = None

abbrev pub unended : {T : Type 0} → TaskOf T → Option (Unit {0})
unended (Ended p at) = None
unended t = Some tt

-- the task that p holds, by its number and where it stands
abbrev pub hand : {T : Type 0} → (p : ℕ) → StateOf T → Option (ℕ × T)
hand p m = first_of (λ k. held p k (m.tasks k)) m.count

-- task i, where it was not taken
abbrev pub free : {T : Type 0} → (i : ℕ) → StateOf T → Option (ℕ × T)
free i m = if nat_lt i m.count then waiting i (m.tasks i) else None

-- the least task that was not taken
abbrev pub least_free : {T : Type 0} → StateOf T → Option (ℕ × T)
least_free m = first_of (λ k. waiting k (m.tasks k)) m.count

-- what an event does: nothing; p takes task i; p carries out the next instruction of task i; the epoch is closed; a line is dropped from p's cache, where it is there
pub data DeedOf (T : Type 0) : Type 0 where
  Rests : DeedOf T
  Takes : (p i : ℕ) → (at : T) → DeedOf T
  Acts : (p i : ℕ) → (at : T) → DeedOf T
  Closes : DeedOf T
  Drops : (p line : ℕ) → DeedOf T

-- an epoch is complete when each of its tasks was taken and has ended
abbrev pub closing : {T : Type 0} → StateOf T → DeedOf T
closing m = choose (first_of (λ k. unended (m.tasks k)) m.count) (λ u. Rests) Closes

abbrev pub taking : {T : Type 0} → (p : ℕ) → ℕ × T → DeedOf T
taking p h = Takes p h.0 h.1

abbrev pub acting : {T : Type 0} → (p : ℕ) → ℕ × T → DeedOf T
acting p h = Acts p h.0 h.1

abbrev pub enabled : {T : Type 0} → Event → StateOf T → DeedOf T
enabled (event.Take p i) m = choose (hand p m) (λ h. Rests) (choose (free i m) (taking p) Rests)
enabled (event.Step p) m = choose (hand p m) (acting p) (closing m)
enabled (event.Next p) m = choose (hand p m) (acting p) (choose (least_free m) (taking p) (closing m))
enabled (event.Evict p line) m = Drops p line

abbrev pub unless_over : {T : Type 0} → PhaseOf T → DeedOf T → DeedOf T
unless_over (Over end) d = Rests
unless_over phase d = d

-- a machine that has ended does nothing more
abbrev pub deed : {T : Type 0} → Event → StateOf T → DeedOf T
deed e m = unless_over m.phase (enabled e m)

-- ---- what it does
-- a task after its act on a processor; one that does not go on has ended
abbrev pub task_after : {T : Type 0} → (v : ℤ) → (p : ℕ) → T → Act T → TaskOf T
task_after v p at (Goes next) = Running p next
task_after v p at (Reads path site mark word next) = Running p (next v)
task_after v p at (Writes path site word value next) = Running p next
task_after v p at (Prints piece next) = Running p next
task_after v p at a = Ended p at

abbrev pub said_by : {T : Type 0} → Act T → List Piece
said_by (Prints piece next) = piece ∷ []
said_by a = []

-- the end of a serial task by its halt or its fault ends the machine
abbrev pub phase_after : {T : Type 0} → PhaseOf T → Act T → PhaseOf T
phase_after Serial Halts = Over Done
phase_after Serial Joins = Over Done
phase_after Serial (Faults kind line) = Over (Faulted (record { kind = kind; line = line }))
phase_after phase a = phase

abbrev pub fault_by : {T : Type 0} → Act T → Option Fault
fault_by (Faults kind line) = Some (record { kind = kind; line = line })
fault_by a = None

abbrev pub taken : {T : Type 0} → (p i : ℕ) → T → StateOf T → StateOf T
taken p i at m = record m { tasks = with_at m.tasks i (Running p at) }

-- the next epoch has so many tasks, which nobody has taken
abbrev pub opened : {T : Type 0} → PhaseOf T → (count : ℕ) → (ℕ → T) → StateOf T → StateOf T
opened phase count begin m = record m { phase = phase; count = count; tasks = λ k. Waiting (begin k); boundaries = one_more m.boundaries }

abbrev pub stopped : {T : Type 0} → Fault → StateOf T → StateOf T
stopped f m = record m { phase = Over (Faulted f) }

-- `look` tells what a task does next, `entry` and `exit` which objects the epochs before and of a DOALL write
module _ {T : Type 0} (look : T → Act T) (entry exit : (number : ℕ) → List ℕ) where
  abbrev pub task_fault : TaskOf T → Option Fault
  task_fault (Ended p at) = fault_by (look at)
  task_fault t = None

  -- the fault of the least faulting task
  abbrev pub least_fault : StateOf T → Option Fault
  least_fault m = first_of (λ k. task_fault (m.tasks k)) m.count

  -- ---- the call on memory
  abbrev pub call_by : (p : ℕ) → Act T → Option Call
  call_by p (Reads path site mark word next) = Some (Load p word mark)
  call_by p (Writes path site word value next) = Some (Store p word value)
  call_by p a = None

  abbrev pub fork_call_by : Act T → Option Call
  fork_call_by (Forks path number count from by body next) = Some (Boundary (entry number))
  fork_call_by a = None

  abbrev pub fork_call : TaskOf T → Option Call
  fork_call (Ended p at) = fork_call_by (look at)
  fork_call t = None

  abbrev pub closing_call : PhaseOf T → StateOf T → Option Call
  closing_call Serial m = fork_call (m.tasks 0)
  closing_call (Doall number next) m = choose (least_fault m) (λ f. None) (Some (Boundary (exit number)))
  closing_call (Over end) m = None

  abbrev pub call : DeedOf T → StateOf T → Option Call
  call Rests m = None
  call (Takes p i at) m = None
  call (Acts p i at) m = call_by p (look at)
  call Closes m = closing_call m.phase m
  call (Drops p line) m = Some (Evict p line)

  -- ---- the state after it, where a load gave the value v
  -- p has carried out the instruction of task i, which stood at `at`
  abbrev pub acted : (v : ℤ) → (p i : ℕ) → T → Act T → StateOf T → StateOf T
  acted v p i at a m = record m {
    phase = phase_after m.phase a;
    tasks = with_at m.tasks i (task_after v p at a);
    steps = with_at m.steps p (one_more (m.steps p));
    printed = m.printed ++ said_by a;
  }

  abbrev pub forked_by : Act T → StateOf T → StateOf T
  forked_by (Forks path number count from by body next) m = opened (Doall number next) count body m
  forked_by a m = m

  abbrev pub forked : TaskOf T → StateOf T → StateOf T
  forked (Ended p at) m = forked_by (look at) m
  forked t m = m

  -- the epoch is closed: a serial one opens the DOALL that its task forked, a DOALL ends with its fault or opens the serial epoch after it
  abbrev pub closed : PhaseOf T → StateOf T → StateOf T
  closed Serial m = forked (m.tasks 0) m
  closed (Doall number next) m = choose (least_fault m) (λ f. stopped f m) (opened Serial 1 (λ k. next) m)
  closed (Over end) m = m

  abbrev pub done : (v : ℤ) → DeedOf T → StateOf T → StateOf T
  done v Rests m = m
  done v (Takes p i at) m = taken p i at m
  done v (Acts p i at) m = acted v p i at (look at) m
  done v Closes m = closed m.phase m
  done v (Drops p line) m = m

  -- ---- what is told of it
  abbrev pub act_effect : PhaseOf T → Act T → Effect
  act_effect phase (Prints piece next) = effect.Printed piece
  act_effect Serial Halts = effect.Ended
  act_effect Serial Joins = effect.Ended
  act_effect Serial (Faults kind line) = effect.Faulted kind line
  act_effect phase a = effect.Stepped

  abbrev pub closing_effect : PhaseOf T → StateOf T → Effect
  closing_effect (Doall number next) m = choose (least_fault m) (λ f. effect.Faulted f.kind f.line) effect.Boundary
  closing_effect phase m = effect.Boundary

  -- `there` tells whether a line that is to be dropped is in the cache
  abbrev pub told : DeedOf T → StateOf T → (there : Bool) → Effect
  told Rests m there = effect.Idle
  told (Takes p i at) m there = effect.Took
  told (Acts p i at) m there = act_effect m.phase (look at)
  told Closes m there = closing_effect m.phase m
  told (Drops p line) m there = if there then effect.Dropped else effect.Idle

-- epoch 0: one serial task that nobody has taken
abbrev pub begun : {T : Type 0} → T → StateOf T
begun main = record { phase = Serial; count = 1; tasks = λ k. Waiting main; steps = λ p. 0; boundaries = 0; printed = [] }
