-- What is true of the machine at each moment.
use Rattle.std.specs.Prelude.{◌≡◌, ℕ, zero, suc, ◌+◌, ◌*◌, ◌<◌, ◌≤◌, ℤ, List, ◌++◌}
use Rattle.cdc_prog.specs.declared.piece.Piece.{Piece}
use Rattle.cdc_prog.specs.declared.program.Mark.{Mark}
use Rattle.cdc_prog.specs.Data.{Store}
use Rattle.cdc_prog.specs.Process.{Process, Load, Save, Say, Tick, Fork, Join, Halt, Fail}
use Rattle.cdc_prog.specs.Alone.{Access, accesses, left, ending, ticks}
use Rattle.cdc_prog.specs.Apart.{Touches, Writes, StaysApart}
use Rattle.cdc_prog.specs.Bodies.{ComesOnlyTo}
use Rattle.cdc_prog.specs.InOrder.{End, output, ends, after, first_fault, choose}
use Rattle.cdc_prog.specs.Cost.{full_cost}
use Rattle.cdc_code.specs.Act.{Act, Forks}
use Rattle.cdc_machine.specs.Machine.{TaskOf, Waiting, Running, Ended, PhaseOf, Serial, Doall, Over}
use Rattle.cdc_machine.specs.History.{HistoryOf, memory}
use Rattle.cdc_machine.specs.Doing.{Stops}

-- the iterations of each fork print nothing, fork nothing, and do not halt
abbrev pub IterationsJoin : Process → Type 0
IterationsJoin (Load path site w next) = (v : ℤ) → IterationsJoin (next v)
IterationsJoin (Save path site w v next) = IterationsJoin next
IterationsJoin (Say piece next) = IterationsJoin next
IterationsJoin (Tick next) = IterationsJoin next
IterationsJoin (Fork path number count from by body next) = ((k : ℕ) → ComesOnlyTo ⊥ ⊥ ⊥ (body k)) × IterationsJoin next
IterationsJoin Join = Unit {0}
IterationsJoin Halt = Unit {0}
IterationsJoin (Fail kind line) = Unit {0}

-- what is left of process b, which began alone on the store s and has made these of its accesses there, is q; memory m has what b sees
pub record Halfway (b : Process) (s m : Store) (made : List Access) (q : Process) : Type 0 where
  pub view : Store
  pub prefix : accesses b s ≡ made ++ accesses q view
  pub leaves : left q view ≡ left b s
  pub ending : ending q view ≡ ending b s
  pub sees : (w : ℕ) → Touches (accesses b s) w → m w ≡ view w

-- out and last are the whole output and its end, of which q does in order on m what was not printed yet
pub record Continues (out : List Piece) (last : End) (m : Store) (printed : List Piece) (q : Process) : Type 0 where
  pub output : out ≡ printed ++ output q m
  pub ends : last ≡ ends q m
  pub apart : StaysApart q m
  pub join : IterationsJoin q

-- ---- what tasks cost
-- what a task has spent of the two that its end counts for: its taking, and its last act
abbrev pub paid : {T : Type 0} → TaskOf T → ℕ
paid (Waiting at) = 0
paid (Running p at) = 1
paid (Ended p at) = 2

abbrev pub sum_below : ℕ → (ℕ → ℕ) → ℕ
sum_below zero f = 0
sum_below (suc n) f = sum_below n f + f n

-- what is left to do when these iterations are done: nothing, where one faults
abbrev pub cost_after : (count : ℕ) → (ℕ → Process) → (next : Process) → Store → ℕ
cost_after count body next s = choose (first_fault count body s) (λ f. 0) (full_cost next (after count body s))

abbrev pub IsForking : {T : Type 0} → Act T → Type 0
IsForking (Forks path number count from by begin next) = Unit {0}
IsForking a = ⊥

module _ {T : Type 0} (look : T → Act T) (Does : (budget : ℕ) → Process → T → Type 0) (mark : (site : ℕ) → Mark) where
  -- a task stands where a process is left, which it does within the budget
  abbrev pub StandsWithin : (budget : ℕ) → TaskOf T → Process → Type 0
  StandsWithin b (Waiting at) q = Does b q at
  StandsWithin b (Running p at) q = Does b q at
  StandsWithin b (Ended p at) q = Stops Does mark b q (look at)

  abbrev pub StandsAt : TaskOf T → Process → Type 0
  StandsAt t q = (b : ℕ) × StandsWithin b t q

  -- it has not ended, or by a fork
  abbrev pub EndsForking : TaskOf T → Type 0
  EndsForking (Ended p at) = IsForking (look at)
  EndsForking t = Unit {0}

  -- the one task of a serial epoch began as the process b; so much was spent, of a total
  pub record InSerial (out : List Piece) (last : End) (total spent : ℕ) (b : Process) (h : HistoryOf T) : Type 0 where
    pub one : h.machine.count ≡ 1
    pub first : (budget : ℕ) × Does budget b (h.epoch.first 0)
    pub rest : Process
    pub stands : StandsAt (h.machine.tasks 0) rest
    pub prefix : accesses b (memory h.epoch.before) ≡ h.epoch.made 0 ++ accesses rest (memory h.calls)
    pub goes_on : Continues out last (memory h.calls) h.machine.printed rest
    pub forks : EndsForking (h.machine.tasks 0)
    pub within : spent + stands.0 + 8 * full_cost rest (memory h.calls) ≤ total + paid (h.machine.tasks 0)

  -- an iteration, which has this share for what is left of it
  pub record Iterating (b : Process) (s m : Store) (made : List Access) (share : ℕ) (t : TaskOf T) : Type 0 where
    pub rest : Process
    pub stands : StandsAt t rest
    pub only : ComesOnlyTo ⊥ ⊥ ⊥ rest
    pub halfway : Halfway b s m made rest
    pub within : stands.0 + 8 * ticks rest halfway.view ≤ share

  -- what a DOALL forked: the process after it
  pub record Forked (next : T) : Type 0 where
    pub path : List ℕ
    pub from : ℤ
    pub by : ℤ
    pub process : Process
    pub budget : ℕ
    pub does : Does budget process next

  -- the iterations of a DOALL began as the processes `body`
  pub record InDoall (out : List Piece) (last : End) (total spent : ℕ) (number : ℕ) (next : T) (body : ℕ → Process) (h : HistoryOf T) : Type 0 where
    pub first : (i : ℕ) → i < h.machine.count → (budget : ℕ) × Does budget (body i) (h.epoch.first i)
    pub after : Forked next
    pub goes_on : Continues out last (memory h.epoch.before) h.machine.printed (Fork after.path number h.machine.count after.from after.by body after.process)
    pub shares : ℕ → ℕ
    pub each : (i : ℕ) → i < h.machine.count → Iterating (body i) (memory h.epoch.before) (memory h.calls) (h.epoch.made i) (shares i) (h.machine.tasks i)
    pub others : (w : ℕ) → ((i : ℕ) → i < h.machine.count → Writes (accesses (body i) (memory h.epoch.before)) w → ⊥) → memory h.calls w ≡ memory h.epoch.before w
    pub within : let n = h.machine.count in spent + after.budget + 1 + 8 * cost_after n body after.process (memory h.epoch.before) + sum_below n shares ≤ total + sum_below n (λ i. paid (h.machine.tasks i))

  -- the tasks of the present epoch began as these processes
  abbrev pub StandsIn : List Piece → End → (total spent : ℕ) → (began : ℕ → Process) → PhaseOf T → HistoryOf T → Type 0
  StandsIn out last total spent began Serial h = InSerial out last total spent (began 0) h
  StandsIn out last total spent began (Doall number next) h = InDoall out last total spent number next began h
  StandsIn out last total spent began (Over end) h = (h.machine.printed ≡ out) × (end ≡ last) × (spent ≤ total)

  abbrev pub Stands : List Piece → End → (total spent : ℕ) → (began : ℕ → Process) → HistoryOf T → Type 0
  Stands out last total spent began h = StandsIn out last total spent began h.machine.phase h
