-- Each reached task makes its accesses along a path.
use Rattle.std.proofs.Common.{ℕ, List, [], ◌∷◌, refl, sym, subst}
use Rattle.cdc_prog.specs.Plain.{Program}
use Rattle.cdc_prog.specs.Input.{Input}
use Rattle.cdc_prog.specs.Units.{process_of}
use Rattle.cdc_prog.specs.Resolved.{IsResolved}
use Rattle.cdc_path.specs.Courses.{IsPath}
use Rattle.cdc_prog.specs.Data.{Store, put, zeros}
use Rattle.cdc_prog.specs.Process.{Process, Load, Save, Say, Tick, Fork, Join, Halt, Fail}
use Rattle.cdc_prog.specs.Alone.{accesses, left, ending}
use Rattle.cdc_prog.specs.Apart.{Start, IsReached, First, After, IsReachedIteration}
use Rattle.cdc_path.specs.declared.point.Point.TheVariants.{Read, Write, Entry, Exit}
use Rattle.cdc_path.specs.PathExpr.{Visit}
use Rattle.cdc_path.specs.Marks.{visit}
use Rattle.cdc_along.specs.Along.{Begins, Along}
use Rattle.cdc_along.specs.Tasks.{passed, IsAtStart, GoesOn, LiesAlong}
use Rattle.cdc_along.specs.Programs.{HasTasksAlong}
use Rattle.cdc_along.proofs.Along.{begins, enters}
use Rattle.cdc_along.proofs.Trees.{program_along}

-- a task comes along a path to where it ends
pub comes : (Ends : List Visit → Type 0) (t : List Visit) (p : Process) (s : Store) → Along Ends t p s → Along Ends (passed (accesses p s) t) (ending p s) (left p s)
comes Ends t (Load path site word next) s h = comes Ends (visit path (Read site) ∷ t) (next (s word)) s h
comes Ends t (Save path site word v next) s h = comes Ends (visit path (Write site) ∷ t) next (put s word v) h
comes Ends t (Say piece next) s h = comes Ends t next s h
comes Ends t (Tick next) s h = comes Ends t next s h
comes Ends t (Fork path number count from by body next) s h = h
comes Ends t Join s h = h
comes Ends t Halt s h = h
comes Ends t (Fail kind line) s h = h

-- and lies along it, from where it starts to where it ends
pub lies_along : (Ends : List Visit → Type 0) (t : List Visit) (p : Process) (s : Store) → Along Ends t p s → LiesAlong Ends t p s
lies_along Ends t (Load path site word next) s h = lies_along Ends (visit path (Read site) ∷ t) (next (s word)) s h
lies_along Ends t (Save path site word v next) s h = lies_along Ends (visit path (Write site) ∷ t) next (put s word v) h
lies_along Ends t (Say piece next) s h = lies_along Ends t next s h
lies_along Ends t (Tick next) s h = lies_along Ends t next s h
lies_along Ends t (Fork path number count from by body next) s h = enters Ends t path number next s (h.0 s)
lies_along Ends t Join s h = h
lies_along Ends t Halt s h = h
lies_along Ends t (Fail kind line) s h = h

-- what ends so, ends otherwise, where the one is the other
otherwise : (Ends Other : List Visit → Type 0) → ((u : List Visit) → Ends u → Other u) → (last : Process) (t : List Visit) → GoesOn Ends last t → GoesOn Other last t
otherwise Ends Other f (Load path site word next) t h = f t h
otherwise Ends Other f (Save path site word v next) t h = f t h
otherwise Ends Other f (Say piece next) t h = f t h
otherwise Ends Other f (Tick next) t h = f t h
otherwise Ends Other f (Fork path number count from by body next) t (after, h) = (after, f _ h)
otherwise Ends Other f Join t h = f t h
otherwise Ends Other f Halt t h = f t h
otherwise Ends Other f (Fail kind line) t (after, h) = (after, f _ h)

-- ---- reached tasks
module _ (Ends : List Visit → Type 0) (main : Process) (h : (s : Store) → Along Ends [] main s) where
  -- a reached serial task goes along paths from points that end where it starts
  pub reached_along : (start : Start) (task : Process) → IsReached main start task → (t : List Visit) × IsAtStart start t × ((s : Store) → Along Ends t task s)
  reached_along start task First = ([], refl, h)
  reached_along start task (After before q s path number count from by body next reached forks) =
      let (t, at, along) = reached_along before q reached in
      let fork = subst (λ e. Along Ends (passed (accesses q s) t) e (left q s)) forks (comes Ends t q s (along s)) in
      let entered = visit path (Entry number) ∷ passed (accesses q s) t in
      (visit path (Exit number) ∷ entered, (entered, refl), fork.0)

  -- and so does a reached iteration, from the entry of its DOALL to what goes on along paths from the exit
  pub iteration_along : (path : List ℕ) (number k : ℕ) (task : Process) → IsReachedIteration main path number k task
      → (before : List Visit) × (next : Process) × ((s : Store) → Along (λ u. (r : Store) → Along Ends (visit path (Exit number) ∷ u) next r) (visit path (Entry number) ∷ before) task s)
  iteration_along path number k task i =
      let (t, at, along) = reached_along i.start i.task i.reached in
      let fork = subst (λ e. Along Ends (passed (accesses i.task i.store) t) e (left i.task i.store)) i.forks (comes Ends t i.task i.store (along i.store)) in
      (passed (accesses i.task i.store) t, i.next, λ s. subst (λ q. Along (λ u. (r : Store) → Along Ends (visit path (Exit number) ∷ u) i.next r) (visit path (Entry number) ∷ passed (accesses i.task i.store) t) q s) (sym i.is) (fork.1 k i.below s))

module _ (p : Program) (r : IsResolved p) where
  serial_tasks : (records : Input) (start : Start) (task : Process) (s : Store) → IsReached (process_of p records) start task → (t : List Visit) × IsAtStart start t × LiesAlong (IsPath p) t task s
  serial_tasks records start task s reached =
      let (t, at, along) = reached_along (IsPath p) (process_of p records) (λ u. program_along p records u r) start task reached in
      (t, at, lies_along (IsPath p) t task s (along s))

  iterations : (records : Input) (path : List ℕ) (number k : ℕ) (task : Process) (s : Store) → IsReachedIteration (process_of p records) path number k task
      → (before : List Visit) × LiesAlong (λ u. Begins (IsPath p) (visit path (Exit number) ∷ u)) (visit path (Entry number) ∷ before) task s
  iterations records path number k task s reached =
      let (before, next, along) = iteration_along (IsPath p) (process_of p records) (λ u. program_along p records u r) path number k task reached in
      let Left : List Visit → Type 0 = λ u. (m : Store) → Along (IsPath p) (visit path (Exit number) ∷ u) next m in
      let entered = visit path (Entry number) ∷ before in
      let Ends : List Visit → Type 0 = λ u. Begins (IsPath p) (visit path (Exit number) ∷ u) in
      (before, otherwise Left Ends (λ u h. begins (IsPath p) (visit path (Exit number) ∷ u) next zeros (h zeros)) (ending task s) (passed (accesses task s) entered) (lies_along Left entered task s (along s)))

  -- the tasks of a resolved program
  pub tasks_along : HasTasksAlong p
  tasks_along = record { serial = serial_tasks; iteration = iterations }
