-- What a program keeps to: its paths, the sections of its sites, and its covers.
use Rattle.std.specs.Prelude.{◌≡◌, ℕ, ◌≤◌, ℤ, List, [], ◌∷◌, ◌++◌}
use Rattle.cdc_prog.specs.Plain.{Program}
use Rattle.cdc_prog.specs.Data.{Store}
use Rattle.cdc_prog.specs.Input.{Input}
use Rattle.cdc_prog.specs.Process.{Process}
use Rattle.cdc_prog.specs.Units.{process_of}
use Rattle.cdc_prog.specs.Alone as alone
use Rattle.cdc_prog.specs.Alone.{Access, accesses}
use Rattle.cdc_prog.specs.Apart.{Touches, Start, IsReached, IsReachedIteration}
use Rattle.cdc_path.specs.declared.point.Point.TheVariants.{Entry, Exit}
use Rattle.cdc_path.specs.PathExpr.{Visit}
use Rattle.cdc_path.specs.Courses.{IsPath}
use Rattle.cdc_path.specs.Covers.{HasCover}
use Rattle.cdc_path.specs.Marks.{visit}
use Rattle.cdc_along.specs.Along.{Begins, Along}
use Rattle.cdc_along.specs.Tasks.{IsAtStart, LiesAlong}
use Rattle.cdc_along.specs.Sections.{LiesInSection, EachInOrder}

-- on every input and store the program goes along its own paths
abbrev pub GoesAlong : Program → Type 0
GoesAlong p = (records : Input) (s : Store) → Along (IsPath p) [] (process_of p records) s

-- each reached task makes its accesses along a path, alone on every store: a serial task from the beginning of the program or the exit of a DOALL to the entry of the next DOALL or the end of the path, an iteration from the entry of its DOALL to the exit
pub record HasTasksAlong (p : Program) : Type 0 where
  pub serial : (records : Input) (start : Start) (task : Process) (s : Store) → IsReached (process_of p records) start task → (t : List Visit) × IsAtStart start t × LiesAlong (IsPath p) t task s
  pub iteration : (records : Input) (path : List ℕ) (number k : ℕ) (task : Process) (s : Store) → IsReachedIteration (process_of p records) path number k task
      → (before : List Visit) × LiesAlong (λ u. Begins (IsPath p) (visit path (Exit number) ∷ u)) (visit path (Entry number) ∷ before) task s

-- in order on every store each access lies in the section of its site; and so does each access of the iterations of its forks, alone on the store on which the fork comes
abbrev pub KeepsSections : Program → Type 0
KeepsSections p = (records : Input) (s : Store) → EachInOrder (LiesInSection p) (process_of p records) s

-- in a reached task, alone on every store, a read whose site has a cover is of a word that this task has accessed before
pub record KeepsCovers (p : Program) : Type 0 where
  pub serial : (records : Input) (s : Store) (made rest : List Access) (path : List ℕ) (site w : ℕ) (v : ℤ)
      → (start : Start) (task : Process) → IsReached (process_of p records) start task
      → accesses task s ≡ made ++ (alone.Read path site w v ∷ rest) → 1 ≤ site → HasCover p site → Touches made w
  pub iteration : (records : Input) (s : Store) (made rest : List Access) (path : List ℕ) (site w : ℕ) (v : ℤ)
      → (at : List ℕ) (number k : ℕ) (task : Process) → IsReachedIteration (process_of p records) at number k task
      → accesses task s ≡ made ++ (alone.Read path site w v ∷ rest) → 1 ≤ site → HasCover p site → Touches made w
