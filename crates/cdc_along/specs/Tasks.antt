-- The accesses of a reached task, as points of a path.
use Rattle.std.specs.Prelude.{◌≡◌, List, [], ◌∷◌}
use Rattle.cdc_prog.specs.Data.{Store}
use Rattle.cdc_prog.specs.Process.{Process, Fork, Fail}
use Rattle.cdc_prog.specs.Alone as alone
use Rattle.cdc_prog.specs.Alone.{Access, accesses, ending}
use Rattle.cdc_prog.specs.Apart.{Start, AtBeginning, AtExit}
use Rattle.cdc_path.specs.declared.point.Point.TheVariants.{Read, Write, Entry, Exit}
use Rattle.cdc_path.specs.PathExpr.{Visit}
use Rattle.cdc_path.specs.Marks.{visit}
use Rattle.cdc_along.specs.Along.{Begins}

-- the points passed after t by accesses in order, the newest first
abbrev pub passed : List Access → (t : List Visit) → List Visit
passed [] t = t
passed (alone.Read path site word v ∷ rest) t = passed rest (visit path (Read site) ∷ t)
passed (alone.Write path site word v ∷ rest) t = passed rest (visit path (Write site) ∷ t)

-- what a serial task has passed as it starts: nothing, or points of which the exit of the DOALL is the last
abbrev pub IsAtStart : Start → List Visit → Type 0
IsAtStart AtBeginning t = t ≡ []
IsAtStart (AtExit path number) t = (before : List Visit) × (t ≡ visit path (Exit number) ∷ before)

-- where a task ends, the points that it has passed go on: with the entry of the DOALL that it forks, or somehow where it faults; and Ends holds of them where it halts or joins
abbrev pub GoesOn : (Ends : List Visit → Type 0) → (last : Process) → List Visit → Type 0
GoesOn Ends (Fork path number count from by body next) t = Begins Ends (visit path (Entry number) ∷ t)
GoesOn Ends (Fail kind line) t = Begins Ends t
GoesOn Ends last t = Ends t

-- a task that starts where t is passed makes its accesses, alone on a store, along a path that ends so
abbrev pub LiesAlong : (Ends : List Visit → Type 0) → (t : List Visit) → (task : Process) → Store → Type 0
LiesAlong Ends t task s = GoesOn Ends (ending task s) (passed (accesses task s) t)
