-- Processes that go along paths.
use Rattle.std.specs.Prelude.{ℕ, ◌<◌, List, ◌∷◌, ◌++◌}
use Rattle.cdc_prog.specs.Data.{Store, put}
use Rattle.cdc_prog.specs.Process.{Process, Load, Save, Say, Tick, Fork, Join, Halt, Fail}
use Rattle.cdc_path.specs.declared.point.Point.TheVariants.{Read, Write, Entry, Exit}
use Rattle.cdc_path.specs.PathExpr.{Visit}
use Rattle.cdc_path.specs.Marks.{visit}

-- points can be passed after these so that Ends holds of all
abbrev pub Begins : (Ends : List Visit → Type 0) → List Visit → Type 0
Begins Ends t = (after : List Visit) × Ends (after ++ t)

-- a task that has passed the points t, the newest first, goes along paths, alone on a store. Each access is the next point. Ends holds of the points passed where the task halts or joins, and a fault comes on the way there. Where it forks, the entry of the DOALL is the next point; the exit comes behind the points of any one iteration, or of none, and from there what follows goes along paths. Iterations and what follows do so on every store
abbrev pub Along : (Ends : List Visit → Type 0) → (t : List Visit) → Process → Store → Type 0
Along Ends t (Load path site word next) s = Along Ends (visit path (Read site) ∷ t) (next (s word)) s
Along Ends t (Save path site word v next) s = Along Ends (visit path (Write site) ∷ t) next (put s word v)
Along Ends t (Say piece next) s = Along Ends t next s
Along Ends t (Tick next) s = Along Ends t next s
Along Ends t (Fork path number count from by body next) s =
    let entered = visit path (Entry number) ∷ t in
    let Left : List Visit → Type 0 = λ u. (r : Store) → Along Ends (visit path (Exit number) ∷ u) next r in
    Left entered × ((k : ℕ) → k < count → (r : Store) → Along Left entered (body k) r)
Along Ends t Join s = Ends t
Along Ends t Halt s = Ends t
Along Ends t (Fail kind line) s = Begins Ends t
