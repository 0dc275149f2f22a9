-- What goes along paths.
use Rattle.std.proofs.Common.{ℕ, List, [], ◌∷◌, ◌++◌, append_assoc}
use Rattle.cdc_prog.specs.Data.{Store, put}
use Rattle.cdc_prog.specs.Process.{Process, Load, Save, Say, Tick, Fork, Join, Halt, Fail}
use Rattle.cdc_path.specs.declared.point.Point.TheVariants.{Read, Write, Entry, Exit}
use Rattle.cdc_path.specs.PathExpr.{Visit}
use Rattle.cdc_path.specs.Marks.{visit}
use Rattle.cdc_along.specs.Along.{Begins, Along}

-- a point behind which others can be passed can be passed itself
pub earlier : (Ends : List Visit → Type 0) (v : Visit) (t : List Visit) → Begins Ends (v ∷ t) → Begins Ends t
earlier Ends v t (after, ends) = (after ++ (v ∷ []), rw append_assoc ends)

-- what goes along paths has passed the first points of one
pub begins : (Ends : List Visit → Type 0) (t : List Visit) (p : Process) (s : Store) → Along Ends t p s → Begins Ends t
begins Ends t (Load path site word next) s h = earlier Ends (visit path (Read site)) t (begins Ends (visit path (Read site) ∷ t) (next (s word)) s h)
begins Ends t (Save path site word v next) s h = earlier Ends (visit path (Write site)) t (begins Ends (visit path (Write site) ∷ t) next (put s word v) h)
begins Ends t (Say piece next) s h = begins Ends t next s h
begins Ends t (Tick next) s h = begins Ends t next s h
begins Ends t (Fork path number count from by body next) s h =
    let entered = visit path (Entry number) ∷ t in
    earlier Ends (visit path (Entry number)) t (earlier Ends (visit path (Exit number)) entered (begins Ends (visit path (Exit number) ∷ entered) next s (h.0 s)))
begins Ends t Join s h = ([], h)
begins Ends t Halt s h = ([], h)
begins Ends t (Fail kind line) s h = h

-- where a DOALL is left at once, its entry is on a path
pub enters : (Ends : List Visit → Type 0) (t : List Visit) (path : List ℕ) (number : ℕ) (next : Process) (s : Store) → Along Ends (visit path (Exit number) ∷ (visit path (Entry number) ∷ t)) next s → Begins Ends (visit path (Entry number) ∷ t)
enters Ends t path number next s h = earlier Ends (visit path (Exit number)) (visit path (Entry number) ∷ t) (begins Ends (visit path (Exit number) ∷ (visit path (Entry number) ∷ t)) next s h)
