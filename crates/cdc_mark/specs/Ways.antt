-- Writes that count for reads and that lead to boundaries, on the paths of one unit.
use Rattle.std.specs.Prelude.{◌≡◌, ℕ, ◌≤◌, Bool, List, [], ◌∷◌, ◌++◌}
use Rattle.cdc_path.specs.declared.point.Point.{Point}
use Rattle.cdc_path.specs.declared.point.Point.TheVariants.{Read, Write}
use Rattle.cdc_path.specs.PathExpr.{Visit, PathExpr, Passes, boundaries}
use Rattle.cdc_mark.specs.Least.{IsIn}

abbrev pub here : Point → Visit
here p = record { path = []; point = p }

-- a write at w counts for a read at r over k boundaries
pub record CountsAt (c : PathExpr) (w r k : ℕ) : Type 0 where
  pub before : List Visit
  pub between : List Visit
  pub after : List Visit
  pub on_path : Passes c [] (after ++ (here (Read r) ∷ (between ++ (here (Write w) ∷ before))))
  pub later : 1 ≤ boundaries before
  pub count : boundaries between ≡ k
  pub apart : 1 ≤ k

-- a write that is wanted counts
abbrev pub CountsFor : PathExpr → (wanted : List Bool) → (r k : ℕ) → Type 0
CountsFor c wanted r k = (w : ℕ) × IsIn wanted w × CountsAt c w r k

-- a write at w leads to b
pub record LeadsAt (c : PathExpr) (w : ℕ) (b : Point) : Type 0 where
  pub before : List Visit
  pub between : List Visit
  pub after : List Visit
  pub on_path : Passes c [] (after ++ (here b ∷ (between ++ (here (Write w) ∷ before))))
  pub near : boundaries between ≡ 0

-- a write that is wanted leads to b
abbrev pub IsWritten : PathExpr → (wanted : List Bool) → Point → Type 0
IsWritten c wanted b = (w : ℕ) × IsIn wanted w × LeadsAt c w b
