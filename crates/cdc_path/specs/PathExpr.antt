-- Path expressions: the paths from where a flow graph begins to where it ends.
use Rattle.std.specs.Prelude.{◌≡◌, ◌⊎◌, ℕ, zero, suc, ◌+◌, List, [], ◌∷◌, ◌++◌}
use Rattle.cdc_path.specs.declared.point.Point.{Point}
use Rattle.cdc_path.specs.declared.point.Point.TheVariants.{Entry, Exit}

-- a point under a call path, which is the numbers of the CALLs that led to its unit, the innermost first
pub record Visit : Type 0 where
  pub path : List ℕ
  pub point : Point

-- no point, one point, one path after another, one of two, or any number of turns
pub data PathExpr : Type 0 where
  Nothing : PathExpr
  One : (v : Visit) → PathExpr
  Then : (a b : PathExpr) → PathExpr
  Either : (a b : PathExpr) → PathExpr
  Repeat : (a : PathExpr) → PathExpr

-- what has passed the points t, the newest first, may go on until it has passed the points u
abbrev pub Way : Type 1
Way = List Visit → List Visit → Type 0

-- n turns, one after another
abbrev pub Turns : (n : ℕ) → (turn : Way) → Way
Turns zero turn t u = u ≡ t
Turns (suc n) turn t u = (m : List Visit) × Turns n turn t m × turn m u

-- the paths of an expression
abbrev pub Passes : PathExpr → Way
Passes Nothing t u = u ≡ t
Passes (One v) t u = u ≡ v ∷ t
Passes (Then a b) t u = (m : List Visit) × Passes a t m × Passes b m u
Passes (Either a b) t u = Passes a t u ⊎ Passes b t u
Passes (Repeat a) t u = (n : ℕ) × Turns n (Passes a) t u

-- its points, in order
abbrev pub visits : PathExpr → List Visit
visits Nothing = []
visits (One v) = v ∷ []
visits (Then a b) = visits a ++ visits b
visits (Either a b) = visits a ++ visits b
visits (Repeat a) = visits a

-- ---- boundaries of epochs: the entries and exits of DOALLs
abbrev pub crosses : Point → ℕ
crosses (Entry number) = 1
crosses (Exit number) = 1
crosses p = 0

-- how many of the points passed are boundaries
abbrev pub boundaries : List Visit → ℕ
boundaries [] = 0
boundaries (v ∷ t) = crosses v.point + boundaries t
