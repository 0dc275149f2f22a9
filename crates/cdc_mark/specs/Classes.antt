-- Least numbers over the writes that meet a read.
use Rattle.std.specs.Prelude.{◌≡◌, ◌⊎◌, ℕ, ◌+◌, ◌≤◌, ◌<◌, Bool, true, false, List, [], ◌∷◌, length, min, slice_index, slice_get, Some}
use Rattle.std.specs.List.{All}
use Rattle.cdc_path.specs.declared.point.Point.{Point}
use Rattle.cdc_path.specs.declared.point.Point.TheVariants.{Read}
use Rattle.cdc_path.specs.PathExpr.{PathExpr}
use Rattle.cdc_flow.specs.Flow.{point_at}
use Rattle.cdc_mark.specs.declared.references.Reference.{Reference}
use Rattle.cdc_mark.specs.Least.{IsIn, IsLeast}
use Rattle.cdc_mark.specs.Seen.{Meets}
use Rattle.cdc_mark.specs.Ways.{CountsAt}

-- some reference of a list is such a one
abbrev pub Some_of : (Reference → Type 0) → List Reference → Type 0
Some_of P [] = ⊥
Some_of P (q ∷ qs) = P q ⊎ Some_of P qs

-- a write at w that meets a read
abbrev pub IsWriteAt : (read : Reference) → (w : ℕ) → Reference → Type 0
IsWriteAt p w q = (q.writes ≡ true) × Meets p q × (q.site ≡ w)

abbrev pub IsWriteFor : List Reference → Reference → (w : ℕ) → Type 0
IsWriteFor rs p w = Some_of (IsWriteAt p w) rs

-- references of one object, or of none, and of one section
abbrev pub AreAlike : Reference → Reference → Type 0
AreAlike p q = (q.object ≡ p.object) × (q.section ≡ p.section)

-- a read at r of the class of p
abbrev pub IsReadAt : Reference → (r : ℕ) → Reference → Type 0
IsReadAt p r q = (q.writes ≡ false) × AreAlike p q × (q.site ≡ r)

abbrev pub IsReadOf : List Reference → Reference → (r : ℕ) → Type 0
IsReadOf rs p r = Some_of (IsReadAt p r) rs

-- each site is below a number
abbrev pub HaveRoom : List Reference → ℕ → Type 0
HaveRoom rs n = All (λ q. q.site < n) rs

-- a number is lowered to the least of D, if that is less
pub record IsLowered (old new : ℕ) (D : ℕ → Type 0) : Type 0 where
  pub below : new ≤ old
  pub least : (d : ℕ) → D d → new ≤ d
  pub met : (new ≡ old) ⊎ D new

-- a distance of a read is lowered by that of a point of the read
abbrev pub IsNoted : (reads : List Bool) → (p : Point) → (r d old new : ℕ) → Type 0
IsNoted reads p r d old new = ((p ≡ Read r) × IsIn reads r × (new ≡ min old d)) ⊎ (((p ≡ Read r) → IsIn reads r → ⊥) × (new ≡ old))

-- the distances of the points of a read
abbrev pub DistanceOf : (points : List Point) → (dist : List ℕ) → (n r d : ℕ) → Type 0
DistanceOf points dist n r d = (v : ℕ) × (v < n) × (point_at points v ≡ Read r) × (slice_index dist v ≡ d)

-- a write that meets a read counts for the site of the read
abbrev pub CountsFrom : PathExpr → List Reference → Reference → (r k : ℕ) → Type 0
CountsFrom c rs p r k = (w : ℕ) × IsWriteFor rs p w × CountsAt c w r k

-- of the first n references some read at r that is done has a write that counts over j + 1 boundaries
abbrev pub CountsDone : PathExpr → List Reference → (done : List Bool) → (r j : ℕ) → Type 0
CountsDone c rs done r j =
    (i : ℕ) × (p : Reference) × IsIn done i × (slice_get rs i ≡ Some p) × (p.writes ≡ false) × (p.site ≡ r) × CountsFrom c rs p r (j + 1)

-- each number is the least of those of the reads that are done, less 1
abbrev pub AreLeastDone : PathExpr → List Reference → (done : List Bool) → (best : List ℕ) → Type 0
AreLeastDone c rs done best = (r : ℕ) → r < length best → IsLeast (CountsDone c rs done r) (slice_index best r)

abbrev pub CountsNext : PathExpr → List Reference → (done : List Bool) → Reference → (r j : ℕ) → Type 0
CountsNext c rs done p r j = CountsDone c rs done r j ⊎ (IsReadOf rs p r × CountsFrom c rs p r (j + 1))

-- the reads of the class of p are done too
abbrev pub AreLeastNext : PathExpr → List Reference → (done : List Bool) → Reference → (best : List ℕ) → Type 0
AreLeastNext c rs done p best = (r : ℕ) → r < length best → IsLeast (CountsNext c rs done p r) (slice_index best r)

-- reference i is a read of the class of p
abbrev pub IsOfClass : List Reference → Reference → (i : ℕ) → Type 0
IsOfClass rs p i = (q : Reference) × (slice_get rs i ≡ Some q) × (q.writes ≡ false) × AreAlike p q

-- of the first n references each read is done
abbrev pub IsPassed : List Reference → (done : List Bool) → (n i : ℕ) → Type 0
IsPassed rs done n i = (q : Reference) → i < n → slice_get rs i ≡ Some q → q.writes ≡ false → IsIn done i

-- some read at r has a write that counts over j + 1 boundaries
abbrev pub CountsAny : PathExpr → List Reference → (r j : ℕ) → Type 0
CountsAny c rs r j = (i : ℕ) × (p : Reference) × (slice_get rs i ≡ Some p) × (p.writes ≡ false) × (p.site ≡ r) × CountsFrom c rs p r (j + 1)

-- a write at w of an object
abbrev pub IsWriteOfAt : (object w : ℕ) → Reference → Type 0
IsWriteOfAt object w q = (q.writes ≡ true) × (q.object ≡ Some object) × (q.site ≡ w)

abbrev pub IsWriteOf : List Reference → (object w : ℕ) → Type 0
IsWriteOf rs object w = Some_of (IsWriteOfAt object w) rs
