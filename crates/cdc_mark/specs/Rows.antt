-- Written lists as rows: for each object the places of the boundaries to which a write of it leads.
use Rattle.std.specs.Prelude.{◌≡◌, ◌↔◌, ℕ, suc, ◌+◌, ◌*◌, ◌<◌, Bool, if◌then◌else◌, List, [], ◌∷◌, ◌++◌, length, get_or, Option, Some, None}
use Rattle.std.specs.List.{All}
use Rattle.cdc_prog.specs.Iterations as iterations
use Rattle.cdc_path.specs.declared.point.Point.{Point}
use Rattle.cdc_path.specs.declared.point.Point.TheVariants.{Entry, Exit}
use Rattle.cdc_path.specs.PathExpr.{PathExpr}
use Rattle.cdc_path.specs.Marks.{IsAscending}
use Rattle.cdc_flow.specs.Flow.{point_at}
use Rattle.cdc_mark.specs.declared.references.Reference.{Reference}
use Rattle.cdc_mark.specs.Least.{IsIn}
use Rattle.cdc_mark.specs.Ways.{LeadsAt}
use Rattle.cdc_mark.specs.Classes.{IsWriteOf}

-- an object, if there is one, is below a number
abbrev pub IsBelow : Option ℕ → ℕ → Type 0
IsBelow o n = (k : ℕ) → o ≡ Some k → k < n

abbrev pub AreBelow : List Reference → ℕ → Type 0
AreBelow rs n = All (λ q. IsBelow q.object n) rs

-- the place of a boundary among those of all DOALLs
abbrev pub place_of : Point → Option ℕ
place_of (Entry number) = Some (2 * number)
place_of (Exit number) = Some (2 * number + 1)
place_of p = None

-- one of the first n points, whose bit is set, has this place
abbrev pub HasPlace : (points : List Point) → (bits : List Bool) → (n places place : ℕ) → Type 0
HasPlace points bits n places place = (v : ℕ) × (v < n) × IsIn bits v × (place_of (point_at points v) ≡ Some place) × (place < places)

-- a write of an object leads to a boundary
abbrev pub Leads : PathExpr → List Reference → (object : ℕ) → Point → Type 0
Leads c rs object b = (w : ℕ) × IsWriteOf rs object w × LeadsAt c w b

-- the bits tell the places of the boundaries to which a write of an object leads
abbrev pub IsRow : PathExpr → List Reference → (object places : ℕ) → List Bool → Type 0
IsRow c rs object places row = (place : ℕ) (b : Point) → place_of b ≡ Some place → place < places → IsIn row place ↔ Leads c rs object b

-- the first n rows are those of the objects
abbrev pub AreRows : PathExpr → List Reference → (places n : ℕ) → List (List Bool) → Type 0
AreRows c rs places n rows = (object : ℕ) → object < n → IsRow c rs object places (get_or rows object [])

-- a list with an object more, or none
abbrev pub with_object : Bool → ℕ → List ℕ → List ℕ
with_object is_set object list = if is_set then list ++ object ∷ [] else list

-- of the first n objects those in whose rows the bit of a place is set
pub record IsColumn (rows : List (List Bool)) (place n : ℕ) (list : List ℕ) : Type 0 where
  pub ascending : IsAscending list
  pub members : (object : ℕ) → iterations.IsIn object list ↔ ((object < n) × IsIn (get_or rows object []) place)

-- a column for each of the first n DOALLs
pub record AreColumns (rows : List (List Bool)) (side n : ℕ) (lists : List (List ℕ)) : Type 0 where
  pub count : length lists ≡ n
  pub each : (k : ℕ) → k < n → IsColumn rows (2 * (k + 1) + side) (length rows) (get_or lists k [])

-- for each DOALL the objects of which a write leads to its entry, or its exit
pub record AreListed (c : PathExpr) (rs : List Reference) (at : ℕ → Point) (n : ℕ) (lists : List (List ℕ)) : Type 0 where
  pub count : length lists ≡ n
  pub ascending : (k : ℕ) → k < n → IsAscending (get_or lists k [])
  pub each : (k : ℕ) → k < n → (object : ℕ) → iterations.IsIn object (get_or lists k []) ↔ Leads c rs object (at (suc k))
