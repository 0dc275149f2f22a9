-- The references of a body as the test lists them, and the first pair of them that fails.
use Rattle.std.specs.Prelude.{◌≡◌, ◌⊎◌, ℕ, Bool, not, ◌&&◌, ◌||◌, ℤ, List, [], ◌∷◌, map, Option, Some, None}
use Rattle.cdc_base.specs.declared.place.Place.{Place}
use Rattle.cdc_prog.specs.declared.expr.Ref.{Ref}
use Rattle.cdc_prog.specs.declared.expr.Var.{Var}
use Rattle.cdc_prog.specs.declared.program.Dim.{Dim}
use Rattle.cdc_prog.specs.declared.program.Object.{Object}
use Rattle.cdc_prog.specs.Plain.{Control, Stmt, ProgramUnit}
use Rattle.cdc_prog.specs.Affine.{same_var, constant}
use Rattle.cdc_prog.specs.Dependence.{Spot, spots, or_first, failing_with, first_failing, scope_of, fixed_scalars, first_in, shapes_of}
use Rattle.cdc_subtest.specs.declared.references.Reference.{Reference}
use Rattle.cdc_subtest.specs.Sketches.{Glance, glimpses, glance_in, some_apart}

-- a reference, with a glance at the form of each subscript
pub record Seen : Type 0 where
  pub at : Ref
  pub writes : Bool
  pub subs : List (Option Glance)

abbrev pub seen : Spot → Seen
seen p = record { at = p.at; writes = p.writes; subs = glimpses p.scope p.subs }

abbrev pub seen_of : Reference → Seen
seen_of r = record { at = r.at; writes = r.writes; subs = map glance_in r.subs }

-- ---- pairs
abbrev pub pair_fails : (step : Option ℤ) → Seen → Seen → Bool
pair_fails step p q = same_var p.at.var q.at.var && (p.writes || q.writes) && not (some_apart step p.subs q.subs)

abbrev pub places_of : Option (Seen × Seen) → Option (Place × Place)
places_of None = None
places_of (Some pair) = Some (pair.0.at.place, pair.1.at.place)

-- ---- equal forms
-- of the same array and forms, and of the same kind
pub record IsLike (p q : Seen) : Type 0 where
  pub var : p.at.var ≡ q.at.var
  pub writes : p.writes ≡ q.writes
  pub subs : p.subs ≡ q.subs

abbrev pub HasLike : Seen → List Seen → Type 0
HasLike p [] = ⊥
HasLike p (q ∷ qs) = IsLike p q ⊎ HasLike p qs

-- none of the earlier ones fails with one of the rest
abbrev pub ArePassed : (step : Option ℤ) → (earlier rest : List Seen) → Type 0
ArePassed step [] rest = Unit {0}
ArePassed step (p ∷ ps) rest = (failing_with (pair_fails step) p rest ≡ None) × ArePassed step ps rest

-- ---- a DOALL, and those with a number
abbrev pub doall_places : Control → (fixed : List Var) → Stmt → Option (Place × Place)
doall_places k fixed body = places_of (first_failing (pair_fails (constant k.by)) (map seen (spots (scope_of k fixed) body)))

abbrev pub places_in : List Object → (shapes : List (List Dim)) → Control → (slots : ℕ) → Stmt → Option (Place × Place)
places_in objects shapes k slots body = doall_places k (fixed_scalars objects shapes slots body) body

abbrev pub places_of_units : (number : ℕ) → List Object → List ProgramUnit → Option (Place × Place)
places_of_units number objects [] = None
places_of_units number objects (u ∷ us) = or_first (first_in number (places_in objects (shapes_of u.dummies)) u.body) (places_of_units number objects us)
