-- Regular sections: the positions that a reference to an array may name, a triplet for each dimension.
use Rattle.std.specs.Prelude.{◌≡◌, ℕ, ◌-◌, ◌%◌, ◌^◌, ◌≤◌, min, max, nat_lt, nat_abs, if◌then◌else◌, ℤ, pos, negsuc, ◌+ℤ◌, ◌-ℤ◌, ◌*ℤ◌, List, [], ◌∷◌, Option, Some, None, Ok}
use Rattle.cdc_num.specs.declared.triplet.Triplet.{Triplet}
use Rattle.cdc_num.specs.Divisors.{gcd}
use Rattle.cdc_num.specs.Triplets.{HasPosition, Meet}
use Rattle.cdc_prog.specs.declared.expr.Var.{Var}
use Rattle.cdc_prog.specs.declared.program.Dim.{Dim}
use Rattle.cdc_prog.specs.declared.affine.Range.{Range}
use Rattle.cdc_prog.specs.declared.affine.Index.{Index}
use Rattle.cdc_prog.specs.declared.affine.Scope.{Scope}
use Rattle.cdc_prog.specs.declared.affine.Term.{Term}
use Rattle.cdc_prog.specs.declared.affine.Affine.{Affine}
use Rattle.cdc_prog.specs.Plain.{Exprs, Empty, More}
use Rattle.cdc_prog.specs.Data.{Store, Binding, position}
use Rattle.cdc_prog.specs.Expressions.{Surroundings}
use Rattle.cdc_prog.specs.Affine.{with_some, form}
use Rattle.cdc_prog.specs.Dependence.{range_in, span}
use Rattle.cdc_prog.specs.Iterations.{held, Values, InRanges}

-- ---- the values of a form
-- how far apart the values of a term are, where its index has a range
abbrev pub gap_of : Option Range → (times : ℤ) → ℕ
gap_of None a = 0
gap_of (Some r) a = nat_abs (a *ℤ r.step)

-- the greatest common divisor of |coefficient * step| over the indexes with a coefficient; 0 where there is none
abbrev pub stride : List Index → List Term → ℕ
stride is [] = 0
stride is (t ∷ ts) = gcd (gap_of (range_in is t.var) t.times) (stride is ts)

-- from the least value to the greatest, a step apart
pub record Progression : Type 0 where
  pub lo : ℤ
  pub hi : ℤ
  pub step : ℕ

-- the values of a form, where each index with a coefficient has a range; the step is 1 where there is no such index
abbrev pub values_of : List Index → Affine → Option Progression
values_of is f = with_some (span is f.terms) (λ i. Some (record { lo = i.lo +ℤ f.rest; hi = i.hi +ℤ f.rest; step = max 1 (stride is f.terms) }))

-- ---- the positions of a dimension, from 0
abbrev pub nothing : Triplet
nothing = record { lo = 1; hi = 0; step = 1 }

abbrev pub whole_extent : (extent : ℕ) → Triplet
whole_extent extent = record { lo = 0; hi = extent - 1; step = 1 }

-- the first of lo and each further step that is at least 0
abbrev pub first_inside : (lo : ℤ) → (step : ℕ) → ℕ
first_inside (pos n) step = n
first_inside (negsuc n) step = step - 1 - n % step

-- a step over 2^22 becomes 2^22, once hi is below that; nothing, where nothing is left
abbrev pub from_to : (lo hi step : ℕ) → Triplet
from_to lo hi step = if nat_lt hi lo then nothing else record { lo = lo; hi = hi; step = min step (2 ^ 22) }

-- what is left of lo and each further step up to hi at the positions of the extent
abbrev pub cut : (extent : ℕ) → (lo hi : ℤ) → (step : ℕ) → Triplet
cut extent lo (pos hi) step = from_to (first_inside lo step) (min hi (extent - 1)) step
cut extent lo (negsuc hi) step = nothing

-- ---- sections
-- the positions of these values, that is, less the lower bound; or, where there are none, the whole extent
abbrev pub triplet_of : Dim → Option Progression → Triplet
triplet_of d None = whole_extent d.extent
triplet_of d (Some p) = cut d.extent (p.lo -ℤ d.low) (p.hi -ℤ d.low) p.step

-- the section of a reference with these subscripts; that of a scalar is empty
abbrev pub section : Scope → Exprs → List Dim → List Triplet
section sc (More e es) (d ∷ ds) = triplet_of d (with_some (form sc e) (values_of sc.indexes)) ∷ section sc es ds
section sc es ds = []

-- ---- sections as sets of elements
-- an element, by its position in each dimension, is in a section
abbrev pub IsInSection : List Triplet → List ℕ → Type 0
IsInSection [] [] = Unit {0}
IsInSection (t ∷ ts) (z ∷ zs) = HasPosition t z × IsInSection ts zs
IsInSection _ _ = ⊥

-- in every dimension some position is in both
abbrev pub Overlap : List Triplet → List Triplet → Type 0
Overlap [] [] = Unit {0}
Overlap (t ∷ ts) (u ∷ us) = Meet t u × Overlap ts us
Overlap _ _ = ⊥

-- ---- what a reference names
-- the positions of subscripts that are in their bounds
abbrev pub ArePositions : List Dim → List ℤ → List ℕ → Type 0
ArePositions [] [] [] = Unit {0}
ArePositions (d ∷ ds) (v ∷ vs) (z ∷ zs) = (position d v ≡ Ok z) × ArePositions ds vs zs
ArePositions _ _ _ = ⊥

-- a range ends after whole steps
abbrev pub IsStepped : Range → Type 0
IsStepped r = (n : ℕ) × (r.hi ≡ r.lo +ℤ (pos n *ℤ r.step))

abbrev pub AreStepped : List Index → Type 0
AreStepped is = (v : Var) (r : Range) → range_in is v ≡ Some r → IsStepped r

-- extents of at most 2^22
abbrev pub AreNarrow : List Dim → Type 0
AreNarrow [] = Unit {0}
AreNarrow (d ∷ ds) = (d.extent ≤ 2 ^ 22) × AreNarrow ds

-- each element that the reference names at a moment at which its indexes lie in their ranges is in the section
abbrev pub HoldsNamed : Scope → Exprs → List Dim → List Triplet → Type 0
HoldsNamed sc subs dims ts =
    (b : Binding) (c : Surroundings) (t : Store) (vs : List ℤ) (zs : List ℕ) →
    AreStepped sc.indexes → InRanges sc.indexes (held b c t) → Values b c t subs vs → ArePositions dims vs zs → AreNarrow dims → IsInSection ts zs
