-- The dependence test of a DOALL: its references, the rules that tell two of them apart, and the first pair that fails.
use Rattle.std.specs.Prelude.{ℕ, zero, suc, ◌-◌, ◌^◌, ◌==◌, nat_lt, nat_abs, Bool, true, false, not, ◌&&◌, ◌||◌, if◌then◌else◌, ℤ, pos, negsuc, ◌+ℤ◌, ◌-ℤ◌, ◌*ℤ◌, List, [], ◌∷◌, ◌++◌, map, Option, Some, None}
use Rattle.cdc_num.specs.declared.interval.Interval.{Interval}
use Rattle.cdc_num.specs.Divisors.{gcd, divides}
use Rattle.cdc_num.specs.Intervals.{times, plus, minus, leaves_out_zero, lies_within}
use Rattle.cdc_prog.specs.declared.expr.Var.{Var}
use Rattle.cdc_prog.specs.declared.expr.Var.TheVariants as var
use Rattle.cdc_prog.specs.declared.expr.Ref.{Ref}
use Rattle.cdc_prog.specs.declared.program.Dim.{Dim}
use Rattle.cdc_prog.specs.declared.program.Dummy.{Dummy}
use Rattle.cdc_prog.specs.declared.program.Object.{Object}
use Rattle.cdc_prog.specs.declared.affine.Range.{Range}
use Rattle.cdc_prog.specs.declared.affine.Index.{Index}
use Rattle.cdc_prog.specs.declared.affine.Scope.{Scope}
use Rattle.cdc_prog.specs.declared.affine.Term.{Term}
use Rattle.cdc_prog.specs.declared.affine.Affine.{Affine}
use Rattle.cdc_prog.specs.Plain.{Expr, Number, Scalar, Element, Un, Bin, Exprs, Empty, More, Control, Stmt, Seq, Assign, If, Arm, Do, Doall, ProgramUnit, Program}
use Rattle.cdc_prog.specs.Value.{is_zero, trips}
use Rattle.cdc_prog.specs.Affine.{same_var, index_in, is_in, is_index, with_some, got, constant, form}

-- ---- ranges
-- from the first value to the last, in either direction
abbrev pub spread : (first by : ℤ) → (last : ℕ) → Range
spread first (pos d) last = record { lo = first; hi = first +ℤ (pos last *ℤ pos d); step = pos d }
spread first (negsuc d) last = record { lo = first +ℤ (pos last *ℤ negsuc d); hi = first; step = pos (suc d) }

-- a loop without turns has its first value alone; a step over 2^63 - 1 in absolute value gives no range
abbrev pub spread_of : (m1 m2 m3 : ℤ) → Option Range
spread_of m1 m2 m3 = with_some (got (trips m1 m2 m3)) (λ n. if nat_lt (nat_abs m3) (2 ^ 63) then Some (spread m1 m3 (n - 1)) else None)

-- the range of a loop whose controls are constant
abbrev pub range_of : Control → Option Range
range_of k = with_some (constant k.from) (λ m1. with_some (constant k.to) (λ m2. with_some (constant k.by) (spread_of m1 m2)))

-- ---- references to array elements, each with the indexes of the loops that enclose it
pub record Spot : Type 0 where
  pub at : Ref
  pub subs : Exprs
  pub writes : Bool
  pub scope : Scope

abbrev pub spot : Scope → Bool → Ref → Exprs → Spot
spot sc writes at subs = record { at = at; subs = subs; writes = writes; scope = sc }

abbrev pub index_of : Control → Ref → Index
index_of k first = record { var = first.var; range = range_of k }

abbrev pub inside : Scope → Index → Scope
inside sc i = record { indexes = i ∷ sc.indexes; fixed = sc.fixed }

-- in the order of the accesses, which is that of their sites
abbrev mutual
  pub expr_spots : Scope → Expr → List Spot
  expr_spots sc (Number n) = []
  expr_spots sc (Scalar at) = []
  expr_spots sc (Element at subs) = exprs_spots sc subs ++ (spot sc false at subs ∷ [])
  expr_spots sc (Un op a) = expr_spots sc a
  expr_spots sc (Bin op a b) = expr_spots sc a ++ expr_spots sc b

  pub exprs_spots : Scope → Exprs → List Spot
  exprs_spots sc Empty = []
  exprs_spots sc (More e es) = expr_spots sc e ++ exprs_spots sc es

abbrev pub target_spots : Scope → Ref → Exprs → List Spot
target_spots sc at Empty = []
target_spots sc at (More e es) = spot sc true at (More e es) ∷ []

abbrev pub control_spots : Scope → Control → List Spot
control_spots sc k = expr_spots sc k.from ++ (expr_spots sc k.to ++ expr_spots sc k.by)

-- a DO does not enclose its own controls
abbrev pub spots : Scope → Stmt → List Spot
spots sc (Seq a b) = spots sc a ++ spots sc b
spots sc (Assign line t value) = exprs_spots sc t.subs ++ (expr_spots sc value ++ target_spots sc t.at t.subs)
spots sc (If arms) = spots sc arms
spots sc (Arm line cond body other) = expr_spots sc cond ++ (spots sc body ++ spots sc other)
spots sc (Do k first body again bump) = control_spots sc k ++ spots (inside sc (index_of k first)) body
spots sc s = []

-- ---- parts of forms
-- the terms of indexes, and those of fixed scalars
abbrev pub moving : Scope → List Term → List Term
moving sc [] = []
moving sc (t ∷ ts) = if is_index sc t.var then t ∷ moving sc ts else moving sc ts

abbrev pub still : Scope → List Term → List Term
still sc [] = []
still sc (t ∷ ts) = if is_index sc t.var then still sc ts else t ∷ still sc ts

abbrev pub same_number : ℤ → ℤ → Bool
same_number a b = is_zero (a -ℤ b)

abbrev pub same_terms : List Term → List Term → Bool
same_terms [] [] = true
same_terms (t ∷ ts) (u ∷ us) = same_var t.var u.var && same_number t.times u.times && same_terms ts us
same_terms ts us = false

-- the greatest common divisor of the coefficients
abbrev pub common : List Term → ℕ
common [] = 0
common (t ∷ ts) = gcd (nat_abs t.times) (common ts)

abbrev pub range_in : List Index → Var → Option Range
range_in is v = with_some (index_in is v) (λ i. i.range)

-- the interval of a sum of terms, where each index has a range
abbrev pub span : List Index → List Term → Option Interval
span is [] = Some (record { lo = pos 0; hi = pos 0 })
span is (t ∷ ts) = with_some (range_in is t.var) (λ r. with_some (span is ts) (λ i. Some (plus (times t.times r.lo r.hi) i)))

abbrev pub holds : {A : Type 0} → Option A → (A → Bool) → Bool
holds None p = false
holds (Some a) p = p a

abbrev pub is_empty : List Term → Bool
is_empty [] = true
is_empty (t ∷ ts) = false

-- the index of the DOALL
abbrev pub own : Var
own = var.Slot 0

abbrev pub is_own : Term → Bool
is_own t = same_var t.var own

abbrev pub own_times : List Term → ℤ
own_times [] = pos 0
own_times (t ∷ ts) = if is_own t then t.times +ℤ own_times ts else own_times ts

abbrev pub others : List Term → List Term
others [] = []
others (t ∷ ts) = if is_own t then others ts else t ∷ others ts

-- ---- the rules for the terms of indexes `ts` and `us` of two forms in one dimension, whose constants differ by `d`; `is` and `js` are the indexes of their scopes, and `step` is the step of the DOALL where it is constant
abbrev pub by_constant : (ts us : List Term) (d : ℤ) → Bool
by_constant ts us d = is_empty ts && is_empty us && not (is_zero d)

abbrev pub by_gcd : (ts us : List Term) (d : ℤ) → Bool
by_gcd ts us d = not (divides (gcd (common ts) (common us)) (nat_abs d))

abbrev pub by_range : (is js : List Index) (ts us : List Term) (d : ℤ) → Bool
by_range is js ts us d = holds (span is ts) (λ i. holds (span js us) (λ j. leaves_out_zero (minus i j d)))

-- the two indexes of the DOALL aside, the values differ by less than its index does in two iterations
abbrev pub by_steps : (m3 a : ℤ) (is js : List Index) (ts us : List Term) (d : ℤ) → Bool
by_steps m3 a is js ts us d = holds (span is (others ts)) (λ i. holds (span js (others us)) (λ j. lies_within (nat_abs (a *ℤ m3)) (minus i j d)))

abbrev pub by_stride : (step : Option ℤ) (is js : List Index) (ts us : List Term) (d : ℤ) → Bool
by_stride step is js ts us d =
    holds step (λ m3. not (is_zero m3) && not (is_zero (own_times ts)) && same_number (own_times ts) (own_times us) && by_steps m3 (own_times ts) is js ts us d)

abbrev pub by_a_rule : (step : Option ℤ) (is js : List Index) (ts us : List Term) (d : ℤ) → Bool
by_a_rule step is js ts us d = by_constant ts us d || by_gcd ts us d || by_range is js ts us d || by_stride step is js ts us d

-- fixed scalars have equal coefficients, and a rule holds
abbrev pub tells_apart : (step : Option ℤ) → Scope → Scope → Affine → Affine → Bool
tells_apart step sf sg f g =
    same_terms (still sf f.terms) (still sg g.terms) && by_a_rule step sf.indexes sg.indexes (moving sf f.terms) (moving sg g.terms) (f.rest -ℤ g.rest)

-- both forms exist
abbrev pub one_told_apart : (step : Option ℤ) → Scope → Scope → Expr → Expr → Bool
one_told_apart step sf sg e f = holds (form sf e) (λ x. holds (form sg f) (λ y. tells_apart step sf sg x y))

-- in some dimension
abbrev pub are_told_apart : (step : Option ℤ) → Scope → Scope → Exprs → Exprs → Bool
are_told_apart step sf sg (More e es) (More f fs) =
    one_told_apart step sf sg e f || are_told_apart step sf sg es fs
are_told_apart step sf sg es fs = false

-- ---- pairs
-- a pair of one array with a write that nothing tells apart
abbrev pub fails : (step : Option ℤ) → Spot → Spot → Bool
fails step p q = same_var p.at.var q.at.var && (p.writes || q.writes) && not (are_told_apart step p.scope q.scope p.subs q.subs)

-- the first failing pair, ordered by its first reference, then by its second; a reference and itself are a pair
abbrev pub failing_with : {A : Type 0} → (A → A → Bool) → A → List A → Option (A × A)
failing_with bad p [] = None
failing_with bad p (q ∷ qs) = if bad p q then Some (p, q) else failing_with bad p qs

abbrev pub or_first : {A : Type 0} → Option A → Option A → Option A
or_first None o = o
or_first (Some a) o = Some a

abbrev pub first_failing : {A : Type 0} → (A → A → Bool) → List A → Option (A × A)
first_failing bad [] = None
first_failing bad (p ∷ ps) = or_first (failing_with bad p (p ∷ ps)) (first_failing bad ps)

-- outside all DO loops the only index is that of the DOALL
abbrev pub scope_of : Control → (fixed : List Var) → Scope
scope_of k fixed = record { indexes = (record { var = own; range = range_of k }) ∷ []; fixed = fixed }

abbrev pub tested : Control → (fixed : List Var) → Stmt → Option (Spot × Spot)
tested k fixed body = first_failing (fails (constant k.by)) (spots (scope_of k fixed) body)

-- ---- fixed scalars: those of the unit and the private ones in which the body does not store
abbrev pub scalar_in : Ref → Exprs → List Var
scalar_in at Empty = at.var ∷ []
scalar_in at (More e es) = []

abbrev pub stored_scalars : Stmt → List Var
stored_scalars (Seq a b) = stored_scalars a ++ stored_scalars b
stored_scalars (Assign line t value) = scalar_in t.at t.subs
stored_scalars (If arms) = stored_scalars arms
stored_scalars (Arm line cond body other) = stored_scalars body ++ stored_scalars other
stored_scalars (Do k first body again bump) = first.var ∷ stored_scalars body
stored_scalars s = []

abbrev pub is_scalar : List Dim → Bool
is_scalar [] = true
is_scalar (d ∷ ds) = false

-- of the variables with these dimensions, numbered from k on, the scalars that are not among `stored`
abbrev pub fixed_from : (stored : List Var) → (variable : ℕ → Var) → (k : ℕ) → List (List Dim) → List Var
fixed_from stored variable k [] = []
fixed_from stored variable k (dims ∷ shapes) =
    if is_scalar dims && not (is_in stored (variable k)) then variable k ∷ fixed_from stored variable (suc k) shapes else fixed_from stored variable (suc k) shapes

-- the n slots from k on that are not among `stored`
abbrev pub private_from : (stored : List Var) → (k n : ℕ) → List Var
private_from stored k zero = []
private_from stored k (suc n) = if is_in stored (var.Slot k) then private_from stored (suc k) n else var.Slot k ∷ private_from stored (suc k) n

abbrev pub object_shapes : List Object → List (List Dim)
object_shapes objects = map (λ (o : Object). o.dims) objects

abbrev pub shapes_of : List Dummy → List (List Dim)
shapes_of dummies = map (λ (d : Dummy). d.dims) dummies

abbrev pub fixed_scalars : List Object → (shapes : List (List Dim)) → (slots : ℕ) → Stmt → List Var
fixed_scalars objects shapes slots body =
    fixed_from (stored_scalars body) var.Object 0 (object_shapes objects)
    ++ (fixed_from (stored_scalars body) var.Dummy 0 shapes ++ private_from (stored_scalars body) 1 (slots - 1))

-- ---- the DOALLs with a number
-- what the first of them in the text has
abbrev pub first_in : {A : Type 0} → (number : ℕ) → (Control → (slots : ℕ) → Stmt → Option A) → Stmt → Option A
first_in number at (Seq a b) = or_first (first_in number at a) (first_in number at b)
first_in number at (If arms) = first_in number at arms
first_in number at (Arm line cond body other) = or_first (first_in number at body) (first_in number at other)
first_in number at (Do k first body again bump) = first_in number at body
first_in number at (Doall k n slots body) = if n == number then at k slots body else None
first_in number at s = None

abbrev pub tested_in : List Object → (shapes : List (List Dim)) → Control → (slots : ℕ) → Stmt → Option (Spot × Spot)
tested_in objects shapes k slots body = tested k (fixed_scalars objects shapes slots body) body

abbrev pub failing_units : (number : ℕ) → List Object → List ProgramUnit → Option (Spot × Spot)
failing_units number objects [] = None
failing_units number objects (u ∷ us) = or_first (first_in number (tested_in objects (shapes_of u.dummies)) u.body) (failing_units number objects us)

-- the first failing pair
abbrev pub failing : Program → (number : ℕ) → Option (Spot × Spot)
failing p number = failing_units number p.objects p.units
