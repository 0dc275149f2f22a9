-- The interval of a sum of terms has each of its values.
use Rattle.std.proofs.Common.{◌≡◌, ℕ, ◌*◌, ◌^◌, ◌≤◌, List, [], ◌∷◌, ℤ, pos, ◌+ℤ◌, ◌*ℤ◌, Option, Some, None, subst, arith}
use Rattle.std.specs.Prelude.{IfSome}
use Rattle.std.proofs.lemmas.Int.{ints}
use Rattle.cdc_num.specs.declared.interval.Interval.{Interval}
use Rattle.cdc_num.specs.Intervals.{Between, times, plus, IsBelow}
use Rattle.cdc_num.proofs.Intervals.{times_has}
use Rattle.cdc_prog.specs.declared.expr.Var.{Var}
use Rattle.cdc_prog.specs.declared.affine.Index.{Index}
use Rattle.cdc_prog.specs.declared.affine.Term.{Term}
use Rattle.cdc_prog.specs.Affine.{with_some, total}
use Rattle.cdc_prog.specs.Dependence.{range_in, span}
use Rattle.cdc_prog.specs.Iterations.{InRanges}
use Rattle.cdc_affine.proofs.Worth.{some_of}

-- at most 2^30 terms
pub wide_of : (o : Option Interval) (n : ℕ) → n ≤ 2 ^ 30 → IfSome o (IsBelow (n * 2 ^ 94)) → IfSome o (IsBelow (2 ^ 124))
wide_of None n le h = tt
wide_of (Some i) n le h = record { low = omega (arith, h.low); high = omega (arith, h.high) }

pub span_has : (is : List Index) (ρ : Var → ℤ) → InRanges is ρ → (ts : List Term) (i : Interval) → span is ts ≡ Some i → Between i (total ρ ts)
span_has is ρ h [] i e =
    let same : record { lo = pos 0; hi = pos 0 } ≡ i = cc in
    subst (λ i. Between i (pos 0)) same (record { low = omega (arith, ints); high = omega (arith, ints) })
span_has is ρ h (t ∷ ts) i e =
    let p = some_of (range_in is t.var) (λ r. with_some (span is ts) (λ j. Some (plus (times t.times r.lo r.hi) j))) i e in
    let q = some_of (span is ts) (λ j. Some (plus (times t.times p.0.lo p.0.hi) j)) i p.2 in
    let same : plus (times t.times p.0.lo p.0.hi) q.0 ≡ i = let k = q.2 in cc in
    let r = h t.var p.0 p.1 in
    let one = times_has t.times p.0.lo p.0.hi (ρ t.var) r.low r.high in
    let rest = span_has is ρ h ts q.0 q.1 in
    subst (λ i. Between i (t.times *ℤ ρ t.var +ℤ total ρ ts)) same (record { low = omega (arith, ints); high = omega (arith, ints) })
