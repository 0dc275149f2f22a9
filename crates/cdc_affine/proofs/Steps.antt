-- The range of a loop ends after whole steps.
use Rattle.std.proofs.Common.{◌≡◌, ℕ, suc, ◌-◌, ◌*◌, ◌^◌, ℤ, pos, negsuc, ◌*ℤ◌, neg_ℤ, Option, Some, None, if◌then◌else◌, refl, sym, ap, ◌∙◌, subst, arith}
use Rattle.std.specs.Prelude.{nat_lt, nat_abs, IfSome}
use Rattle.std.proofs.Math.IntN.{pos-*ℤ-pos, pos-*ℤ-negsuc}
use Rattle.std.proofs.lemmas.Int.{ints}
use Rattle.cdc_prog.specs.declared.affine.Range.{Range}
use Rattle.cdc_prog.specs.Plain.{Control}
use Rattle.cdc_prog.specs.Value.{trips}
use Rattle.cdc_prog.specs.Affine.{with_some, got, constant}
use Rattle.cdc_prog.specs.Dependence.{spread, spread_of, range_of}
use Rattle.cdc_prog.specs.Sections.{IsStepped}
use Rattle.cdc_affine.proofs.Worth.{some_of, if_some}

spread_stepped : (first by : ℤ) (last : ℕ) → IsStepped (spread first by last)
spread_stepped first (pos d) last = (last, refl)
spread_stepped first (negsuc d) last =
    let a : pos last *ℤ negsuc d ≡ neg_ℤ (pos (last * suc d)) = pos-*ℤ-negsuc last d in
    let b : pos last *ℤ pos (suc d) ≡ pos (last * suc d) = pos-*ℤ-pos last (suc d) in
    (last, omega (arith, ints))

spread_of_stepped : (m1 m2 m3 : ℤ) (r : Range) → spread_of m1 m2 m3 ≡ Some r → IsStepped r
spread_of_stepped m1 m2 m3 r e =
    let n = some_of (got (trips m1 m2 m3)) (λ n. if nat_lt (nat_abs m3) (2 ^ 63) then Some (spread m1 m3 (n - 1)) else None) r e in
    subst IsStepped (if_some (nat_lt (nat_abs m3) (2 ^ 63)) (spread m1 m3 (n.0 - 1)) r n.2) (spread_stepped m1 m3 (n.0 - 1))

pub range_stepped : (k : Control) (r : Range) → range_of k ≡ Some r → IsStepped r
range_stepped k r e =
    let m1 = some_of (constant k.from) (λ m1. with_some (constant k.to) (λ m2. with_some (constant k.by) (spread_of m1 m2))) r e in
    let m2 = some_of (constant k.to) (λ m2. with_some (constant k.by) (spread_of m1.0 m2)) r m1.2 in
    let m3 = some_of (constant k.by) (spread_of m1.0 m2.0) r m2.2 in
    spread_of_stepped m1.0 m2.0 m3.0 r m3.2

pub if_stepped : (k : Control) (o : Option Range) → o ≡ range_of k → IfSome o IsStepped
if_stepped k None e = tt
if_stepped k (Some r) e = range_stepped k r (sym e)
