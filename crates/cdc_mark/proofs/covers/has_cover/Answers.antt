use Rattle.std.proofs.Common.{◌≡◌, ◌-◌, map, drop, refl, subst, arith}
use Rattle.std.specs.List.{All}
use Rattle.cdc_mark.specs.Covered.{spot_of, IsPassed}
use Rattle.cdc_mark.proofs.Covering.{mapped, found, stopped, passed_more, none_found, true_or_false}
use Rattle.cdc_mark.proofs.covers.has_cover.Goals as goal

pub returns-then-is_at : goal.returns-then-is_at
returns-then-is_at c =
    let m = c.index-earlier-left.result in
    let x = mapped c.args.earlier.now (c.loop-left.left - 1) m (omega arith) c.index-earlier-left.is in (
      λ e. found (map spot_of c.args.earlier.now) (c.loop-left.left - 1) c.loop-left.left (spot_of m) (spot_of c.args.read.now) (omega arith) x.0 x.1 (c.is_at.ensures.0 c.if-is_at.true) c.loop-left.invariant.passed,
      λ h. refl,
    )

pub returns-then-not-keeps : goal.returns-then-not-keeps
returns-then-not-keeps c =
    let m = c.index-earlier-left.result in
    let x = mapped c.args.earlier.now (c.loop-left.left - 1) m (omega arith) c.index-earlier-left.is in (
      λ e. cc,
      λ h. absurd (stopped (map spot_of c.args.earlier.now) (c.loop-left.left - 1) c.loop-left.left (spot_of m) (spot_of c.args.read.now) (omega arith) x.0 x.1
          (λ y. true_or_false c.is_at.result (c.is_at.ensures.1 y) c.if-is_at.false) (λ y. true_or_false c.keeps.result (c.keeps.ensures.1 y) c.if-not-keeps.true) c.loop-left.invariant.passed h),
    )

pub loop-left-preserved : goal.loop-left-preserved
loop-left-preserved c =
    let m = c.index-earlier-left.result in
    let x = mapped c.args.earlier.now (c.loop-left.left - 1) m (omega arith) c.index-earlier-left.is in
    record {
      bound = omega arith;
      passed = passed_more (map spot_of c.args.earlier.now) (c.loop-left.left - 1) c.loop-left.left (spot_of m) (spot_of c.args.read.now) (omega arith) x.0 x.1
          (λ y. true_or_false c.is_at.result (c.is_at.ensures.1 y) c.if-is_at.false) (c.keeps.ensures.0 c.if-not-keeps.false) c.loop-left.invariant.passed;
    }

pub returns : goal.returns
returns c =
    let bs = map spot_of c.args.earlier.now in
    let q = spot_of c.args.read.now in
    let none : c.loop-left.left ≡ 0 = omega arith in (
      λ e. cc,
      λ h. absurd (none_found bs q (subst (λ j. All (IsPassed q) (drop j bs)) none c.loop-left.invariant.passed) h),
    )
