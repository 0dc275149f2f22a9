use Rattle.std.proofs.Common.{◌<◌, ◌∙◌, length, refl, sym, arith}
use Rattle.cdc_sched.proofs.Passes.{passes_more, passes_kept}
use Rattle.cdc_sched.proofs.kept.next_kept.Goals as goal

pub returns-then-not-is_skipped-clause-found : goal.returns-then-not-is_skipped-clause-found
returns-then-not-is_skipped-clause-found c =
    let less = c.next_line.ensures.after in
    let some : 0 < length c.loop-rest.rest.now = omega (arith, less) in
    passes_kept c.loop-rest.invariant some c.next_line.ensures.line less _ refl refl refl (sym c.is_skipped.ensures ∙ c.if-not-is_skipped.true)

pub loop-rest-preserved : goal.loop-rest-preserved
loop-rest-preserved c =
    let less = c.next_line.ensures.after in
    let some : 0 < length c.loop-rest.rest.now = omega (arith, less) in
    passes_more c.loop-rest.invariant some c.next_line.ensures.line less (sym c.is_skipped.ensures ∙ c.if-not-is_skipped.false)
