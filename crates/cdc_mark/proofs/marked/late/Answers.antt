use Rattle.std.proofs.Common.{subst, ℕ, ◌<◌, ◌≤◌, ◌↔◌, List, length, slice_index, arith}
use Rattle.cdc_mark.specs.Least.{IsIn, AreFar}
use Rattle.cdc_mark.proofs.Marking.{late_is}
use Rattle.cdc_mark.proofs.marked.late.Goals as goal

pub returns-clause-late : goal.returns-clause-late
returns-clause-late c =
    let g = c.args.g.now in
    late_is g c.in_ok-start.start.items c.in_ok-bits.bits.items c.in_ok-dist.dist.items c.in_ok-start.ensures.start
    (subst (λ start. AreFar g (IsIn start) c.in_ok-dist.dist.items) c.deref.ensures.value c.in_ok-dist.ensures.far)
    (λ v lt. subst (λ (dist : List ℕ). v < length dist → IsIn c.in_ok-bits.bits.items v ↔ (slice_index dist v ≤ 255)) c.deref-2.ensures.value (c.in_ok-bits.ensures.near v) (omega (arith, c.in_ok-dist.ensures.count)))
