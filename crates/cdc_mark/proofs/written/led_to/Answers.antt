use Rattle.std.proofs.Common.{subst, ◌<◌, ◌≤◌, ◌↔◌, ℕ, List, length, slice_index, arith}
use Rattle.cdc_mark.specs.Least.{IsIn, AreLeast}
use Rattle.cdc_mark.proofs.Listed.{reached_is}
use Rattle.cdc_mark.proofs.written.led_to.Goals as goal

pub returns-clause-reached : goal.returns-clause-reached
returns-clause-reached c =
    let g = c.args.g.now in
    reached_is g c.in_ok-start.start.items c.in_ok-bits.bits.items c.in_ok-dist.dist.items c.in_ok-start.ensures.start
    (subst (λ start. AreLeast g (IsIn start) c.in_ok-dist.dist.items) c.deref.ensures.value c.in_ok-dist.ensures.least)
    (λ v lt. subst (λ (dist : List ℕ). v < length dist → IsIn c.in_ok-bits.bits.items v ↔ (slice_index dist v ≤ 255)) c.deref-2.ensures.value (c.in_ok-bits.ensures.near v) (omega (arith, c.in_ok-dist.ensures.count)))
