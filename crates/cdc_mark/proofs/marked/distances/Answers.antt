use Rattle.std.proofs.Common.{subst}
use Rattle.cdc_mark.specs.Least.{IsIn, AreFar}
use Rattle.cdc_mark.proofs.Marking.{sources_far}
use Rattle.cdc_mark.proofs.marked.distances.Goals as goal

pub returns-clause-far : goal.returns-clause-far
returns-clause-far c =
    let g = c.args.g.now in
    sources_far g c.args.late.now c.args.wanted.now c.in_ok-bits.bits.items c.in_ok-dist.dist.items c.in_ok-bits.ensures.count c.requires.late c.in_ok-bits.ensures.sources
    (subst (λ bits. AreFar g (IsIn bits) c.in_ok-dist.dist.items) c.deref.ensures.value c.in_ok-dist.ensures.far)
