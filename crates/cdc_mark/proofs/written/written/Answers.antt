use Rattle.std.proofs.Common.{subst}
use Rattle.cdc_mark.specs.Least.{IsIn, AreLeast, AreFirsts}
use Rattle.cdc_mark.proofs.Listed.{written_are}
use Rattle.cdc_mark.proofs.written.written.Goals as goal

pub returns-clause-written : goal.returns-clause-written
returns-clause-written c =
    let g = c.args.g.now in
    written_are g c.args.led_to.now c.args.wanted.now c.in_ok-sources.sources.items c.in_ok-bits.bits.items c.in_ok-near.near.items c.in_ok-sources.ensures.count c.requires.reached c.in_ok-sources.ensures.sources
    (subst (λ bits. AreLeast g (IsIn bits) c.in_ok-near.near.items) c.deref.ensures.value c.in_ok-near.ensures.least)
    c.in_ok-bits.ensures.count
    (subst (λ near. AreFirsts g near c.in_ok-bits.bits.items) c.deref-2.ensures.value c.in_ok-bits.ensures.firsts)
