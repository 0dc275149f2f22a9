use Rattle.std.proofs.Common.{◌≡◌, length, refl, sym, ◌∙◌, ap, subst, arith}
use Rattle.std.specs.Vec.{with_items}
use Rattle.std.proofs.lemmas.List.{with_items_is}
use Rattle.cdc_cache.specs.Lines.{after_boundary}
use Rattle.cdc_cache.specs.Processors.{AreCaches}
use Rattle.cdc_cache.proofs.caches.CachesFabric.boundary.Goals as goal

pub returns-clause-step : goal.returns-clause-step
returns-clause-step g c =
    let self = c.args.self.now in
    let new = c.keep_caches.new.caches in
    let long : length new ≡ length self.caches.items = omega (arith, ap length c.deref_mut.ensures.value) in
    let items : (with_items self.caches new).items ≡ new = with_items_is self.caches new (omega (arith, long, self.caches.ok.0)) in
    record {
      shape = record { procs = ap length items ∙ long; geometry = refl; objects = refl };
      memory = refl;
      state = c.boundary.ensures.step;
      counts = λ lists are p within.
          c.keep_caches.ensures.counts self.geometry lists (subst (λ l. AreCaches g.S.Scheme self.geometry l lists) (sym c.deref_mut.ensures.value) are) p (omega (arith, within, ap length c.deref_mut.ensures.value));
      lines = λ lists are.
          subst (λ l. AreCaches g.S.Scheme self.geometry l (λ p. after_boundary g.S.Scheme self.state self.memory self.geometry.words c.args.written.now (lists p))) (sym items)
          (c.keep_caches.ensures.lines self.geometry lists (subst (λ l. AreCaches g.S.Scheme self.geometry l lists) (sym c.deref_mut.ensures.value) are));
    }
