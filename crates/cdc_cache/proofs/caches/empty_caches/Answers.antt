use Rattle.std.proofs.Common.{[], sym, subst, arith}
use Rattle.cdc_cache.specs.Processors.{AreCaches}
use Rattle.cdc_cache.proofs.Processors.{caches_push}
use Rattle.cdc_cache.proofs.caches.empty_caches.Goals as goal

pub loop-proc-preserved : goal.loop-proc-preserved
loop-proc-preserved g c = record {
  many = omega (arith, c.in_ok-push.ensures.len, c.loop-proc.invariant.many);
  are = subst (λ xs. AreCaches g.S.Scheme c.args.geometry xs (λ p. [])) (sym c.in_ok-push.ensures.items)
      (caches_push g.S.Scheme c.args.geometry c.loop-proc.caches.items c.in_ok-new.field-0 c.loop-proc.invariant.are c.in_ok-new.ensures.geometry c.in_ok-new.ensures.empty);
}
