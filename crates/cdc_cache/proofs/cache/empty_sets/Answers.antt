use Rattle.std.proofs.Common.{[], sym, subst, arith}
use Rattle.cdc_cache.specs.Sets.{AreSets}
use Rattle.cdc_cache.proofs.SetCalls.{sets_push}
use Rattle.cdc_cache.proofs.cache.empty_sets.Goals as goal

pub loop-set-preserved : goal.loop-set-preserved
loop-set-preserved g c = record {
  many = omega (arith, c.in_ok-push.ensures.len, c.loop-set.invariant.many);
  held = subst (λ xs. AreSets c.args.geometry xs []) (sym c.in_ok-push.ensures.items) (sets_push c.args.geometry c.loop-set.sets.items c.in_ok-new.field-0 c.loop-set.invariant.held c.in_ok-new.ensures.empty c.in_ok-new.ensures.sized);
}
