use Rattle.std.proofs.Common.{◌≡◌, ◌++◌, drop, false}
use Rattle.cdc_token.specs.Values.{halved}
use Rattle.cdc_token.proofs.value.without_seconds.Given as goal

abbrev pub invariant-loop-b : goal.invariant-loop-b
invariant-loop-b l = l.out.items ++ halved l.quote l.is_second (drop l.b-index l.inner) ≡ halved l.quote false l.inner
