use Rattle.std.proofs.Common.{◌≡◌}
use Rattle.cdc_cache_bench.proofs.calls.make_calls.Given as goal

abbrev pub invariant-loop-turn : goal.invariant-loop-turn
invariant-loop-turn g l = record {
  procs : g.F.Fabric.procs l.side ≡ g.F.Fabric.procs l.initial.side;
  words : g.F.Fabric.words l.side ≡ g.F.Fabric.words l.initial.side;
}
