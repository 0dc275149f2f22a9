use Rattle.std.proofs.Common.{◌≡◌}
use Rattle.cdc_cache_tests.proofs.calls.make_all.Given as goal

abbrev pub invariant-loop-call : goal.invariant-loop-call
invariant-loop-call g l = record {
  procs : g.F.Fabric.procs l.fabric ≡ l.run.header.procs;
  words : g.F.Fabric.words l.fabric ≡ l.run.words;
  made : g.F.Fabric.made l.fabric ≡ g.F.Fabric.made l.initial.fabric;
}
