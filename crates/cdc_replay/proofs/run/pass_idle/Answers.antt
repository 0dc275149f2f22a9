use Rattle.std.proofs.Common.{◌≤◌, ◌+◌, ℕ, arith}
use Rattle.cdc_replay.proofs.Passing.{skipped, idle_is}
use Rattle.cdc_replay.proofs.run.pass_idle.Goals as goal

le : (a n b : ℕ) → a + n ≤ b → a ≤ b
le a n b is = omega (arith, is)

pub returns-in-Idle : goal.returns-in-Idle
returns-in-Idle g c = record {
  passed = (
    c.pass_same-passed.result,
    c.pass_same-passed.ensures.most,
    c.pass.ensures,
    λ some. idle_is c.args.event c.args.effect c.in-Idle.is c.in_default.not-Evict,
    skipped c.args.event (g.E.Events.told c.args.events.now) (g.E.Events.told c.pass_same-passed.new.self) (g.E.Events.last c.args.events.now) c.pass_same-passed.result c.requires.last c.pass_same-passed.ensures.told,
  );
  left = le (g.E.Events.left c.pass_same-passed.new.self) c.pass_same-passed.result (g.E.Events.left c.args.events.now) c.pass_same-passed.ensures.left;
  events = record { procs = c.pass_same-passed.ensures.procs; failed = c.pass_same-passed.ensures.failed; faults = c.pass_same-passed.ensures.faults; last = c.pass_same-passed.ensures.last };
}
