use Rattle.std.proofs.Common.{◌≡◌, ◌-◌}
use Rattle.cdc_epoch.proofs.roster.Roster.least_free.Given as goal

abbrev pub invariant-loop-self : goal.invariant-loop-self
invariant-loop-self l = record {
  count : l.self.count ≡ l.fn.self.count;
  taken : l.self.taken ≡ l.fn.self.taken;
  held : l.self.held ≡ l.fn.self.held;
}

abbrev pub decreases-loop-self : goal.decreases-loop-self
decreases-loop-self l = l.self.count - l.self.least
