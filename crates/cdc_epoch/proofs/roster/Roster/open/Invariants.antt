use Rattle.std.proofs.Common.{◌≡◌, ℕ, ◌<◌, false, true, get_or}
use Rattle.cdc_epoch.proofs.roster.Roster.open.Given as goal

abbrev pub invariant-loop-i : goal.invariant-loop-i
invariant-loop-i l = record {
  free : (k : ℕ) → k < l.i → get_or l.self.taken k true ≡ false;
  held : l.self.held ≡ l.fn.self.held;
  least : l.self.least ≡ 0;
  count : l.self.count ≡ l.count;
}
