use Rattle.std.proofs.Common.{ℕ}
use Rattle.cdc_num.proofs.triplet.+least.Given as goal

abbrev pub decreases-least : goal.decreases-least
decreases-least l = l.m
