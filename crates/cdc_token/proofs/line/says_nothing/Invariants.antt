use Rattle.std.proofs.Common.{◌≡◌, drop}
use Rattle.cdc_token.specs.Pieces.{says_nothing}
use Rattle.cdc_token.proofs.line.says_nothing.Given as goal

abbrev pub invariant-loop-b : goal.invariant-loop-b
invariant-loop-b l = says_nothing (drop l.b-index l.z) ≡ says_nothing l.z
