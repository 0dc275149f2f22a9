use Rattle.std.proofs.Common.{◌≡◌, ◌<◌, ◌^◌, drop}
use Rattle.cdc_token.specs.Values.{number_after}
use Rattle.cdc_token.proofs.value.number.Given as goal

abbrev pub invariant-loop-b : goal.invariant-loop-b
invariant-loop-b l = (number_after l.value (drop l.b-index l.digits) ≡ number_after 0 l.digits) × (l.value < 2 ^ 63)
