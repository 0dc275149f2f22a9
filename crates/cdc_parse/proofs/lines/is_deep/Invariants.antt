use Rattle.std.proofs.Common.{◌≤◌, drop}
use Rattle.cdc_parse.proofs.LineLaws.{Tells}
use Rattle.cdc_parse.proofs.lines.is_deep.Given as goal

abbrev pub invariant-loop-lexed : goal.invariant-loop-lexed
invariant-loop-lexed l = (l.count ≤ 64) × Tells l.count (drop l.lexed-index l.tokens) l.tokens
