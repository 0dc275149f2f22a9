use Rattle.std.proofs.Common.{◌≡◌, drop}
use Rattle.cdc_prog.specs.Translation.{stmts_of}
use Rattle.cdc_emit.specs.Parts.{has_code}
use Rattle.cdc_emit.proofs.conditions.+has_code.Given as goal

abbrev pub invariant-has_code-loop-statement : goal.invariant-has_code-loop-statement
invariant-has_code-loop-statement l = has_code (stmts_of (drop l.statement-index l.statements)) ≡ has_code (stmts_of l.statements)
