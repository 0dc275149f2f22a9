use Rattle.std.proofs.Common.{◌≡◌, ◌+◌, drop}
use Rattle.cdc_prog.specs.Plain.{Stmt as PlainStmt}
use Rattle.cdc_prog.specs.Numbered.{calls_in}
use Rattle.cdc_prog.specs.Translation.{stmts_of, arms_of}
use Rattle.cdc_flow.proofs.calls.+count.Given as goal

abbrev pub invariant-count_statements-loop-statement : goal.invariant-count_statements-loop-statement
invariant-count_statements-loop-statement l = l.calls + calls_in (stmts_of (drop l.statement-index l.statements)) ≡ l.initial.calls + calls_in (stmts_of l.statements)

abbrev pub invariant-count_arms-loop-arm : goal.invariant-count_arms-loop-arm
invariant-count_arms-loop-arm l = (other : PlainStmt) → l.calls + calls_in (arms_of (drop l.arm-index l.arms) other) ≡ l.initial.calls + calls_in (arms_of l.arms other)
