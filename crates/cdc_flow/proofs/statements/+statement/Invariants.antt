use Rattle.std.proofs.Common.{◌≡◌, ◌+◌, [], drop}
use Rattle.cdc_prog.specs.Plain.{Stmt as PlainStmt}
use Rattle.cdc_prog.specs.Numbered.{calls_in, calls_numbered}
use Rattle.cdc_prog.specs.Translation.{stmts_of, arms_of}
use Rattle.cdc_path.specs.Courses.{unit_course}
use Rattle.cdc_flow.specs.Built.{built, met}
use Rattle.cdc_flow.proofs.statements.+statement.Given as goal

abbrev pub invariant-add_statements-loop-statement : goal.invariant-add_statements-loop-statement
invariant-add_statements-loop-statement l = record {
  graph : built (unit_course [] (calls_numbered l.calls (stmts_of (drop l.statement-index l.statements)))) l.g ≡ built (unit_course [] (calls_numbered l.initial.calls (stmts_of l.statements))) l.initial.g;
  calls : l.calls + calls_in (stmts_of (drop l.statement-index l.statements)) ≡ l.initial.calls + calls_in (stmts_of l.statements);
}

abbrev pub invariant-add_arms-loop-arm : goal.invariant-add_arms-loop-arm
invariant-add_arms-loop-arm l = record {
  graph : (other : PlainStmt) → met l.ends.items (built (unit_course [] (calls_numbered l.calls (arms_of (drop l.arm-index l.arms) other))) l.g) ≡ built (unit_course [] (calls_numbered l.initial.calls (arms_of l.arms other))) l.initial.g;
  calls : (other : PlainStmt) → l.calls + calls_in (arms_of (drop l.arm-index l.arms) other) ≡ l.initial.calls + calls_in (arms_of l.arms other);
}
