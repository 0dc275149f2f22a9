use Rattle.std.proofs.Common.{◌≡◌, ◌++◌, drop}
use Rattle.cdc_prog.specs.Plain.{Stmt as PlainStmt}
use Rattle.cdc_prog.specs.Translation.{stmts_of, arms_of}
use Rattle.cdc_code.specs.Template.{stmt_code}
use Rattle.cdc_emit.specs.Parts.{AreWithin, has_code, closed}
use Rattle.cdc_emit.proofs.statements.+statement.Given as goal

abbrev pub invariant-emit_statements-loop-statement : goal.invariant-emit_statements-loop-statement
invariant-emit_statements-loop-statement l =
    l.steps ++ stmt_code l.marks (stmts_of (drop l.statement-index l.statements)) ≡ l.initial.steps ++ stmt_code l.marks (stmts_of l.statements)

abbrev pub invariant-emit_arms-loop-number : goal.invariant-emit_arms-loop-number
invariant-emit_arms-loop-number l = record {
  within : AreWithin l.steps l.ends.items;
  closed : (other : PlainStmt) → l.other_has_code ≡ has_code other →
      closed l.ends.items (l.steps ++ stmt_code l.marks (arms_of (drop l.number l.arms) other)) ≡ l.initial.steps ++ stmt_code l.marks (arms_of l.arms other);
}
