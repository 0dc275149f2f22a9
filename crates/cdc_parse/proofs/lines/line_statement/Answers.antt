use Rattle.std.proofs.Common.{refl}
use Rattle.cdc_tree.specs.Forms.{statement}
use Rattle.cdc_parse.proofs.LineLaws.{line_good, line_none}
use Rattle.cdc_parse.proofs.lines.line_statement.Goals as goal

pub returns-in-Ok : goal.returns-in-Ok
returns-in-Ok c = line_good c.args.line.tokens.now (statement c.in-Ok.statement) (c.is_deep.ensures.within c.if-is_deep.false) c.in-Ok.ensures

pub returns-in-Err-NotAStatement : goal.returns-in-Err-NotAStatement
returns-in-Err-NotAStatement c =
    let h = line_none c.args.line.tokens.now (c.is_deep.ensures.within c.if-is_deep.false) (rw c.in-Err-NotAStatement.field-0-is at c.in-Err-NotAStatement.ensures) in
    (refl, h.0, h.1)
