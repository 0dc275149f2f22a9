use Rattle.cdc_parse.proofs.LineLaws.{ok_in_order}
use Rattle.cdc_parse.proofs.lines.statements.Goals as goal

pub returns-clause-ordered : goal.returns-clause-ordered
returns-clause-ordered c numbered = ok_in_order c.each_statement.result c.args.lines.now c.each_statement.ensures c.requires numbered
