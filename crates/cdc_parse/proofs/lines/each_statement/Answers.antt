use Rattle.cdc_tree.specs.Forms.{statement}
use Rattle.cdc_parse.proofs.Loops.{map_put}
use Rattle.cdc_parse.proofs.LineLaws.{read_refused, read_more}
use Rattle.cdc_parse.proofs.lines.each_statement.Goals as goal

pub returns-in-Err : goal.returns-in-Err
returns-in-Err c =
    read_refused c.args.lines.now c.loop-line.rest _ _ c.loop-line.statements.items c.in-Err.refusal c.first_refusal.result c.loop-line.invariant
    c.in-Some.ensures c.requires c.in-Err.ensures c.first_refusal.ensures

pub loop-line-preserved : goal.loop-line-preserved
loop-line-preserved c =
    read_more c.args.lines.now c.loop-line.rest _ _ c.loop-line.statements.items _ c.in-Ok.statement c.loop-line.invariant
    c.in-Some.ensures
    (map_put statement c.loop-line.statements.items _ c.in-Ok.statement c.in_ok-push-in-Ok.ensures.items) c.in-Ok.ensures
