use Rattle.cdc_compile.proofs.Ascending.{lines_ascend}
use Rattle.cdc_compile.proofs.source.statements_of.Goals as goal

pub statements-requires : goal.statements-requires
statements-requires c = lines_ascend c.args.source.now c.in_ok-lines.lines c.in_ok-lines.ensures.lines.are_lines
