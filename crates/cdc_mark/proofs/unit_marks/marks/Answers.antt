use Rattle.cdc_mark.proofs.MainUnit.{main_below}
use Rattle.cdc_mark.proofs.unit_marks.marks.Goals as goal

pub flow-requires : goal.flow-requires
flow-requires c = main_below c.args.program.now c.requires.resolved

pub main_references-requires : goal.main_references-requires
main_references-requires c = main_below c.args.program.now c.requires.resolved
