use Rattle.cdc_prog.proofs.Sameness.{same_trees}
use Rattle.cdc_prog.proofs.laws.equal_trees.Goals as goal

pub returns : goal.returns
returns c = same_trees
