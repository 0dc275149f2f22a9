use Rattle.cdc_phase.specs.TagsLaws.{ages_are_true}
use Rattle.cdc_phase.proofs.laws.ages_are_true.Goals as goal

pub returns : goal.returns
returns c = λ half all pos double. ages_are_true half all pos double
