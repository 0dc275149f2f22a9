use Rattle.cdc_along.proofs.InSections.{program_in_sections}
use Rattle.cdc_along.proofs.Meet.{meet}
use Rattle.cdc_along.proofs.laws.sections.Goals as goal

pub returns-clause-hold : goal.returns-clause-hold
returns-clause-hold c = λ p resolved none loops indexes records s. program_in_sections p records s resolved none loops indexes

pub returns-clause-overlap : goal.returns-clause-overlap
returns-clause-overlap c = meet
