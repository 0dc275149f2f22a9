use Rattle.cdc_path.proofs.OneMarks as lemma
use Rattle.cdc_path.proofs.Denoted.{lists_of_objects}
use Rattle.cdc_path.proofs.laws.one_marks.Goals as goal

pub returns-clause-one : goal.returns-clause-one
returns-clause-one c = lemma.one_marks

pub returns-clause-increasing : goal.returns-clause-increasing
returns-clause-increasing c = lemma.lists_increase

pub returns-clause-objects : goal.returns-clause-objects
returns-clause-objects c = lists_of_objects
