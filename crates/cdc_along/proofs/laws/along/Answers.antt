use Rattle.cdc_path.specs.Courses.{IsPath}
use Rattle.cdc_along.proofs.Along.{begins}
use Rattle.cdc_along.proofs.Trees.{program_along}
use Rattle.cdc_along.proofs.Tasks.{tasks_along}
use Rattle.cdc_along.proofs.Counts as lemma
use Rattle.cdc_along.proofs.laws.along.Goals as goal

pub returns-clause-programs : goal.returns-clause-programs
returns-clause-programs c = λ p resolved records s. program_along p records s resolved

pub returns-clause-tasks : goal.returns-clause-tasks
returns-clause-tasks c = tasks_along

pub returns-clause-passed : goal.returns-clause-passed
returns-clause-passed c = record { serial = λ p. begins (IsPath p); iteration = λ p. lemma.begins_inside (IsPath p); counts = lemma.counts; leads = lemma.leads }
