use Rattle.cdc_code.proofs.Whole as whole
use Rattle.cdc_code.proofs.Names as names
use Rattle.cdc_code.proofs.Alone as alone
use Rattle.cdc_code.proofs.laws.code.Goals as goal

pub returns-clause-follows : goal.returns-clause-follows
returns-clause-follows c = whole.follows

pub returns-clause-names : goal.returns-clause-names
returns-clause-names c = names.named

pub returns-clause-runs : goal.returns-clause-runs
returns-clause-runs c = alone.code_runs

pub returns-clause-sound : goal.returns-clause-sound
returns-clause-sound c = alone.code_is_sound
