use Rattle.cdc_parse.proofs.LineLaws as laws
use Rattle.cdc_parse.proofs.laws.one_statement.Goals as goal

pub returns : goal.returns
returns c = laws.one_statement
