use Rattle.cdc_token.specs.Symbols.{spellings}
use Rattle.cdc_token.proofs.spelling.symbol_at.Goals as goal

pub returns : goal.returns
unfolding spellings
returns c = c.first_fit.ensures
