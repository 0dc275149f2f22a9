use Rattle.cdc_token.proofs.Values.{symbol_read, symbol_unread}
use Rattle.cdc_token.proofs.meaning.symbol_meaning.Goals as goal

pub returns-in-None : goal.returns-in-None
returns-in-None c = absurd (symbol_unread _ c.requires c.in-None.ensures)

pub returns-in-Some : goal.returns-in-Some
returns-in-Some c = symbol_read _ c.requires _ _ c.in-Some.ensures
