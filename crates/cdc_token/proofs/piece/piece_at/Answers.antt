use Rattle.cdc_token.proofs.Longest.{found_of, within_of, none_of}
use Rattle.cdc_token.proofs.piece.piece_at.Goals as goal

pub returns-clause-found : goal.returns-clause-found
returns-clause-found c = found_of _ _ c.cut.ensures

pub returns-clause-within : goal.returns-clause-within
returns-clause-within c = within_of _ _ c.cut.ensures

pub returns-clause-none : goal.returns-clause-none
returns-clause-none c = none_of _ _ c.cut.ensures
