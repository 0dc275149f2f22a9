use Rattle.std.proofs.Common.{refl}
use Rattle.std.proofs.lemmas.Result.{err_from_is_err_and}
use Rattle.cdc_token.proofs.Limit.{limit_fails, limit_takes, line_ends, line_goes_on}
use Rattle.cdc_token.proofs.line.take_line.Goals as goal

pub returns-in_err-goes_on-clause-fault : goal.returns-in_err-goes_on-clause-fault
returns-in_err-goes_on-clause-fault c =
    let p = err_from_is_err_and c.from_residual.result c.from_residual.ensures.1 in
    rw (p.1, p.2) (limit_fails _ _ _ _ _ c.take_pieces-seen.result _ refl c.take_pieces-seen.ensures.ok c.take_pieces-seen.ensures.seen _ c.in_err-goes_on.ensures)

pub returns-in_ok-close-clause-ok : goal.returns-in_ok-close-clause-ok
returns-in_ok-close-clause-ok c =
    let taken = limit_takes _ _ _ _ _ c.take_pieces-seen.result _ refl c.take_pieces-seen.ensures.ok _ c.in_ok-goes_on.ensures in
    line_ends taken.0 taken.1 _ c.if-not-goes_on.true c.in_ok-close.ensures.taken

pub returns-else-not-goes_on-clause-ok : goal.returns-else-not-goes_on-clause-ok
returns-else-not-goes_on-clause-ok c =
    let taken = limit_takes _ _ _ _ _ c.take_pieces-seen.result _ refl c.take_pieces-seen.ensures.ok _ c.in_ok-goes_on.ensures in
    line_goes_on taken.0 taken.1 c.if-not-goes_on.false
