use Rattle.cdc_token.proofs.FirstLine.{first_ended, first_last}
use Rattle.cdc_token.proofs.physical.first_line.Goals as goal

pub returns-in-empty-clause-cut : goal.returns-in-empty-clause-cut
returns-in-empty-clause-cut c =
    let parts = c.split_at.ensures in first_last _ _ _ _ parts.front parts.back c.line_len.ensures.value c.requires c.in-empty.len_below

pub returns-in-len1-up-clause-cut : goal.returns-in-len1-up-clause-cut
returns-in-len1-up-clause-cut c =
    let parts = c.split_at.ensures in
    first_ended _ _ _ _ _ parts.front parts.back c.line_len.ensures.value c.in-len1-up.len_at_least c.without_return.ensures.value
