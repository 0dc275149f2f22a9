use Rattle.std.proofs.Common.{arith}
use Rattle.cdc_token.proofs.Values.{text_inner, if_ok}
use Rattle.cdc_token.proofs.meaning.content.Goals as goal

pub returns-in-len2-up : goal.returns-in-len2-up
returns-in-len2-up c = if_ok _ (λ v. v.items) _ _ c.without_seconds.ensures (text_inner c.args.text.now _ c.requires (omega (arith, c.in-len2-up.len_at_least)))
