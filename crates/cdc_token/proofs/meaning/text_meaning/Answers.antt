use Rattle.std.proofs.Common.{ap, ◌∙◌}
use Rattle.cdc_token.specs.declared.token.Token.TheVariants as token
use Rattle.cdc_token.specs.declared.meaning.Meaning.TheVariants.{Token}
use Rattle.cdc_token.proofs.Values.{bad_text, shown_text}
use Rattle.cdc_token.proofs.meaning.text_meaning.Goals as goal

pub returns-in-Some-clause-wrong : goal.returns-in-Some-clause-wrong
returns-in-Some-clause-wrong c = bad_text _ _ _ c.in-Some.ensures

pub returns-in_ok-content-in-None-clause-ok : goal.returns-in_ok-content-in-None-clause-ok
returns-in_ok-content-in-None-clause-ok c = (ap (λ s. Token (token.Text s)) (c.of.ensures ∙ c.in_ok-content-in-None.ensures), shown_text _ c.in-None.ensures)
