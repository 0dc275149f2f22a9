use Rattle.std.proofs.Common.{◌∙◌, sym}
use Rattle.clap.specs.Words.{found_of, rows_of, subcommand_rows_of}
use Rattle.cdc_words.proofs.Matches.{asked, name_is}
use Rattle.cdc_words.proofs.matched.command_in.Goals as goal

pub returns : goal.returns
returns c =
    c.with_first.ensures ∙ asked (subcommand_rows_of c.args.matches.now) c.in_ok-verb.verb.now (rows_of (found_of c.in_ok-verb.given.now)) c.in_ok-word_in.field-0.now
    (name_is c.args.matches.now ∙ sym c.in_ok-verb.ensures.name) (sym c.in_ok-verb.ensures.rows) c.in_ok-word_in.ensures
