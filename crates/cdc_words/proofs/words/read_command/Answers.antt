use Rattle.std.proofs.Common.{◌∙◌, map, string_bytes, sym}
use Rattle.clap.specs.Words.{app_of}
use Rattle.cdc_words.proofs.Ends.{of_matches, of_error}
use Rattle.cdc_words.proofs.words.read_command.Goals as goal

pub returns-in-Ok : goal.returns-in-Ok
returns-in-Ok c =
    c.command_in.ensures ∙ of_matches (app_of c.in_ok-tool.field-0) (map string_bytes c.args.words.now) c.try_get_matches_from.result c.in_ok-tool.ensures.0
    (sym c.if-not-are_words.ensures) c.try_get_matches_from.ensures.kinds c.in-Ok.matches c.in-Ok.is c.in-Ok.ensures.matches

pub returns : goal.returns
returns c =
    of_error (app_of c.in_ok-tool.field-0) (map string_bytes c.args.words.now) c.try_get_matches_from.result c.in_ok-tool.ensures.0
    (sym c.if-not-are_words.ensures) c.try_get_matches_from.ensures.kinds c.in-Err.error c.in-Err.is (c.lacks_memory.ensures c.if-lacks_memory.false)
