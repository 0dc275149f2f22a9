use Rattle.std.proofs.lemmas.Result.{IfOk-weaker}
use Rattle.cdc_words.proofs.Joined.{joined}
use Rattle.cdc_words.proofs.parser.tool.Goals as goal

pub returns : goal.returns
returns c =
    let runs = joined _ _ _ _ _ c.bare.ensures c.in_ok-with_three.ensures c.in_ok-subcommand.ensures in
    let checks = joined _ _ _ _ _ runs c.in_ok-with_one.ensures c.in_ok-subcommand-2.ensures in
    let marks = joined _ _ _ _ _ checks c.in_ok-with_one-2.ensures c.in_ok-subcommand-3.ensures in
    let lists = joined _ _ _ _ _ marks c.in_ok-with_one-3.ensures c.in_ok-subcommand-4.ensures in
    let evaluates = joined _ _ _ _ _ lists c.in_ok-with_two.ensures c.in_ok-subcommand-5.ensures in
    IfOk-weaker c.subcommand-6.result _ _ (λ new added. joined _ _ _ _ _ evaluates c.in_ok-with_one-4.ensures added) c.subcommand-6.ensures
