use Rattle.cdc_tree.specs.Units.{body}
use Rattle.cdc_prog.specs.Plain as plain
use Rattle.cdc_prog.specs.Translation.{stmt_of}
use Rattle.cdc_check.specs.Statements.{nodes_in}
use Rattle.cdc_check.proofs.Others.{no_loop, with_state}
use Rattle.cdc_check.proofs.constructs.+node.Goals as goal

pub looped-returns-in_default : goal.looped-returns-in_default
looped-returns-in_default t c =
    with_state (stmt_of c.nothing.result) (plain.If plain.Skip) c.args.state.now _ c.nothing.ensures
    (no_loop c.args.head.now.form c.args.head.now.place.line (nodes_in (body c.args.body.now)) c.args.names.now c.args.state.now c.in_default.not-Do c.in_default.not-Doall)
