use Rattle.std.proofs.Common.{ap, ◌∙◌}
use Rattle.cdc_names.specs.Entries.{named}
use Rattle.cdc_names.specs.Table.{placed}
use Rattle.cdc_names.proofs.Lookup.{placed_in}
use Rattle.cdc_names.proofs.table.Table.set.Goals as goal

pub returns : goal.returns
returns g c =
    ap named c.in_ok-insert.ensures.entries
    ∙ placed_in c.args.name c.args.value c.self.inside.map.entries
    ∙ ap (placed c.args.name.now c.args.value) c.self.view_is
