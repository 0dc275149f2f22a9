use Rattle.std.proofs.Common.{ap, ◌∙◌}
use Rattle.cdc_names.specs.Table.{found}
use Rattle.cdc_names.proofs.Lookup.{found_in}
use Rattle.cdc_names.proofs.table.Table.get.Goals as goal

pub returns : goal.returns
returns g c =
    c.copied.ensures ∙ c.get.ensures.value ∙ found_in c.args.name.now c.self.inside.map.entries ∙ ap (found c.args.name.now) c.self.view_is
