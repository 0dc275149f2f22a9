use Rattle.std.proofs.Common.{◌≡◌, map, None, ap, ◌∙◌, rules}
use Rattle.cdc_prog.specs.Translation.{unit_of}
use Rattle.cdc_subtest.specs.declared.conflict.Search.{Search}
use Rattle.cdc_subtest.specs.Searches.{searched_units}
use Rattle.cdc_subtest.proofs.Searches.{search_is}
use Rattle.cdc_subtest.proofs.conflict.first_conflict.Goals as goal

pub returns : goal.returns
returns c =
    let found : c.in_ok-found.found ≡ searched_units c.args.program.now.objects (map unit_of c.args.program.now.units) (record { last = c.args.program.now.doalls; pair = None }) = search rules in
    ap (λ (s : Search). s.pair) found ∙ search_is c.args.program.now.objects (map unit_of c.args.program.now.units) c.args.program.now.doalls
