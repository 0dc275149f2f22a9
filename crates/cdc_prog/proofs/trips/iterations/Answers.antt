use Rattle.std.proofs.Common.{◌≡◌, rules}
use Rattle.cdc_prog.specs.Value.{trips}
use Rattle.cdc_prog.specs.Trips.{few_of}
use Rattle.cdc_prog.proofs.Indexes.{counted_indexes}
use Rattle.cdc_prog.proofs.trips.iterations.Goals as goal

pub returns-clause-indexes : goal.returns-clause-indexes
returns-clause-indexes c =
    let is : c.and_then.result ≡ few_of (trips c.args.from c.args.to c.args.by) = search rules in
    counted_indexes c.args.from c.args.to c.args.by c.and_then.result c.ranges.from c.ranges.to is
