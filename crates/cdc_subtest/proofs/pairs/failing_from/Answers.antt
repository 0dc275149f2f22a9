use Rattle.std.proofs.Common.{map, sym, ap}
use Rattle.cdc_subtest.specs.Seen.{seen_of, places_of}
use Rattle.cdc_subtest.proofs.Earlier.{like_passes}
use Rattle.cdc_subtest.proofs.pairs.failing_from.Goals as goal

pub returns-then-has_like : goal.returns-then-has_like
returns-then-has_like c =
    sym (ap places_of (like_passes c.args.step (seen_of c.args.p.now) (map seen_of c.args.earlier.now) (map seen_of c.args.rest.now) (c.has_like.ensures c.if-has_like.true) c.requires))
