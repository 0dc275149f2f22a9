use Rattle.std.proofs.Common.{map}
use Rattle.cdc_tree.specs.Plain.{plain, plains}
use Rattle.cdc_parse.proofs.Counts.{count_view, known_many, known_few}
use Rattle.cdc_parse.proofs.kind.+kind.Goals as goal

pub known_kind-returns-then-takes : goal.known_kind-returns-then-takes
known_kind-returns-then-takes t c = known_many c.args.intrinsic (plains (map plain c.args.arguments.now)) _ _ _ _ (count_view c.args.arguments.now) c.takes.ensures c.if-takes.true c.are_numbers.ensures c.number_if.ensures

pub known_kind-returns : goal.known_kind-returns
known_kind-returns t c = known_few c.args.intrinsic (plains (map plain c.args.arguments.now)) _ _ (count_view c.args.arguments.now) c.takes.ensures c.if-takes.false
