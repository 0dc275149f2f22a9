use Rattle.cdc_num.proofs.Triplets.{none_meets, meet_within, meet_over}
use Rattle.cdc_num.proofs.triplet.meet_from.Goals as goal

pub returns-in-None : goal.returns-in-None
returns-in-None c = (λ e. cc, λ m. absurd (none_meets c.args.a c.args.b c.requires c.in-None.ensures m))

pub returns-then-z-a : goal.returns-then-z-a
returns-then-z-a c = meet_within c.args.a c.args.b c.requires c.in-Some.turns c.walked-z.result c.in-Some.ensures c.walked-z.ensures c.if-z-a.true

pub returns-else-z-a : goal.returns-else-z-a
returns-else-z-a c = meet_over c.args.a c.args.b c.requires c.in-Some.turns c.walked-z.result c.in-Some.ensures c.walked-z.ensures c.if-z-a.false
