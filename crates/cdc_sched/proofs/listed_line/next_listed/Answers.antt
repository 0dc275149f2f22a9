use Rattle.std.proofs.Common.{sym}
use Rattle.cdc_sched.proofs.Listings.{no_events, some_events, bad_event}
use Rattle.cdc_sched.proofs.listed_line.next_listed.Goals as goal

pub returns-in_default : goal.returns-in_default
returns-in_default c = no_events c.args.procs c.in_default.ensures.none

pub returns-in-Some : goal.returns-in-Some
returns-in-Some c =
    some_events c.args.procs c.args.above c.in-Ok.kept c.in-Ok.ensures.found c.in-Some.repeated (sym c.in-Some.ensures.event) c.in-Some.ensures.within

pub returns-in-None : goal.returns-in-None
returns-in-None c = bad_event c.args.procs c.args.above c.in-Ok.kept c.in-Ok.ensures.found (sym c.in-None.ensures.event)
