use Rattle.std.proofs.Common.{◌≡◌, vec_len}
use Rattle.cdc_flow.specs.Built.{met}
use Rattle.cdc_flow.proofs.builder.Builder.meet_all.Given as goal

abbrev pub invariant-loop-end : goal.invariant-loop-end
invariant-loop-end l = met l.ends.items l.self ≡ met l.initial.ends.items l.initial.self

abbrev pub decreases-loop-end : goal.decreases-loop-end
decreases-loop-end l = vec_len l.ends
