use Rattle.std.proofs.Common.{sym, ap, ◌∙◌}
use Rattle.cdc_flow.specs.Built.{met}
use Rattle.cdc_flow.proofs.Arms.{met_last}
use Rattle.cdc_flow.proofs.builder.Builder.meet_all.Goals as goal

pub loop-end-preserved : goal.loop-end-preserved
loop-end-preserved c =
    let left = c.pop.new.self.items in
    let l = c.loop-end in
    ap (met left) c.in_ok-meet.ensures ∙ sym (met_last left c.in-Some.end l.self) ∙ ap (λ es. met es l.self) (sym c.in-Some.ensures.items) ∙ l.invariant
