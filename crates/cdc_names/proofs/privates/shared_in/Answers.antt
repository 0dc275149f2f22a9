use Rattle.std.proofs.Common.{refl, ap, ◌∙◌}
use Rattle.cdc_names.specs.Used.{Used}
use Rattle.cdc_names.specs.DoVariables.{opened_after}
use Rattle.cdc_names.specs.Privates.{shared, shared_from}
use Rattle.cdc_names.proofs.Firsts.{scan_step}
use Rattle.cdc_names.proofs.privates.shared_in.Goals as goal

pub loop-u-preserved : goal.loop-u-preserved
loop-u-preserved c =
    scan_step shared (λ os u. opened_after os u.role u.name) shared_from (λ s x xs. refl) _ _ c.u-item.result c.loop-u.loops _ _ _ _ _ c.shared.ensures c.sooner-best.ensures
    (c.in_ok-step.ensures ∙ ap (λ (u : Used). opened_after c.loop-u.loops u.role u.name) c.u.view_is) c.u-item.is c.loop-u-test.true c.loop-u.invariant
