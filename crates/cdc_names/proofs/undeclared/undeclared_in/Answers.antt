use Rattle.std.proofs.Common.{refl}
use Rattle.cdc_names.specs.Places.{first_of}
use Rattle.cdc_names.specs.Scopes.{plain_scope}
use Rattle.cdc_names.specs.Undeclared.{undeclared}
use Rattle.cdc_names.proofs.Firsts.{first_step}
use Rattle.cdc_names.proofs.undeclared.undeclared_in.Goals as goal

pub loop-u-preserved : goal.loop-u-preserved
loop-u-preserved c =
    first_step (undeclared (plain_scope c.args.scope.now)) (first_of (undeclared (plain_scope c.args.scope.now))) (λ x xs. refl) _ _ c.u-item.result _ _ _ _ c.undeclared.ensures c.sooner-best.ensures c.u-item.is c.loop-u-test.true c.loop-u.invariant
