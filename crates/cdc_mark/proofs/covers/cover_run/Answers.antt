use Rattle.std.proofs.Common.{◌∙◌, refl, arith}
use Rattle.cdc_mark.specs.Least.{IsIn}
use Rattle.cdc_mark.proofs.Covering.{run_none, run_more, run_all}
use Rattle.cdc_mark.proofs.covers.cover_run.Goals as goal

pub loop-at-init : goal.loop-at-init
loop-at-init c = record { count = refl; bits = λ site lt. run_none site (IsIn c.args.covered.now site) }

pub loop-at-preserved : goal.loop-at-preserved
loop-at-preserved c =
    let l = c.loop-at in
    record {
      count = c.cover_one.ensures.count ∙ l.invariant.count;
      bits = λ site lt. run_more site c.args.run.now l.at c.index-run-at.result _ _ _ (omega arith) c.index-run-at.is (c.cover_one.ensures.bits site (omega (arith, lt, l.invariant.count))) (l.invariant.bits site lt);
    }

pub returns-clause-bits : goal.returns-clause-bits
returns-clause-bits c = λ site lt. run_all site c.args.run.now c.loop-at.at _ _ (omega arith) (c.loop-at.invariant.bits site lt)
