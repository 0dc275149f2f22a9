use Rattle.std.proofs.Common.{◌+◌, is_ok, sym, ◌∙◌, ap, subst, true-eqb, length}
use Rattle.std.proofs.lemmas.Result.{err_from_is_err_and}
use Rattle.std.proofs.ResultArms.{chosen}
use Rattle.cdc_input.proofs.Gone.{Gone, gone_fails, gone_more, gone_end}
use Rattle.cdc_input.proofs.file.records.Goals as goal

pub returns-in_err-values-clause-bad : goal.returns-in_err-values-clause-bad
returns-in_err-values-clause-bad c =
    let p = err_from_is_err_and c.from_residual.result c.from_residual.ensures.1 in
    rw (p.1, p.2) (gone_fails c.next_line.result.1.now c.loop-rest.invariant c.next_line.ensures.lines c.in_err-values.field-0.0 c.in_err-values.ensures.bad)

pub loop-rest-preserved : goal.loop-rest-preserved
loop-rest-preserved c =
    let pushed = chosen _ _ _ _ c.push.ensures.items (ap is_ok c.in_ok-push.was) in
    let good = c.in_ok-values.ensures in
    subst (λ rs. Gone c.args.bytes.now rs (c.loop-rest.number + 1) c.next_line.result.1.now) (sym pushed)
    (gone_more c.next_line.result.1.now c.loop-rest.invariant c.next_line.ensures.lines good.good c.next_line.ensures.after _ (c.of.ensures ∙ good.values))

pub returns-clause-good : goal.returns-clause-good
returns-clause-good c =
    (gone_end _ _ _ _ c.loop-rest.invariant (true-eqb (length c.loop-rest.rest.now) 0 c.loop-rest-test.ensures)).1
