use Rattle.std.proofs.Common.{subst, sym, rules, arith}
use Rattle.cdc_mark.specs.Rows.{AreRows}
use Rattle.cdc_mark.proofs.Columns.{rows_more}
use Rattle.cdc_mark.proofs.written.rows_of.Goals as goal

pub loop-object-init : goal.loop-object-init
loop-object-init c = record { count = search rules; rows = λ x flow object lt. absurd (omega (arith, lt)) }

pub loop-object-preserved : goal.loop-object-preserved
loop-object-preserved c =
    let l = c.loop-object in
    record {
      count = omega (arith, c.in_ok-push.ensures.len, l.invariant.count);
      rows = λ x flow. rows_more x c.args.refs.now c.args.places l.object l.rows.items c.push.new.self.items c.in_ok-row.row c.in_ok-push.ensures.items l.invariant.count (c.in_ok-row.ensures x flow) (l.invariant.rows x flow);
    }

pub returns-clause-rows : goal.returns-clause-rows
returns-clause-rows c = λ x flow. subst (λ n. AreRows x c.args.refs.now c.args.places n c.loop-object.rows.items) (sym c.loop-object.invariant.count) (c.loop-object.invariant.rows x flow)
