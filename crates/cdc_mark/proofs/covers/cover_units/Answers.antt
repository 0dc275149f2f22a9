use Rattle.std.proofs.Common.{◌↔◌, ◌⊎◌, List, subst, ◌∙◌, arith}
use Rattle.cdc_prog.specs.declared.stmt.Stmt.{Stmt}
use Rattle.cdc_prog.specs.Translation.{stmts_of}
use Rattle.cdc_path.specs.Covers.{Covers, HasRun}
use Rattle.cdc_mark.specs.Least.{IsIn}
use Rattle.cdc_mark.proofs.Covering.{units_more, units_all}
use Rattle.cdc_mark.proofs.covers.cover_units.Goals as goal

pub loop-unit-preserved : goal.loop-unit-preserved
loop-unit-preserved c =
    let l = c.loop-unit in
    record {
      count = c.cover_statements.ensures.count ∙ l.invariant.count;
      bits = λ site lt. units_more site c.args.units.now l.unit-index c.unit-item.result _ _ _ (omega arith) c.unit-item.is
          (subst (λ (ss : List Stmt). IsIn c.cover_statements.new.covered site ↔ (IsIn l.covered site ⊎ HasRun (Covers site) (stmts_of ss))) c.as_slice.ensures (c.in_ok-cover_statements.ensures.bits site (omega (arith, lt, l.invariant.count))))
          (l.invariant.bits site lt);
    }

pub returns-clause-bits : goal.returns-clause-bits
returns-clause-bits c = λ site lt. units_all site c.args.units.now c.loop-unit.unit-index _ _ (omega arith) (c.loop-unit.invariant.bits site lt)
