use Rattle.std.proofs.Common.{◌↔◌, ◌⊎◌, List, map, refl, sym, ap, subst, ◌∙◌, arith}
use Rattle.cdc_prog.specs.declared.stmt.Arm.{Arm}
use Rattle.cdc_prog.specs.declared.stmt.Stmt.{Stmt}
use Rattle.cdc_prog.specs.Plain.{Stmt as PlainStmt}
use Rattle.cdc_prog.specs.Translation.{stmt_of, stmts_of, arms_of}
use Rattle.cdc_prog.proofs.Translated.{at_if}
use Rattle.cdc_path.specs.Covers.{Covers, HasRun}
use Rattle.cdc_mark.specs.declared.covers.Mention.{Mention}
use Rattle.cdc_mark.specs.Covered.{spot_of, EndsRun, IsOpen}
use Rattle.cdc_mark.specs.Least.{IsIn}
use Rattle.cdc_mark.proofs.Covering.{statements_none, statements_more, statements_all, arms_more, arms_all, if_ended, on_ok}
use Rattle.cdc_mark.proofs.covers.+stmt.Goals as goal

pub cover_arms-loop-arm-preserved : goal.cover_arms-loop-arm-preserved
cover_arms-loop-arm-preserved t c =
    let l = c.loop-arm in
    record {
      count = c.cover_statements.ensures.count ∙ l.invariant.count;
      bits = λ site lt other. arms_more site c.args.arms.now l.arm-index c.arm-item.result other _ _ _ (omega arith) c.arm-item.is
          (subst (λ (ss : List Stmt). IsIn c.cover_statements.new.covered site ↔ (IsIn l.covered site ⊎ HasRun (Covers site) (stmts_of ss))) c.as_slice.ensures (c.in_ok-cover_statements.ensures.bits site (omega (arith, lt, l.invariant.count))))
          (l.invariant.bits site lt other);
    }

pub cover_arms-returns-clause-bits : goal.cover_arms-returns-clause-bits
cover_arms-returns-clause-bits t c = λ site lt other. arms_all site c.args.arms.now c.loop-arm.arm-index other _ _ (omega arith) (c.loop-arm.invariant.bits site lt other)

pub cover_statement-returns-in_ok-cover_arms-in-If-clause-bits : goal.cover_statement-returns-in_ok-cover_arms-in-If-clause-bits
cover_statement-returns-in_ok-cover_arms-in-If-clause-bits t c =
    let other = c.in-If.other in
    let arms = c.in-If.arms in
    let e = c.in_ok-cover_arms-in-If.ensures in
    on_ok c.cover_statements.result _ _ (λ h site lt.
    subst (λ (s : PlainStmt). IsIn c.cover_statements.new.covered site ↔ (IsIn c.args.covered.now site ⊎ EndsRun site s (map spot_of c.args.run.now.items))) (sym (ap stmt_of c.in-If.is ∙ at_if arms other))
    (if_ended (IsIn c.args.covered.now site) (IsIn c.end_run.new.covered site) (IsIn c.cover_arms.new.covered site) (IsIn c.cover_statements.new.covered site) (Covers site (map spot_of c.args.run.now.items))
    (HasRun (Covers site) (arms_of arms (stmts_of other))) (HasRun (Covers site) (stmts_of other)) (c.end_run.ensures.bits site lt)
    (subst (λ (xs : List Arm). (IsIn c.cover_arms.new.covered site ⊎ HasRun (Covers site) (stmts_of other)) ↔ (IsIn c.end_run.new.covered site ⊎ HasRun (Covers site) (arms_of xs (stmts_of other)))) c.as_slice-in-If.ensures
    (e.bits site (omega (arith, lt, c.end_run.ensures.count)) (stmts_of other)))
    (subst (λ (ss : List Stmt). IsIn c.cover_statements.new.covered site ↔ (IsIn c.cover_arms.new.covered site ⊎ HasRun (Covers site) (stmts_of ss))) c.as_slice-in-If-2.ensures
    (h site (omega (arith, lt, c.end_run.ensures.count, c.cover_arms.ensures.count)))))) c.cover_statements.ensures.bits

pub cover_statements-loop-s-init : goal.cover_statements-loop-s-init
cover_statements-loop-s-init t c =
    let ss = c.args.ss.now in
    record {
      count = refl;
      bits = λ site lt.
          subst (λ (ms : List Mention). (IsIn c.args.covered.now site ⊎ IsOpen site (map spot_of ms) (stmts_of ss)) ↔ (IsIn c.args.covered.now site ⊎ HasRun (Covers site) (stmts_of ss))) (sym c.new-run.ensures.items)
          (statements_none site ss (IsIn c.args.covered.now site));
    }

pub cover_statements-loop-s-preserved : goal.cover_statements-loop-s-preserved
cover_statements-loop-s-preserved t c =
    let l = c.loop-s in
    let e = c.in_ok-cover_statement.ensures in
    record {
      count = c.cover_statement.ensures.count ∙ l.invariant.count;
      bits = λ site lt. statements_more site c.args.ss.now l.s-index c.s-item.result (map spot_of l.run.items) (map spot_of c.cover_statement.new.run.items) _ _ _ (omega arith) c.s-item.is e.run
          (e.bits site (omega (arith, lt, l.invariant.count))) (l.invariant.bits site lt);
    }

pub cover_statements-returns-clause-bits : goal.cover_statements-returns-clause-bits
cover_statements-returns-clause-bits t c = λ site lt.
    let l = c.loop-s in
    statements_all site c.args.ss.now l.s-index (map spot_of l.run.items) _ _ _ (omega arith)
    (subst (λ (ms : List Mention). IsIn c.cover_run.new.covered site ↔ (IsIn l.covered site ⊎ Covers site (map spot_of ms))) c.as_slice.ensures.value (c.cover_run.ensures.bits site (omega (arith, lt, l.invariant.count))))
    (l.invariant.bits site lt)
