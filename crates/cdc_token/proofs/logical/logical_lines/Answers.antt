use Rattle.std.proofs.Common.{true-eqb, length, subst, sym}
use Rattle.std.proofs.lemmas.List.{nil_from_length}
use Rattle.cdc_token.specs.Logical.{AreLogicalLines}
use Rattle.cdc_token.proofs.Gone.{line_fails, gone_more, gone_end}
use Rattle.cdc_token.proofs.logical.logical_lines.Goals as goal

pub returns-in-Err-clause-refused : goal.returns-in-Err-clause-refused
returns-in-Err-clause-refused c =
    line_fails c.loop-rest.invariant c.first_line.result.0.now c.first_line.result.1.now c.first_line.ensures.cut _ c.in-Err.ensures.fault _ c.in_line.ensures

pub loop-rest-preserved : goal.loop-rest-preserved
loop-rest-preserved c =
    gone_more c.loop-rest.invariant c.first_line.result.0.now c.first_line.result.1.now c.first_line.ensures.cut _ _ c.in-Ok.ensures.ok c.first_line.ensures.shorter

pub returns-in-Ok-close-clause-ok : goal.returns-in-Ok-close-clause-ok
returns-in-Ok-close-clause-ok c =
    let none = nil_from_length _ (true-eqb (length c.loop-rest.rest.now) 0 c.loop-rest-test.ensures) in
    let all = gone_end _ _ c.close.new.self _ _ _ c.loop-rest.invariant none c.in-Ok-close.ensures.taken c.in-Ok-close.ensures.empty in
    subst (AreLogicalLines c.args.source.now) (sym c.into_lines.ensures) all
