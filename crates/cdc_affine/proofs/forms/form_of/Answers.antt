use Rattle.std.proofs.Common.{◌≡◌, Some, None, ap, ◌∙◌, rules}
use Rattle.cdc_prog.specs.Translation.{expr_of}
use Rattle.cdc_affine.specs.Parts.{part}
use Rattle.cdc_affine.proofs.Parts.{form_in, part_form}
use Rattle.cdc_affine.proofs.forms.form_of.Goals as goal

pub returns-in-Some-clause-value : goal.returns-in-Some-clause-value
returns-in-Some-clause-value c =
    let walked : Some c.in-Some.p ≡ part c.args.scope.now (expr_of c.args.e.now) = search rules in
    ap form_in walked ∙ part_form c.args.scope.now (expr_of c.args.e.now)

pub returns-in-None-clause-value : goal.returns-in-None-clause-value
returns-in-None-clause-value c =
    let walked : None ≡ part c.args.scope.now (expr_of c.args.e.now) = search rules in
    ap form_in walked ∙ part_form c.args.scope.now (expr_of c.args.e.now)
