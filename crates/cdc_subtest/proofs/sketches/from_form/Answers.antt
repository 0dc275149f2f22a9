use Rattle.std.proofs.Common.{SFits, ap, ◌∙◌, rules}
use mir.Syntax.{w64}
use Rattle.std.proofs.lemmas.Int.{to_z-of_z}
use Rattle.cdc_prog.specs.Affine.{is_small}
use Rattle.cdc_subtest.proofs.sketches.from_form.Goals as goal

pub invariant_of-result-clause-small : goal.invariant_of-result-clause-small
invariant_of-result-clause-small c =
    let fits : SFits w64 c.args.form.now.rest = search rules in
    ap is_small (to_z-of_z w64 c.args.form.now.rest fits) ∙ c.requires.rest
