use Rattle.std.proofs.Common.{◌<◌, map, length, List, sym, subst}
use Rattle.std.proofs.lemmas.List.{length-map}
use Rattle.cdc_tree.specs.declared.unit.UnitText.{UnitText}
use Rattle.cdc_tree.specs.Units.{unit}
use Rattle.cdc_check.specs.Check.{checked}
use Rattle.cdc_check.specs.Refusals.{Answers}
use Rattle.cdc_prog.specs.Translation.{program_of}
use Rattle.cdc_check.proofs.Accepted.{answers_premises, answers_calls, answers_doalls}
use Rattle.cdc_check.proofs.program.check.Goals as goal

pub returns-clause-premises : goal.returns-clause-premises
returns-clause-premises c =
    let some : 0 < length (map unit c.args.units.now) = subst (λ n. 0 < n) (sym (length-map c.args.units.now unit)) c.requires.some in
    answers_premises (map unit c.args.units.now) c.program.result (subst (λ (us : List UnitText). Answers program_of c.program.result (checked (map unit us))) c.as_slice.ensures c.program.ensures) c.requires.built some

pub returns-clause-calls : goal.returns-clause-calls
returns-clause-calls c =
    let some : 0 < length (map unit c.args.units.now) = subst (λ n. 0 < n) (sym (length-map c.args.units.now unit)) c.requires.some in
    answers_calls (map unit c.args.units.now) c.program.result (subst (λ (us : List UnitText). Answers program_of c.program.result (checked (map unit us))) c.as_slice.ensures c.program.ensures) c.requires.built some

pub returns-clause-doalls : goal.returns-clause-doalls
returns-clause-doalls c =
    let some : 0 < length (map unit c.args.units.now) = subst (λ n. 0 < n) (sym (length-map c.args.units.now unit)) c.requires.some in
    answers_doalls (map unit c.args.units.now) c.program.result (subst (λ (us : List UnitText). Answers program_of c.program.result (checked (map unit us))) c.as_slice.ensures c.program.ensures) c.requires.built some
