use Rattle.std.proofs.Common.{◌≡◌, map, Some, None, ap, ◌∙◌, rules}
use Rattle.cdc_prog.specs.Translation.{program_of, unit_of}
use Rattle.cdc_prog.specs.Dependence.{failing}
use Rattle.cdc_subtest.specs.declared.verdict.Verdict.TheVariants.{Apart}
use Rattle.cdc_subtest.specs.Seen.{places_of_units}
use Rattle.cdc_subtest.specs.Verdicts.{verdict_with, verdict_of}
use Rattle.cdc_subtest.proofs.Programs.{places_are, apart_is}
use Rattle.cdc_subtest.proofs.verdict.test.Goals as goal

pub returns-in-None-clause-verdict : goal.returns-in-None-clause-verdict
returns-in-None-clause-verdict c =
    let found : None ≡ places_of_units c.args.doall c.args.program.now.objects (map unit_of c.args.program.now.units) = search rules in
    ap verdict_with (found ∙ places_are c.args.doall c.args.program.now.objects (map unit_of c.args.program.now.units))

pub returns-in-None-clause-apart : goal.returns-in-None-clause-apart
returns-in-None-clause-apart c =
    let found : None ≡ places_of_units c.args.doall c.args.program.now.objects (map unit_of c.args.program.now.units) = search rules in
    let told : Apart ≡ verdict_of (failing (program_of c.args.program.now) c.args.doall) =
    ap verdict_with (found ∙ places_are c.args.doall c.args.program.now.objects (map unit_of c.args.program.now.units)) in
    apart_is (program_of c.args.program.now) c.args.doall Apart told

pub returns-in-Some-clause-verdict : goal.returns-in-Some-clause-verdict
returns-in-Some-clause-verdict c =
    let found : Some (c.in-Some.p, c.in-Some.q) ≡ places_of_units c.args.doall c.args.program.now.objects (map unit_of c.args.program.now.units) = search rules in
    ap verdict_with (found ∙ places_are c.args.doall c.args.program.now.objects (map unit_of c.args.program.now.units))
