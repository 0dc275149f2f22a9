use Rattle.std.proofs.Common.{◌≡◌, false, refl, sym, ◌∙◌, ap, subst, is_ok, FitsSigned, w64, to_z, of_z}
use Rattle.std.proofs.lemmas.Int.{to_z-of_z}
use Rattle.std.proofs.ResultArms.{chosen}
use Rattle.cdc_input.specs.Records.{is_separator}
use Rattle.cdc_input.specs.Refusals.{FailsIn}
use Rattle.cdc_input.proofs.Reached.{Reached, after_blank, after_comma, bare_comma, run_here, after_value, bad_run, all_read}
use Rattle.cdc_input.proofs.line.line_values.Goals as goal

pub returns-then-bare-clause-bad : goal.returns-then-bare-clause-bad
returns-then-bare-clause-bad c =
    let reached = subst (Reached c.args.line.now c.loop-at.values.items c.loop-at.at) c.if-bare.true c.loop-at.invariant in
    subst (FailsIn c.args.number c.args.line.now) (sym c.bad_number.ensures)
    (c.loop-at.at, bare_comma c.loop-at-test.true reached c.if-byte-eq44.true, reached.left, refl, refl)

pub loop-at-preserved-then-byte-eq44 : goal.loop-at-preserved-then-byte-eq44
loop-at-preserved-then-byte-eq44 c =
    let reached = subst (Reached c.args.line.now c.loop-at.values.items c.loop-at.at) c.if-bare.false c.loop-at.invariant in
    after_comma c.loop-at-test.true reached (ap is_separator c.if-byte-eq44.true) c.if-byte-eq44.true

pub loop-at-preserved-then-is_separator : goal.loop-at-preserved-then-is_separator
loop-at-preserved-then-is_separator c =
    after_blank c.loop-at-test.true c.loop-at.invariant (sym c.is_separator.ensures ∙ c.if-is_separator.true) c.if-byte-eq44.false

pub returns-in_default-clause-bad : goal.returns-in_default-clause-bad
returns-in_default-clause-bad c =
    let reached = c.loop-at.invariant in
    let end = c.run_end-end.ensures in
    let run = run_here reached c.loop-at-test.true (sym c.is_separator.ensures ∙ c.if-is_separator.false) end.from end.within end.plain end.ends in
    subst (FailsIn c.args.number c.args.line.now) (sym c.bad_number-in_default.ensures)
    (c.loop-at.at, bad_run reached run c.in_default.ensures, reached.left, refl, refl)

pub loop-at-preserved : goal.loop-at-preserved
loop-at-preserved c =
    let reached = c.loop-at.invariant in
    let end = c.run_end-end.ensures in
    let run = run_here reached c.loop-at-test.true (sym c.is_separator.ensures ∙ c.if-is_separator.false) end.from end.within end.plain end.ends in
    let stored : to_z w64 (of_z w64 c.in-Some.value) ≡ c.in-Some.value =
    to_z-of_z w64 c.in-Some.value (subst (FitsSigned w64) (sym c.in-Some.ensures.1) c.in-Some.ensures.0.fits) in
    let pushed = chosen _ _ _ _ c.push.ensures.items (ap is_ok c.in_ok-push.was) in
    subst (λ vs. Reached c.args.line.now vs c.run_end-end.result false) (sym pushed)
    (after_value reached _ run c.in-Some.ensures.0 (stored ∙ c.in-Some.ensures.1))

pub returns-clause-good : goal.returns-clause-good
returns-clause-good c = (all_read c.loop-at.invariant c.loop-at-test.false).1
