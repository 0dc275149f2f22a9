use Rattle.std.proofs.Common.{◌≡◌, drop}
use Rattle.cdc_prog.specs.Translation.{stmts_of, arms_of}
use Rattle.cdc_prog.specs.Dependence.{first_in, shapes_of}
use Rattle.cdc_subtest.specs.Seen.{places_in}
use Rattle.cdc_subtest.proofs.verdict.+places.Given as goal

abbrev pub invariant-numbered_in_all-loop-s : goal.invariant-numbered_in_all-loop-s
invariant-numbered_in_all-loop-s l = first_in l.number (places_in l.objects (shapes_of l.dummies)) (stmts_of (drop l.s-index l.ss)) ≡ first_in l.number (places_in l.objects (shapes_of l.dummies)) (stmts_of l.ss)

abbrev pub invariant-numbered_in-loop-arm : goal.invariant-numbered_in-loop-arm
invariant-numbered_in-loop-arm l =
    first_in l.number (places_in l.objects (shapes_of l.dummies)) (arms_of (drop l.arm-index l.arm-items) (stmts_of l.other)) ≡ first_in l.number (places_in l.objects (shapes_of l.dummies)) (arms_of l.arm-items (stmts_of l.other))
