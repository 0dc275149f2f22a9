use Rattle.std.proofs.Common.{◌≡◌, drop}
use Rattle.cdc_prog.specs.Translation.{stmts_of, arms_of}
use Rattle.cdc_prog.specs.Dependence.{shapes_of}
use Rattle.cdc_subtest.specs.Searches.{searched}
use Rattle.cdc_subtest.proofs.conflict.+search.Given as goal

abbrev pub invariant-search_in_all-loop-s : goal.invariant-search_in_all-loop-s
invariant-search_in_all-loop-s l =
    searched l.objects (shapes_of l.dummies) (stmts_of (drop l.s-index l.ss)) l.found ≡ searched l.objects (shapes_of l.dummies) (stmts_of l.ss) l.fn.search

abbrev pub invariant-search_in-loop-arm : goal.invariant-search_in-loop-arm
invariant-search_in-loop-arm l =
    searched l.objects (shapes_of l.dummies) (arms_of (drop l.arm-index l.arm-items) (stmts_of l.other)) l.found ≡ searched l.objects (shapes_of l.dummies) (arms_of l.arm-items (stmts_of l.other)) l.fn.search
