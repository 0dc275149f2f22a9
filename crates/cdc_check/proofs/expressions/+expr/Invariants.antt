use Rattle.std.proofs.Common.{◌≡◌, ◌++◌, drop, map}
use Rattle.cdc_tree.specs.Plain as tree
use Rattle.cdc_prog.specs.Translation.{expr_of}
use Rattle.cdc_check.specs.Threads.{on}
use Rattle.cdc_check.specs.Expressions.{applied_after, resolved_in}
use Rattle.cdc_check.proofs.expressions.+expr.Given as goal

abbrev pub invariant-exprs-loop-t : goal.invariant-exprs-loop-t
invariant-exprs-loop-t l =
    on (resolved_in l.names (tree.plains (map tree.plain (drop l.t-index l.ts))) l.sites) (λ rest k. (map expr_of l.found ++ rest, k)) ≡ resolved_in l.names (tree.plains (map tree.plain l.ts)) l.initial.sites

abbrev pub invariant-known-loop-t : goal.invariant-known-loop-t
invariant-known-loop-t l =
    applied_after l.which (expr_of l.value) (resolved_in l.names (tree.plains (map tree.plain (drop l.t-index l.rest))) l.sites)
    ≡ applied_after l.which (expr_of l.initial.value) (resolved_in l.names (tree.plains (map tree.plain l.rest)) l.initial.sites)
