use Rattle.std.proofs.Common.{◌≡◌, ◌++◌, drop}
use Rattle.cdc_prog.specs.Translation.{exprs_of}
use Rattle.cdc_prog.specs.Sections.{section}
use Rattle.cdc_section.proofs.sections.triplets.Given as goal

abbrev pub invariant-loop-e : goal.invariant-loop-e
invariant-loop-e l = l.out ++ section l.scope (exprs_of (drop l.e-index l.subs)) l.rest ≡ section l.scope (exprs_of l.subs) l.dims
