use Rattle.std.proofs.Common.{drop, map}
use Rattle.cdc_base.specs.Gathered.{waiting}
use Rattle.cdc_prog.specs.declared.affine.Scope.{Scope}
use Rattle.cdc_prog.specs.Translation.{item_of}
use Rattle.cdc_path.specs.References.{items_refs}
use Rattle.cdc_report.specs.MarkLines.{access_line}
use Rattle.cdc_report.proofs.Reached.{Reached}
use Rattle.cdc_report.proofs.accesses.gather_items.Given as goal

abbrev pub invariant-loop-item : goal.invariant-loop-item
invariant-loop-item g l = (sc : Scope) → Reached (access_line l.sites) (items_refs sc (map item_of l.fn.items)) (g.K.Sink.taken l.initial.out) (g.K.Sink.taken l.out) (waiting l.initial.gathered) (waiting l.gathered) (g.K.Sink.faults l.initial.out) (g.K.Sink.faults l.out) (items_refs sc (map item_of (drop l.item-index l.item-items)))
