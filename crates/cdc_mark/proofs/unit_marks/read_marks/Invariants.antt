use Rattle.cdc_mark.specs.Marked.{AreMarksAt}
use Rattle.cdc_mark.proofs.unit_marks.read_marks.Given as goal

abbrev pub invariant-loop-at : goal.invariant-loop-at
invariant-loop-at l = AreMarksAt l.best l.covered l.at l.marks.items
