use Rattle.std.proofs.Common.{List, Bool, ℕ, subst}
use Rattle.cdc_prog.specs.Translation.{program_of}
use Rattle.cdc_mark.specs.Marked.{AreMarksAt}
use Rattle.cdc_mark.specs.Seen.{main_course}
use Rattle.cdc_mark.proofs.Counted.{are_marks}
use Rattle.cdc_mark.proofs.unit_marks.marks_of.Goals as goal

pub returns : goal.returns
returns c =
    let p = program_of c.args.program.now in
    let flow = c.requires.flow in
    let best = c.in_ok-best.best.items in
    let covered = c.in_ok-covered.covered.items in
    let reads = c.in_ok-reads.reads in
    are_marks p c.requires.resolved c.requires.calls c.args.g.now c.args.refs.now best covered c.room-room.result _ c.requires.refs flow c.room-room.ensures c.in_ok-best.ensures.count
    (λ s lt. c.in_ok-best.ensures.least (main_course p) flow s lt) c.in_ok-covered.ensures
    (subst (λ (b : List ℕ). AreMarksAt b covered p.sites reads) c.deref-2.ensures.value (subst (λ (b : List Bool). AreMarksAt c.deref-2.result.now b p.sites reads) c.deref-3.ensures.value c.in_ok-reads.ensures))
    (c.in_ok-lists.ensures.entries (main_course p) flow) (c.in_ok-lists.ensures.exits (main_course p) flow)
