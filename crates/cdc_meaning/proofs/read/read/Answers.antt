use Rattle.std.proofs.Common.{◌≡◌, [], Ok, subst, arith, rules}
use Rattle.std.proofs.lemmas.Int.{to_z-of_z}
use mir.Val.{SFits}
use mir.Syntax.{w64}
use Rattle.cdc_prog.specs.Input.{take}
use Rattle.cdc_meaning.specs.Frames.{binding}
use Rattle.cdc_meaning.specs.Cells.{reached}
use Rattle.cdc_prog.specs.Held.{store_of}
use Rattle.cdc_prog.specs.Unread.{left_of, Takes}
use Rattle.cdc_prog.proofs.Same.{same_after}
use Rattle.cdc_meaning.proofs.Statements.{one_target}
use Rattle.cdc_meaning.proofs.read.read.Goals as goal

pub loop-target-preserved : goal.loop-target-preserved
loop-target-preserved c = λ rest.
    let l = c.loop-target in
    let v = c.in_ok-value.value in
    let f : SFits w64 v = search rules in
    let at = c.target-item.result in
    let took : take (left_of l.unread) ≡ Ok (v, left_of c.take.new.self) = subst (λ r. Takes (left_of l.unread) r (left_of c.take.new.self)) c.in_ok-value.ensures c.take.ensures in
    let kept = simp to_z-of_z at (c.keep.ensures [] at.at.site (left_of c.take.new.self)) in
    same_after (l.invariant rest)
    (one_target (binding c.args.frame.now) c.args.line c.args.targets.now l.target-index at l.slots c.keep.new.slots (store_of l.words) (store_of c.keep.new.words) (left_of l.unread) (left_of c.take.new.self) v (reached [] at.at.site c.in_ok-cell.cell) rest (omega arith) c.target-item.is (c.in_ok-cell.ensures.cell (left_of l.unread)) took kept)
