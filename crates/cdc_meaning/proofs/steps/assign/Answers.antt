use Rattle.std.proofs.Common.{◌≡◌, ℤ, length, rules}
use mir.Val.{SFits}
use mir.Syntax.{w64}
use Rattle.std.proofs.lemmas.Int.{to_z-of_z}
use Rattle.cdc_prog.specs.Translation.{expr_of}
use Rattle.cdc_prog.specs.Expressions as process
use Rattle.cdc_prog.specs.Expressions.{expr, keep}
use Rattle.cdc_prog.specs.Held.{store_of, around}
use Rattle.cdc_prog.proofs.Same.{same_after}
use Rattle.cdc_meaning.specs.Frames.{binding}
use Rattle.cdc_meaning.specs.Cells.{reached}
use Rattle.cdc_meaning.proofs.Moves.{target_scalar}
use Rattle.cdc_meaning.proofs.steps.assign.Goals as goal

pub returns-in-Ok : goal.returns-in-Ok
returns-in-Ok c = λ left rest.
    let a = c.args in
    let f : SFits w64 c.in-Ok.v = search rules in
    let kept = simp to_z-of_z at (c.keep.ensures (binding a.frame.now).path a.target.now.at.site left rest) in
    let b = binding a.frame.now in
    let d = around a.slots.now left in
    let none : length c.as_slice.result.now ≡ 0 = search rules in
    let there = target_scalar b a.line a.slots.now (store_of a.words.now) a.target.now c.as_slice.result.now c.scalar.result c.as_slice.ensures none c.scalar.ensures.cell in
    same_after (there left (λ (cell : process.Cell). expr b a.line (expr_of a.e.now) d (λ (v : ℤ). keep cell v d rest)))
    (same_after (c.in-Ok.ensures left (λ (v : ℤ). keep (reached b.path a.target.now.at.site c.scalar.result) v d rest)) kept)
