use Rattle.std.proofs.Common.{◌≡◌, [], Ok, arith, rules}
use mir.Val.{SFits}
use mir.Syntax.{w64}
use Rattle.std.proofs.lemmas.Int.{ints, to_z-of_z}
use Rattle.cdc_prog.specs.declared.expr.BinOp.TheVariants.{Add}
use Rattle.cdc_prog.specs.Value.{binary}
use Rattle.cdc_meaning.specs.Frames.{binding}
use Rattle.cdc_prog.specs.Held.{store_of}
use Rattle.cdc_meaning.proofs.Moves.{raised}
use Rattle.cdc_meaning.proofs.steps.raise.Goals as goal

pub returns : goal.returns
returns c =
    let a = c.args in
    let sum : binary Add c.fetch-x.result a.turns.by ≡ Ok c.in_ok-y.y = grind (arith, ints, to_z-of_z) in
    let f : SFits w64 c.in_ok-y.y = search rules in
    λ left rest.
    let kept = simp to_z-of_z at (c.keep.ensures [] a.turns.bump.site left rest) in
    raised (binding a.frame.now) a.turns.line a.turns.again a.turns.bump a.turns.by c.fetch-x.result c.in_ok-y.y a.slots.now c.keep.new.slots (store_of a.words.now) (store_of c.keep.new.words) left rest a.turns.cell a.turns.cell
    (c.requires.cell.again a.turns.again.site) (c.fetch-x.ensures [] a.turns.again.site left) sum (c.requires.cell.bump a.turns.bump.site) kept

pub returns-in_err-y : goal.returns-in_err-y
returns-in_err-y c =
    let again = c.requires.cell.again in
    let within = c.requires.cell.within in
    search rules
