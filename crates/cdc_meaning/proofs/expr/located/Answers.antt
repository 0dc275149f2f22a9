use Rattle.std.proofs.Common.{◌≡◌, length, Err, sym, subst, rules}
use Rattle.cdc_prog.specs.Translation.{target_of}
use Rattle.cdc_meaning.specs.Frames.{binding}
use Rattle.cdc_prog.specs.Held.{store_of}
use Rattle.cdc_meaning.specs.Evaluates.{Locates}
use Rattle.cdc_meaning.proofs.Moves.{target_needs, target_fault, target_word}
use Rattle.cdc_meaning.proofs.expr.located.Goals as goal

pub number-requires-clause-element : goal.number-requires-clause-element
number-requires-clause-element c =
    let some : length c.as_slice-subs.result.now ≡ 0 → ⊥ = search rules in
    target_needs c.args.frame.now _ c.args.target.now c.as_slice-subs.result.now c.as_slice-subs.ensures some c.requires.fits

pub word-requires-clause-known : goal.word-requires-clause-known
word-requires-clause-known c =
    let some : length c.as_slice-subs.result.now ≡ 0 → ⊥ = search rules in
    (target_needs c.args.frame.now _ c.args.target.now c.as_slice-subs.result.now c.as_slice-subs.ensures some c.requires.fits).known

pub returns-in-None-clause-cell : goal.returns-in-None-clause-cell
returns-in-None-clause-cell c =
    let some : length c.as_slice-subs.result.now ≡ 0 → ⊥ = search rules in
    let s = store_of c.args.words.now in
    subst (λ f. Locates (binding c.args.frame.now) c.args.line (target_of c.args.target.now) c.args.slots.now s (Err f)) (sym c.fault.ensures)
    (target_fault (binding c.args.frame.now) c.args.line c.args.slots.now s c.args.target.now c.as_slice-subs.result.now _ c.as_slice-subs.ensures some (c.in-None.ensures.number c.args.line))

pub returns-in-Some-clause-cell : goal.returns-in-Some-clause-cell
returns-in-Some-clause-cell c =
    let some : length c.as_slice-subs.result.now ≡ 0 → ⊥ = search rules in
    target_word (binding c.args.frame.now) c.args.line c.args.slots.now (store_of c.args.words.now) c.args.target.now c.as_slice-subs.result.now c.in-Some.n c.word.result c.as_slice-subs.ensures some (c.in-Some.ensures.number c.args.line) c.word.ensures.value
