use Rattle.std.proofs.Common.{Err, ap, ◌∙◌, sym, subst, ◌∷◌, false, refl, rules, ℤ}
use Rattle.std.proofs.lemmas.Int.{to_z-of_z}
use Rattle.std.proofs.lemmas.Result.{err_from_is_err_and}
use mir.Val.{SFits}
use mir.Syntax.{w64}
use Rattle.cdc_prog.specs.declared.piece.Piece.TheVariants.{Number, Text}
use Rattle.cdc_prog.specs.Process.{Say, Fail}
use Rattle.cdc_prog.specs.Statements.{gap, items}
use Rattle.cdc_prog.specs.Translation.{item_of}
use Rattle.cdc_meaning.specs.Frames.{binding}
use Rattle.cdc_prog.specs.Held.{around, Same, store_of}
use Rattle.cdc_meaning.specs.Carried.{output_of, state}
use Rattle.cdc_meaning.proofs.Comes.{comes_after, faults, begun, same_place, same_follows}
use Rattle.cdc_meaning.proofs.print.show.Goals as goal

pub returns-in-Text : goal.returns-in-Text
returns-in-Text g c = λ left more rest.
    let texts = c.args.frame.now.program.now.texts in
    let x = state c.args.words.now c.args.slots.now left (output_of (g.K.Sink.taken c.args.out.now) c.args.page.now (g.K.Sink.faults c.args.out.now)) in
    let y = state c.args.words.now c.args.slots.now left (output_of (g.K.Sink.taken c.write.new.out) c.write.new.page (g.K.Sink.faults c.write.new.out)) in
    let s = around c.args.slots.now left in
    let b = binding c.args.frame.now in
    let later = items b c.args.line false more s rest in
    let q = gap c.args.first (Say (Text c.in-Text.number) later) in
    let p = items b c.args.line c.args.first (item_of c.args.item.now ∷ more) s rest in
    let is = ap (λ i. items b c.args.line c.args.first (item_of i ∷ more) s rest) c.in-Text.is in
    comes_after texts p q later x x y c.write.result (begun texts is) (rw c.as_slice-texts.ensures at (c.write.ensures c.args.words.now c.args.slots.now left later))

pub returns-in_ok-v-in-Value : goal.returns-in_ok-v-in-Value
returns-in_ok-v-in-Value g c = λ left more rest.
    let texts = c.args.frame.now.program.now.texts in
    let x = state c.args.words.now c.args.slots.now left (output_of (g.K.Sink.taken c.args.out.now) c.args.page.now (g.K.Sink.faults c.args.out.now)) in
    let y = state c.args.words.now c.args.slots.now left (output_of (g.K.Sink.taken c.write-in-Value.new.out) c.write-in-Value.new.page (g.K.Sink.faults c.write-in-Value.new.out)) in
    let s = around c.args.slots.now left in
    let b = binding c.args.frame.now in
    let later = items b c.args.line false more s rest in
    let q = λ (v : ℤ). gap c.args.first (Say (Number v) later) in
    let v = c.in_ok-v-in-Value.v in
    let f : SFits w64 v = search rules in
    let p = items b c.args.line c.args.first (item_of c.args.item.now ∷ more) s rest in
    let is = ap (λ i. items b c.args.line c.args.first (item_of i ∷ more) s rest) c.in-Value.is in
    let value = subst (λ a. Same a (store_of c.args.words.now) (q v) (store_of c.args.words.now)) (sym is) (c.in_ok-v-in-Value.ensures left q) in
    let write = rw c.as_slice-texts.ensures at (c.write-in-Value.ensures c.args.words.now c.args.slots.now left later) in
    comes_after texts p (q v) later x x y c.write-in-Value.result (same_follows texts value refl) (simp to_z-of_z at write)

pub returns-in_err-v-in-Value : goal.returns-in_err-v-in-Value
returns-in_err-v-in-Value g c = λ left more rest.
    let r = err_from_is_err_and c.from_residual.result c.from_residual.ensures.1 in
    let texts = c.args.frame.now.program.now.texts in
    let x = state c.args.words.now c.args.slots.now left (output_of (g.K.Sink.taken c.args.out.now) c.args.page.now (g.K.Sink.faults c.args.out.now)) in
    let s = around c.args.slots.now left in
    let b = binding c.args.frame.now in
    let later = items b c.args.line false more s rest in
    let q = λ (v : ℤ). gap c.args.first (Say (Number v) later) in
    let p = items b c.args.line c.args.first (item_of c.args.item.now ∷ more) s rest in
    let is = ap (λ i. items b c.args.line c.args.first (item_of i ∷ more) s rest) c.in-Value.is in
    let fails = Fail c.in_err-v-in-Value.field-0.0.kind c.in_err-v-in-Value.field-0.0.line in
    let value = subst (λ a. Same a (store_of c.args.words.now) fails (store_of c.args.words.now)) (sym is) (c.in_err-v-in-Value.ensures left q) in
    faults texts p p later x x x c.from_residual.result c.in_err-v-in-Value.field-0.0 (r.1 ∙ ap Err r.2) (same_place texts) value refl
