use Rattle.std.proofs.Common.{Err, ap, ◌∙◌, subst, ◌+◌, ◌∷◌, false, true, map, drop, arith, List, Bool}
use Rattle.cdc_prog.specs.Plain as plain
use Rattle.cdc_prog.specs.declared.piece.Piece.TheVariants.{LineEnd}
use Rattle.cdc_prog.specs.Process.{Say}
use Rattle.std.proofs.lemmas.Result.{err_from_is_err_and}
use Rattle.cdc_prog.specs.Statements.{items}
use Rattle.cdc_prog.specs.Translation.{item_of}
use Rattle.cdc_meaning.specs.Frames.{binding}
use Rattle.cdc_prog.specs.Held.{around}
use Rattle.cdc_meaning.specs.Carried.{output_of, state, Follows}
use Rattle.cdc_meaning.proofs.Comes.{follows_after, comes_after, exits, one_left, none_left}
use Rattle.cdc_meaning.proofs.print.print.Goals as goal

pub returns-in_err-show : goal.returns-in_err-show
returns-in_err-show g c = λ left rest.
    let r = err_from_is_err_and c.from_residual.result c.from_residual.ensures.1 in
    let texts = c.args.frame.now.program.now.texts in
    let s = around c.args.slots.now left in
    let at = state c.args.words.now c.args.slots.now left in
    let x = at (output_of (g.K.Sink.taken c.args.out.now) c.args.page.now (g.K.Sink.faults c.args.out.now)) in
    let y = at (output_of (g.K.Sink.taken c.loop-item.out) c.loop-item.page (g.K.Sink.faults c.loop-item.out)) in
    let z = at (output_of (g.K.Sink.taken c.show.new.out) c.show.new.page (g.K.Sink.faults c.show.new.out)) in
    let run = λ (first : Bool) (shown : List plain.Item). items (binding c.args.frame.now) c.args.line first shown s rest in
    let i = c.loop-item.item-index in
    let more = map item_of (drop (i + 1) c.args.shown.now) in
    let now = item_of c.item-item.result ∷ more in
    let p = run true (map item_of c.args.shown.now) in
    let is = ap (map item_of) (one_left c.args.shown.now i c.item-item.result (omega arith) c.item-item.is) in
    exits texts p (run c.loop-item.first now) (run false more) rest x y z c.from_residual.result _ (r.1 ∙ ap Err r.2)
    (subst (λ l. Follows texts p x (run c.loop-item.first l) y) is (c.loop-item.invariant left rest)) (c.in_err-show.ensures left more rest)

pub loop-item-preserved : goal.loop-item-preserved
loop-item-preserved g c = λ left rest.
    let texts = c.args.frame.now.program.now.texts in
    let s = around c.args.slots.now left in
    let at = state c.args.words.now c.args.slots.now left in
    let x = at (output_of (g.K.Sink.taken c.args.out.now) c.args.page.now (g.K.Sink.faults c.args.out.now)) in
    let y = at (output_of (g.K.Sink.taken c.loop-item.out) c.loop-item.page (g.K.Sink.faults c.loop-item.out)) in
    let run = λ (first : Bool) (shown : List plain.Item). items (binding c.args.frame.now) c.args.line first shown s rest in
    let i = c.loop-item.item-index in
    let more = map item_of (drop (i + 1) c.args.shown.now) in
    let p = run true (map item_of c.args.shown.now) in
    let is = ap (map item_of) (one_left c.args.shown.now i c.item-item.result (omega arith) c.item-item.is) in
    follows_after texts (subst (λ l. Follows texts p x (run c.loop-item.first l) y) is (c.loop-item.invariant left rest)) (c.in_ok-show.ensures left more rest)

pub returns : goal.returns
returns g c = λ left rest.
    let texts = c.args.frame.now.program.now.texts in
    let s = around c.args.slots.now left in
    let at = state c.args.words.now c.args.slots.now left in
    let x = at (output_of (g.K.Sink.taken c.args.out.now) c.args.page.now (g.K.Sink.faults c.args.out.now)) in
    let y = at (output_of (g.K.Sink.taken c.loop-item.out) c.loop-item.page (g.K.Sink.faults c.loop-item.out)) in
    let z = at (output_of (g.K.Sink.taken c.say.new.out) c.say.new.page (g.K.Sink.faults c.say.new.out)) in
    let run = λ (first : Bool) (shown : List plain.Item). items (binding c.args.frame.now) c.args.line first shown s rest in
    let p = run true (map item_of c.args.shown.now) in
    let is = ap (map item_of) (none_left c.args.shown.now c.loop-item.item-index (omega arith)) in
    let said = subst (λ l. Follows texts p x (run c.loop-item.first l) y) is (c.loop-item.invariant left rest) in
    let write = rw c.as_slice.ensures at (c.say.ensures c.args.words.now c.args.slots.now left rest) in
    comes_after texts p (Say LineEnd rest) rest x y z c.say.result said write
