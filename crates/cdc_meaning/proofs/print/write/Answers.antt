use Rattle.std.proofs.Common.{Err, ap, ◌∙◌, sym, subst}
use Rattle.std.proofs.lemmas.Result.{err_from_is_err_and}
use Rattle.cdc_prog.specs.declared.piece.Piece.TheVariants.{Space}
use Rattle.cdc_prog.specs.Process.{Say}
use Rattle.cdc_prog.specs.Statements.{gap}
use Rattle.cdc_meaning.specs.Carried.{output_of, state, Follows}
use Rattle.cdc_meaning.proofs.Comes.{comes_after, exits, same_place}
use Rattle.cdc_meaning.proofs.print.write.Goals as goal

pub returns-in_err-say : goal.returns-in_err-say
returns-in_err-say g c = λ words slots left rest.
    let p = err_from_is_err_and c.from_residual.result c.from_residual.ensures.1 in
    let x = state words slots left (output_of (g.K.Sink.taken c.args.out.now) c.args.page.now (g.K.Sink.faults c.args.out.now)) in
    let y = state words slots left (output_of (g.K.Sink.taken c.say-2.new.out) c.say-2.new.page (g.K.Sink.faults c.say-2.new.out)) in
    let piece = Say c.args.piece rest in
    exits c.args.texts.now (gap c.args.first piece) (Say Space piece) piece rest x x y c.from_residual.result _ (p.1 ∙ ap Err p.2)
    (subst (λ q. Follows c.args.texts.now q x (Say Space piece) x) (sym (ap (λ f. gap f piece) c.if-first.false)) (same_place c.args.texts.now))
    (c.in_err-say.ensures words slots left piece)

pub returns : goal.returns
returns g c = λ words slots left rest.
    let x = state words slots left (output_of (g.K.Sink.taken c.args.out.now) c.args.page.now (g.K.Sink.faults c.args.out.now)) in
    let y = state words slots left (output_of (g.K.Sink.taken c.say-2.new.out) c.say-2.new.page (g.K.Sink.faults c.say-2.new.out)) in
    let z = state words slots left (output_of (g.K.Sink.taken c.say-3.new.out) c.say-3.new.page (g.K.Sink.faults c.say-3.new.out)) in
    let piece = Say c.args.piece rest in
    comes_after c.args.texts.now (gap c.args.first piece) piece rest x y z c.say-3.result
    (subst (λ q. Follows c.args.texts.now q x piece y) (sym (ap (λ f. gap f piece) c.if-first.false)) (c.in_ok-say.ensures words slots left piece))
    (c.say-3.ensures words slots left rest)
