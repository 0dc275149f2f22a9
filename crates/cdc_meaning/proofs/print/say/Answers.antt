use Rattle.std.proofs.Common.{Err, refl, ap, ◌∙◌, sym, subst}
use Rattle.std.proofs.lemmas.Result.{err_from_is_err_and}
use Rattle.cdc_prog.specs.Process.{Say}
use Rattle.cdc_meaning.specs.Carried.{output_of, state, Comes}
use Rattle.cdc_meaning.proofs.Comes.{said, cut_said}
use Rattle.cdc_meaning.proofs.print.say.Goals as goal

pub returns-in_err-put_piece : goal.returns-in_err-put_piece
returns-in_err-put_piece g c = λ words slots left rest.
    let p = err_from_is_err_and c.from_residual.result c.from_residual.ensures.1 in
    let x = state words slots left (output_of (g.K.Sink.taken c.args.out.now) c.args.page.now (g.K.Sink.faults c.args.out.now)) in
    let y = state words slots left (output_of (g.K.Sink.taken c.put_piece.new.out) (record { gathered = c.put_piece.new.gathered; is_open = c.args.page.now.is_open }) (g.K.Sink.faults c.put_piece.new.out)) in
    let e = c.in_err-put_piece.ensures in
    subst (λ r. Comes c.args.texts.now (Say c.args.piece rest) x r rest y) (sym (p.1 ∙ ap Err p.2)) (cut_said c.args.texts.now c.args.piece rest x y e.failed e.cause.later e.cause.failed)

pub returns : goal.returns
returns g c = λ words slots left rest.
    let x = state words slots left (output_of (g.K.Sink.taken c.args.out.now) c.args.page.now (g.K.Sink.faults c.args.out.now)) in
    let y = state words slots left (output_of (g.K.Sink.taken c.put_piece.new.out) (record { gathered = c.put_piece.new.gathered; is_open = c.opens-page.result }) (g.K.Sink.faults c.put_piece.new.out)) in
    let e = c.in_ok-put_piece.ensures in
    said c.args.texts.now c.args.piece rest x y refl e.ok c.opens-page.ensures e.cause.kept
