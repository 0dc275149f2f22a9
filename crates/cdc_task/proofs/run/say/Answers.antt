use Rattle.std.proofs.Common.{Err, ap, ◌∙◌, sym, subst}
use Rattle.std.proofs.lemmas.Result.{err_from_is_err_and}
use Rattle.cdc_prog.specs.Output.{output_of}
use Rattle.cdc_task.specs.Running.{Says}
use Rattle.cdc_task.proofs.Output.{said, cut_said}
use Rattle.cdc_task.proofs.run.say.Goals as goal

pub returns-in_err-put_piece : goal.returns-in_err-put_piece
returns-in_err-put_piece g c =
    let p = err_from_is_err_and c.from_residual.result c.from_residual.ensures.1 in
    let x = output_of (g.K.Sink.taken c.args.out.now) c.args.gathered.now (g.K.Sink.faults c.args.out.now) in
    let y = output_of (g.K.Sink.taken c.put_piece.new.out) c.put_piece.new.gathered (g.K.Sink.faults c.put_piece.new.out) in
    let e = c.in_err-put_piece.ensures in
    subst (λ r. Says c.args.texts.now c.args.piece x r y) (sym (p.1 ∙ ap Err p.2)) (cut_said c.args.texts.now c.args.piece x y e.failed e.cause.later e.cause.failed)

pub returns : goal.returns
returns g c =
    let x = output_of (g.K.Sink.taken c.args.out.now) c.args.gathered.now (g.K.Sink.faults c.args.out.now) in
    let y = output_of (g.K.Sink.taken c.put_piece.new.out) c.put_piece.new.gathered (g.K.Sink.faults c.put_piece.new.out) in
    let e = c.in_ok-put_piece.ensures in
    said c.args.texts.now c.args.piece x y e.ok e.cause.kept
