use Rattle.std.proofs.Common.{ap, subst}
use Rattle.cdc_prog.specs.declared.plain.Plain.{Plain}
use Rattle.cdc_prog.specs.Answers.{IsRun}
use Rattle.cdc_prog.specs.Meaning.{meaning}
use Rattle.cdc_prog.specs.Translation.{program_of}
use Rattle.cdc_epoch.specs.declared.outcome.Outcome.TheVariants.{Done, Fault}
use Rattle.cdc_replay.specs.Refused.{end_of}
use Rattle.cdc_top.proofs.Seqs.{played_out, played_part}
use Rattle.cdc_top.proofs.seq.play.Goals as goal

pub returns-in-Done : goal.returns-in-Done
returns-in-Done g c =
    let m = meaning (program_of c.args.program.now) c.args.records.now.records in
    let ran = c.run_lines-ran in
    let is = c.in-Done.is in
    let run = subst (λ (p : Plain). IsRun m (g.K.Sink.taken c.args.out.now) (g.K.Sink.taken ran.new.out) p) is ran.ensures.run in
    played_out m Done ran.result.is_open _ _ _ _ _ _ _ run.0 (ap end_of run.1) (ran.ensures.line (λ e. cc (e, is)) (λ e. cc (e, is))) (ran.ensures.cause.kept (λ e. cc (e, is))) c.close.ensures.written c.close.ensures.said

pub returns-in-Fault : goal.returns-in-Fault
returns-in-Fault g c =
    let m = meaning (program_of c.args.program.now) c.args.records.now.records in
    let ran = c.run_lines-ran in
    let is = c.in-Fault.is in
    let run = subst (λ (p : Plain). IsRun m (g.K.Sink.taken c.args.out.now) (g.K.Sink.taken ran.new.out) p) is ran.ensures.run in
    played_out m (Fault c.in-Fault.kind c.in-Fault.line) ran.result.is_open _ _ _ _ _ _ _ run.0 (ap end_of run.1) (ran.ensures.line (λ e. cc (e, is)) (λ e. cc (e, is))) (ran.ensures.cause.kept (λ e. cc (e, is))) c.close-in-Fault.ensures.written c.close-in-Fault.ensures.said

pub returns-in-SinkFault : goal.returns-in-SinkFault
returns-in-SinkFault g c =
    let m = meaning (program_of c.args.program.now) c.args.records.now.records in
    let ran = c.run_lines-ran in
    let is = c.in-SinkFault.is in
    let run = subst (λ (p : Plain). IsRun m (g.K.Sink.taken c.args.out.now) (g.K.Sink.taken ran.new.out) p) is ran.ensures.run in
    played_part m run.0 _ _ _ _ run.1 (ran.ensures.cause.failed is)
