use Rattle.std.proofs.Common.{rules, []}
use Rattle.cdc_base.specs.Gathered.{waiting}
use Rattle.cdc_base.proofs.Handed.{all_handed, part_handed}
use Rattle.cdc_base.proofs.gathered.Gathered.put_behind.Goals as goal

pub returns-clause-ok : goal.returns-clause-ok
returns-clause-ok g c =
    all_handed (g.K.Sink.taken c.args.out.now) (g.K.Sink.taken c.flush.new.out) _ (waiting c.args.self.now) c.args.piece.now _ (search rules) c.put_all.result (search rules) c.put_all.ensures.ok

pub returns-clause-failed : goal.returns-clause-failed
returns-clause-failed g c =
    part_handed (g.K.Sink.taken c.args.out.now) (g.K.Sink.taken c.flush.new.out) _ (waiting c.args.self.now) c.args.piece.now [] (search rules) c.put_all.result c.put_all.ensures.failed
