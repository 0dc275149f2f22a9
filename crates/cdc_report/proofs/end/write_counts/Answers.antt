use Rattle.std.proofs.Common.{◌∙◌, ◌++◌, ◌+◌, ◌≤◌, ℕ, List, ap, subst, arith}
use Rattle.cdc_base.specs.Causes.{Rose}
use Rattle.cdc_base.specs.Outside.{grown}
use Rattle.cdc_base.proofs.Grown.{grown-grown}
use Rattle.cdc_epoch.specs.Ties.{counts_of}
use Rattle.cdc_fabric.specs.declared.counts.Counts.{Counts}
use Rattle.cdc_text.specs.Pieces.{GrewByFront}
use Rattle.cdc_text.proofs.Pieces.{front_first, front_second, wrote_part}
use Rattle.cdc_report.specs.End.{count_line, count_lines}
use Rattle.cdc_report.proofs.Counted.{one_more, begins_all}
use Rattle.cdc_report.proofs.end.write_counts.Goals as goal

pub returns-in_err-write_count : goal.returns-in_err-write_count
returns-in_err-write_count g c =
    let counts = counts_of g.F.Fabric c.args.machine.now in
    let p = c.loop-p.p in
    let part = c.in_err-write_count.ensures.part in
    let line : GrewByFront (g.K.Sink.taken c.loop-p.out) (g.K.Sink.taken c.write_count.new.out) (count_line p (counts p)) =
    subst (λ (k : Counts). GrewByFront (g.K.Sink.taken c.loop-p.out) (g.K.Sink.taken c.write_count.new.out) (count_line p k)) c.counts.ensures.counts part.0 in
    let within : p + 1 ≤ c.args.procs = omega (arith, c.loop-p-test.true) in
    let more = begins_all counts (p + 1) c.args.procs within in
    wrote_part _ c.from_residual.result _ _ _ _ c.from_residual.ensures.0
    (subst (GrewByFront (g.K.Sink.taken c.args.out.now) (g.K.Sink.taken c.write_count.new.out)) (ap (λ (l : List ℕ). l ++ more.0) (one_more counts p) ∙ more.1)
    (front_first more.0 (front_second (count_lines counts p) c.loop-p.invariant.so_far line)))
    (subst (λ k. Rose k (g.K.Sink.faults c.write_count.new.out)) c.loop-p.invariant.quiet part.1)

pub loop-p-preserved : goal.loop-p-preserved
loop-p-preserved g c =
    let counts = counts_of g.F.Fabric c.args.machine.now in
    let p = c.loop-p.p in
    let whole = c.in_ok-write_count.ensures.whole in
    record {
      so_far =
          whole.0
          ∙ (ap (λ (k : Counts). grown (g.K.Sink.taken c.loop-p.out) (count_line p k)) c.counts.ensures.counts
          ∙ (ap (λ o. grown o (count_line p (counts p))) c.loop-p.invariant.so_far
          ∙ (grown-grown (g.K.Sink.taken c.args.out.now) (count_lines counts p) (count_line p (counts p))
          ∙ ap (grown (g.K.Sink.taken c.args.out.now)) (one_more counts p))));
      quiet = whole.1 ∙ c.loop-p.invariant.quiet;
    }
