use Rattle.std.proofs.Common.{sym, ap, ◌∙◌, sum, arith, rules}
use Rattle.cdc_mark.proofs.Searched.{relaxed_more, relaxed_all, not_more}
use Rattle.cdc_mark.proofs.search.sweep.Goals as goal
use Rattle.cdc_mark.proofs.search.sweep.Goals.{then-lower, else-lower}

pub loop-at-preserved : goal.loop-at-preserved
loop-at-preserved c =
    let i = c.loop-at.invariant in
    let e = c.lower.ensures in
    elim c.if-lower.branch [
      | then-lower w ↦
          (let le = not_more c.loop-at.lowered (sum c.loop-at.dist) (sum c.args.dist.now) i.lowered (λ q. ap sum (i.same q)) in
          record { fair = λ sources f. e.fair sources (i.fair sources f); lowered = λ q. omega (arith, le, e.lowered w.if-lower.true); same = λ q. cc; relaxed = λ q. cc })
      | else-lower w ↦
          (let s = e.same w.if-lower.false in
          record {
            fair = λ sources f. e.fair sources (i.fair sources f);
            lowered = λ q. rw s (i.lowered (sym w.lowered-is ∙ q));
            same = λ q. s ∙ i.same (sym w.lowered-is ∙ q);
            relaxed = λ q. relaxed_more c.args.graph.now c.loop-at.dist c.lower.new.dist c.args.graph.now.edges c.loop-at.at s (search rules) (i.relaxed (sym w.lowered-is ∙ q)) (e.relaxed w.if-lower.false);
          })
    ]

pub returns-clause-relaxed : goal.returns-clause-relaxed
returns-clause-relaxed c = λ q. relaxed_all c.args.graph.now c.loop-at.dist c.args.graph.now.edges c.loop-at.at (search rules) (c.loop-at.invariant.relaxed q)
