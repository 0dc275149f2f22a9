use Rattle.std.proofs.Common.{◌≡◌, true, sym, ap₂, ◌∙◌}
use Rattle.cdc_prog.specs.Dependence.{same_terms}
use Rattle.cdc_subtest.specs.Sketches.{glance_of}
use Rattle.cdc_subtest.proofs.Earlier.{glances_are}
use Rattle.cdc_subtest.proofs.alike.same_sketch.Goals as goal
use Rattle.cdc_subtest.proofs.alike.same_sketch.Goals.{then-same_numbers, else-same_numbers}

pub returns-then-same_intervals : goal.returns-then-same_intervals
returns-then-same_intervals c e =
    elim c.if-same_numbers.branch [
      | then-same_numbers w ↦
          let numbers = c.same_numbers.ensures w.if-same_numbers.true in
          let intervals = w.same_intervals.ensures (sym w.value-is ∙ c.if-same_intervals.true) in
          let terms : same_terms c.args.x.now.still c.args.y.now.still ≡ true = sym (c.same_terms.ensures ∙ ap₂ same_terms c.as_slice.ensures c.as_slice-then-same_intervals.ensures) ∙ e in
          glances_are (glance_of c.args.x.now) (glance_of c.args.y.now) numbers.0 numbers.1 numbers.2 numbers.3 intervals.0 intervals.1 terms
      | else-same_numbers w ↦ cc
    ]
