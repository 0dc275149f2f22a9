use Rattle.std.proofs.Common.{◌+◌, [], drop, ap, ◌∙◌, arith}
use Rattle.cdc_prog.specs.Numbered.{calls_numbered}
use Rattle.cdc_prog.specs.Translation.{arms_of}
use Rattle.cdc_path.specs.Courses.{unit_course}
use Rattle.cdc_flow.specs.Built.{built, met}
use Rattle.cdc_flow.proofs.Arms.{next_arm, counted_arm}
use Rattle.cdc_flow.proofs.statements.+statement.Goals as goal

pub add_arms-loop-arm-preserved : goal.add_arms-loop-arm-preserved
add_arms-loop-arm-preserved t c =
    let l = c.loop-arm in
    let arms = c.args.arms.now in
    let e = c.in_ok-end.ensures in
    record {
      graph = λ other.
          ap (λ es. met es (built (unit_course [] (calls_numbered c.add_arm.new.calls (arms_of (drop (l.arm-index + 1) arms) other))) c.add_arm.new.g)) c.in_ok-push.ensures.items
          ∙ next_arm arms l.arm-index c.arm-item.result other l.ends.items c.in_ok-end.end l.calls c.add_arm.new.calls l.g c.add_arm.new.g (omega arith) c.arm-item.is e.graph e.calls
          ∙ l.invariant.graph other;
      calls = λ other. counted_arm arms l.arm-index c.arm-item.result other l.calls c.add_arm.new.calls (omega arith) c.arm-item.is e.calls ∙ l.invariant.calls other;
    }
