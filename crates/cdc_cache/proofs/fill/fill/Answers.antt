use Rattle.std.proofs.Common.{◌≡◌, ◌<◌, length, get_or, ap, ◌∙◌, arith}
use Rattle.cdc_cache.specs.Lines.{filled_word}
use Rattle.cdc_cache.proofs.Mapped.{map_from-step}
use Rattle.cdc_cache.proofs.fill.fill.Goals as goal

pub loop-j-preserved : goal.loop-j-preserved
loop-j-preserved g c =
    let held = c.index-as_slice-j.result in
    let j = c.loop-j.j in
    let read : held ≡ get_or c.loop-j.words j held = c.index-as_slice-j.is ∙ ap (λ l. get_or l j held) c.as_slice.ensures in
    let within : j < length c.loop-j.words = omega (arith, ap length c.as_slice-j-end.ensures, c.loop-j.invariant.long) in
    let step = map_from-step (filled_word g.S.Scheme c.args.state.now c.args.memory.now c.args.x) c.args.first c.args.words.now c.loop-j.words c.set.new.self j held c.filled.result c.loop-j.invariant.words c.loop-j.invariant.long within read c.filled.ensures c.set.ensures.now in
    record { words = step.0; long = step.1 }
