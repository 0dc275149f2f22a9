use Rattle.std.proofs.Common.{◌≡◌, ◌<◌, ◌+◌, length, get_or, ap, ◌∙◌, arith}
use Rattle.cdc_cache.specs.Lines.{kept_word, lost_word}
use Rattle.cdc_cache.proofs.Mapped.{map_from-step, get_or-map_front}
use Rattle.cdc_cache.proofs.Lost.{lost_words-more}
use Rattle.cdc_cache.proofs.fill.keep.Goals as goal

pub loop-j-preserved : goal.loop-j-preserved
loop-j-preserved g c =
    let held = c.index-as_slice-j.result in
    let j = c.loop-j.j in
    let read : held ≡ get_or c.loop-j.words j held = c.index-as_slice-j.is ∙ ap (λ l. get_or l j held) c.as_slice.ensures in
    let within : j < length c.loop-j.words = omega (arith, ap length c.as_slice-j-end.ensures, c.loop-j.invariant.long) in
    let step = map_from-step (kept_word g.S.Scheme c.args.state.now c.args.memory.now c.args.written.now) c.args.first c.args.words.now c.loop-j.words c.set.new.self j held c.kept-word.result c.loop-j.invariant.words c.loop-j.invariant.long within read c.kept-word.ensures c.set.ensures.now in
    let below : j < length c.args.words.now = omega (arith, within, c.loop-j.invariant.long) in
    let same : held ≡ get_or c.args.words.now j held = read ∙ ap (λ l. get_or l j held) c.loop-j.invariant.words ∙ get_or-map_front (kept_word g.S.Scheme c.args.state.now c.args.memory.now c.args.written.now) c.args.first c.args.words.now j held below in
    let more = lost_words-more g.S.Scheme c.args.state.now c.args.memory.now c.args.written.now c.args.first c.args.words.now j held below same in
    let loss : c.loss.result ≡ lost_word g.S.Scheme c.args.state.now c.args.memory.now c.args.written.now (c.args.first + j) held = cc (c.loss.ensures, c.is_some.ensures, c.is_some-in-loop-j.ensures, c.kept-word.ensures) in
    record { words = step.0; long = step.1; lost = omega (arith, more, loss, c.loop-j.invariant.lost, c.saturating_add-lost.ensures) }
