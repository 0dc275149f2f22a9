use Rattle.std.proofs.Common.{◌≡◌, ◌<◌, ◌-◌, ◌^◌, length, get_or, set, ap, sym, ◌∙◌, arith, min}
use Rattle.std.proofs.lemmas.List.Edits.{map_over_more}
use Rattle.std.proofs.lemmas.List.Sums.{sum_by_more}
use Rattle.cdc_cache.specs.Lines.{kept_line, lost_in_line}
use Rattle.cdc_cache.proofs.Mapped.{get_or-map}
use Rattle.cdc_cache.proofs.fill.keep_lines.Goals as goal

pub loop-place-preserved : goal.loop-place-preserved
loop-place-preserved g c =
    let held = c.index-lines-place.result in
    let place = c.loop-place.place in
    let within : place < length c.args.lines.now = omega arith in
    let read : held ≡ get_or c.loop-place.lines place held = c.index-lines-place.is in
    let same : held ≡ get_or c.args.lines.now place held = read ∙ ap (λ l. get_or l place held) c.loop-place.invariant.lines ∙ get_or-map (kept_line g.S.Scheme c.args.state.now c.args.memory.now c.args.words c.args.written.now) c.args.lines.now place held within in
    let f = kept_line g.S.Scheme c.args.state.now c.args.memory.now c.args.words c.args.written.now in
    let count = lost_in_line g.S.Scheme c.args.state.now c.args.memory.now c.args.words c.args.written.now in
    let more = sum_by_more count c.args.lines.now place held within in
    let lost : c.keep_line-words_lost.result ≡ min (count (get_or c.args.lines.now place held)) (2 ^ 64 - 1) = c.keep_line-words_lost.ensures.lost ∙ ap (λ l. min (count l) (2 ^ 64 - 1)) (sym read ∙ same) in
    record {
      lines = ap (set c.loop-place.lines place) (c.keep_line-words_lost.ensures.line ∙ ap f (sym read)) ∙ map_over_more f c.args.lines.now c.loop-place.lines place held within c.loop-place.invariant.lines read;
      lost = omega (arith, more, lost, c.loop-place.invariant.lost, c.saturating_add-lost.ensures);
    }
