use Rattle.std.proofs.Common.{◌≡◌, ◌<◌, ◌*◌, length, set, sym, ◌∙◌, ap, arith, subst}
use Rattle.std.specs.Prelude.{Some, slice_get}
use Rattle.std.proofs.lemmas.List.{length-take-le, length-set}
use Rattle.std.proofs.lemmas.List.Elements.{All-get_or, All-set}
use Rattle.std.proofs.Math.Seq.{take-set-lt}
use Rattle.cdc_cache.specs.Lines.{refilled, filled_word}
use Rattle.cdc_cache.specs.Sets.{set_lines}
use Rattle.cdc_cache.proofs.Mapped.{length-map_from}
use Rattle.cdc_cache.proofs.Slots.{got}
use Rattle.cdc_cache.proofs.miss.fill_at.Goals as goal

pub returns-clause-lines : goal.returns-clause-lines
returns-clause-lines g c = λ l there.
    let s = c.args.set.now in
    let m = c.index_mut.result.now in
    let used : length (set_lines s) ≡ s.used = length-take-le s.used s.lines.items (omega (arith, s.within, s.lines.ok.0)) in
    let below : c.args.place < s.used = omega (arith, used, c.requires.place) in
    let here : slice_get (set_lines s) c.args.place ≡ Some m = got s.lines.items s.used c.args.place m below (omega (arith, s.within, s.lines.ok.0)) c.index_mut.ensures.value in
    let same : m ≡ l = cc (here, there) in
    take-set-lt s.used s.lines.items c.args.place c.fill_line.new.line below
    ∙ ap (set (set_lines s) c.args.place) (c.fill_line.ensures ∙ ap (refilled g.S.Scheme c.args.state.now c.args.memory.now c.args.words c.args.x) same)

pub returns-clause-sized : goal.returns-clause-sized
returns-clause-sized g c = λ ways sized.
    let s = c.args.set.now in
    let m = c.index_mut.result.now in
    let used : length (set_lines s) ≡ s.used = length-take-le s.used s.lines.items (omega (arith, s.within, s.lines.ok.0)) in
    let within : c.args.place < length s.lines.items = omega (arith, used, c.requires.place, s.within, s.lines.ok.0) in
    let held : length m.words ≡ c.args.words = subst (λ k. length k.words ≡ c.args.words) (sym c.index_mut.ensures.value) (All-get_or (λ k. length k.words ≡ c.args.words) s.lines.items c.args.place m within sized.words_are) in
    record {
      ways_are = length-set s.lines.items c.args.place c.fill_line.new.line ∙ sized.ways_are;
      words_are = All-set (λ k. length k.words ≡ c.args.words) s.lines.items c.args.place c.fill_line.new.line
          (ap (λ k. length k.words) c.fill_line.ensures ∙ length-map_from (filled_word g.S.Scheme c.args.state.now c.args.memory.now c.args.x) (m.number * c.args.words) m.words ∙ held) sized.words_are;
    }
