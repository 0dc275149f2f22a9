use Rattle.std.proofs.Common.{◌≡◌, ◌<◌, ◌≤◌, ◌++◌, ◌∷◌, [], length, sym, ◌∙◌, ap, arith}
use Rattle.std.proofs.lemmas.List.{length-take-le}
use Rattle.cdc_cache.specs.Lines.{no_words}
use Rattle.cdc_cache.specs.Sets.{set_lines}
use Rattle.cdc_cache.proofs.Misses.{room_full, room_left}
use Rattle.cdc_cache.proofs.set.Set.make_room.Goals as goal

pub returns-then-self-len-clause-lines : goal.returns-then-self-len-clause-lines
returns-then-self-len-clause-lines g c = λ words ways sized.
    let s = c.args.self.now in
    let used : length (set_lines s) ≡ s.used = length-take-le s.used s.lines.items (omega (arith, s.within, s.lines.ok.0)) in
    let full : ways ≤ length (set_lines s) = omega (arith, used, sized.ways_are, c.if-self-len.true, c.len.ensures, s.lines.ok.0) in
    let step = c.replace_first.ensures.lines words ways sized in
    (step.0 ∙ ap (λ front. front ++ no_words words c.args.number ∷ []) (sym (room_full ways (set_lines s) full)), step.1)

pub returns-else-self-len-clause-lines : goal.returns-else-self-len-clause-lines
returns-else-self-len-clause-lines g c = λ words ways sized.
    let s = c.args.self.now in
    let used : length (set_lines s) ≡ s.used = length-take-le s.used s.lines.items (omega (arith, s.within, s.lines.ok.0)) in
    let left : length (set_lines s) < ways = omega (arith, used, sized.ways_are, c.if-self-len.false, c.len.ensures, s.within, s.lines.ok.0) in
    let step = c.add.ensures.lines words ways sized in
    (step.0 ∙ ap (λ front. front ++ no_words words c.args.number ∷ []) (sym (room_left ways (set_lines s) left)), step.1)
