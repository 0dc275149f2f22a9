use Rattle.std.proofs.Common.{◌≡◌, ◌/◌, ◌∷◌, [], length, sym, ◌∙◌, ap, arith, subst}
use Rattle.std.specs.Prelude.{Some, None, slice_get}
use Rattle.std.proofs.lemmas.List.{length-append}
use Rattle.cdc_cache.specs.Lines.{look_up, no_words}
use Rattle.cdc_cache.specs.Sets.{set_lines, IsAt, IsPlace, set_room}
use Rattle.cdc_cache.proofs.Places.{place_within}
use Rattle.cdc_cache.proofs.Misses.{line_at, last_line, missed_at, missed_none}
use Rattle.cdc_cache.proofs.miss.miss.Goals as goal

pub fill_at-requires-clause-place : goal.fill_at-requires-clause-place
fill_at-requires-clause-place g c =
    let lines = set_lines c.args.set.now in
    let n = c.args.x / c.args.words in
    place_within n lines c.in-Some.place (subst (IsPlace n lines) c.in-Some.is c.requires.place)

pub returns-in-Some : goal.returns-in-Some
returns-in-Some g c = λ ways sized.
    let lines = set_lines c.args.set.now in
    let n = c.args.x / c.args.words in
    let i = c.in-Some.place in
    let at : IsAt n lines i = subst (IsPlace n lines) c.in-Some.is c.requires.place in
    let line = line_at n lines i at in (
      c.fill_at.ensures.lines line.0 line.1 ∙ sym (missed_at g.S.Scheme c.args.state.now c.args.memory.now c.args.words ways c.args.x lines i line.0 at line.1),
      c.fill_at.ensures.sized ways sized,
    )

pub returns-in-None : goal.returns-in-None
returns-in-None g c = λ ways sized.
    let lines = set_lines c.args.set.now in
    let n = c.args.x / c.args.words in
    let none : look_up n lines ≡ None = subst (IsPlace n lines) c.in-None.is c.requires.place in
    let room = c.make_room-place.ensures.lines c.args.words ways sized in
    let after = set_lines c.make_room-place.new.self in
    let i = c.make_room-place.result in
    let nw = no_words c.args.words n in
    let last : i ≡ length (set_room ways lines) = omega (arith, c.make_room-place.ensures.last, ap length room.0, length-append (set_room ways lines) (nw ∷ [])) in
    let there : slice_get after i ≡ Some nw = ap (λ l. slice_get l i) room.0 ∙ last_line (set_room ways lines) nw i last in (
      c.fill_at-in-None.ensures.lines nw there ∙ missed_none g.S.Scheme c.args.state.now c.args.memory.now c.args.words ways c.args.x lines after i none room.0 c.make_room-place.ensures.last,
      c.fill_at-in-None.ensures.sized ways room.1,
    )
