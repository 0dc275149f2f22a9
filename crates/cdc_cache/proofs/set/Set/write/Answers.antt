use Rattle.std.proofs.Common.{◌≡◌, ◌<◌, length, set, sym, ◌∙◌, ap, arith}
use Rattle.std.proofs.lemmas.List.{length-take-le}
use Rattle.std.proofs.Math.Seq.{take-set-lt}
use Rattle.cdc_cache.specs.Sets.{set_lines, IsAt}
use Rattle.cdc_cache.proofs.Places.{place_at, place_none, place_within, written_at, written_none}
use Rattle.cdc_cache.proofs.Slots.{got}
use Rattle.cdc_cache.proofs.set.Set.write.Goals as goal

pub returns-in-Some-clause-lines : goal.returns-in-Some-clause-lines
returns-in-Some-clause-lines g c =
    let s = c.args.self.now in
    let xs = s.lines.items in
    let i = c.in-Some.place in
    let l = c.index_mut.result.now in
    let at : IsAt c.args.number (set_lines s) i = place_at c.args.number (set_lines s) c.place_of.result i c.place_of.ensures c.in-Some.is in
    let used : length (set_lines s) ≡ s.used = length-take-le s.used xs (omega (arith, s.within, s.lines.ok.0)) in
    let below : i < s.used = omega (arith, place_within c.args.number (set_lines s) i at, used) in
    let there = got xs s.used i l below (omega (arith, s.within, s.lines.ok.0)) c.index_mut.ensures.value in
    take-set-lt s.used xs i c.put_word.new.line below
    ∙ ap (set (set_lines s) i) c.put_word.ensures
    ∙ sym (written_at c.args.number c.args.offset c.args.copied (set_lines s) i l at there)

pub returns-in_default-clause-lines : goal.returns-in_default-clause-lines
returns-in_default-clause-lines g c =
    let s = c.args.self.now in sym (written_none c.args.number c.args.offset c.args.copied (set_lines s) (place_none c.args.number (set_lines s) c.place_of.result c.place_of.ensures c.in_default.is))
