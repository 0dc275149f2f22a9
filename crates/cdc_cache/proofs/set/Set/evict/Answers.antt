use Rattle.std.proofs.Common.{◌≡◌, ◌<◌, ◌-◌, ◌++◌, length, take, drop, sym, ◌∙◌, ap, arith, subst}
use Rattle.std.specs.Prelude.{remove, is_some, All}
use Rattle.std.specs.Vec.{with_items}
use Rattle.std.proofs.lemmas.List.{with_items_is, length-take-le}
use Rattle.cdc_cache.specs.Sets.{set_lines, IsAt}
use Rattle.cdc_cache.proofs.Places.{place_at, place_none, place_within, removed_at, removed_none, found_at}
use Rattle.cdc_cache.proofs.Slots.{length-moved, All-moved, take-moved}
use Rattle.cdc_cache.proofs.set.Set.evict.Goals as goal

pub returns-in-Some-clause-was : goal.returns-in-Some-clause-was
returns-in-Some-clause-was g c =
    let s = c.args.self.now in
    sym (found_at c.args.number (set_lines s) c.in-Some.place (place_at c.args.number (set_lines s) c.place_of.result c.in-Some.place c.place_of.ensures c.in-Some.is))

pub returns-in-Some-clause-lines : goal.returns-in-Some-clause-lines
returns-in-Some-clause-lines g c =
    let s = c.args.self.now in
    let xs = s.lines.items in
    let i = c.in-Some.place in
    let ys = c.to_end.new.lines in
    let at : IsAt c.args.number (set_lines s) i = place_at c.args.number (set_lines s) c.place_of.result i c.place_of.ensures c.in-Some.is in
    let used : length (set_lines s) ≡ s.used = length-take-le s.used xs (omega (arith, s.within, s.lines.ok.0)) in
    let below : i < s.used = omega (arith, place_within c.args.number (set_lines s) i at, used) in
    let within : i < length xs = omega (arith, below, s.within, s.lines.ok.0) in
    let moved : ys ≡ remove xs i ++ take 1 (drop i xs) = c.to_end.ensures ∙ ap (λ l. remove l i ++ take 1 (drop i l)) c.deref_mut.ensures.value in
    let items : (with_items s.lines ys).items ≡ ys = with_items_is s.lines ys (omega (arith, length-moved xs ys i within moved, s.lines.ok.0)) in
    ap (take (s.used - 1)) items ∙ take-moved xs ys s.used i below (omega (arith, s.within, s.lines.ok.0)) moved ∙ sym (removed_at c.args.number (set_lines s) i at)

pub returns-in-Some-clause-sized : goal.returns-in-Some-clause-sized
returns-in-Some-clause-sized g c = λ words ways sized.
    let s = c.args.self.now in
    let xs = s.lines.items in
    let i = c.in-Some.place in
    let ys = c.to_end.new.lines in
    let at : IsAt c.args.number (set_lines s) i = place_at c.args.number (set_lines s) c.place_of.result i c.place_of.ensures c.in-Some.is in
    let used : length (set_lines s) ≡ s.used = length-take-le s.used xs (omega (arith, s.within, s.lines.ok.0)) in
    let within : i < length xs = omega (arith, place_within c.args.number (set_lines s) i at, used, s.within, s.lines.ok.0) in
    let moved : ys ≡ remove xs i ++ take 1 (drop i xs) = c.to_end.ensures ∙ ap (λ l. remove l i ++ take 1 (drop i l)) c.deref_mut.ensures.value in
    let items : (with_items s.lines ys).items ≡ ys = with_items_is s.lines ys (omega (arith, length-moved xs ys i within moved, s.lines.ok.0)) in
    record {
      ways_are = ap length items ∙ length-moved xs ys i within moved ∙ sized.ways_are;
      words_are = subst (All (λ l. length l.words ≡ words)) (sym items) (All-moved (λ l. length l.words ≡ words) xs ys i moved sized.words_are);
    }

pub returns-in-None-clause-was : goal.returns-in-None-clause-was
returns-in-None-clause-was g c = let s = c.args.self.now in sym (ap is_some (place_none c.args.number (set_lines s) c.place_of.result c.place_of.ensures c.in-None.is))

pub returns-in-None-clause-lines : goal.returns-in-None-clause-lines
returns-in-None-clause-lines g c = let s = c.args.self.now in sym (removed_none c.args.number (set_lines s) (place_none c.args.number (set_lines s) c.place_of.result c.place_of.ensures c.in-None.is))
