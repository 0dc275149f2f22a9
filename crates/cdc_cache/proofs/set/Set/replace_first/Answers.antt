use Rattle.std.proofs.Common.{◌≡◌, ◌<◌, ◌-◌, ◌++◌, ◌∷◌, [], length, set, take, drop, sym, ◌∙◌, ap, arith, subst}
use Rattle.std.specs.Prelude.{remove, None, All}
use Rattle.std.specs.Vec.{with_items}
use Rattle.std.proofs.lemmas.List.{with_items_is, length-set, length-replicate}
use Rattle.std.proofs.lemmas.List.Elements.{All-get_or, All-set}
use Rattle.cdc_cache.specs.Lines.{no_words}
use Rattle.cdc_cache.proofs.Slots.{length-moved, All-moved, replaced_first}
use Rattle.cdc_cache.proofs.set.Set.replace_first.Goals as goal

pub returns-clause-lines : goal.returns-clause-lines
returns-clause-lines g c = λ words ways sized.
    let s = c.args.self.now in
    let xs = s.lines.items in
    let u = s.used in
    let ys = c.to_end.new.lines in
    let v = c.reset_line.new.line in
    let l = c.index_mut.result.now in
    let some : 0 < u = omega (arith, c.requires, s.some, s.lines.ok.0) in
    let within : 0 < length xs = omega (arith, some, c.requires) in
    let moved : ys ≡ remove xs 0 ++ take 1 (drop 0 xs) = c.to_end.ensures ∙ ap (λ k. remove k 0 ++ take 1 (drop 0 k)) c.deref_mut.ensures.value in
    let long = length-moved xs ys 0 within moved in
    let items : (with_items s.lines ys).items ≡ ys = with_items_is s.lines ys (omega (arith, long, s.lines.ok.0)) in
    let all : All (λ k. length k.words ≡ words) (with_items s.lines ys).items = subst (All (λ k. length k.words ≡ words)) (sym items) (All-moved (λ k. length k.words ≡ words) xs ys 0 moved sized.words_are) in
    let last : u - 1 < length (with_items s.lines ys).items = omega (arith, ap length items, long, c.requires, some) in
    let held : length l.words ≡ words = subst (λ k. length k.words ≡ words) (sym c.index_mut.ensures.value) (All-get_or (λ k. length k.words ≡ words) (with_items s.lines ys).items (u - 1) l last all) in
    let made : v ≡ no_words words c.args.number = c.reset_line.ensures ∙ ap (λ n. no_words n c.args.number) held in (
      ap (λ its. take u (set its (u - 1) v)) items ∙ replaced_first xs ys u v some c.requires moved ∙ ap (λ k. drop 1 (take u xs) ++ k ∷ []) made,
      record {
        ways_are = length-set (with_items s.lines ys).items (u - 1) v ∙ ap length items ∙ long ∙ sized.ways_are;
        words_are = All-set (λ k. length k.words ≡ words) (with_items s.lines ys).items (u - 1) v (ap (λ k. length k.words) made ∙ length-replicate words None) all;
      },
    )
