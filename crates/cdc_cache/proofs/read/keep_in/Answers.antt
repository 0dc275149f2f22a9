use Rattle.std.proofs.Common.{◌≡◌, ◌++◌, ◌+◌, ◌*◌, length, take, drop, map, sym, ◌∙◌, ap, arith, subst}
use Rattle.std.specs.Prelude.{All}
use Rattle.std.specs.Vec.{with_items}
use Rattle.std.proofs.lemmas.List.{with_items_is, take-append-drop, length-append, length-map}
use Rattle.std.proofs.lemmas.List.Elements.{All-append, All-take, All-drop, All-map, All-weaker}
use Rattle.cdc_cache.specs.declared.line.Line.{Line}
use Rattle.cdc_cache.specs.Lines.{kept_line, kept_word}
use Rattle.cdc_cache.proofs.Mapped.{length-map_from}
use Rattle.cdc_cache.proofs.read.keep_in.Goals as goal

pub returns-clause-sized : goal.returns-clause-sized
returns-clause-sized g c = λ ways sized.
    let s = c.args.set.now in
    let xs = s.lines.items in
    let ys = c.keep_lines.new.lines in
    let f = kept_line g.S.Scheme c.args.state.now c.args.memory.now c.args.words c.args.written.now in
    let is : ys ≡ map f (take s.used xs) ++ drop s.used xs = c.keep_lines.ensures.lines ∙ ap (λ l. map f (take s.used l) ++ drop s.used l) c.deref_mut.ensures.value in
    let long : length ys ≡ length xs =
    ap length is ∙ length-append (map f (take s.used xs)) (drop s.used xs) ∙ ap (λ n. n + length (drop s.used xs)) (length-map (take s.used xs) f) ∙ sym (length-append (take s.used xs) (drop s.used xs)) ∙ ap length (take-append-drop s.used xs) in
    let items : (with_items s.lines ys).items ≡ ys = with_items_is s.lines ys (omega (arith, long, s.lines.ok.0)) in
    let same = λ (l : Line g.row.S-Word.Denot) (long : length l.words ≡ c.args.words). length-map_from (kept_word g.S.Scheme c.args.state.now c.args.memory.now c.args.written.now) (l.number * c.args.words) l.words ∙ long in
    let all : All (λ l. length l.words ≡ c.args.words) ys =
    subst (All (λ l. length l.words ≡ c.args.words)) (sym is)
    (All-append (λ l. length l.words ≡ c.args.words) (map f (take s.used xs)) (drop s.used xs)
    (All-map (λ l. length l.words ≡ c.args.words) f (take s.used xs) (All-weaker (λ l. length l.words ≡ c.args.words) (λ l. length (f l).words ≡ c.args.words) same (take s.used xs) (All-take (λ l. length l.words ≡ c.args.words) s.used xs sized.words_are)))
    (All-drop (λ l. length l.words ≡ c.args.words) s.used xs sized.words_are)) in
    record { ways_are = ap length items ∙ long ∙ sized.ways_are; words_are = subst (All (λ l. length l.words ≡ c.args.words)) (sym items) all }
