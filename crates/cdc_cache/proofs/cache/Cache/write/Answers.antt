use Rattle.std.proofs.Common.{◌≡◌, ◌/◌, ◌%◌, length, get_or, sym, ◌∙◌, ap, arith, ◌<◌, w64}
use Rattle.std.specs.Prelude.{Some, slice_get}
use Rattle.std.proofs.lemmas.Option.{slice_get-get_or}
use Rattle.std.proofs.lemmas.Int.{to_z-of_z}
use Rattle.std.proofs.lemmas.List.{length-set}
use Rattle.cdc_cache.specs.declared.line.Copied.{Copied}
use Rattle.cdc_cache.specs.Distinct.{distinct_written}
use Rattle.cdc_cache.specs.Lines.{in_set, written, owner_at}
use Rattle.cdc_cache.specs.Sets.{set_lines}
use Rattle.cdc_cache.proofs.SetCalls.{copied_of, sets_put, has_caches, written-own, written-other}
use Rattle.cdc_cache.proofs.cache.Cache.write.Goals as goal

pub returns-then-place-len-clause-lines : goal.returns-then-place-len-clause-lines
returns-then-place-len-clause-lines g c = λ lines cache.
    let self = c.args.self.now in
    let s = c.set_of-place.result in
    let new = c.write.new.self in
    let n = c.args.word / self.geometry.words in
    let j = c.args.word % self.geometry.words in
    let copied : Copied g.row.S-Word.Denot = record { value = c.args.value; stamp = g.S.Scheme.wrote_of c.args.state.now (owner_at c.args.memory.now c.args.word) } in
    let within : s < length self.sets.items = omega (arith, c.if-place-len.true, c.len.ensures, self.sets.ok.0) in
    let there : slice_get self.sets.items s ≡ Some c.index_mut.result.now = slice_get-get_or self.sets.items s c.index_mut.result.now within ∙ ap Some (sym c.index_mut.ensures.value) in
    let held = cache.held s c.index_mut.result.now there in
    let has = has_caches g.S.Scheme.has_caches self.geometry.sets (length self.sets.items) s cache.sets_are within in
    let after = written n j copied lines in
    let made : set_lines new ≡ written n j copied (set_lines c.index_mut.result.now) =
    c.write.ensures.lines
    ∙ ap (λ v. written n j (copied_of v c.wrote-stamp.result) (set_lines c.index_mut.result.now)) (to_z-of_z w64 c.args.value c.ranges.value)
    ∙ ap (λ w. written n j (copied_of c.args.value w) (set_lines c.index_mut.result.now)) (c.wrote-stamp.ensures ∙ ap (λ l. g.S.Scheme.wrote_of c.args.state.now (get_or l c.args.word 0)) c.as_slice.ensures) in
    let own : set_lines new ≡ in_set self.geometry.sets s after = made ∙ ap (written n j copied) held.0 ∙ sym (written-own self.geometry n j s copied lines (sym c.set_of-place.ensures)) in
    record {
      sets_are = length-set self.sets.items s new ∙ cache.sets_are;
      none = λ none. absurd (cc (none, has));
      distinct = distinct_written n j copied lines cache.distinct;
      held = sets_put self.geometry self.sets.items lines after s new cache.held own (c.write.ensures.sized self.geometry.words self.geometry.ways held.1)
          (λ t other. written-other self.geometry n j t copied lines (λ same. other (sym same ∙ sym c.set_of-place.ensures)));
    }
