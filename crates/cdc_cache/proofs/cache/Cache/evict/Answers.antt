use Rattle.std.proofs.Common.{◌≡◌, length, sym, ◌∙◌, ap, arith, ◌<◌}
use Rattle.std.specs.Prelude.{Some, is_some, slice_get}
use Rattle.std.proofs.lemmas.Option.{slice_get-get_or}
use Rattle.std.proofs.lemmas.List.{length-set}
use Rattle.cdc_cache.specs.Distinct.{distinct_removed}
use Rattle.cdc_cache.specs.Lines.{in_set, look_up, removed}
use Rattle.cdc_cache.specs.Processors.{set_holds}
use Rattle.cdc_cache.specs.Sets.{set_lines}
use Rattle.cdc_cache.proofs.InSets.{look_up-in_set, removed-own, removed-other}
use Rattle.cdc_cache.proofs.SetCalls.{sets_put, has_caches}
use Rattle.cdc_cache.proofs.cache.Cache.evict.Goals as goal

pub returns-then-place-len-clause-was : goal.returns-then-place-len-clause-was
returns-then-place-len-clause-was g c = λ lines cache.
    let self = c.args.self.now in
    let s = c.set_of-place.result in
    let within : s < length self.sets.items = omega (arith, c.if-place-len.true, c.len.ensures, self.sets.ok.0) in
    let there : slice_get self.sets.items s ≡ Some c.index_mut.result.now = slice_get-get_or self.sets.items s c.index_mut.result.now within ∙ ap Some (sym c.index_mut.ensures.value) in
    let held = cache.held s c.index_mut.result.now there in
    c.evict.ensures.was ∙ ap (λ l. is_some (look_up c.args.line l)) held.0 ∙ ap is_some (look_up-in_set self.geometry.sets c.args.line s lines (sym c.set_of-place.ensures))

pub returns-then-place-len-clause-lines : goal.returns-then-place-len-clause-lines
returns-then-place-len-clause-lines g c = λ lines cache.
    let self = c.args.self.now in
    let s = c.set_of-place.result in
    let new = c.evict.new.self in
    let within : s < length self.sets.items = omega (arith, c.if-place-len.true, c.len.ensures, self.sets.ok.0) in
    let there : slice_get self.sets.items s ≡ Some c.index_mut.result.now = slice_get-get_or self.sets.items s c.index_mut.result.now within ∙ ap Some (sym c.index_mut.ensures.value) in
    let held = cache.held s c.index_mut.result.now there in
    let has = has_caches g.S.Scheme.has_caches self.geometry.sets (length self.sets.items) s cache.sets_are within in
    let after = removed c.args.line lines in
    let own : set_lines new ≡ in_set self.geometry.sets s after = c.evict.ensures.lines ∙ ap (removed c.args.line) held.0 ∙ sym (removed-own self.geometry.sets c.args.line s lines (sym c.set_of-place.ensures)) in
    record {
      sets_are = length-set self.sets.items s new ∙ cache.sets_are;
      none = λ none. absurd (cc (none, has));
      distinct = distinct_removed c.args.line lines cache.distinct;
      held = sets_put self.geometry self.sets.items lines after s new cache.held own (c.evict.ensures.sized self.geometry.words self.geometry.ways held.1)
          (λ t other. removed-other self.geometry.sets c.args.line t lines (λ same. other (sym same ∙ sym c.set_of-place.ensures)));
    }

pub returns-then-place-len-clause-held : goal.returns-then-place-len-clause-held
returns-then-place-len-clause-held g c =
    let self = c.args.self.now in
    let s = c.set_of-place.result in
    let within : s < length self.sets.items = omega (arith, c.if-place-len.true, c.len.ensures, self.sets.ok.0) in
    let there : slice_get self.sets.items s ≡ Some c.index_mut.result.now = slice_get-get_or self.sets.items s c.index_mut.result.now within ∙ ap Some (sym c.index_mut.ensures.value) in
    c.evict.ensures.was ∙ ap (λ o. set_holds o c.args.line) (sym there) ∙ ap (λ t. set_holds (slice_get self.sets.items t) c.args.line) c.set_of-place.ensures
