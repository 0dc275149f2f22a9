use Rattle.std.proofs.Common.{◌≡◌, length, sym, ◌∙◌, ap, arith, ◌<◌}
use Rattle.std.specs.Prelude.{Some, slice_get}
use Rattle.std.proofs.lemmas.Option.{slice_get-get_or}
use Rattle.std.proofs.lemmas.List.{length-set}
use Rattle.cdc_cache.specs.Distinct.{distinct_read}
use Rattle.cdc_cache.specs.Lines.{in_set, after_read, read_value}
use Rattle.cdc_cache.specs.Sets.{set_lines, set_access, set_after_read}
use Rattle.cdc_cache.proofs.SetCalls.{sets_put, has_caches, value-own, access-own, read-own, read-other}
use Rattle.cdc_cache.proofs.cache.Cache.read.Goals as goal

pub returns-then-place-len-clause-value : goal.returns-then-place-len-clause-value
returns-then-place-len-clause-value g c = λ lines cache.
    let self = c.args.self.now in
    let s = c.set_of-place.result in
    let within : s < length self.sets.items = omega (arith, c.if-place-len.true, c.len.ensures, self.sets.ok.0) in
    let there : slice_get self.sets.items s ≡ Some c.index_mut.result.now = slice_get-get_or self.sets.items s c.index_mut.result.now within ∙ ap Some (sym c.index_mut.ensures.value) in
    let held = cache.held s c.index_mut.result.now there in
    c.read_in.ensures.value
    ∙ ap (λ l. read_value g.S.Scheme c.args.state.now c.args.memory.now self.geometry.words l c.args.word c.args.mark) held.0
    ∙ value-own g.S.Scheme self.geometry c.args.state.now c.args.memory.now c.args.word lines c.args.mark s (sym c.set_of-place.ensures)

pub returns-then-place-len-clause-access : goal.returns-then-place-len-clause-access
returns-then-place-len-clause-access g c = λ lines cache.
    let self = c.args.self.now in
    let s = c.set_of-place.result in
    let within : s < length self.sets.items = omega (arith, c.if-place-len.true, c.len.ensures, self.sets.ok.0) in
    let there : slice_get self.sets.items s ≡ Some c.index_mut.result.now = slice_get-get_or self.sets.items s c.index_mut.result.now within ∙ ap Some (sym c.index_mut.ensures.value) in
    let held = cache.held s c.index_mut.result.now there in
    let has = has_caches g.S.Scheme.has_caches self.geometry.sets (length self.sets.items) s cache.sets_are within in
    c.read_in.ensures.access self.geometry.ways held.1
    ∙ ap (λ l. set_access g.S.Scheme c.args.state.now c.args.memory.now self.geometry.words self.geometry.ways l c.args.word c.args.mark) held.0
    ∙ access-own g.S.Scheme self.geometry c.args.state.now c.args.memory.now c.args.word lines c.args.mark s has (sym c.set_of-place.ensures)

pub returns-then-place-len-clause-lines : goal.returns-then-place-len-clause-lines
returns-then-place-len-clause-lines g c = λ lines cache.
    let self = c.args.self.now in
    let s = c.set_of-place.result in
    let new = c.read_in.new.set in
    let within : s < length self.sets.items = omega (arith, c.if-place-len.true, c.len.ensures, self.sets.ok.0) in
    let there : slice_get self.sets.items s ≡ Some c.index_mut.result.now = slice_get-get_or self.sets.items s c.index_mut.result.now within ∙ ap Some (sym c.index_mut.ensures.value) in
    let held = cache.held s c.index_mut.result.now there in
    let has = has_caches g.S.Scheme.has_caches self.geometry.sets (length self.sets.items) s cache.sets_are within in
    let after = after_read g.S.Scheme self.geometry c.args.state.now c.args.memory.now lines c.args.word c.args.mark in
    let step = c.read_in.ensures.lines self.geometry.ways held.1 in
    let own : set_lines new ≡ in_set self.geometry.sets s after =
    step.0 ∙ ap (λ l. set_after_read g.S.Scheme c.args.state.now c.args.memory.now self.geometry.words self.geometry.ways l c.args.word c.args.mark) held.0
    ∙ sym (read-own g.S.Scheme self.geometry c.args.state.now c.args.memory.now c.args.word lines c.args.mark s has (sym c.set_of-place.ensures)) in
    record {
      sets_are = length-set self.sets.items s new ∙ cache.sets_are;
      none = λ none. absurd (cc (none, has));
      distinct = distinct_read g.S.Scheme self.geometry c.args.state.now c.args.memory.now lines c.args.word c.args.mark cache.distinct;
      held = sets_put self.geometry self.sets.items lines after s new cache.held own step.1
          (λ t other. read-other g.S.Scheme self.geometry c.args.state.now c.args.memory.now c.args.word lines c.args.mark t (λ same. other (sym same ∙ sym c.set_of-place.ensures)));
    }
