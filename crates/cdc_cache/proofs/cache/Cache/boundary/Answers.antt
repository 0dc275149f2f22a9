use Rattle.std.proofs.Common.{◌≡◌, ◌-◌, ◌^◌, [], length, refl, sym, ◌∙◌, ap, arith, inl, inr}
use Rattle.std.specs.Prelude.{slice_get, sum_by, min, if◌then◌else◌}
use Rattle.std.specs.Vec.{with_items}
use Rattle.std.proofs.lemmas.Bool.{cases_Bool}
use Rattle.std.proofs.lemmas.List.{with_items_is}
use Rattle.cdc_cache.specs.Distinct.{distinct_map}
use Rattle.cdc_cache.specs.Lines.{after_boundary, kept_line, lost_in_line, lost_count}
use Rattle.cdc_cache.specs.Sets.{lost_in_set}
use Rattle.cdc_cache.proofs.InSets.{map-in_set}
use Rattle.cdc_cache.proofs.Partition.{sum_by-sets, none_of_length}
use Rattle.cdc_cache.proofs.cache.Cache.boundary.Goals as goal

pub returns-clause-lost : goal.returns-clause-lost
returns-clause-lost g c = λ lines cache.
    let self = c.args.self.now in
    let sets = self.sets.items in
    let total = sum_by (lost_in_set g.S.Scheme c.args.state.now c.args.memory.now self.geometry.words c.args.written.now) in
    let count = lost_count g.S.Scheme c.args.state.now c.args.memory.now self.geometry.words c.args.written.now in
    let whole : total sets ≡ count lines = elim (cases_Bool g.S.Scheme.has_caches) [
      | inl has ↦ sum_by-sets (lost_in_line g.S.Scheme c.args.state.now c.args.memory.now self.geometry.words c.args.written.now) self.geometry.sets sets lines self.some
          (cache.sets_are ∙ ap (λ b. if b then self.geometry.sets else 0) has) (λ i set at. (cache.held i set at).0)
      | inr none ↦
          let empty : sets ≡ [] = none_of_length sets (cache.sets_are ∙ ap (λ b. if b then self.geometry.sets else 0) none) in
          ap total empty ∙ ap count (sym (cache.none none))
    ] in
    c.keep_sets.ensures.lost ∙ ap (λ l. min (total l) (2 ^ 64 - 1)) c.deref_mut.ensures.value ∙ ap (λ n. min n (2 ^ 64 - 1)) whole

pub returns-clause-lines : goal.returns-clause-lines
returns-clause-lines g c = λ lines cache.
    let self = c.args.self.now in
    let sets = self.sets.items in
    let new = c.keep_sets.new.sets in
    let f = kept_line g.S.Scheme c.args.state.now c.args.memory.now self.geometry.words c.args.written.now in
    let long : length new ≡ length sets = omega (arith, ap length c.deref_mut.ensures.value) in
    let items : (with_items self.sets new).items ≡ new = with_items_is self.sets new (omega (arith, long, self.sets.ok.0)) in
    record {
      sets_are = ap length items ∙ long ∙ cache.sets_are;
      none = λ none. ap (after_boundary g.S.Scheme c.args.state.now c.args.memory.now self.geometry.words c.args.written.now) (cache.none none);
      distinct = distinct_map f lines (λ l. refl) cache.distinct;
      held = λ s set at.
          let kept = c.keep_sets.ensures.sets s set (sym (ap (λ l. slice_get l s) items) ∙ at) in
          let old = cache.held s kept.0 (sym (ap (λ l. slice_get l s) c.deref_mut.ensures.value) ∙ kept.1) in
          (kept.2 ∙ ap (after_boundary g.S.Scheme c.args.state.now c.args.memory.now self.geometry.words c.args.written.now) old.0 ∙ sym (map-in_set self.geometry.sets s f lines (λ l. refl)), kept.3 self.geometry.ways old.1);
    }
