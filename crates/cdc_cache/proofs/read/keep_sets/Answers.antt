use Rattle.std.proofs.Common.{◌≡◌, ◌<◌, ◌-◌, ◌^◌, length, get_or, sym, ◌∙◌, ap, subst, arith, ⊎_elim}
use Rattle.std.specs.Prelude.{Some, slice_get, min}
use Rattle.std.proofs.lemmas.List.Sums.{sum_by_more}
use Rattle.std.proofs.lemmas.Option.{slice_get-get_or}
use Rattle.cdc_cache.specs.declared.set.Set.{Set}
use Rattle.cdc_cache.specs.Lines.{after_boundary}
use Rattle.cdc_cache.specs.Sets.{set_lines, IsSized, lost_in_set}
use Rattle.cdc_cache.proofs.SetCalls.{get_put, get_put_other, get_within}
use Rattle.cdc_cache.proofs.read.keep_sets.Goals as goal

pub loop-place-preserved : goal.loop-place-preserved
loop-place-preserved g c =
    let sets = c.loop-place.sets in
    let first = c.args.sets.now in
    let place = c.loop-place.place in
    let held = c.index-sets-place.result in
    let new = c.keep_in-words_lost.new.set in
    let count = lost_in_set g.S.Scheme c.args.state.now c.args.memory.now c.args.words c.args.written.now in
    let within : place < length sets = omega arith in
    let inside : place < length first = omega arith in
    let here : slice_get sets place ≡ Some held = slice_get-get_or sets place held within ∙ ap Some (sym c.index-sets-place.is) in
    let there : slice_get first place ≡ Some held = sym (c.loop-place.invariant.rest place (omega arith)) ∙ here in
    let same : get_or first place held ≡ held = cc (slice_get-get_or first place held inside, there) in
    let read : held ≡ get_or sets place held = c.index-sets-place.is in
    let kept = after_boundary g.S.Scheme c.args.state.now c.args.memory.now c.args.words c.args.written.now in
    let more = sum_by_more count first place held inside in
    let lost : c.keep_in-words_lost.result ≡ min (count (get_or first place held)) (2 ^ 64 - 1) = c.keep_in-words_lost.ensures.lost ∙ ap (λ (k : Set g.row.S-Word.Denot). min (count k) (2 ^ 64 - 1)) (sym read ∙ sym same) in
    record {
      done = λ s after lt at. ⊎_elim
          (λ now. (held, ap (slice_get first) now.0 ∙ there, ap set_lines now.1 ∙ c.keep_in-words_lost.ensures.lines ∙ ap (λ (k : Set g.row.S-Word.Denot). kept (set_lines k)) (sym read), λ ways sized. subst (IsSized c.args.words ways) (sym now.1) (c.keep_in-words_lost.ensures.sized ways (subst (IsSized c.args.words ways) read sized))))
          (λ past. c.loop-place.invariant.done s after (omega (arith, lt, past.0)) past.1)
          (get_put sets place s new after at);
      rest = λ s le. get_put_other sets place s new (λ e. omega (arith, e, le)) ∙ c.loop-place.invariant.rest s (omega (arith, le));
      lost = omega (arith, more, lost, c.loop-place.invariant.lost, c.saturating_add-lost.ensures);
    }

pub returns-clause-sets : goal.returns-clause-sets
returns-clause-sets g c = λ s after at. c.loop-place.invariant.done s after (omega (arith, get_within c.loop-place.sets s after at)) at
