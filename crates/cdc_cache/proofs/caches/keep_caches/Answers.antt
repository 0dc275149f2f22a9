use Rattle.std.proofs.Common.{◌≡◌, ◌<◌, ◌-◌, ◌^◌, length, get_or, sym, ◌∙◌, ap, subst, arith, rules, inl, inr, ⊎_elim, get_or-set_same, get_or-set_other}
use Rattle.std.specs.Prelude.{Some, slice_get, min}
use Rattle.std.proofs.lemmas.Bool.{cases_eq}
use Rattle.std.proofs.lemmas.List.{length-set}
use Rattle.std.proofs.lemmas.Option.{slice_get-get_or}
use Rattle.cdc_sched.specs.declared.header.Geometry.{Geometry}
use Rattle.cdc_fabric.specs.Counting.{no_counts, after_boundary as counts_after_boundary}
use Rattle.cdc_cache.specs.Cache.{IsCache, geometry_of}
use Rattle.cdc_cache.specs.Lines.{after_boundary, lost_count}
use Rattle.cdc_cache.specs.Processors.{counts_at, counted}
use Rattle.cdc_cache.proofs.Processors.{invalidated_most}
use Rattle.cdc_cache.proofs.SetCalls.{get_put, get_put_other, get_within}
use Rattle.cdc_cache.proofs.caches.keep_caches.Goals as goal

pub loop-p-preserved : goal.loop-p-preserved
loop-p-preserved g c =
    let scheme = g.S.Scheme in
    let caches = c.loop-p.caches in
    let counts = c.loop-p.counts in
    let p = c.loop-p.p in
    let held = get_or caches p c.index-caches-p.result in
    let new = c.boundary-words.new.self in
    let lost = c.boundary-words.result in
    let state = c.args.state.now in
    let memory = c.args.memory.now in
    let written = c.args.written.now in
    let within : p < length caches = omega arith in
    let there : slice_get c.args.caches.now p ≡ Some held = sym (c.loop-p.invariant.rest p (omega arith)) ∙ slice_get-get_or caches p c.index-caches-p.result within in
    let counting : p < length counts = omega (arith, c.loop-p.invariant.many, c.requires.counted, within) in
    let put : c.set.new.self ≡ counted counts p (counts_after_boundary lost) = search rules in
    record {
      many = ap length put ∙ length-set counts p (counts_after_boundary lost (counts_at counts p)) ∙ c.loop-p.invariant.many;
      done = λ geometry lists are q cache lt at. ⊎_elim
          (λ now.
          let old = are p held there in
          let is : IsCache scheme new (after_boundary scheme state memory geometry.words written (lists p)) =
          subst (λ (h : Geometry). IsCache scheme new (after_boundary scheme state memory h.words written (lists p))) old.0 (c.boundary-words.ensures.lines (lists p) old.1) in
          subst (λ r. (geometry_of cache ≡ geometry) × IsCache scheme cache (after_boundary scheme state memory geometry.words written (lists r))) (sym now.0)
          (subst (λ z. (geometry_of z ≡ geometry) × IsCache scheme z (after_boundary scheme state memory geometry.words written (lists p))) (sym now.1) (c.boundary-words.ensures.geometry ∙ old.0, is)))
          (λ past. c.loop-p.invariant.done geometry lists are q cache (omega (arith, lt, past.0)) past.1)
          (get_put caches p q new cache at);
      rest = λ q le. get_put_other caches p q new (λ e. omega (arith, e, le)) ∙ c.loop-p.invariant.rest q (omega (arith, le));
      counted = λ geometry lists are q lt. elim (cases_eq q p) [
        | inl same ↦
            let old = are p held there in
            let count = lost_count scheme state memory geometry.words written (lists p) in
            let loss : lost ≡ min count (2 ^ 64 - 1) =
            c.boundary-words.ensures.lost (lists p) old.1 ∙ ap (λ (h : Geometry). min (lost_count scheme state memory h.words written (lists p)) (2 ^ 64 - 1)) old.0 in
            subst (λ r. counts_at c.set.new.self r ≡ counts_after_boundary (lost_count scheme state memory geometry.words written (lists r)) (counts_at c.args.counts.now r)) (sym same)
            (ap (λ l. counts_at l p) put
            ∙ get_or-set_same counts p (counts_after_boundary lost (counts_at counts p)) no_counts counting
            ∙ ap (λ n. counts_after_boundary n (counts_at counts p)) loss
            ∙ invalidated_most count (counts_at counts p)
            ∙ ap (counts_after_boundary count) (c.loop-p.invariant.uncounted p (omega arith)))
        | inr apart ↦
            ap (λ l. counts_at l q) put ∙ get_or-set_other counts p q (counts_after_boundary lost (counts_at counts p)) no_counts apart
            ∙ c.loop-p.invariant.counted geometry lists are q (omega (arith, lt, apart))
      ];
      uncounted = λ q le.
          ap (λ l. counts_at l q) put ∙ get_or-set_other counts p q (counts_after_boundary lost (counts_at counts p)) no_counts (λ e. omega (arith, e, le)) ∙ c.loop-p.invariant.uncounted q (omega (arith, le));
    }

pub returns-clause-lines : goal.returns-clause-lines
returns-clause-lines g c = λ geometry lists are q cache at. c.loop-p.invariant.done geometry lists are q cache (omega (arith, get_within c.loop-p.caches q cache at)) at
