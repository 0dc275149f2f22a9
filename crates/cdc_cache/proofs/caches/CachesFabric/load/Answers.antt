use Rattle.std.proofs.Common.{◌≡◌, ◌<◌, length, refl, sym, ◌∙◌, ap, subst, rules}
use Rattle.std.specs.Prelude.{Some, slice_get}
use Rattle.std.proofs.lemmas.Option.{slice_get-get_or}
use Rattle.std.proofs.lemmas.List.{length-set}
use Rattle.cdc_sched.specs.declared.header.Geometry.{Geometry}
use Rattle.cdc_fabric.specs.Counting.{after_read as counts_after_read}
use Rattle.cdc_cache.specs.Cache.{IsCache}
use Rattle.cdc_cache.specs.Lines.{read_value, read_access, after_read}
use Rattle.cdc_cache.specs.Processors.{counted}
use Rattle.cdc_cache.proofs.Processors.{caches_put}
use Rattle.cdc_cache.proofs.caches.CachesFabric.load.Goals as goal

pub returns-clause-step : goal.returns-clause-step
returns-clause-step g c =
    let self = c.args.self.now in
    let p = c.args.p in
    let held = c.index_mut.result.now in
    let new = c.read-value.new.self in
    let within : p < length self.caches.items = c.requires.proc in
    let there : slice_get self.caches.items p ≡ Some held = slice_get-get_or self.caches.items p held within ∙ ap Some (sym c.index_mut.ensures.value) in
    let counts : c.set.new.self ≡ counted self.counts p (counts_after_read c.read-value.result.1) = search rules in
    record {
      shape = record { procs = length-set self.caches.items p new; geometry = refl; objects = refl };
      memory = refl;
      state = refl;
      value_is = λ lists are.
          let at = are p held there in
          let value : c.read-value.result.0 ≡ read_value g.S.Scheme self.state self.memory self.geometry.words (lists p) c.args.word c.args.mark =
          c.read-value.ensures.value (lists p) at.1 ∙ ap (λ (h : Geometry). read_value g.S.Scheme self.state self.memory h.words (lists p) c.args.word c.args.mark) at.0 in
          search (rules, value);
      counts = λ lists are.
          let at = are p held there in
          counts ∙ ap (λ a. counted self.counts p (counts_after_read a)) (c.read-value.ensures.access (lists p) at.1 ∙ ap (λ (h : Geometry). read_access g.S.Scheme h self.state self.memory (lists p) c.args.word c.args.mark) at.0);
      lines = λ lists are.
          let at = are p held there in
          caches_put g.S.Scheme self.geometry self.caches.items lists p new (after_read g.S.Scheme self.geometry self.state self.memory (lists p) c.args.word c.args.mark) are (c.read-value.ensures.geometry ∙ at.0)
          (subst (λ (h : Geometry). IsCache g.S.Scheme new (after_read g.S.Scheme h self.state self.memory (lists p) c.args.word c.args.mark)) at.0 (c.read-value.ensures.lines (lists p) at.1));
    }
