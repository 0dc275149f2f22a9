use Rattle.std.proofs.Common.{◌≡◌, ◌<◌, length, refl, sym, ◌∙◌, ap, rules}
use Rattle.std.specs.Prelude.{Some, slice_get}
use Rattle.std.proofs.lemmas.Option.{slice_get-get_or}
use Rattle.std.proofs.lemmas.List.{length-set}
use Rattle.cdc_cache.specs.Lines.{removed}
use Rattle.cdc_cache.specs.Processors.{counted, after_evict, cache_holds}
use Rattle.cdc_cache.specs.Sides.{side_present}
use Rattle.cdc_cache.proofs.Processors.{caches_put}
use Rattle.cdc_cache.proofs.caches.CachesFabric.evict.Goals as goal

pub returns-clause-was : goal.returns-clause-was
returns-clause-was g c =
    let self = c.args.self.now in
    let p = c.args.p in
    let held = c.index_mut.result.now in
    let within : p < length self.caches.items = c.requires.proc in
    let there : slice_get self.caches.items p ≡ Some held = slice_get-get_or self.caches.items p held within ∙ ap Some (sym c.index_mut.ensures.value) in
    c.evict-was.ensures.held ∙ ap (λ o. cache_holds g.S.Scheme o c.args.line) (sym there)

pub returns-clause-step : goal.returns-clause-step
returns-clause-step g c =
    let self = c.args.self.now in
    let p = c.args.p in
    let held = c.index_mut.result.now in
    let new = c.evict-was.new.self in
    let within : p < length self.caches.items = c.requires.proc in
    let there : slice_get self.caches.items p ≡ Some held = slice_get-get_or self.caches.items p held within ∙ ap Some (sym c.index_mut.ensures.value) in
    let was : c.evict-was.result ≡ side_present g.S.Scheme self p c.args.line = c.evict-was.ensures.held ∙ ap (λ o. cache_holds g.S.Scheme o c.args.line) (sym there) in
    let counts : c.set.new.self ≡ counted self.counts p (after_evict c.evict-was.result) = search rules in
    record {
      shape = record { procs = length-set self.caches.items p new; geometry = refl; objects = refl };
      memory = refl;
      state = refl;
      was = λ lists are. sym was ∙ c.evict-was.ensures.was (lists p) (are p held there).1;
      counts = counts ∙ ap (λ b. counted self.counts p (after_evict b)) was;
      lines = λ lists are.
          let at = are p held there in
          caches_put g.S.Scheme self.geometry self.caches.items lists p new (removed c.args.line (lists p)) are (c.evict-was.ensures.geometry ∙ at.0) (c.evict-was.ensures.lines (lists p) at.1);
    }
