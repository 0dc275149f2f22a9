use Rattle.std.proofs.Common.{◌≡◌, ◌<◌, length, set, refl, sym, ◌∙◌, ap, subst, w64, to_z, of_z}
use Rattle.std.specs.Prelude.{Some, slice_get}
use Rattle.std.proofs.lemmas.Int.{to_z-of_z}
use Rattle.std.proofs.lemmas.Option.{slice_get-get_or}
use Rattle.std.proofs.lemmas.List.{length-set}
use Rattle.cdc_sched.specs.declared.header.Geometry.{Geometry}
use Rattle.cdc_cache.specs.Cache.{IsCache}
use Rattle.cdc_cache.specs.Lines.{after_write}
use Rattle.cdc_cache.proofs.Processors.{caches_put}
use Rattle.cdc_cache.proofs.caches.CachesFabric.store.Goals as goal

pub returns-clause-step : goal.returns-clause-step
returns-clause-step g c =
    let self = c.args.self.now in
    let p = c.args.p in
    let held = c.index_mut.result.now in
    let new = c.write.new.self in
    let within : p < length self.caches.items = c.requires.proc in
    let there : slice_get self.caches.items p ≡ Some held = slice_get-get_or self.caches.items p held within ∙ ap Some (sym c.index_mut.ensures.value) in
    let stored : to_z w64 (of_z w64 c.args.value) ≡ c.args.value = to_z-of_z w64 c.args.value c.ranges.value in
    record {
      shape = record { procs = length-set self.caches.items p new; geometry = refl; objects = refl };
      cells = c.write.ensures.cells ∙ ap (λ v. set self.memory.cells c.args.word v) stored;
      owner = c.write.ensures.owner;
      state = refl;
      counts = refl;
      lines = λ lists are.
          let at = are p held there in
          caches_put g.S.Scheme self.geometry self.caches.items lists p new (after_write g.S.Scheme self.geometry self.state self.memory (lists p) c.args.word c.args.value) are (c.write.ensures.geometry ∙ at.0)
          (subst (λ (h : Geometry). IsCache g.S.Scheme new (after_write g.S.Scheme h self.state self.memory (lists p) c.args.word c.args.value)) at.0
          (subst (λ v. IsCache g.S.Scheme new (after_write g.S.Scheme held.geometry self.state self.memory (lists p) c.args.word v)) stored (c.write.ensures.lines (lists p) at.1)));
    }
