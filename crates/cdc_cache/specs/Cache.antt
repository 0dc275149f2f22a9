-- The list of lines that a cache stands for.
use Rattle.std.specs.Prelude.{◌≡◌, List, [], length, false, if◌then◌else◌}
use Rattle.cdc_sched.specs.declared.header.Geometry.{Geometry}
use Rattle.cdc_scheme.specs.declared.scheme.Scheme.{Ghosts}
use Rattle.cdc_cache.specs.declared.cache.Cache.{Cache}
use Rattle.cdc_cache.specs.declared.line.Line.{Line}
use Rattle.cdc_cache.specs.Lines.{AreDistinct}
use Rattle.cdc_cache.specs.Sets.{AreSets}

abbrev pub geometry_of : {S W T : Type 0} {scheme : Ghosts S W T} → Cache S W T scheme → Geometry
geometry_of cache = cache.geometry

-- the cache stands for these lines in order of filling, none where there are no caches
pub record IsCache {S W T : Type 0} (scheme : Ghosts S W T) (cache : Cache S W T scheme) (lines : List (Line W)) : Type 0 where
  pub sets_are : length cache.sets.items ≡ (if scheme.has_caches then cache.geometry.sets else 0)
  pub none : scheme.has_caches ≡ false → lines ≡ []
  pub distinct : AreDistinct lines
  pub held : AreSets cache.geometry cache.sets.items lines

-- for whatever lines a cache stands for
abbrev pub ForLines : {S W T : Type 0} (scheme : Ghosts S W T) → Cache S W T scheme → (List (Line W) → Type 0) → Type 0
ForLines {S} {W} {T} scheme cache P = (lines : List (Line W)) → IsCache scheme cache lines → P lines
