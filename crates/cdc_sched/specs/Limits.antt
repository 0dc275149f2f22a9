-- The limits of a schedule's header.
use Rattle.std.specs.Prelude.{◌≡◌, ℕ, ◌*◌, ◌^◌, ◌≤◌}
use Rattle.std.specs.Int.{IsPowerOfTwo}
use Rattle.cdc_sched.specs.declared.header.SchemeName.{SchemeName}
use Rattle.cdc_sched.specs.declared.header.SchemeName.TheVariants.{Direct, Si, Vc, Tpi}
use Rattle.cdc_sched.specs.declared.header.Geometry.{Geometry}
use Rattle.cdc_sched.specs.declared.header.Header.{Header}

-- the shape of a cache; a way is a place for one line in a set
pub record IsGeometry (geometry : Geometry) : Type 0 where
  pub words : IsPowerOfTwo geometry.words
  pub words_most : geometry.words ≤ 16
  pub sets : IsPowerOfTwo geometry.sets
  pub sets_most : geometry.sets ≤ 1024
  pub ways : 1 ≤ geometry.ways
  pub ways_most : geometry.ways ≤ 8

-- the bits of the numbers that a scheme keeps with each cached word
abbrev pub IsWidth : SchemeName → ℕ → Type 0
IsWidth Direct width = width ≡ 0
IsWidth Si width = width ≡ 0
IsWidth Vc width = (2 ≤ width) × (width ≤ 16)
IsWidth Tpi width = (2 ≤ width) × (width ≤ 16)

pub record IsHeader (header : Header) : Type 0 where
  pub width : IsWidth header.scheme header.width
  pub procs : 1 ≤ header.procs
  pub procs_most : header.procs ≤ 64
  pub geometry : IsGeometry header.geometry
  -- the words that all caches have room for
  pub room : header.procs * header.geometry.words * header.geometry.sets * header.geometry.ways ≤ 4194304
  pub bound : header.bound ≤ 10 ^ 12
