-- What one line of a header may say.
use Rattle.std.specs.Prelude.{◌≡◌, ℕ, ◌*◌, ◌^◌, ◌≤◌, ◌==◌, ◌&&◌, nat_le, Bool, true, List, [], ◌∷◌, codes, Some}
use Rattle.std.specs.List.{list_any}
use Rattle.cdc_sched.specs.declared.header.Geometry.{Geometry}
use Rattle.cdc_sched.specs.declared.header.Header.{Header}
use Rattle.cdc_sched.specs.declared.fit.Scheme.{Scheme}
use Rattle.cdc_sched.specs.declared.header_line.CacheWords.{CacheWords}
use Rattle.cdc_sched.specs.Built.{is_built}
use Rattle.cdc_sched.specs.HeaderLines.{numbered, scheme_of, cache_of}
use Rattle.cdc_sched.specs.Headers.{Place, Says, cache_words}
use Rattle.cdc_sched.specs.Headers.Place.{Cache}
use Rattle.cdc_sched.specs.Limits.{IsGeometry, IsHeader, IsWidth}

-- the words fit the place in the header of some file
abbrev pub CanSay : Place → List (List ℕ) → Type 0
CanSay place words = (header : Header) × IsHeader header × (is_built header.scheme ≡ true) × Says place header words

-- the same of a cache, where the number of processors is known
abbrev pub CanSayCache : ℕ → List (List ℕ) → Type 0
CanSayCache procs words = (header : Header) × IsHeader header × (header.procs ≡ procs) × Says Cache header words

pub record SaysScheme (scheme : Scheme) (words : List (List ℕ)) : Type 0 where
  pub says : scheme_of words ≡ Some (record { name = scheme.name; width = scheme.width })
  pub width : IsWidth scheme.name scheme.width
  pub built : is_built scheme.name ≡ true

pub record SaysProcs (procs : ℕ) (words : List (List ℕ)) : Type 0 where
  pub says : numbered (codes "procs") words ≡ Some procs
  pub some : 1 ≤ procs
  pub most : procs ≤ 64

pub record SaysCache (procs : ℕ) (geometry : Geometry) (words : List (List ℕ)) : Type 0 where
  pub says : cache_of words ≡ Some (cache_words geometry)
  pub geometry_is : IsGeometry geometry
  pub room : procs * geometry.words * geometry.sets * geometry.ways ≤ 4194304

pub record SaysBound (bound : ℕ) (words : List (List ℕ)) : Type 0 where
  pub says : numbered (codes "bound") words ≡ Some bound
  pub most : bound ≤ 10 ^ 12

-- the powers of two up to 1,024
abbrev pub exponents : List ℕ
exponents = 0 ∷ 1 ∷ 2 ∷ 3 ∷ 4 ∷ 5 ∷ 6 ∷ 7 ∷ 8 ∷ 9 ∷ 10 ∷ []

abbrev pub is_small_power : ℕ → Bool
is_small_power n = list_any (λ k. n == 2 ^ k) exponents

abbrev pub is_geometry : CacheWords → Bool
is_geometry c = is_small_power c.words && nat_le c.words 16 && is_small_power c.sets && nat_le 1 c.ways && nat_le c.ways 8
