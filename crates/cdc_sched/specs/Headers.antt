-- The header of a schedule.
use Rattle.std.specs.Prelude.{◌≡◌, ℕ, ◌+◌, ◌<◌, ◌≤◌, true, List, [], ◌∷◌, ◌++◌, length, take, drop, codes, map, filter, Some}
use Rattle.std.specs.Str.Lines.{lines}
use Rattle.cdc_sched.specs.declared.header.Geometry.{Geometry}
use Rattle.cdc_sched.specs.declared.header.Header.{Header}
use Rattle.cdc_sched.specs.declared.header_line.CacheWords.{CacheWords}
use Rattle.cdc_sched.specs.declared.header_line.SchemeWords.{SchemeWords}
use Rattle.cdc_sched.specs.declared.read.HeaderRefusal.{HeaderRefusal}
use Rattle.cdc_sched.specs.declared.read.HeaderRefusal.TheVariants.{BadHeader}
use Rattle.cdc_sched.specs.Built.{is_built}
use Rattle.cdc_sched.specs.HeaderLines.{version_words, events_words, numbered, scheme_of, cache_of, tail_of}
use Rattle.cdc_sched.specs.Limits.{IsHeader}
use Rattle.cdc_sched.specs.Lines.{is_kept, read_words}

-- the number of the line that is refused
abbrev pub bad_number : HeaderRefusal → ℕ
bad_number (BadHeader number) = number

-- the places of a header's lines
pub data Place : Type 0 where
  Version Scheme Procs Cache Bound Tail Events : Place

abbrev pub places : List Place
places = Version ∷ Scheme ∷ Procs ∷ Cache ∷ Bound ∷ Tail ∷ Events ∷ []

abbrev pub scheme_words : Header → SchemeWords
scheme_words h = record { name = h.scheme; width = h.width }

abbrev pub cache_words : Geometry → CacheWords
cache_words g = record { words = g.words; sets = g.sets; ways = g.ways }

-- what the line of a place says of a header
abbrev pub Says : Place → Header → List (List ℕ) → Type 0
Says Version h words = words ≡ version_words
Says Scheme h words = scheme_of words ≡ Some (scheme_words h)
Says Procs h words = numbered (codes "procs") words ≡ Some h.procs
Says Cache h words = cache_of words ≡ Some (cache_words h.geometry)
Says Bound h words = numbered (codes "bound") words ≡ Some h.bound
Says Tail h words = tail_of words ≡ Some h.tail
Says Events h words = words ≡ events_words

-- lines in their places, one after another
abbrev pub SayAll : List Place → Header → List (List (List ℕ)) → Type 0
SayAll left h [] = Unit {0}
SayAll [] h (words ∷ more) = ⊥
SayAll (place ∷ left) h (words ∷ more) = Says place h words × SayAll left h more

-- the words of the lines that are not skipped
abbrev pub kept_words : List (List ℕ) → List (List (List ℕ))
kept_words lines = map read_words (filter is_kept lines)

-- The lines are the first ones of a header within its limits, under a scheme that is built, or all of its lines.
pub record IsFrontOf (header : Header) (lines : List (List ℕ)) : Type 0 where
  pub limits : IsHeader header
  pub built : is_built header.scheme ≡ true
  pub says : SayAll places header (kept_words lines)

abbrev pub IsFront : List (List ℕ) → Type 0
IsFront lines = (header : Header) × IsFrontOf header lines

-- The bytes before the place are whole lines.
pub record IsLineStart (bytes : List ℕ) (at : ℕ) : Type 0 where
  pub within : at ≤ length bytes
  pub split : lines bytes ≡ lines (take at bytes) ++ lines (drop at bytes)

-- The file has this header, and the place is that of the first byte behind the last of its seven lines.
pub record HasHeader (bytes : List ℕ) (header : Header) (at : ℕ) : Type 0 where
  pub start : IsLineStart bytes at
  pub front : IsFrontOf header (lines (take at bytes))
  pub all : length (kept_words (lines (take at bytes))) ≡ 7
  pub above : List (List ℕ)
  pub last : List ℕ
  pub ends : lines (take at bytes) ≡ above ++ last ∷ []
  pub last_is : is_kept last ≡ true

-- the next line does not fit its place, or there is none
abbrev pub Departs : List (List ℕ) → List (List ℕ) → Type 0
Departs above [] = Unit {0}
Departs above (line ∷ more) = IsFront (above ++ line ∷ []) → ⊥

-- The line of this number is the first that does not fit its place. It is one more than the number of lines where these
-- end too early.
pub record IsBadHeader (bytes : List ℕ) (number : ℕ) : Type 0 where
  pub above : List (List ℕ)
  pub rest : List (List ℕ)
  pub split : lines bytes ≡ above ++ rest
  pub number_is : number ≡ length above + 1
  pub fits : IsFront above
  pub short : length (kept_words above) < 7
  pub departs : Departs above rest
