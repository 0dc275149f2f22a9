-- A cache as one list of lines in order of filling.
use Rattle.std.specs.Prelude.{◌≡◌, ℕ, ℤ, pos, ◌+◌, ◌*◌, ◌/◌, ◌%◌, List, [], ◌∷◌, ◌++◌, length, Option, Some, None, unwrap_or, option_and_then, option_map, map, filter, is_some, is_none, not, ◌&&◌, nat_lt, if◌then◌else◌, ◌==◌, sum_by, replicate, slice_index, Bool}
use Rattle.std.specs.List.{slice_index_or, slice_set}
use Rattle.cdc_prog.specs.declared.program.Mark.{Mark}
use Rattle.cdc_prog.specs.declared.program.Mark.TheVariants.{Ordinary, Time}
use Rattle.cdc_sched.specs.declared.header.Geometry.{Geometry}
use Rattle.cdc_scheme.specs.declared.scheme.Scheme.{Ghosts}
use Rattle.cdc_fabric.specs.declared.counts.Access.{Access}
use Rattle.cdc_fabric.specs.declared.counts.Access.TheVariants.{OrdinaryHit, MarkedHit, Miss}
use Rattle.cdc_cache.specs.declared.line.Copied.{Copied}
use Rattle.cdc_cache.specs.declared.line.Line.{Line}
use Rattle.cdc_cache.specs.declared.line.Words.{Words}

-- memory's value of a word, and the word's object
abbrev pub value_at : Words → ℕ → ℤ
value_at memory x = slice_index_or memory.cells x (pos 0)

abbrev pub owner_at : Words → ℕ → ℕ
owner_at memory x = slice_index memory.owner x

-- the line with a number
abbrev pub look_up : {W : Type 0} → ℕ → List (Line W) → Option (Line W)
look_up n [] = None
look_up n (l ∷ ls) = if l.number == n then Some l else look_up n ls

-- word j of a line, where it is valid
abbrev pub copy_at : {W : Type 0} → ℕ → Option (Line W) → Option (Copied W)
copy_at j held = option_and_then (λ l. slice_index_or l.words j None) held

-- the valid copy of word x, in lines of so many words
abbrev pub copy_in : {W : Type 0} → ℕ → List (Line W) → ℕ → Option (Copied W)
copy_in words lines x = copy_at (x % words) (look_up (x / words) lines)

-- another line in the place of the one with a number
abbrev pub replaced : {W : Type 0} → ℕ → Line W → List (Line W) → List (Line W)
replaced n line [] = []
replaced n line (l ∷ ls) = if l.number == n then line ∷ ls else l ∷ replaced n line ls

abbrev pub removed : {W : Type 0} → ℕ → List (Line W) → List (Line W)
removed n [] = []
removed n (l ∷ ls) = if l.number == n then ls else l ∷ removed n ls

-- the lines of a set
abbrev pub in_set : {W : Type 0} → ℕ → ℕ → List (Line W) → List (Line W)
in_set sets set lines = filter (λ l. l.number % sets == set) lines

-- without the first line of a set
abbrev pub without_first : {W : Type 0} → ℕ → ℕ → List (Line W) → List (Line W)
without_first sets set [] = []
without_first sets set (l ∷ ls) = if l.number % sets == set then ls else l ∷ without_first sets set ls

-- the line with word j valid
abbrev pub with_word : {W : Type 0} → ℕ → Copied W → Line W → Line W
with_word j copied l = record { number = l.number; words = slice_set l.words j (Some copied) }

-- with word j of line n valid, where the line is present
abbrev pub written : {W : Type 0} → (n j : ℕ) → Copied W → List (Line W) → List (Line W)
written {W} n j copied lines = by (look_up n lines)
  where
    by : Option (Line W) → List (Line W)
    by None = lines
    by (Some l) = replaced n (with_word j copied l) lines

-- line n with no valid word
abbrev pub no_words : {W : Type 0} → (words n : ℕ) → Line W
no_words words n = record { number = n; words = replicate words None }

-- no two lines have one number
abbrev pub AreDistinct : {W : Type 0} → List (Line W) → Type 0
AreDistinct [] = Unit {0}
AreDistinct (l ∷ ls) = (look_up l.number ls ≡ None) × AreDistinct ls

-- a hit of a read with this mark
abbrev pub hit_of : Mark → Access
hit_of Ordinary = OrdinaryHit
hit_of (Time d) = MarkedHit

-- the set of line n is full
abbrev pub is_full : {W : Type 0} → Geometry → List (Line W) → ℕ → Bool
is_full geometry lines n = not (nat_lt (length (in_set geometry.sets (n % geometry.sets) lines)) geometry.ways)

-- a full set loses its first line
abbrev pub with_room : {W : Type 0} → Geometry → List (Line W) → ℕ → List (Line W)
with_room geometry lines n = if is_full geometry lines n then without_first geometry.sets (n % geometry.sets) lines else lines

-- f at each element and its number, from y on
abbrev pub map_from : {A : Type 0} → (ℕ → A → A) → ℕ → List A → List A
map_from f y [] = []
map_from f y (x ∷ xs) = f y x ∷ map_from f (y + 1) xs

module _ {S W T : Type 0} (scheme : Ghosts S W T) (state : T) (memory : Words) where
  -- the value of a copy that may be used
  abbrev pub served : ℕ → Mark → Option (Copied W) → Option ℤ
  served x mark None = None
  served x mark (Some c) = if scheme.admits_of state (owner_at memory x) mark c.stamp then Some c.value else None

  -- what a read gives: the value of such a copy, or memory's
  abbrev pub read_value : ℕ → List (Line W) → ℕ → Mark → ℤ
  read_value words lines x mark = unwrap_or (served x mark (copy_in words lines x)) (value_at memory x)

  -- the copy of word y after a miss of word x, from the one that was there; a word past the end of memory is not valid
  abbrev pub filled_word : ℕ → ℕ → Option (Copied W) → Option (Copied W)
  filled_word x y held =
      let old = option_map (λ c. c.stamp) held in
      let stamp = if y == x then scheme.target_of state (owner_at memory y) old else scheme.neighbour_of state (owner_at memory y) old in
      if nat_lt y (length memory.cells) then Some (record { value = value_at memory y; stamp = stamp }) else None

  -- the copy of word y past the boundary
  abbrev pub kept_word : List ℕ → ℕ → Option (Copied W) → Option (Copied W)
  kept_word written y held =
      if nat_lt y (length memory.cells) then option_and_then (λ c. option_map (λ w. record { value = c.value; stamp = w }) (scheme.keeps_of state written (owner_at memory y) c.stamp)) held else None

  -- the copies that are no longer valid
  abbrev pub lost_word : List ℕ → ℕ → Option (Copied W) → ℕ
  lost_word written y held = if is_some held && not (is_some (kept_word written y held)) then 1 else 0

  abbrev pub lost_words : List ℕ → ℕ → List (Option (Copied W)) → ℕ
  lost_words written y [] = 0
  lost_words written y (held ∷ rest) = lost_word written y held + lost_words written (y + 1) rest

  -- ---- lines of so many words

  -- a line after a miss of word x
  abbrev pub refilled : (words x : ℕ) → Line W → Line W
  refilled words x l = record { number = l.number; words = map_from (filled_word x) (l.number * words) l.words }

  -- a line past a boundary with this written list
  abbrev pub kept_line : ℕ → List ℕ → Line W → Line W
  kept_line words written l = record { number = l.number; words = map_from (kept_word written) (l.number * words) l.words }

  abbrev pub after_boundary : ℕ → List ℕ → List (Line W) → List (Line W)
  after_boundary words written lines = map (kept_line words written) lines

  abbrev pub lost_in_line : ℕ → List ℕ → Line W → ℕ
  lost_in_line words written l = lost_words written (l.number * words) l.words

  abbrev pub lost_count : ℕ → List ℕ → List (Line W) → ℕ
  lost_count words written lines = sum_by (lost_in_line words written) lines

module _ {S W T : Type 0} (scheme : Ghosts S W T) (geometry : Geometry) (state : T) (memory : Words) where
  -- the line is filled in its place where it is present; else it comes in at the end, from one with no valid word
  abbrev pub after_miss : List (Line W) → ℕ → List (Line W)
  after_miss lines x = by (look_up (x / geometry.words) lines)
    where
      by : Option (Line W) → List (Line W)
      by None = with_room geometry lines (x / geometry.words) ++ refilled scheme state memory geometry.words x (no_words geometry.words (x / geometry.words)) ∷ []
      by (Some l) = replaced (x / geometry.words) (refilled scheme state memory geometry.words x l) lines

  -- a miss drops a line
  abbrev pub drops_line : List (Line W) → ℕ → Bool
  drops_line lines n = scheme.has_caches && (is_none (look_up n lines) && is_full geometry lines n)

  abbrev pub read_access : List (Line W) → ℕ → Mark → Access
  read_access lines x mark =
      if is_some (served scheme state memory x mark (copy_in geometry.words lines x)) then hit_of mark else Miss (drops_line lines (x / geometry.words))

  abbrev pub after_read : List (Line W) → ℕ → Mark → List (Line W)
  after_read lines x mark =
      if is_some (served scheme state memory x mark (copy_in geometry.words lines x)) then lines else (if scheme.has_caches then after_miss lines x else lines)

  -- a write of word x; no line comes in
  abbrev pub after_write : List (Line W) → ℕ → ℤ → List (Line W)
  after_write lines x value = written (x / geometry.words) (x % geometry.words) (record { value = value; stamp = scheme.wrote_of state (owner_at memory x) }) lines
