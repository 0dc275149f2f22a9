-- What the lines after the header say.
use Rattle.std.specs.Prelude.{ℕ, ◌+◌, ◌<◌, ◌≤◌, Bool, cond, ◌&&◌, nat_le, List, [], ◌∷◌, ◌++◌, codes, replicate, Option, Some, None, is_some, option_map}
use Rattle.std.specs.Option.{option_and_then}
use Rattle.std.specs.Str.{bytes_eq}
use Rattle.cdc_sched.specs.declared.event.Event.{Event}
use Rattle.cdc_sched.specs.declared.event.Event.TheVariants.{Take, Step, Next, Evict}
use Rattle.cdc_sched.specs.declared.event.Repeated.{Repeated}
use Rattle.cdc_sched.specs.Lines.{is_skipped, read_words, below, number_of}

-- the number of a processor
abbrev pub processor_of : ℕ → List ℕ → Option ℕ
processor_of procs word = option_and_then (below procs) (number_of word)

-- `take p i` and `evict p n`
abbrev pub one : List ℕ → ℕ → ℕ → Option Repeated
one word p n =
    cond (bytes_eq word (codes "take")) (Some (record { event = Take p n; count = 1 }))
    (cond (bytes_eq word (codes "evict")) (Some (record { event = Evict p n; count = 1 })) None)

-- `step p` and `next p`, so many times
abbrev pub many : List ℕ → ℕ → ℕ → Option Repeated
many word p n =
    cond (bytes_eq word (codes "step")) (Some (record { event = Step p; count = n }))
    (cond (bytes_eq word (codes "next")) (Some (record { event = Next p; count = n })) None)

-- a count of an event line
abbrev pub is_count : ℕ → Bool
is_count n = nat_le 1 n && nat_le n 1000000

-- the forms with two numbers
abbrev pub with_number : List ℕ → ℕ → ℕ → Option Repeated
with_number word p n = cond (is_some (one word p n)) (one word p n) (cond (is_count n) (many word p n) None)

-- The forms of an event line: `take p i`, `step p`, `step p n`, `next p`, `next p n` and `evict p n`.
abbrev pub event_of : ℕ → List (List ℕ) → Option Repeated
event_of procs [] = None
event_of procs (word ∷ []) = None
event_of procs (word ∷ p ∷ []) = option_and_then (λ k. many word k 1) (processor_of procs p)
event_of procs (word ∷ p ∷ n ∷ []) = option_and_then (λ k. option_and_then (with_number word k) (number_of n)) (processor_of procs p)
event_of procs (word ∷ p ∷ n ∷ more ∷ words) = None

abbrev pub repeated : Repeated → List Event
repeated r = replicate r.count r.event

-- the events that a line gives, where it fits
abbrev pub said : ℕ → List ℕ → Option (List Event)
said procs line = cond (is_skipped line) (Some []) (option_map repeated (event_of procs (read_words line)))

-- the events of a line, and those after it where it fits
abbrev pub joined : Option (List Event) → List Event → List Event
joined None after = []
joined (Some events) after = events ++ after

-- the listed events: those of each line in order, up to the first line that fits no form
abbrev pub listed : ℕ → List (List ℕ) → List Event
listed procs [] = []
listed procs (line ∷ lines) = joined (said procs line) (listed procs lines)

-- the number of the first line that fits no form, where so many lines stand above
abbrev pub bad_line : ℕ → ℕ → List (List ℕ) → Option ℕ
bad_line procs above [] = None
bad_line procs above (line ∷ lines) = cond (is_some (said procs line)) (bad_line procs (above + 1) lines) (Some (above + 1))

-- the processor of an event
abbrev pub processor : Event → ℕ
processor (Take p i) = p
processor (Step p) = p
processor (Next p) = p
processor (Evict p n) = p

abbrev pub processor_in : Repeated → ℕ
processor_in r = processor r.event

-- at least one event, of a processor that is there
pub record IsWithin (procs : ℕ) (r : Repeated) : Type 0 where
  pub some : 1 ≤ r.count
  pub below : processor_in r < procs
