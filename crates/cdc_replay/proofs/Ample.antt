-- A run with an ample bound ends.
use Rattle.std.proofs.Common.{◌≡◌, ℕ, zero, suc, ◌+◌, ◌*◌, ◌<◌, ◌≤◌, List, [], ◌∷◌, ◌++◌, length, refl, sym, subst, arith, Bool, true, false, if◌then◌else◌}
use Rattle.std.specs.Prelude.{Option, Some, None, is_some, cond, nat_lt, codes, drop}
use Rattle.std.specs.Option.{option_map, option_and_then}
use Rattle.std.specs.Str.{bytes_eq}
use Rattle.std.specs.Str.Lines.{lines}
use Rattle.std.proofs.lemmas.Bool.{ltb-true}
use Rattle.std.proofs.lemmas.List.Elements.{All-nil, All-cons, All-head, All-tail, All-append, All-replicate}
use Rattle.cdc_prog.specs.Input.{Input}
use Rattle.cdc_prog.specs.Meaning.{full_cost}
use Rattle.cdc_code.specs.declared.code.Code.{Code}
use Rattle.cdc_code.specs.Frames.{Frame}
use Rattle.cdc_code.specs.Sound.{IsSound}
use Rattle.cdc_sched.specs.declared.event.Event.{Event}
use Rattle.cdc_sched.specs.declared.event.Repeated.{Repeated}
use Rattle.cdc_sched.specs.declared.header.TailKind.TheVariants.{RoundRobin}
use Rattle.cdc_sched.specs.Lines.{below, number_of, is_skipped, read_words}
use Rattle.cdc_sched.specs.Events.{processor, processor_in, processor_of, one, many, is_count, with_number, event_of, repeated, said, joined, listed}
use Rattle.cdc_sched.specs.Tail.{tail_event}
use Rattle.cdc_sched.specs.Told.{Told}
use Rattle.cdc_machine.specs.Machine.{PhaseOf, Serial, Doall, Over}
use Rattle.cdc_machine.specs.Code.{ended_with, tail_events}
use Rattle.cdc_machine.specs.Laws.{AreOf, IsOver}
use Rattle.cdc_machine.proofs.OnCode.{every_run_ends}
use Rattle.cdc_replay.specs.Applied.{with_tail, with_listed, behind_listed, has_ended, applied_events}
use Rattle.cdc_replay.specs.Ample.{IsAmple, EveryAmpleRunEnds}

-- ---- so many turns behind events of processors that are there end it
module _ (ended : List Event → Bool) (procs lines enough : ℕ) (ends : (base : List Event) → AreOf procs base → (n : ℕ) → enough ≤ n → ended (tail_events RoundRobin procs lines n ++ base) ≡ true) where
  abbrev turns : ℕ → Option Event
  turns = tail_event RoundRobin procs lines

  tail_ends : (base : List Event) → AreOf procs base → (left k : ℕ) → enough ≤ k + left → ended (with_tail ended turns left k (tail_events RoundRobin procs lines k ++ base)) ≡ true
  tail_ends base there zero k room = ends base there k (omega (arith, room))
  tail_ends base there (suc left) k room = by_end (tail_ends base there left (suc k) (omega (arith, room))) (ended (tail_events RoundRobin procs lines k ++ base)) refl
    where
      applied : List Event
      applied = tail_events RoundRobin procs lines k ++ base

      later : List Event
      later = with_tail ended turns left (suc k) (tail_events RoundRobin procs lines (suc k) ++ base)

      by_end : ended later ≡ true → (b : Bool) → ended applied ≡ b → ended (if b then applied else later) ≡ true
      by_end on true is = is
      by_end on false is = on

  pub listed_ends : (listed : List Event) → AreOf procs listed → (left : ℕ) (applied : List Event) → AreOf procs applied → length listed + enough ≤ left → ended (with_listed ended listed (behind_listed ended None turns) left applied) ≡ true
  listed_ends [] all left applied there room = tail_ends applied there left 0 (omega (arith, room))
  listed_ends (e ∷ listed) all zero applied there room = absurd (omega (arith, room))
  listed_ends (e ∷ listed) all (suc left) applied there room =
      by_end (listed_ends listed (All-tail (λ e. processor e < procs) e listed all) left (e ∷ applied) (All-cons (λ e. processor e < procs) e applied (All-head (λ e. processor e < procs) e listed all) there) (omega (arith, room))) (ended applied) refl
    where
      later : List Event
      later = with_listed ended listed (behind_listed ended None turns) left (e ∷ applied)

      by_end : ended later ≡ true → (b : Bool) → ended applied ≡ b → ended (if b then applied else later) ≡ true
      by_end on true is = is
      by_end on false is = on

over_some : (phase : PhaseOf Frame) → IsOver phase → is_some (ended_with phase) ≡ true
over_some Serial h = absurd h
over_some (Doall number next) h = absurd h
over_some (Over end) h = refl

some_over : (phase : PhaseOf Frame) → is_some (ended_with phase) ≡ true → IsOver phase
some_over Serial is = absurd (cc is)
some_over (Doall number next) is = absurd (cc is)
some_over (Over end) is = tt

ample_ends : (code : Code) (sound : IsSound code) (records : Input) (told : Told) (procs lines bound : ℕ) → IsAmple code sound records told procs bound → has_ended code records (applied_events code records told (tail_event RoundRobin procs lines) bound) ≡ true
ample_ends code sound records told procs lines bound h =
    let ended = has_ended code records in
    let enough = procs * (8 * full_cost sound.program records + 8) in
    let turned = λ (base : List Event) (there : AreOf procs base) (n : ℕ) (le : enough ≤ n). over_some _ (every_run_ends.ends code sound records procs lines n base h.some there le) in
    let all = listed_ends ended procs lines enough turned told.events h.there bound [] (All-nil (λ e. processor e < procs)) h.room in
    subst (λ (bad : Option ℕ). ended (with_listed ended told.events (behind_listed ended bad (tail_event RoundRobin procs lines)) bound []) ≡ true) (sym h.fits) all

-- ---- what a line says is of a processor that is there
module _ (procs : ℕ) where
  abbrev IsBelow : Option ℕ → Type 0
  IsBelow None = Unit {0}
  IsBelow (Some p) = p < procs

  abbrev IsThere : Option Repeated → Type 0
  IsThere None = Unit {0}
  IsThere (Some r) = processor_in r < procs

  abbrev AreThere : Option (List Event) → Type 0
  AreThere None = Unit {0}
  AreThere (Some events) = AreOf procs events

  by_cond : {A : Type 0} (P : A → Type 0) (b : Bool) (x y : A) → P x → P y → P (cond b x y)
  by_cond P true x y p q = p
  by_cond P false x y p q = q

  processor_below : (word : List ℕ) → IsBelow (processor_of procs word)
  processor_below word = go (number_of word)
    where
      by_test : (n : ℕ) (b : Bool) → nat_lt n procs ≡ b → IsBelow (cond b (Some n) None)
      by_test n true is = ltb-true n procs is
      by_test n false is = tt

      go : (o : Option ℕ) → IsBelow (option_and_then (below procs) o)
      go None = tt
      go (Some n) = by_test n (nat_lt n procs) refl

  with_processor : (f : ℕ → Option Repeated) → ((p : ℕ) → p < procs → IsThere (f p)) → (o : Option ℕ) → IsBelow o → IsThere (option_and_then f o)
  with_processor f each None h = tt
  with_processor f each (Some p) h = each p h

  with_any : (f : ℕ → Option Repeated) → ((n : ℕ) → IsThere (f n)) → (o : Option ℕ) → IsThere (option_and_then f o)
  with_any f each None = tt
  with_any f each (Some n) = each n

  one_there : (word : List ℕ) (p n : ℕ) → p < procs → IsThere (one word p n)
  one_there word p n lt = by_cond IsThere (bytes_eq word (codes "take")) _ _ lt (by_cond IsThere (bytes_eq word (codes "evict")) _ _ lt tt)

  many_there : (word : List ℕ) (p n : ℕ) → p < procs → IsThere (many word p n)
  many_there word p n lt = by_cond IsThere (bytes_eq word (codes "step")) _ _ lt (by_cond IsThere (bytes_eq word (codes "next")) _ _ lt tt)

  number_there : (word : List ℕ) (p n : ℕ) → p < procs → IsThere (with_number word p n)
  number_there word p n lt =
      by_cond IsThere (is_some (one word p n)) (one word p n) (cond (is_count n) (many word p n) None) (one_there word p n lt)
      (by_cond IsThere (is_count n) (many word p n) None (many_there word p n lt) tt)

  event_there : (words : List (List ℕ)) → IsThere (event_of procs words)
  event_there [] = tt
  event_there (word ∷ []) = tt
  event_there (word ∷ p ∷ []) = with_processor (λ k. many word k 1) (λ k lt. many_there word k 1 lt) (processor_of procs p) (processor_below p)
  event_there (word ∷ p ∷ n ∷ []) =
      with_processor (λ k. option_and_then (with_number word k) (number_of n)) (λ k lt. with_any (with_number word k) (λ m. number_there word k m lt) (number_of n)) (processor_of procs p) (processor_below p)
  event_there (word ∷ p ∷ n ∷ more ∷ words) = tt

  repeated_there : (o : Option Repeated) → IsThere o → AreThere (option_map repeated o)
  repeated_there None h = tt
  repeated_there (Some r) h = All-replicate (λ e. processor e < procs) r.count r.event h

  said_there : (line : List ℕ) → AreThere (said procs line)
  said_there line =
      by_cond AreThere (is_skipped line) (Some []) (option_map repeated (event_of procs (read_words line))) (All-nil (λ e. processor e < procs))
      (repeated_there (event_of procs (read_words line)) (event_there (read_words line)))

  joined_there : (o : Option (List Event)) (after : List Event) → AreThere o → AreOf procs after → AreOf procs (joined o after)
  joined_there None after h later = All-nil (λ e. processor e < procs)
  joined_there (Some events) after h later = All-append (λ e. processor e < procs) events after h later

  pub listed_there : (lines : List (List ℕ)) → AreOf procs (listed procs lines)
  listed_there [] = All-nil (λ e. processor e < procs)
  listed_there (line ∷ lines) = joined_there (said procs line) (listed procs lines) (said_there line) (listed_there lines)

pub every_ample_run_ends : EveryAmpleRunEnds
every_ample_run_ends = record {
  over = λ code sound records told procs lines bound h. some_over _ (ample_ends code sound records told procs lines bound h);
  ended = ample_ends;
  listed = λ bytes at procs. listed_there procs (lines (drop at bytes));
}
