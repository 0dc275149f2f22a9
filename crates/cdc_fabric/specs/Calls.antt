-- Calls on a memory side, the newest first, and when a list of them is orderly.
use Rattle.std.specs.Prelude.{◌≡◌, ◌≢◌, ◌⊎◌, ℕ, ℤ, pos, ◌+◌, ◌≤◌, List, [], ◌∷◌, if◌then◌else◌, ◌==◌, All, Contains}
use Rattle.cdc_prog.specs.declared.program.Mark.{Mark}
use Rattle.cdc_prog.specs.declared.program.Mark.TheVariants.{Ordinary, Time}

-- an eviction names a line, a boundary its written list of objects
pub data Call : Type 0 where
  Load : (p word : ℕ) (mark : Mark) → Call
  Store : (p word : ℕ) (value : ℤ) → Call
  Evict : (p line : ℕ) → Call
  Boundary : (written : List ℕ) → Call

-- the number of the epoch: the boundaries so far
abbrev pub epoch : List Call → ℕ
epoch [] = 0
epoch (Load p x mark ∷ calls) = epoch calls
epoch (Store p x value ∷ calls) = epoch calls
epoch (Evict p line ∷ calls) = epoch calls
epoch (Boundary written ∷ calls) = epoch calls + 1

-- the written lists of the boundaries so far
abbrev pub lists : List Call → List (List ℕ)
lists [] = []
lists (Load p x mark ∷ calls) = lists calls
lists (Store p x value ∷ calls) = lists calls
lists (Evict p line ∷ calls) = lists calls
lists (Boundary written ∷ calls) = written ∷ lists calls

-- the objects that were stored in this epoch
abbrev pub stored_objects : (ℕ → ℕ) → List Call → List ℕ
stored_objects owner [] = []
stored_objects owner (Load p x mark ∷ calls) = stored_objects owner calls
stored_objects owner (Store p x value ∷ calls) = owner x ∷ stored_objects owner calls
stored_objects owner (Evict p line ∷ calls) = stored_objects owner calls
stored_objects owner (Boundary written ∷ calls) = []

-- the value of the last store of a word, or 0
abbrev pub last_store : ℕ → List Call → ℤ
last_store word [] = pos 0
last_store word (Load p x mark ∷ calls) = last_store word calls
last_store word (Store p x value ∷ calls) = if x == word then value else last_store word calls
last_store word (Evict p line ∷ calls) = last_store word calls
last_store word (Boundary written ∷ calls) = last_store word calls

-- in this epoch the processor loaded or stored the word
abbrev pub Accessed : ℕ → ℕ → List Call → Type 0
Accessed p word [] = ⊥
Accessed p word (Load q x mark ∷ calls) = ((q ≡ p) × (x ≡ word)) ⊎ Accessed p word calls
Accessed p word (Store q x value ∷ calls) = ((q ≡ p) × (x ≡ word)) ⊎ Accessed p word calls
Accessed p word (Evict q line ∷ calls) = Accessed p word calls
Accessed p word (Boundary written ∷ calls) = ⊥

-- in this epoch the processor loaded or stored
abbrev pub Active : ℕ → List Call → Type 0
Active p [] = ⊥
Active p (Load q x mark ∷ calls) = (q ≡ p) ⊎ Active p calls
Active p (Store q x value ∷ calls) = (q ≡ p) ⊎ Active p calls
Active p (Evict q line ∷ calls) = Active p calls
Active p (Boundary written ∷ calls) = ⊥

-- in this epoch another processor stored the word
abbrev pub StoredByOther : ℕ → ℕ → List Call → Type 0
StoredByOther p word [] = ⊥
StoredByOther p word (Load q x mark ∷ calls) = StoredByOther p word calls
StoredByOther p word (Store q x value ∷ calls) = ((q ≢ p) × (x ≡ word)) ⊎ StoredByOther p word calls
StoredByOther p word (Evict q line ∷ calls) = StoredByOther p word calls
StoredByOther p word (Boundary written ∷ calls) = ⊥

-- each store of the word was in an epoch that has P
abbrev pub StoresAll : ℕ → (ℕ → Type 0) → List Call → Type 0
StoresAll word P [] = Unit {0}
StoresAll word P (Load q x mark ∷ calls) = StoresAll word P calls
StoresAll word P (Store q x value ∷ calls) = (x ≡ word → P (epoch calls)) × StoresAll word P calls
StoresAll word P (Evict q line ∷ calls) = StoresAll word P calls
StoresAll word P (Boundary written ∷ calls) = StoresAll word P calls

-- in epoch 0 no other processor has loaded or stored
abbrev pub IsAloneAtFirst : ℕ → List Call → Type 0
IsAloneAtFirst p calls = epoch calls ≡ 0 → (q : ℕ) → Active q calls → q ≡ p

-- what the mark of a load says of the stores so far, those of epoch 0 and of this epoch apart
abbrev pub IsMarked : ℕ → ℕ → Mark → List Call → Type 0
IsMarked p word Ordinary calls = Accessed p word calls ⊎ StoresAll word (λ f. (f ≡ 0) ⊎ (f ≡ epoch calls)) calls
IsMarked p word (Time d) calls = (1 ≤ d) × StoresAll word (λ f. (f ≡ 0) ⊎ ((f ≡ epoch calls) ⊎ (f + d ≤ epoch calls))) calls

-- what the newest call has to keep
abbrev pub IsOrderlyNext : (ℕ → ℕ) → Call → List Call → Type 0
IsOrderlyNext owner (Load p word mark) calls = IsAloneAtFirst p calls × (¬ StoredByOther p word calls) × IsMarked p word mark calls
IsOrderlyNext owner (Store p word value) calls = IsAloneAtFirst p calls × ((q : ℕ) → q ≢ p → ¬ Accessed q word calls)
IsOrderlyNext owner (Evict p line) calls = Unit {0}
IsOrderlyNext owner (Boundary written) calls = All (Contains written) (stored_objects owner calls)

-- `owner` gives the object of a word
abbrev pub IsOrderly : (ℕ → ℕ) → List Call → Type 0
IsOrderly owner [] = Unit {0}
IsOrderly owner (call ∷ calls) = IsOrderly owner calls × IsOrderlyNext owner call calls
