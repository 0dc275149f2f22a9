-- What holds of each valid copy, over orderly calls.
use Rattle.std.specs.Prelude.{ℤ, ◌≡◌, ◌≢◌, ◌⊎◌, ℕ, ◌+◌, ◌≤◌, List, [], ◌∷◌, Option, Some, option_map}
use Rattle.cdc_scheme.specs.declared.scheme.Scheme.{Ghosts}
use Rattle.cdc_cache.specs.declared.line.Copied.{Copied}
use Rattle.cdc_fabric.specs.Calls.{Call, Load, Store, Evict, Boundary, epoch, lists, stored_objects, last_store, Accessed, Active}

-- a processor's valid copy of a word
abbrev pub Copies : Type 0 → Type 0
Copies W = ℕ → ℕ → Option (Copied W)

-- each store of the word by another processor was in an epoch that has P
abbrev pub OtherStores : ℕ → ℕ → (ℕ → Type 0) → List Call → Type 0
OtherStores p word P [] = Unit {0}
OtherStores p word P (Load q x mark ∷ calls) = OtherStores p word P calls
OtherStores p word P (Store q x value ∷ calls) = (q ≢ p → x ≡ word → P (epoch calls)) × OtherStores p word P calls
OtherStores p word P (Evict q line ∷ calls) = OtherStores p word P calls
OtherStores p word P (Boundary written ∷ calls) = OtherStores p word P calls

-- each store by another processor was in epoch 0 or before the copy was made
abbrev pub IsUntouched : ℕ → ℕ → ℕ → List Call → Type 0
IsUntouched p x made calls = OtherStores p x (λ f. (f ≡ 0) ⊎ (f + 1 ≤ made)) calls

pub record IsGood {S W T : Type 0} (scheme : Ghosts S W T) (state : T) (owner : ℕ → ℕ) (memory : ℕ → ℤ) (calls : List Call) (p x : ℕ) (copy : Copied W) : Type 0 where
  -- the epoch in which it was made, counted from 1; 0 is the one before the first
  pub made : ℕ
  pub past : made ≤ epoch calls + 1
  pub dated : scheme.dates state (lists calls) (stored_objects owner calls) (owner x) copy.stamp made
  -- one of this epoch was accessed in it
  pub fresh : made ≡ epoch calls + 1 → Accessed p x calls
  -- in epoch 0 only a processor that was active has copies
  pub first : epoch calls ≡ 0 → Active p calls
  -- it holds memory's value where no other processor stored since, and where its processor accessed it in this epoch
  pub value : IsUntouched p x made calls → copy.value ≡ memory x
  pub own : Accessed p x calls → copy.value ≡ memory x

pub record Stands {S W T : Type 0} (scheme : Ghosts S W T) (owner : ℕ → ℕ) (state : T) (memory : ℕ → ℤ) (copies : Copies W) (calls : List Call) : Type 0 where
  pub known : scheme.knows state (lists calls) (stored_objects owner calls)
  pub holds : (x : ℕ) → memory x ≡ last_store x calls
  pub good : (p x : ℕ) (copy : Copied W) → copies p x ≡ Some copy → IsGood scheme state owner memory calls p x copy

-- ---- what each kind of call may leave, as far as valid copies go: each copy after it is one of these

-- a fill of one line on a miss of a word
pub record IsFill {S W T : Type 0} (scheme : Ghosts S W T) (state : T) (owner : ℕ → ℕ) (memory : ℕ → ℤ) (before : Copies W) (p x y : ℕ) (copy : Copied W) : Type 0 where
  pub value : copy.value ≡ memory y
  pub word : ((y ≡ x) × (copy.stamp ≡ scheme.target_of state (owner y) (option_map (λ c. c.stamp) (before p y))))
      ⊎ ((y ≢ x) × (copy.stamp ≡ scheme.neighbour_of state (owner y) (option_map (λ c. c.stamp) (before p y))))

abbrev pub Fills : {S W T : Type 0} → Ghosts S W T → T → (ℕ → ℕ) → (ℕ → ℤ) → Copies W → Copies W → ℕ → ℕ → Type 0
Fills {S} {W} {T} scheme state owner memory before after p x =
    (q y : ℕ) (copy : Copied W) → after q y ≡ Some copy → ((before q y ≡ Some copy) × ((q ≡ p) × (y ≡ x) → ⊥)) ⊎ ((q ≡ p) × IsFill scheme state owner memory before p x y copy)

-- a write of a word by a processor
abbrev pub Writes : {S W T : Type 0} → Ghosts S W T → T → (ℕ → ℕ) → Copies W → Copies W → ℕ → ℕ → ℤ → Type 0
Writes {S} {W} {T} scheme state owner before after p x value =
    (q y : ℕ) (copy : Copied W) → after q y ≡ Some copy →
    ((before q y ≡ Some copy) × ((q ≡ p) × (y ≡ x) → ⊥)) ⊎ ((q ≡ p) × (y ≡ x) × (copy.value ≡ value) × (copy.stamp ≡ scheme.wrote_of state (owner x)))

-- evictions
abbrev pub Drops : {W : Type 0} → Copies W → Copies W → Type 0
Drops {W} before after = (q y : ℕ) (copy : Copied W) → after q y ≡ Some copy → before q y ≡ Some copy

-- a boundary
abbrev pub Keeps : {S W T : Type 0} → Ghosts S W T → T → (ℕ → ℕ) → Copies W → Copies W → List ℕ → Type 0
Keeps {S} {W} {T} scheme state owner before after written =
    (q y : ℕ) (copy : Copied W) → after q y ≡ Some copy → (old : Copied W) × (before q y ≡ Some old) × (copy.value ≡ old.value) × (scheme.keeps_of state written (owner y) old.stamp ≡ Some copy.stamp)
