-- What memory and the processors' lists of lines have to do with the calls that were made, and that each call keeps it.
use Rattle.std.proofs.Common.{◌≡◌, ℕ, ◌<◌, List, ◌∷◌, length, get_or, set, refl, sym, ◌∙◌, ap, subst, inl, inr, ⊎_elim, get_or-set_same, get_or-set_other}
use Rattle.std.specs.Prelude.{ℤ, pos, Option, Some, None, Bool, true, false, IsTrue, unwrap_or, if◌then◌else◌}
use Rattle.std.proofs.lemmas.Bool.{cases_eq, cases_Bool}
use Rattle.cdc_prog.specs.declared.program.Mark.{Mark}
use Rattle.cdc_scheme.specs.declared.scheme.Scheme.{Ghosts}
use Rattle.cdc_fabric.specs.Calls.{Call, Load, Store, Evict, Boundary, last_store, IsOrderly}
use Rattle.cdc_cache.specs.declared.line.Copied.{Copied}
use Rattle.cdc_cache.specs.declared.line.Line.{Line}
use Rattle.cdc_cache.specs.declared.line.Words.{Words}
use Rattle.cdc_cache.specs.Carry.{SchemeLaws, hit_value, hit_carries, miss_carries, store_carries, evict_carries, boundary_carries}
use Rattle.cdc_cache.specs.Good.{Copies, Stands, Fills, Writes, Drops, Keeps}
use Rattle.cdc_cache.specs.Finds.{if_yes, if_no}
use Rattle.cdc_cache.specs.Lines.{value_at, owner_at, copy_in, served}

-- the valid copies of all processors
abbrev pub copies_of : {W : Type 0} → ℕ → (ℕ → List (Line W)) → Copies W
copies_of words lists q x = copy_in words (lists q) x

-- each valid copy has memory's value
abbrev pub AreFresh : {W : Type 0} → ℕ → Words → Copies W → Type 0
AreFresh {W} procs memory copies = (q x : ℕ) (copy : Copied W) → q < procs → copies q x ≡ Some copy → copy.value ≡ value_at memory x

-- Memory has the values of the last stores. Where nothing else is asked of the calls, each copy has memory's value; else
-- each copy is as good as the calls let it be.
pub record Serves {S W T : Type 0} (scheme : Ghosts S W T) (plain : Bool) (procs : ℕ) (state : T) (memory : Words) (copies : Copies W) (calls : List Call) : Type 0 where
  pub holds : (x : ℕ) → value_at memory x ≡ last_store x calls
  pub fresh : plain ≡ true → AreFresh procs memory copies
  pub good : plain ≡ false → Stands scheme (owner_at memory) state (value_at memory) copies calls

-- what a list of calls has to be
abbrev pub AreServed : Bool → Words → List Call → Type 0
AreServed plain memory calls = plain ≡ false → IsOrderly (owner_at memory) calls

module _ {S W T : Type 0} (scheme : Ghosts S W T) (laws : SchemeLaws scheme) (plain : Bool) (procs : ℕ) (state : T) (memory : Words) (copies : Copies W) (calls : List Call) (serves : Serves scheme plain procs state memory copies calls) where
  -- a hit gives memory's value
  pub hit_is_memory : (p x : ℕ) (mark : Mark) (copy : Copied W) → p < procs → AreServed plain memory (Load p x mark ∷ calls) → copies p x ≡ Some copy → IsTrue (scheme.admits_of state (owner_at memory x) mark copy.stamp) → copy.value ≡ value_at memory x
  hit_is_memory p x mark copy proc ordered there admitted = elim (cases_Bool plain) [
    | inl free ↦ serves.fresh free p x copy proc there
    | inr strict ↦ hit_value scheme laws (owner_at memory) state (value_at memory) copies calls p x mark copy (serves.good strict) (ordered strict) there admitted
  ]

  -- a load gives the value of the last store
  pub load_is_right : (p x : ℕ) (mark : Mark) → p < procs → AreServed plain memory (Load p x mark ∷ calls) → unwrap_or (served scheme state memory x mark (copies p x)) (value_at memory x) ≡ last_store x calls
  load_is_right p x mark proc ordered = go (copies p x) refl
    where
      go : (o : Option (Copied W)) → copies p x ≡ o → unwrap_or (served scheme state memory x mark o) (value_at memory x) ≡ last_store x calls
      go None at = serves.holds x
      go (Some copy) at = by (scheme.admits_of state (owner_at memory x) mark copy.stamp) refl
        where
          by : (b : Bool) → scheme.admits_of state (owner_at memory x) mark copy.stamp ≡ b → unwrap_or (if b then Some copy.value else None) (value_at memory x) ≡ last_store x calls
          by true admitted = hit_is_memory p x mark copy proc ordered at admitted ∙ serves.holds x
          by false refused = serves.holds x

  -- a hit leaves all as it is
  pub hit_serves : (p x : ℕ) (mark : Mark) (copy : Copied W) → AreServed plain memory (Load p x mark ∷ calls) → copies p x ≡ Some copy → IsTrue (scheme.admits_of state (owner_at memory x) mark copy.stamp) → Serves scheme plain procs state memory copies (Load p x mark ∷ calls)
  hit_serves p x mark copy ordered there admitted = record {
    holds = serves.holds;
    fresh = serves.fresh;
    good = λ no. hit_carries scheme laws (owner_at memory) state (value_at memory) copies calls p x mark copy (serves.good no) (ordered no) there admitted;
  }

  pub miss_serves : (p x : ℕ) (mark : Mark) (after : Copies W) → p < procs → AreServed plain memory (Load p x mark ∷ calls) → Fills scheme state (owner_at memory) (value_at memory) copies after p x → Serves scheme plain procs state memory after (Load p x mark ∷ calls)
  miss_serves p x mark after proc ordered filled = record {
    holds = serves.holds;
    fresh = λ yes q y copy known at. ⊎_elim (λ stays. serves.fresh yes q y copy known stays.0) (λ new. new.1.value) (filled q y copy at);
    good = λ no. miss_carries scheme laws (owner_at memory) state (value_at memory) copies after calls p x mark (serves.good no) (ordered no) filled;
  }

  -- a store; where nothing is asked of the calls, no other processor has copies
  pub store_serves : (p x : ℕ) (value : ℤ) (now : Words) (after : Copies W) → p < procs → x < length memory.cells → now.cells ≡ set memory.cells x value → now.owner ≡ memory.owner
      → (plain ≡ true → (q y : ℕ) (copy : Copied W) → q < procs → copies q y ≡ Some copy → q ≡ p) → AreServed plain memory (Store p x value ∷ calls)
      → Writes scheme state (owner_at memory) copies after p x value → Serves scheme plain procs state now after (Store p x value ∷ calls)
  store_serves p x value now after proc within cells owner alone ordered wrote =
      let here : value_at now x ≡ value = ap (λ l. get_or l x (pos 0)) cells ∙ get_or-set_same memory.cells x value (pos 0) within in
      let others : (y : ℕ) → (y ≡ x → ⊥) → value_at now y ≡ value_at memory y = λ y apart. ap (λ l. get_or l y (pos 0)) cells ∙ get_or-set_other memory.cells x y value (pos 0) apart in
      record {
        holds = λ y. elim (cases_eq y x) [
          | inl same ↦ ap (value_at now) same ∙ here ∙ sym (if_yes x y value (last_store y calls) (sym same))
          | inr apart ↦ others y apart ∙ serves.holds y ∙ sym (if_no x y value (last_store y calls) (λ e. apart (sym e)))
        ];
        fresh = λ yes q y copy known at. ⊎_elim
            (λ stays. elim (cases_eq y x) [
              | inl same ↦ absurd (stays.1 (alone yes q y copy known stays.0, same))
              | inr apart ↦ serves.fresh yes q y copy known stays.0 ∙ sym (others y apart)
            ])
            (λ new. new.2 ∙ sym here ∙ ap (value_at now) (sym new.1))
            (wrote q y copy at);
        good = λ no. subst (λ o. Stands scheme (λ y. get_or o y 0) state (value_at now) after (Store p x value ∷ calls)) (sym owner)
            (store_carries scheme laws (owner_at memory) state (value_at memory) (value_at now) copies after calls p x value (serves.good no) (ordered no) here others wrote);
      }

  pub evict_serves : (p line : ℕ) (after : Copies W) → Drops copies after → Serves scheme plain procs state memory after (Evict p line ∷ calls)
  evict_serves p line after dropped = record {
    holds = serves.holds;
    fresh = λ yes q y copy known at. serves.fresh yes q y copy known (dropped q y copy at);
    good = λ no. evict_carries scheme laws (owner_at memory) state (value_at memory) copies after calls p line (serves.good no) dropped;
  }

  pub boundary_serves : (written : List ℕ) (next : T) (after : Copies W) → AreServed plain memory (Boundary written ∷ calls) → scheme.closes state written next → Keeps scheme state (owner_at memory) copies after written → Serves scheme plain procs next memory after (Boundary written ∷ calls)
  boundary_serves written next after ordered closes kept = record {
    holds = serves.holds;
    fresh = λ yes q y copy known at. let old = kept q y copy at in old.2 ∙ serves.fresh yes q y old.0 known old.1;
    good = λ no. boundary_carries scheme laws (owner_at memory) state next (value_at memory) copies after calls written (serves.good no) (ordered no) closes kept;
  }
