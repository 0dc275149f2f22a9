-- Lines that are gathered one after another: those of the first elements of a list were, and those of the rest follow.
use Rattle.std.proofs.Common.{◌≡◌, ℕ, List, [], ◌∷◌, ◌++◌, refl, sym, ◌∙◌, ap, append_assoc, append-nil, subst}
use Rattle.std.specs.Prelude.{Option, Result, Ok, Err, IsErr, flat_map}
use Rattle.std.proofs.lemmas.Grind.{flat_map-append}
use Rattle.cdc_base.specs.Causes.{Rose}
use Rattle.cdc_base.specs.Gathered.{HandsOn}
use Rattle.cdc_text.specs.Pieces.{GrewByFront, Gathers}
use Rattle.cdc_text.proofs.Pieces.{front_first, grown_nothing}
use Rattle.cdc_text.proofs.Gathers.{hands_on, hands_part, gathered_part}

module _ {X : Type 0} (line : X → List ℕ) where
  abbrev pub lines : List X → List ℕ
  lines xs = flat_map line xs

  -- of the lines of a whole list some were gathered, and those of the rest are wanted
  pub record Reached (whole : List X) (old now : Option (List ℕ)) (waited waits : List ℕ) (before faults : ℕ) (rest : List X) : Type 0 where
    pub done : List ℕ
    pub so_far : HandsOn old now (waited ++ done) waits
    pub all : done ++ lines rest ≡ lines whole
    pub quiet : faults ≡ before

  pub start : {whole : List X} (rest : List X) (old : Option (List ℕ)) (waited : List ℕ) (before : ℕ) → whole ≡ rest → Reached whole old old waited waited before before rest
  start rest old waited before same = record {
    done = [];
    so_far = record { front = []; took = grown_nothing old; split = sym (append-nil waited) };
    all = ap lines (sym same);
    quiet = refl;
  }

  -- the rest in other words
  pub along : {whole a b : List X} {old now : Option (List ℕ)} {waited waits : List ℕ} {before faults : ℕ} → a ≡ b → Reached whole old now waited waits before faults a → Reached whole old now waited waits before faults b
  along {whole = whole} {old = old} {now = now} {waited = waited} {waits = waits} {before = before} {faults = faults} same r = subst (Reached whole old now waited waits before faults) same r

  pub onward : (a b : List X) {whole : List X} {old mid new : Option (List ℕ)} {waited held waits : List ℕ} {before between now : ℕ}
      → Reached whole old mid waited held before between (a ++ b) → HandsOn mid new (held ++ lines a) waits × (now ≡ between) → Reached whole old new waited waits before now b
  onward a b {old = old} {new = new} {waited = waited} {waits = waits} r h = record {
    done = r.done ++ lines a;
    so_far = subst (λ (bytes : List ℕ). HandsOn old new bytes waits) (append_assoc waited r.done (lines a)) (hands_on (lines a) r.so_far h.0);
    all = append_assoc r.done (lines a) (lines b) ∙ ap (λ (bytes : List ℕ). r.done ++ bytes) (sym (flat_map-append line a b)) ∙ r.all;
    quiet = h.1 ∙ r.quiet;
  }

  -- the sink failed in the next lines
  pub failed : {T E : Type 0} (a b : List X) {whole : List X} (result : Result T E) {old mid new : Option (List ℕ)} {waited held waits : List ℕ} {before between now : ℕ}
      → Reached whole old mid waited held before between (a ++ b) → IsErr result → GrewByFront mid new (held ++ lines a) × Rose between now → Gathers (lines whole) result old new waited waits before now
  failed a b {whole = whole} result {old = old} {new = new} {waited = waited} {now = now} r is part =
      let all : (r.done ++ lines a) ++ lines b ≡ lines whole = append_assoc r.done (lines a) (lines b) ∙ ap (λ (bytes : List ℕ). r.done ++ bytes) (sym (flat_map-append line a b)) ∙ r.all in
      let bytes : ((waited ++ r.done) ++ lines a) ++ lines b ≡ waited ++ lines whole =
      ap (λ (xs : List ℕ). xs ++ lines b) (append_assoc waited r.done (lines a)) ∙ append_assoc waited (r.done ++ lines a) (lines b) ∙ ap (λ (xs : List ℕ). waited ++ xs) all in
      gathered_part (lines whole) result old new waited _ _ now is (subst (GrewByFront old new) bytes (front_first (lines b) (hands_part (lines a) r.so_far part.0))) (subst (λ k. Rose k now) r.quiet part.1)

  -- the last lines decide
  pub finished : {T E : Type 0} (rest : List X) {whole : List X} (result : Result T E) {old mid new : Option (List ℕ)} {waited held waits : List ℕ} {before between now : ℕ}
      → Reached whole old mid waited held before between rest → Gathers (lines rest) result mid new held waits between now → Gathers (lines whole) result old new waited waits before now
  finished rest {whole = whole} (Ok x) {old = old} {new = new} {waited = waited} {waits = waits} r g = record {
    whole = (subst (λ (bytes : List ℕ). HandsOn old new bytes waits) (append_assoc waited r.done (lines rest) ∙ ap (λ (xs : List ℕ). waited ++ xs) r.all) (hands_on (lines rest) r.so_far g.whole.0), g.whole.1 ∙ r.quiet);
    part = tt;
  }
  finished rest {whole = whole} (Err e) {old = old} {new = new} {waited = waited} {now = now} r g = record {
    whole = tt;
    part = (subst (GrewByFront old new) (append_assoc waited r.done (lines rest) ∙ ap (λ (xs : List ℕ). waited ++ xs) r.all) (hands_part (lines rest) r.so_far g.part.0), subst (λ k. Rose k now) r.quiet g.part.1);
  }

  -- nothing is left
  pub over : {T E : Type 0} {whole : List X} (x : T) {old new : Option (List ℕ)} {waited waits : List ℕ} {before now : ℕ}
      → Reached whole old new waited waits before now [] → Gathers {T = T} {E = E} (lines whole) (Ok x) old new waited waits before now
  over {whole = whole} x {old = old} {new = new} {waited = waited} {waits = waits} r = record {
    whole = (subst (λ (bytes : List ℕ). HandsOn old new (waited ++ bytes) waits) (sym (append-nil r.done) ∙ r.all) r.so_far, r.quiet);
    part = tt;
  }

  -- one element
  pub onward_one : (x : X) (b : List X) {whole : List X} {old mid new : Option (List ℕ)} {waited held waits : List ℕ} {before between now : ℕ}
      → Reached whole old mid waited held before between (x ∷ b) → HandsOn mid new (held ++ line x) waits × (now ≡ between) → Reached whole old new waited waits before now b
  onward_one x b {mid = mid} {new = new} {held = held} {waits = waits} r h =
      onward (x ∷ []) b r (subst (λ (bytes : List ℕ). HandsOn mid new (held ++ bytes) waits) (sym (append-nil (line x))) h.0, h.1)

  pub failed_one : {T E : Type 0} (x : X) (b : List X) {whole : List X} (result : Result T E) {old mid new : Option (List ℕ)} {waited held waits : List ℕ} {before between now : ℕ}
      → Reached whole old mid waited held before between (x ∷ b) → IsErr result → GrewByFront mid new (held ++ line x) × Rose between now → Gathers (lines whole) result old new waited waits before now
  failed_one x b result {mid = mid} {new = new} {held = held} r is part =
      failed (x ∷ []) b result r is (subst (λ (bytes : List ℕ). GrewByFront mid new (held ++ bytes)) (sym (append-nil (line x))) part.0, part.1)

  pub one : {T E : Type 0} (x : X) (result : Result T E) {old new : Option (List ℕ)} {waited waits : List ℕ} {before now : ℕ} → Gathers (line x) result old new waited waits before now → Gathers (lines (x ∷ [])) result old new waited waits before now
  one x result {old = old} {new = new} {waited = waited} {waits = waits} {before = before} {now = now} g = subst (λ (bytes : List ℕ). Gathers bytes result old new waited waits before now) (sym (append-nil (line x))) g

  -- the lines of the whole list in other words
  pub over_as : {T E : Type 0} {whole : List X} {bytes : List ℕ} → lines whole ≡ bytes → (x : T) {old new : Option (List ℕ)} {waited waits : List ℕ} {before now : ℕ}
      → Reached whole old new waited waits before now [] → Gathers {T = T} {E = E} bytes (Ok x) old new waited waits before now
  over_as {T = T} {E = E} same x {old = old} {new = new} {waited = waited} {waits = waits} {before = before} {now = now} r =
      subst (λ (text : List ℕ). Gathers {T = T} {E = E} text (Ok x) old new waited waits before now) same (over x r)

  pub failed_one_as : {T E : Type 0} {whole : List X} {bytes : List ℕ} → lines whole ≡ bytes → (x : X) (b : List X) (result : Result T E) {old mid new : Option (List ℕ)} {waited held waits : List ℕ} {before between now : ℕ}
      → Reached whole old mid waited held before between (x ∷ b) → IsErr result → GrewByFront mid new (held ++ line x) × Rose between now → Gathers bytes result old new waited waits before now
  failed_one_as same x b result {old = old} {new = new} {waited = waited} {waits = waits} {before = before} {now = now} r is part =
      subst (λ (text : List ℕ). Gathers text result old new waited waits before now) same (failed_one x b result r is part)
