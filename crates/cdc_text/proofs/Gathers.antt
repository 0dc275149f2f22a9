-- Texts that are gathered one after another.
use Rattle.std.proofs.Common.{◌≡◌, ℕ, List, [], ◌∷◌, ◌++◌, ◌+◌, length, take, drop, refl, sym, ◌∙◌, ap, append_assoc, append-nil, ◌<◌, suc, get_or, subst}
use Rattle.std.specs.Prelude.{Option, Result, Ok, Err, OnOk, OnErr, IsErr}
use Rattle.std.proofs.lemmas.Grind.{flat_map-append}
use Rattle.std.proofs.lemmas.List.{take_more}
use Rattle.cdc_base.proofs.Grown.{grown-grown}
use Rattle.cdc_base.specs.Causes.{Rose, HasCause}
use Rattle.cdc_base.specs.Gathered.{HandsOn}
use Rattle.cdc_base.specs.Outside.{grown, GrewInPart}
use Rattle.cdc_text.specs.Pieces.{GrewByFront, Gathers, Wrote, text_bytes, texts_bytes}
use Rattle.cdc_text.specs.declared.text.Text.{Text}
use Rattle.cdc_text.proofs.Pieces.{front_of_part, front_first, front_second, texts_split}

-- a piece was put
pub gathered_piece : {T E : Type 0} (text : List ℕ) (result : Result T E) (old new : Option (List ℕ)) (waited waits : List ℕ) (before now : ℕ)
    → OnOk result (HandsOn old new (waited ++ text) waits) → OnErr result (GrewInPart old new (waited ++ text)) → HasCause before now result → Gathers text result old new waited waits before now
gathered_piece text (Ok x) old new waited waits before now whole part cause = record { whole = (whole, cause.kept); part = tt }
gathered_piece text (Err e) old new waited waits before now whole part cause = record { whole = tt; part = (front_of_part part, cause.failed) }

-- what waits goes on
pub hands_on : {old mid new : Option (List ℕ)} {bytes waited waits : List ℕ} (more : List ℕ) → HandsOn old mid bytes waited → HandsOn mid new (waited ++ more) waits → HandsOn old new (bytes ++ more) waits
hands_on {old = old} {bytes = bytes} {waited = waited} {waits = waits} more first second = record {
  front = first.front ++ second.front;
  took = second.took ∙ ap (λ o. grown o second.front) first.took ∙ grown-grown old first.front second.front;
  split =
      append_assoc first.front second.front waits ∙ ap (λ (xs : List ℕ). first.front ++ xs) second.split ∙ sym (append_assoc first.front waited more)
      ∙ ap (λ (xs : List ℕ). xs ++ more) first.split;
}

-- or the sink fails then
pub hands_part : {old mid new : Option (List ℕ)} {bytes waited : List ℕ} (more : List ℕ) → HandsOn old mid bytes waited → GrewByFront mid new (waited ++ more) → GrewByFront old new (bytes ++ more)
hands_part {old = old} {new = new} {bytes = bytes} {waited = waited} more first part =
    subst (GrewByFront old new) (sym (append_assoc first.front waited more) ∙ ap (λ (xs : List ℕ). xs ++ more) first.split) (front_second first.front first.took part)

-- one text more
pub gathers_more : (texts : List Text) (i : ℕ) (d : Text) {old mid new : Option (List ℕ)} (waited : List ℕ) {held waits : List ℕ} → i < length texts
    → HandsOn old mid (waited ++ texts_bytes (take i texts)) held → HandsOn mid new (held ++ text_bytes (get_or texts i d)) waits → HandsOn old new (waited ++ texts_bytes (take (i + 1) texts)) waits
gathers_more texts i d {old = old} {new = new} waited {waits = waits} within first second =
    let one : take (i + 1) texts ≡ take i texts ++ get_or texts i d ∷ [] = take_more texts i d within in
    let more : texts_bytes (take (i + 1) texts) ≡ texts_bytes (take i texts) ++ text_bytes (get_or texts i d) =
    ap texts_bytes one ∙ flat_map-append text_bytes (take i texts) (get_or texts i d ∷ []) ∙ ap (λ (xs : List ℕ). texts_bytes (take i texts) ++ xs) (append-nil (text_bytes (get_or texts i d))) in
    subst (λ (bytes : List ℕ). HandsOn old new bytes waits)
    (append_assoc waited (texts_bytes (take i texts)) (text_bytes (get_or texts i d)) ∙ ap (λ (xs : List ℕ). waited ++ xs) (sym more)) (hands_on (text_bytes (get_or texts i d)) first second)

-- the text at one place failed
pub gathers_at : (texts : List Text) (i : ℕ) (d : Text) {old mid new : Option (List ℕ)} (waited : List ℕ) {held : List ℕ} → i < length texts
    → HandsOn old mid (waited ++ texts_bytes (take i texts)) held → GrewByFront mid new (held ++ text_bytes (get_or texts i d)) → GrewByFront old new (waited ++ texts_bytes texts)
gathers_at texts i d {old = old} {new = new} waited within first part =
    let before : List ℕ = texts_bytes (take i texts) in
    let here : List ℕ = text_bytes (get_or texts i d) in
    let after : List ℕ = texts_bytes (drop (suc i) texts) in
    subst (GrewByFront old new)
    (append_assoc (waited ++ before) here after ∙ append_assoc waited before (here ++ after) ∙ ap (λ (xs : List ℕ). waited ++ xs) (texts_split texts i d within))
    (front_first after (hands_part here first part))

-- an error with a front of the text
pub gathered_part : {T E : Type 0} (text : List ℕ) (result : Result T E) (old new : Option (List ℕ)) (waited waits : List ℕ) (before now : ℕ) → IsErr result → GrewByFront old new (waited ++ text) → Rose before now → Gathers text result old new waited waits before now
gathered_part text (Ok x) old new waited waits before now failed part rose = absurd (cc failed)
gathered_part text (Err e) old new waited waits before now failed part rose = record { whole = tt; part = (part, rose) }

-- the first of two texts failed
pub gathered_first : {T E : Type 0} (a b : List ℕ) (result : Result T E) (old new : Option (List ℕ)) (waited waits : List ℕ) (before now : ℕ) → IsErr result → GrewByFront old new (waited ++ a) × Rose before now → Gathers (a ++ b) result old new waited waits before now
gathered_first a b result old new waited waits before now failed part =
    gathered_part (a ++ b) result old new waited waits before now failed (subst (GrewByFront old new) (append_assoc waited a b) (front_first b part.0)) part.1

-- the first was gathered, and the second is the result's
pub gathered_second : {T E : Type 0} (a b : List ℕ) (result : Result T E) (old mid new : Option (List ℕ)) (waited held waits : List ℕ) (before between now : ℕ)
    → HandsOn old mid (waited ++ a) held × (between ≡ before) → Gathers b result mid new held waits between now → Gathers (a ++ b) result old new waited waits before now
gathered_second a b (Ok x) old mid new waited held waits before between now first second = record {
  whole = (subst (λ (bytes : List ℕ). HandsOn old new bytes waits) (append_assoc waited a b) (hands_on b first.0 second.whole.0), second.whole.1 ∙ first.1);
  part = tt;
}
gathered_second a b (Err e) old mid new waited held waits before between now first second = record {
  whole = tt;
  part = (subst (GrewByFront old new) (append_assoc waited a b) (hands_part b first.0 second.part.0), subst (λ k. Rose k now) first.1 second.part.1);
}

-- all was gathered and is handed on
pub wrote_gathered : {T E : Type 0} (text : List ℕ) (result : Result T E) (old mid new : Option (List ℕ)) (waits : List ℕ) (before between now : ℕ) → HandsOn old mid text waits × (between ≡ before)
    → OnOk result (new ≡ grown mid waits) → OnErr result (GrewInPart mid new waits) → HasCause between now result → Wrote text result old new before now
wrote_gathered text (Ok x) old mid new waits before between now first whole part cause = record {
  whole = (whole ∙ ap (λ o. grown o waits) first.0.took ∙ grown-grown old first.0.front waits ∙ ap (grown old) first.0.split, cause.kept ∙ first.1);
  part = tt;
}
wrote_gathered text (Err e) old mid new waits before between now first whole part cause = record {
  whole = tt;
  part = (subst (GrewByFront old new) first.0.split (front_second first.0.front first.0.took (front_of_part part)), subst (λ k. Rose k now) first.1 cause.failed);
}
