-- A text that is written in pieces is written.
use Rattle.std.proofs.Common.{◌≡◌, ℕ, List, [], ◌++◌, length, take, drop, refl, sym, ◌∙◌, ap, append_assoc, append-nil, take-append-drop, ◌<◌, suc, get_or, subst, drop-cons}
use Rattle.std.specs.Prelude.{Option, Some, None, Result, Ok, Err, OnOk, OnErr, IsErr}
use Rattle.std.proofs.lemmas.Grind.{flat_map-append}
use Rattle.cdc_base.proofs.Grown.{grown-grown}
use Rattle.cdc_base.specs.Causes.{Rose, HasCause}
use Rattle.cdc_base.specs.Outside.{grown, GrewInPart}
use Rattle.cdc_text.specs.Pieces.{GrewByFront, Wrote, text_bytes, texts_bytes}
use Rattle.cdc_text.specs.declared.text.Text.{Text}

pub front_of_part : {old new : Option (List ℕ)} {bytes : List ℕ} → GrewInPart old new bytes → GrewByFront old new bytes
front_of_part {bytes = bytes} part = record {
  front = take part.count bytes;
  rest = drop part.count bytes;
  split = take-append-drop part.count bytes;
  took = part.front;
}

-- the first piece failed
pub front_first : {old new : Option (List ℕ)} {a : List ℕ} (b : List ℕ) → GrewByFront old new a → GrewByFront old new (a ++ b)
front_first b part = record {
  front = part.front;
  rest = part.rest ++ b;
  split = sym (append_assoc part.front part.rest b) ∙ ap (λ (xs : List ℕ). xs ++ b) part.split;
  took = part.took;
}

-- the second did
pub front_second : {old mid new : Option (List ℕ)} (a : List ℕ) {b : List ℕ} → mid ≡ grown old a → GrewByFront mid new b → GrewByFront old new (a ++ b)
front_second {old = old} a whole part = record {
  front = a ++ part.front;
  rest = part.rest;
  split = append_assoc a part.front part.rest ∙ ap (λ (xs : List ℕ). a ++ xs) part.split;
  took = part.took ∙ ap (λ o. grown o part.front) whole ∙ grown-grown old a part.front;
}

pub nothing_taken : (o : Option (List ℕ)) (bytes : List ℕ) → GrewByFront o o bytes
nothing_taken None bytes = record { front = []; rest = bytes; split = refl; took = refl }
nothing_taken (Some held) bytes = record { front = []; rest = bytes; split = refl; took = ap Some (sym (append-nil held)) }

pub grown_nothing : (o : Option (List ℕ)) → o ≡ grown o []
grown_nothing None = refl
grown_nothing (Some bytes) = ap Some (sym (append-nil bytes))

-- a piece was written, or a front of it
pub wrote_piece : {T E : Type 0} (text : List ℕ) (result : Result T E) (old new : Option (List ℕ)) (before now : ℕ)
    → OnOk result (new ≡ grown old text) → OnErr result (GrewInPart old new text) → HasCause before now result → Wrote text result old new before now
wrote_piece text (Ok x) old new before now whole part cause = record { whole = (whole, cause.kept); part = tt }
wrote_piece text (Err e) old new before now whole part cause = record { whole = tt; part = (front_of_part part, cause.failed) }

-- an error with a front of the text
pub wrote_part : {T E : Type 0} (text : List ℕ) (result : Result T E) (old new : Option (List ℕ)) (before now : ℕ) → IsErr result → GrewByFront old new text → Rose before now → Wrote text result old new before now
wrote_part text (Ok x) old new before now failed part rose = absurd (cc failed)
wrote_part text (Err e) old new before now failed part rose = record { whole = tt; part = (part, rose) }

-- the texts before one, that one, and those behind it
pub texts_split : (texts : List Text) (i : ℕ) (d : Text) → i < length texts → texts_bytes (take i texts) ++ (text_bytes (get_or texts i d) ++ texts_bytes (drop (suc i) texts)) ≡ texts_bytes texts
texts_split texts i d within =
    ap (λ (ts : List Text). texts_bytes (take i texts) ++ texts_bytes ts) (sym (drop-cons texts i d within))
    ∙ sym (flat_map-append text_bytes (take i texts) (drop i texts))
    ∙ ap texts_bytes (take-append-drop i texts)

-- the text at one place failed
pub failed_at : (texts : List Text) (i : ℕ) (d : Text) (old mid new : Option (List ℕ)) → i < length texts → mid ≡ grown old (texts_bytes (take i texts)) → GrewByFront mid new (text_bytes (get_or texts i d)) → GrewByFront old new (texts_bytes texts)
failed_at texts i d old mid new within so_far part =
    subst (GrewByFront old new) (texts_split texts i d within) (front_second (texts_bytes (take i texts)) so_far (front_first (texts_bytes (drop (suc i) texts)) part))

-- the first of two texts failed
pub wrote_first : {T E : Type 0} (a b : List ℕ) (result : Result T E) (old new : Option (List ℕ)) (before now : ℕ) → IsErr result → GrewByFront old new a × Rose before now → Wrote (a ++ b) result old new before now
wrote_first a b result old new before now failed part = wrote_part (a ++ b) result old new before now failed (front_first b part.0) part.1

-- the first was written, and the second is the result's
pub wrote_second : {T E : Type 0} (a b : List ℕ) (result : Result T E) (old mid new : Option (List ℕ)) (before between now : ℕ) → (mid ≡ grown old a) × (between ≡ before) → Wrote b result mid new between now → Wrote (a ++ b) result old new before now
wrote_second a b (Ok x) old mid new before between now first second = record {
  whole = (second.whole.0 ∙ ap (λ o. grown o b) first.0 ∙ grown-grown old a b, second.whole.1 ∙ first.1);
  part = tt;
}
wrote_second a b (Err e) old mid new before between now first second = record {
  whole = tt;
  part = (front_second a first.0 second.part.0, subst (λ k. Rose k now) first.1 second.part.1);
}
