-- Texts that are written in pieces.
use Rattle.std.specs.Prelude.{◌≡◌, ℕ, List, ◌++◌, Option, Result, OnOk, OnErr, pos, flat_map}
use Rattle.cdc_base.specs.Causes.{Rose}
use Rattle.cdc_base.specs.Gathered.{HandsOn}
use Rattle.cdc_base.specs.Outside.{grown}
use Rattle.cdc_num.specs.Decimal.{decimal_bytes}
use Rattle.cdc_text.specs.declared.text.Text.{Text}
use Rattle.cdc_text.specs.declared.text.Text.TheVariants.{Words, Number, Whole}

-- a front of these bytes was taken
pub record GrewByFront (old new : Option (List ℕ)) (bytes : List ℕ) : Type 0 where
  pub front : List ℕ
  pub rest : List ℕ
  pub split : front ++ rest ≡ bytes
  pub took : new ≡ grown old front

-- a text was written whole, or a front of it where the sink failed
pub record Wrote {T E : Type 0} (text : List ℕ) (result : Result T E) (old new : Option (List ℕ)) (before now : ℕ) : Type 0 where
  pub whole : OnOk result ((new ≡ grown old text) × (now ≡ before))
  pub part : OnErr result (GrewByFront old new text × Rose before now)

-- a text was gathered behind bytes that waited: a front of both was handed on, and the rest waits; or the sink failed when it had taken a front of both
pub record Gathers {T E : Type 0} (text : List ℕ) (result : Result T E) (old new : Option (List ℕ)) (waited waits : List ℕ) (before now : ℕ) : Type 0 where
  pub whole : OnOk result (HandsOn old new (waited ++ text) waits × (now ≡ before))
  pub part : OnErr result (GrewByFront old new (waited ++ text) × Rose before now)

abbrev pub text_bytes : Text → List ℕ
text_bytes (Words words) = words.now
text_bytes (Number n) = decimal_bytes (pos n)
text_bytes (Whole n) = decimal_bytes n

abbrev pub texts_bytes : List Text → List ℕ
texts_bytes texts = flat_map text_bytes texts
