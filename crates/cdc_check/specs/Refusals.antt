-- How answers stand for a definition's answer: want of memory is free.
use Rattle.std.specs.Prelude.{◌≡◌, Result, Ok, Err, Option, Some, None}
use Rattle.cdc_check.specs.declared.refusal.CheckRefusal.{CheckRefusal}
use Rattle.cdc_check.specs.declared.refusal.CheckRefusal.TheVariants.{Memory}

abbrev pub Answers : {A B : Type 0} → (A → B) → Result A CheckRefusal → Result B CheckRefusal → Type 0
Answers view (Ok a) r = r ≡ Ok (view a)
Answers view (Err Memory) r = Unit {0}
Answers view (Err refusal) r = r ≡ Err refusal

-- the refusal of a kind, and else what the later kinds say
abbrev pub or_else : {A : Type 0} → Option A → (A → CheckRefusal) → Option CheckRefusal → Option CheckRefusal
or_else None kind later = later
or_else (Some a) kind later = Some (kind a)

abbrev pub Stands : {A : Type 0} → Result A CheckRefusal → Option CheckRefusal → Type 0
Stands (Ok a) r = r ≡ None
Stands (Err Memory) r = Unit {0}
Stands (Err refusal) r = r ≡ Some refusal
