-- Steps that may fail.
use Rattle.std.specs.Prelude.{Option, Some, None}

infixl 10 ◌>>=◌
abbrev pub ◌>>=◌ : {A B : Type 0} → Option A → (A → Option B) → Option B
(Some x) >>= f = f x
None >>= f = None

abbrev pub maybe : {A X : Type 0} → Option A → (A → X) → X → X
maybe (Some a) f x = f a
maybe None f x = x
