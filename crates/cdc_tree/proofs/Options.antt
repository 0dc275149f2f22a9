-- Steps that may fail, where they do not.
use Rattle.std.proofs.Common.{◌≡◌, Bool, true, false, cond, Option, Some, None, refl, inl, inr, ◌⊎◌}
use Rattle.cdc_tree.specs.Options.{◌>>=◌, maybe}

abbrev pub some : {A : Type 0} → A → Option A
some x = Some x

pub some_is : {A : Type 0} (x y : A) → some x ≡ some y → x ≡ y
some_is x y e = cc

pub bind_some : {A B : Type 0} (r : Option A) (f : A → Option B) (y : B) → (r >>= f) ≡ Some y → (x : A) × (r ≡ Some x) × (f x ≡ Some y)
bind_some (Some x) f y e = (x, refl, e)
bind_some None f y e = absurd cc

pub maybe_is : {A X : Type 0} (o : Option A) (f : A → X) (d x : X) → maybe o f d ≡ x → ((o ≡ None) × (d ≡ x)) ⊎ ((a : A) × (o ≡ Some a) × (f a ≡ x))
maybe_is (Some a) f d x e = inr (a, refl, e)
maybe_is None f d x e = inl (refl, e)

pub if_some : {A : Type 0} (t : Bool) (x y : A) → cond t (some x) None ≡ Some y → (t ≡ true) × (x ≡ y)
if_some true x y e = (refl, some_is x y e)
if_some false x y e = absurd cc
