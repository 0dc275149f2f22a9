-- The first place of a list, one item further on.
use Rattle.std.proofs.Common.{◌≡◌, ℕ, suc, ◌+◌, ◌<◌, Bool, true, false, List, ◌∷◌, Option, Some, None, refl, ap, sym, ◌∙◌, get_or, length, drop, arith}
use Rattle.std.specs.Prelude.{if◌then◌else◌}
use Rattle.std.proofs.Math.Seq.{drop-cons}
use Rattle.cdc_base.specs.declared.place.Place.{Place}
use Rattle.cdc_names.specs.Places.{before, sooner}

pub before_trans : (p q r : Place) → before q p ≡ false → before r q ≡ false → before r p ≡ false
before_trans p q r h k = grind arith

pub before_weaken : (p q r : Place) → before q p ≡ true → before r p ≡ false → before r q ≡ false
before_weaken p q r h k = grind arith

pub before_strict : (p q r : Place) → before q p ≡ true → before r q ≡ true → before r p ≡ true
before_strict p q r h k = grind arith

pub sooner_assoc : (a b c : Option Place) → sooner (sooner a b) c ≡ sooner a (sooner b c)
sooner_assoc None b c = refl
sooner_assoc (Some p) None c = refl
sooner_assoc (Some p) (Some q) None = split (before q p)
  where
    split : (x : Bool) → sooner (if x then Some q else Some p) None ≡ (if x then Some q else Some p)
    split true = refl
    split false = refl
sooner_assoc (Some p) (Some q) (Some r) = split (before q p) refl (before r q) refl
  where
    split : (x : Bool) → before q p ≡ x → (y : Bool) → before r q ≡ y → sooner (if x then Some q else Some p) (Some r) ≡ sooner (Some p) (if y then Some r else Some q)
    split true h true k = ap (λ z. if z then Some r else Some q) k ∙ sym (ap (λ z. if z then Some r else Some p) (before_strict p q r h k))
    split true h false k = ap (λ z. if z then Some r else Some q) k ∙ sym (ap (λ z. if z then Some q else Some p) h)
    split false h true k = refl
    split false h false k = ap (λ z. if z then Some r else Some p) (before_trans p q r h k) ∙ sym (ap (λ z. if z then Some q else Some p) h)

-- the state of a loop that keeps the first place so far and a state beside it, one item further on
pub scan_step : {A S : Type 0} (wrong : S → A → Option Place) (after : S → A → S) (scan : S → List A → Option Place)
    → ((s : S) (x : A) (xs : List A) → scan s (x ∷ xs) ≡ sooner (wrong s x) (scan (after s x) xs))
    → (xs : List A) (i : ℕ) (x : A) (s t : S) (best b y r : Option Place)
    → y ≡ wrong s x → b ≡ sooner best y → t ≡ after s x → x ≡ get_or xs i x → i < length xs
    → sooner best (scan s (drop i xs)) ≡ r → sooner b (scan t (drop (i + 1) xs)) ≡ r
scan_step wrong after scan opens xs i x s t best b y r e h n is lt inv =
    let one : suc i ≡ i + 1 = omega arith in
    let tail : drop i xs ≡ get_or xs i x ∷ drop (i + 1) xs = drop-cons xs i x lt ∙ ap (λ k. get_or xs i x ∷ drop k xs) one in
    ap (λ o. sooner o (scan t (drop (i + 1) xs))) (h ∙ ap (sooner best) e)
    ∙ sooner_assoc best (wrong s x) (scan t (drop (i + 1) xs))
    ∙ ap (λ k. sooner best (sooner (wrong s x) (scan k (drop (i + 1) xs)))) n
    ∙ sym (ap (sooner best) (opens s x (drop (i + 1) xs)))
    ∙ ap (λ z. sooner best (scan s (z ∷ drop (i + 1) xs))) is
    ∙ sym (ap (λ l. sooner best (scan s l)) tail)
    ∙ inv

-- the same without a state
pub first_step : {A : Type 0} (wrong : A → Option Place) (scan : List A → Option Place)
    → ((x : A) (xs : List A) → scan (x ∷ xs) ≡ sooner (wrong x) (scan xs))
    → (xs : List A) (i : ℕ) (x : A) (best b y r : Option Place)
    → y ≡ wrong x → b ≡ sooner best y → x ≡ get_or xs i x → i < length xs
    → sooner best (scan (drop i xs)) ≡ r → sooner b (scan (drop (i + 1) xs)) ≡ r
first_step {A} wrong scan opens xs i x best b y r e h is lt inv =
    scan_step (λ (s : Unit {0}) (x : A). wrong x) (λ s x. tt) (λ s l. scan l) (λ s x xs. opens x xs) xs i x tt tt best b y r e h refl is lt inv
