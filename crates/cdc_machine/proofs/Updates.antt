-- Functions with another value at one place.
use Rattle.std.proofs.Common.{◌≡◌, ◌≢◌, ℕ, Bool, true, false, refl, sym, ap, ◌∙◌, subst, if◌then◌else◌, ◌==◌}
use Rattle.std.proofs.lemmas.Bool.{eqb-true, eq-eqb}
use Rattle.cdc_machine.specs.Machine.{with_at}

pub at_place : {A : Type 0} (f : ℕ → A) (k : ℕ) (a : A) → with_at f k a k ≡ a
at_place f k a = ap (λ b. if b then a else f k) (eq-eqb k k refl)

pub elsewhere : {A : Type 0} (f : ℕ → A) (k : ℕ) (a : A) (i : ℕ) → i ≢ k → with_at f k a i ≡ f i
elsewhere f k a i ne = go (i == k) refl
  where
    go : (b : Bool) → (i == k) ≡ b → (if b then a else f i) ≡ f i
    go true e = absurd (ne (eqb-true i k e))
    go false e = refl

-- what holds of the new value, and of each old one elsewhere, holds everywhere
pub everywhere : {A : Type 0} (P : ℕ → A → Type 0) (f : ℕ → A) (i : ℕ) (a : A) → P i a → ((j : ℕ) → j ≢ i → P j (f j)) → (j : ℕ) → P j (with_at f i a j)
everywhere P f i a here there j = go (j == i) refl
  where
    go : (b : Bool) → (j == i) ≡ b → P j (if b then a else f j)
    go true e = subst (λ k. P k a) (sym (eqb-true j i e)) here
    go false e = there j (λ q. let both = sym (eq-eqb j i q) ∙ e in cc)

-- the same of three functions
pub everywhere_in_three : {A B C : Type 0} (P : ℕ → A → B → C → Type 0) (f : ℕ → A) (g : ℕ → B) (h : ℕ → C) (i : ℕ) (a : A) (b : B) (c : C) → P i a b c → ((j : ℕ) → j ≢ i → P j (f j) (g j) (h j)) → (j : ℕ) → P j (with_at f i a j) (with_at g i b j) (with_at h i c j)
everywhere_in_three P f g h i a b c here there j = go (j == i) refl
  where
    go : (t : Bool) → (j == i) ≡ t → P j (if t then a else f j) (if t then b else g j) (if t then c else h j)
    go true e = subst (λ k. P k a b c) (sym (eqb-true j i e)) here
    go false e = there j (λ q. let both = sym (eq-eqb j i q) ∙ e in cc)
