-- Statements have one list of units or one refusal.
use Rattle.std.proofs.Common.{◌≡◌, ℕ, ◌<◌, ◌≤◌, ◌⊎◌, List, [], ◌∷◌, ◌++◌, Option, Some, None, Err, refl, sym, ap, ap₂, subst, ◌∙◌, append_assoc, arith, inl, inr}
use Rattle.std.specs.Prelude.{◌≢◌}
use Rattle.std.proofs.lemmas.List.{append-nil}
use Rattle.cdc_tree.specs.Forms.{PStatement}
use Rattle.cdc_tree.specs.Order.{Each}
use Rattle.cdc_tree.specs.Units.{PUnit}
use Rattle.cdc_tree.specs.declared.refusal.ParseRefusal.{ParseRefusal}
use Rattle.cdc_tree.specs.declared.refusal.ParseRefusal.TheVariants.{NotAStatement, Depth, Nesting, Memory}
use Rattle.cdc_nest.specs.Units.{AreWritten, WellNested, Begins, first_deep, last_from, IsMisfit, IsCutShort, IsNestingAt, IsDeepBlockAt, AreNested}
use Rattle.cdc_nest.specs.Nesting.{POpen, Between, run, start}
use Rattle.cdc_nest.proofs.Taken.{nested_taken}

-- ---- one list of units

between_one : (us vs : List PUnit) (o : Option POpen) → o ≡ Some (Between us) → o ≡ Some (Between vs) → us ≡ vs
between_one us vs o e f = let same : Some (Between us) ≡ Some (Between vs) = sym e ∙ f in cc

pub units_one : (items : List PStatement) (us vs : List PUnit) → AreWritten us items → AreWritten vs items → us ≡ vs
units_one items us vs f g = between_one us vs (run start items) (nested_taken items us f) (nested_taken items vs g)

-- ---- two places in one list

head_one : (x y : PStatement) (xs ys : List PStatement) → x ∷ xs ≡ y ∷ ys → x ≡ y
head_one x y xs ys e = cc

tail_one : (x y : PStatement) (xs ys : List PStatement) → x ∷ xs ≡ y ∷ ys → xs ≡ ys
tail_one x y xs ys e = cc

pub each_at : (P : PStatement → Type 0) (before : List PStatement) (s : PStatement) (after : List PStatement) → Each P (before ++ (s ∷ after)) → P s
each_at P [] s after h = h.0
each_at P (x ∷ before) s after h = each_at P before s after h.1

-- the front of what begins some units begins some
front_begins : (xs ys : List PStatement) → Begins (xs ++ ys) → Begins xs
front_begins xs ys b = (ys ++ b.0, subst WellNested (append_assoc xs ys b.0) b.1)

-- the statement with those before it is the front of the other front
record Sooner (p : List PStatement) (x : PStatement) (front : List PStatement) : Type 0 where
  more : List PStatement
  is : front ≡ (p ++ (x ∷ [])) ++ more

-- the other front is no longer than what is before the statement
record Later (p : List PStatement) (x : PStatement) (q front back : List PStatement) : Type 0 where
  more : List PStatement
  before_is : p ≡ front ++ more
  back_is : back ≡ more ++ (x ∷ q)

abbrev with_head : PStatement → List PStatement → List PStatement
with_head x xs = x ∷ xs

meet : (p : List PStatement) (x : PStatement) (q front back : List PStatement) → p ++ (x ∷ q) ≡ front ++ back → Sooner p x front ⊎ Later p x q front back
meet [] x q [] back e = inr (record { more = []; before_is = refl; back_is = sym e })
meet [] x q (y ∷ front) back e = inl (record { more = front; is = ap (λ (z : PStatement). with_head z front) (sym (head_one x y q (front ++ back) e)) })
meet (z ∷ p) x q [] back e = inr (record { more = z ∷ p; before_is = refl; back_is = sym e })
meet (z ∷ p) x q (y ∷ front) back e =
    let h = head_one z y (p ++ (x ∷ q)) (front ++ back) e in
    elim (meet p x q front back (tail_one z y (p ++ (x ∷ q)) (front ++ back) e)) [
      | inl m ↦ inl (record { more = m.more; is = ap₂ with_head (sym h) m.is })
      | inr m ↦ inr (record { more = m.more; before_is = ap₂ with_head h m.before_is; back_is = m.back_is })
    ]

-- ---- one line of a misfit

fits_all : (a : List PStatement) (n : ℕ) → Begins a → IsMisfit a n → ⊥
fits_all a n h f = f.fits_none (front_begins (f.before ++ (f.misfit ∷ [])) f.after (subst Begins (f.parts ∙ sym (append_assoc f.before (f.misfit ∷ []) f.after)) h))

misfit_later : (a before : List PStatement) (m : ℕ) (g : IsMisfit a m) (more : List PStatement) (x : PStatement) (after : List PStatement) → Begins before → before ≡ g.before ++ more
    → g.misfit ∷ g.after ≡ more ++ (x ∷ after) → x.place.line ≡ m
misfit_later a before m g [] x after h e f = ap (λ (s : PStatement). s.place.line) (sym (head_one g.misfit x g.after after f)) ∙ g.number_is
misfit_later a before m g (z ∷ more) x after h e f =
    let same : z ≡ g.misfit = sym (head_one g.misfit z g.after (more ++ (x ∷ after)) f) in
    let parts : before ≡ (g.before ++ (g.misfit ∷ [])) ++ more =
    e ∙ ap (λ (s : PStatement). g.before ++ with_head s more) same ∙ sym (append_assoc g.before (g.misfit ∷ []) more) in
    absurd (g.fits_none (front_begins (g.before ++ (g.misfit ∷ [])) more (subst Begins parts h)))

misfit_one : (a : List PStatement) (n m : ℕ) → IsMisfit a n → IsMisfit a m → n ≡ m
misfit_one a n m f g =
    elim (meet f.before f.misfit f.after g.before (g.misfit ∷ g.after) (sym f.parts ∙ g.parts)) [
      | inl s ↦ absurd (f.fits_none (front_begins (f.before ++ (f.misfit ∷ [])) s.more (subst Begins s.is g.fits_before)))
      | inr l ↦ sym f.number_is ∙ misfit_later a f.before m g l.more f.misfit f.after f.fits_before l.before_is l.back_is
    ]

nesting_one : (a : List PStatement) (n m : ℕ) → IsNestingAt a n → IsNestingAt a m → n ≡ m
nesting_one a n m f g =
    elim f.found [
      | inl x ↦ elim g.found [ inl y ↦ misfit_one a n m x y | inr y ↦ absurd (fits_all a n y.fits x) ]
      | inr x ↦ elim g.found [ inl y ↦ absurd (fits_all a m x.fits y) | inr y ↦ sym x.number_is ∙ y.number_is ]
    ]

-- ---- Nesting or Depth, not both

last_beyond : (before : List PStatement) (y : PStatement) (ys : List PStatement) (m k : ℕ) → Each (λ s. m < s.place.line) (y ∷ ys) → m < last_from k (before ++ (y ∷ ys))
last_beyond [] y [] m k h = h.0
last_beyond [] y (z ∷ ys) m k h = last_beyond [] z ys m y.place.line h.1
last_beyond (x ∷ before) y ys m k h = last_beyond before y ys m x.place.line h

cut_deep : (a : List PStatement) (n m : ℕ) → IsCutShort a n → IsDeepBlockAt a m → n ≤ m → ⊥
cut_deep a n m f g le = by_after g.after refl
  where
    by_after : (after : List PStatement) → g.after ≡ after → ⊥
    by_after [] h = f.is_open (g.whole h)
    by_after (y ∷ ys) h =
        let beyond = last_beyond g.before y ys m 1 (subst (Each (λ s. m < s.place.line)) h g.beyond) in
        let last : n ≡ last_from 1 (g.before ++ (y ∷ ys)) = sym f.number_is ∙ ap (last_from 1) (g.parts ∙ ap (λ (z : List PStatement). g.before ++ z) h) in
        omega (arith, beyond, last, le)

misfit_deep : (a : List PStatement) (n m : ℕ) → IsMisfit a n → IsDeepBlockAt a m → n ≤ m → ⊥
misfit_deep a n m f g le =
    elim (meet f.before f.misfit f.after g.before g.after (sym f.parts ∙ g.parts)) [
      | inl s ↦ f.fits_none (front_begins (f.before ++ (f.misfit ∷ [])) s.more (subst Begins s.is g.fits))
      | inr l ↦
          let beyond : m < f.misfit.place.line = each_at (λ s. m < s.place.line) l.more f.misfit f.after (subst (Each (λ s. m < s.place.line)) l.back_is g.beyond) in
          omega (arith, beyond, f.number_is, le)
    ]

nesting_deep : (a : List PStatement) (n m : ℕ) → IsNestingAt a n → IsDeepBlockAt a m → ⊥
nesting_deep a n m f g =
    let le : n ≤ m = f.least m g.deep in
    elim f.found [ inl x ↦ misfit_deep a n m x g le | inr x ↦ cut_deep a n m x g le ]

deep_one : (a : List PStatement) (n m : ℕ) → IsDeepBlockAt a n → IsDeepBlockAt a m → n ≡ m
deep_one a n m f g = let same : Some n ≡ Some m = sym f.deep ∙ g.deep in cc

-- ---- units or a refusal, not both

nesting_none : (a : List PStatement) (n : ℕ) → WellNested a → IsNestingAt a n → ⊥
nesting_none a n w f =
    elim f.found [
      | inl x ↦ fits_all a n ([], subst WellNested (sym (append-nil a)) w) x
      | inr x ↦ x.is_open w
    ]

deep_none : (a : List PStatement) (n : ℕ) → first_deep 0 a ≡ None → IsDeepBlockAt a n → ⊥
deep_none a n none f = let clash : None ≡ Some n = sym none ∙ f.deep in absurd cc

pub units_or_refusal : (a : List PStatement) (us : List PUnit) (r : ParseRefusal) → AreWritten us a → first_deep 0 a ≡ None → AreNested a (Err r) → r ≢ Memory → ⊥
units_or_refusal a us (Nesting n) h none f other = nesting_none a n (us, h) f
units_or_refusal a us (Depth n) h none f other = deep_none a n none f
units_or_refusal a us (NotAStatement n) h none f other = f
units_or_refusal a us Memory h none f other = other refl

pub units_one_refusal : (a : List PStatement) (r q : ParseRefusal) → AreNested a (Err r) → AreNested a (Err q) → r ≢ Memory → q ≢ Memory → r ≡ q
units_one_refusal a (Nesting n) (Nesting m) f g _ _ = ap Nesting (nesting_one a n m f g)
units_one_refusal a (Nesting n) (Depth m) f g _ _ = absurd (nesting_deep a n m f g)
units_one_refusal a (Depth n) (Nesting m) f g _ _ = absurd (nesting_deep a m n g f)
units_one_refusal a (Depth n) (Depth m) f g _ _ = ap Depth (deep_one a n m f g)
units_one_refusal a (NotAStatement n) q f g _ _ = absurd f
units_one_refusal a Memory q f g other _ = absurd (other refl)
units_one_refusal a r (NotAStatement m) f g _ _ = absurd g
units_one_refusal a r Memory f g _ other = absurd (other refl)
