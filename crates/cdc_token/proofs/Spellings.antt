-- The first spelling that stands at a place is the longest.
use Rattle.std.proofs.Common.{◌≡◌, ℕ, ◌≤◌, ◌<◌, Bool, true, false, ◌&&◌, eqb, ltb, leb, List, [], ◌∷◌, ◌++◌, length, take, map, append-nil, Option, Some, None, sym, refl, ap, ◌∙◌, subst, ⊎_elim, arith}
use Rattle.std.proofs.lemmas.Grind.{common_steps}
use Rattle.std.proofs.lemmas.Bool.{cases_Bool, and_parts, true≢false, leb-true, ltb-true, eqb-true}
use Rattle.std.proofs.lemmas.List.{length-map, length-take-le, length-take, take_all}
use Rattle.std.proofs.Math.Seq.{take-append_seam}
use Rattle.std.specs.List.{list_all}
use Rattle.std.specs.Char.{to_ascii_lowercase}
use Rattle.std.specs.Str.{str_eq_ignore_ascii_case}
use lib.Pointwise.{pointwise_long}
use Rattle.cdc_token.specs.declared.piece.Kind.{Kind}
use Rattle.cdc_token.specs.declared.piece.Kind.TheVariants.{Blank, Comment, Text, Name, Number, Symbol, Mark, Semicolon}
use Rattle.cdc_token.specs.declared.token.Symbol as symbols
use Rattle.cdc_token.specs.Symbols.{Spelling, spellings, named, symbol}
use Rattle.cdc_token.specs.Cutting.{kind_at, fits, first_fit}

pub by_test : {P : Type 0} (b : Bool) → (b ≡ true → P) → (b ≡ false → P) → P
by_test b f g = ⊎_elim f g (cases_Bool b)

pub some_same : {A : Type 0} (x y : A) → Some x ≡ Some y → x ≡ y
some_same x y h = cc

same_length : (a b : List ℕ) → str_eq_ignore_ascii_case a b ≡ true → length a ≡ length b
same_length a b h = sym (length-map a to_ascii_lowercase) ∙ pointwise_long eqb (map to_ascii_lowercase a) (map to_ascii_lowercase b) h ∙ length-map b to_ascii_lowercase

-- ---- what stands at the front is a symbol

pub record Front (more : List Spelling) (z : List ℕ) (y : symbols.Symbol) (n : ℕ) : Type 0 where
  pub within : n ≤ length z
  pub is : named (take n z) more ≡ Some y

front_here : (s : Spelling) (more : List Spelling) (z : List ℕ) → fits s z ≡ true → Front (s ∷ more) z s.1 (length s.0)
front_here s more z on = record {
  within = let size = same_length s.0 (take (length s.0) z) on in omega (arith, size, length-take (length s.0) z);
  is = rw on refl;
}

front_later : (s : Spelling) (more : List Spelling) (z : List ℕ) (y : symbols.Symbol) (n : ℕ) → fits s z ≡ false → Front more z y n → Front (s ∷ more) z y n
front_later s more z y n off rec =
    by_test (str_eq_ignore_ascii_case s.0 (take n z))
    (λ alike.
    let size : length s.0 ≡ n = same_length s.0 (take n z) alike ∙ length-take-le n z rec.within in
    absurd (true≢false (sym alike ∙ ap (λ k. str_eq_ignore_ascii_case s.0 (take k z)) (sym size) ∙ off)))
    (λ no'. record { within = rec.within; is = rw no' rec.is })

pub front_is : (more : List Spelling) (z : List ℕ) (y : symbols.Symbol) (n : ℕ) → first_fit more z ≡ Some (y, n) → Front more z y n
front_is [] z y n h = absurd (cc)
front_is (s ∷ more) z y n h =
    by_test (fits s z)
    (λ on. let same = some_same (s.1, length s.0) (y, n) (rw on at h) in subst (λ p. Front (s ∷ more) z p.0 p.1) same (front_here s more z on))
    (λ off. front_later s more z y n off (front_is more z y n (rw off at h)))

-- ---- no longer symbol stands there

pub record Passing (test : Spelling → Bool) (front : List ℕ) : Type 0 where
  pub spelling : Spelling
  pub passes : test spelling ≡ true
  pub same : str_eq_ignore_ascii_case spelling.0 front ≡ true

passing : (test : Spelling → Bool) (more : List Spelling) (front : List ℕ) (y : symbols.Symbol) → list_all test more ≡ true → named front more ≡ Some y → Passing test front
passing test [] front y all h = absurd (cc)
passing test (s ∷ more) front y all h =
    let parts = and_parts (test s) (list_all test more) all in
    by_test (str_eq_ignore_ascii_case s.0 front) (λ alike. record { spelling = s; passes = parts.0; same = alike }) (λ no'. passing test more front y parts.1 (rw no' at h))

abbrev no_longer : Spelling → Spelling → Bool
no_longer s t = leb (length t.0) (length s.0)

abbrev falling : List Spelling → Bool
falling [] = true
falling (s ∷ more) = list_all (no_longer s) more && falling more

pub record AtLeast (o : Option (symbols.Symbol × ℕ)) (k : ℕ) : Type 0 where
  pub found : symbols.Symbol × ℕ
  pub is : o ≡ Some found
  pub long : k ≤ found.1

longest : (more : List Spelling) (f r : List ℕ) (y : symbols.Symbol) → falling more ≡ true → named f more ≡ Some y → AtLeast (first_fit more (f ++ r)) (length f)
longest [] f r y fall h = absurd (cc)
longest (s ∷ more) f r y fall h =
    let parts = and_parts (list_all (no_longer s) more) (falling more) fall in
    by_test (str_eq_ignore_ascii_case s.0 f)
    (λ alike.
    let size = same_length s.0 f alike in
    let front : take (length s.0) (f ++ r) ≡ f = ap (λ k. take k (f ++ r)) size ∙ take-append_seam f r in
    let here : fits s (f ++ r) ≡ true = ap (str_eq_ignore_ascii_case s.0) front ∙ alike in
    record { found = (s.1, length s.0); is = rw here refl; long = omega (arith, size) })
    (λ no'.
    by_test (fits s (f ++ r))
    (λ on.
    let other = passing (no_longer s) more f y parts.0 (rw no' at h) in
    let size = same_length other.spelling.0 f other.same in
    record { found = (s.1, length s.0); is = rw on refl; long = omega (arith, size, leb-true (length other.spelling.0) (length s.0) other.passes) })
    (λ off. let rec = longest more f r y parts.1 (rw no' at h) in record { found = rec.found; is = rw off rec.is; long = rec.long }))

spellings_fall : falling spellings ≡ true
unfolding spellings
spellings_fall = refl

pub symbol_longest : (f r : List ℕ) (y : symbols.Symbol) → symbol f ≡ Some y → AtLeast (first_fit spellings (f ++ r)) (length f)
symbol_longest f r y h = longest spellings f r y spellings_fall h

pub symbol_none : symbol [] ≡ None
unfolding spellings
symbol_none = refl

-- where all bytes are a symbol, the one that is found is this
pub symbol_whole : (f : List ℕ) (x : symbols.Symbol) → symbol f ≡ Some x → (y : symbols.Symbol) (n : ℕ) → Some (y, n) ≡ first_fit spellings f → symbol f ≡ Some y
symbol_whole f x is y n found =
    let least = symbol_longest f [] x is in
    let most = front_is spellings f y n (sym found) in
    let same : least.found ≡ (y, n) = some_same least.found (y, n) (sym least.is ∙ ap (first_fit spellings) (append-nil f) ∙ sym found) in
    let long : length f ≤ n = let size : least.found.1 ≡ n = ap (λ p. p.1) same in omega (arith, size, least.long) in
    ap symbol (sym (take_all n f long)) ∙ most.is

pub symbol_found : (f : List ℕ) (x : symbols.Symbol) → symbol f ≡ Some x → None ≡ first_fit spellings f → ⊥
symbol_found f x is none =
    let least = symbol_longest f [] x is in
    let clash : None ≡ Some least.found = none ∙ sym (ap (first_fit spellings) (append-nil f)) ∙ least.is in cc

-- ---- the first byte of a symbol begins nothing else

abbrev is_symbol : Kind → Bool
is_symbol Symbol = true
is_symbol Blank = false
is_symbol Comment = false
is_symbol Text = false
is_symbol Name = false
is_symbol Number = false
is_symbol Mark = false
is_symbol Semicolon = false

is_symbol_true : (k : Kind) → is_symbol k ≡ true → k ≡ Symbol
is_symbol_true Symbol h = refl
is_symbol_true Blank h = absurd (cc)
is_symbol_true Comment h = absurd (cc)
is_symbol_true Text h = absurd (cc)
is_symbol_true Name h = absurd (cc)
is_symbol_true Number h = absurd (cc)
is_symbol_true Mark h = absurd (cc)
is_symbol_true Semicolon h = absurd (cc)

abbrev begins_symbol : List ℕ → Bool
begins_symbol [] = false
begins_symbol (h ∷ t) = ltb h 65 && is_symbol (kind_at h)

lower_plain : (h b : ℕ) → h < 65 → to_ascii_lowercase h ≡ to_ascii_lowercase b → b ≡ h
lower_plain h b small same = grind (arith, common_steps)

first_symbol : (s : List ℕ) (b : ℕ) (z : List ℕ) → begins_symbol s ≡ true → str_eq_ignore_ascii_case s (b ∷ z) ≡ true → kind_at b ≡ Symbol
first_symbol [] b z begins same = absurd (cc)
first_symbol (h ∷ t) b z begins same =
    let parts = and_parts (ltb h 65) (is_symbol (kind_at h)) begins in
    let bytes = and_parts (eqb (to_ascii_lowercase h) (to_ascii_lowercase b)) _ same in
    let is : b ≡ h = lower_plain h b (ltb-true h 65 parts.0) (eqb-true (to_ascii_lowercase h) (to_ascii_lowercase b) bytes.0) in
    ap kind_at is ∙ is_symbol_true (kind_at h) parts.1

spellings_begin : list_all (λ s. begins_symbol s.0) spellings ≡ true
unfolding spellings
spellings_begin = refl

pub symbol_first : (b : ℕ) (z : List ℕ) (y : symbols.Symbol) → symbol (b ∷ z) ≡ Some y → kind_at b ≡ Symbol
symbol_first b z y h = let found = passing (λ s. begins_symbol s.0) spellings (b ∷ z) y spellings_begin h in first_symbol found.spelling.0 b z found.passes found.same
