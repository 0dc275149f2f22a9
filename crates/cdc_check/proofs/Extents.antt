-- Objects are laid out one after another, each with a word at least, where no declaration is misshapen.
use Rattle.std.proofs.Common.{◌≡◌, ℕ, zero, suc, ℤ, ◌+◌, ◌*◌, ◌<◌, ◌≤◌, Bool, true, false, List, [], ◌∷◌, ◌++◌, map, length, Option, Some, None, refl, ap, sym, subst, arith}
use Rattle.std.proofs.lemmas.Int.{ints}
use Rattle.std.specs.Prelude.{if◌then◌else◌, nat_lt, ◌||◌, int_lt, pos, negsuc, ◌+ℤ◌, ◌-ℤ◌, is_some}
use Rattle.std.specs.List.{All, list_any}
use Rattle.cdc_base.specs.declared.place.Place.{Place}
use Rattle.cdc_tree.specs.Forms.{PBound}
use Rattle.cdc_prog.specs.declared.program.Dim.{Dim}
use Rattle.cdc_prog.specs.declared.program.Object as object
use Rattle.cdc_prog.specs.Data.{size_of}
use Rattle.cdc_prog.specs.Value.{at_least_zero}
use Rattle.cdc_prog.specs.Resolved.{AreLaidOut}
use Rattle.cdc_names.specs.Constants.{constant}
use Rattle.cdc_names.specs.Declarations.{Declares}
use Rattle.cdc_names.specs.Places.{before, sooner, first_of, at}
use Rattle.cdc_names.specs.Shapes.{low_of, is_above, is_reversed, misshapen}
use Rattle.cdc_names.specs.Table.{found, placed}
use Rattle.cdc_names.specs.Used.{Used}
use Rattle.cdc_check.specs.declared.meaning.Meaning.TheVariants as meaning
use Rattle.cdc_prog.specs.declared.expr.Var.TheVariants.{Object}
use Rattle.cdc_check.specs.declared.progress.Shape.{Shape}
use Rattle.cdc_check.specs.Threads.{numbered}
use Rattle.cdc_check.specs.Layout.{laid_from, words_of}
use Rattle.cdc_check.specs.Objects.{capped, extent, dim_between, dim, Naming, naming, shape, with_object, with_value, with_declared, declared_from, implied_from}

-- ---- no refusal
pub sooner_none : (a b : Option Place) → sooner a b ≡ None → (a ≡ None) × (b ≡ None)
sooner_none None b h = (refl, h)
sooner_none (Some p) None h = cc
sooner_none (Some p) (Some q) h = go (before q p) h
  where
    go : (c : Bool) → (if c then Some q else Some p) ≡ None → (Some p ≡ None) × (Some q ≡ None)
    go true e = cc
    go false e = cc

pub at_none : (b : Bool) (p : Place) → at b p ≡ None → b ≡ false
at_none true p h = cc
at_none false p h = refl

abbrev pub EachNone : {A : Type 0} → (A → Option Place) → List A → Type 0
EachNone f [] = Unit {0}
EachNone f (x ∷ xs) = (f x ≡ None) × EachNone f xs

pub none_first : {A : Type 0} (f : A → Option Place) (xs : List A) → first_of f xs ≡ None → EachNone f xs
none_first f [] h = tt
none_first f (x ∷ xs) h = let both : (f x ≡ None) × (first_of f xs ≡ None) = sooner_none (f x) (first_of f xs) h in (both.0, none_first f xs both.1)

or_left : (a b : Bool) → (a || b) ≡ false → a ≡ false
or_left true b h = h
or_left false b h = refl

or_right : (a b : Bool) → (a || b) ≡ false → b ≡ false
or_right true b h = cc
or_right false b h = h

-- ---- extents
abbrev pub IsFine : List Dim → Type 0
IsFine dims = (length dims ≤ 3) × (0 < size_of dims)

at_least_one : (z : ℤ) (n : ℕ) → z ≡ pos (suc n) → 0 < capped (at_least_zero z)
at_least_one z n h = subst (λ y. 0 < capped (at_least_zero y)) (sym h) (more (suc n) (omega arith))
  where
    more : (m : ℕ) → 0 < m → 0 < capped m
    more m l = grind arith

extent_some : (low high : ℤ) → int_lt high low ≡ false → 0 < extent low high
extent_some low high h = go ((high -ℤ low) +ℤ pos 1) refl
  where
    go : (z : ℤ) → (high -ℤ low) +ℤ pos 1 ≡ z → 0 < capped (at_least_zero z)
    go (pos zero) e = absurd (grind (arith, ints))
    go (pos (suc n)) e = at_least_one (pos (suc n)) n refl
    go (negsuc n) e = absurd (grind (arith, ints))

dim_some : (low high : Option ℤ) → is_above low high ≡ false → 0 < (dim_between low high).extent
dim_some None high h = omega arith
dim_some (Some l) None h = omega arith
dim_some (Some l) (Some k) h = extent_some l k h

product_some : (a b : ℕ) → 0 < a → 0 < b → 0 < a * b
product_some a b h k = grind arith

size_some : (values : List (List ℕ × ℤ)) (bs : List PBound) → list_any (is_reversed values) bs ≡ false → 0 < size_of (map (dim values) bs)
size_some values [] h = omega arith
size_some values (b ∷ bs) h =
    product_some ((dim values b).extent) (size_of (map (dim values) bs))
    (dim_some (low_of values b.0) (constant values b.1) (or_left (is_reversed values b) (list_any (is_reversed values) bs) h))
    (size_some values bs (or_right (is_reversed values b) (list_any (is_reversed values) bs) h))

map_length : {A B : Type 0} (f : A → B) (xs : List A) → length (map f xs) ≡ length xs
map_length f [] = refl
map_length f (x ∷ xs) = ap suc (map_length f xs)

short : (n : ℕ) → nat_lt 3 n ≡ false → n ≤ 3
short n h = grind arith

declared_dims : (values : List (List ℕ × ℤ)) (d : Declares) → misshapen values d ≡ None → IsFine (map (dim values) d.bounds)
declared_dims values d h =
    let wrong : (nat_lt 3 (length d.bounds) || list_any (is_reversed values) d.bounds) ≡ false = at_none (nat_lt 3 (length d.bounds) || list_any (is_reversed values) d.bounds) d.named.place h in
    let few : length d.bounds ≤ 3 = short (length d.bounds) (or_left (nat_lt 3 (length d.bounds)) (list_any (is_reversed values) d.bounds) wrong) in
    let same : length (map (dim values) d.bounds) ≡ length d.bounds = map_length (dim values) d.bounds in
    (omega arith, size_some values d.bounds (or_right (nat_lt 3 (length d.bounds)) (list_any (is_reversed values) d.bounds) wrong))

-- ---- objects
abbrev pub AllFine : List Shape → Type 0
AllFine [] = Unit {0}
AllFine (s ∷ ss) = IsFine s.dims × AllFine ss

fine_more : (xs ys : List Shape) → AllFine xs → AllFine ys → AllFine (xs ++ ys)
fine_more [] ys f g = g
fine_more (x ∷ xs) ys f g = (f.0, fine_more xs ys f.1 g)

object_fine : (unit : ℕ) (name : List ℕ) (dims : List Dim) (n : Naming) → IsFine dims → AllFine n.objects → AllFine ((with_object unit name dims n).objects)
object_fine unit name dims n f a = go (is_some (found name n.names))
  where
    go : (b : Bool) → AllFine ((if b then n else naming (placed name (meaning.Variable (Object (numbered (length n.objects)))) n.names) (n.objects ++ shape unit name dims ∷ [])).objects)
    go true = a
    go false = fine_more n.objects (shape unit name dims ∷ []) a (f, tt)

value_fine : (name : List ℕ) (x : Option ℤ) (n : Naming) → AllFine n.objects → AllFine ((with_value name x n).objects)
value_fine name None n a = a
value_fine name (Some x) n a = a

declared_one : (unit : ℕ) (values : List (List ℕ × ℤ)) (n : Naming) (d : Declares) → misshapen values d ≡ None → AllFine n.objects → AllFine ((with_declared unit values n d).objects)
declared_one unit values n d h a = go (is_some d.value)
  where
    go : (b : Bool) → AllFine ((if b then with_value d.named.name (found d.named.name values) n else with_object unit d.named.name (map (dim values) d.bounds) n).objects)
    go true = value_fine d.named.name (found d.named.name values) n a
    go false = object_fine unit d.named.name (map (dim values) d.bounds) n (declared_dims values d h) a

pub declared_fine : (unit : ℕ) (values : List (List ℕ × ℤ)) (ds : List Declares) (n : Naming) → EachNone (misshapen values) ds → AllFine n.objects → AllFine ((declared_from unit values n ds).objects)
declared_fine unit values [] n h a = a
declared_fine unit values (d ∷ ds) n h a = declared_fine unit values ds (with_declared unit values n d) h.1 (declared_one unit values n d h.0 a)

pub implied_fine : (unit : ℕ) (us : List Used) (n : Naming) → AllFine n.objects → AllFine ((implied_from unit n us).objects)
implied_fine unit [] n a = a
implied_fine unit (u ∷ us) n a = implied_fine unit us (with_object unit u.name [] n) (object_fine unit u.name [] n (omega arith, omega arith) a)

-- ---- layout
pub laid_out : (b : ℕ) (ss : List Shape) → AllFine ss → AreLaidOut b (laid_from b ss) (b + words_of ss)
laid_out b [] f = let e : b ≡ b + 0 = omega arith in e
laid_out b (s ∷ ss) f =
    let e : b + size_of s.dims + words_of ss ≡ b + (size_of s.dims + words_of ss) = omega arith in
    (refl, refl, f.0.1, subst (AreLaidOut (b + size_of s.dims) (laid_from (b + size_of s.dims) ss)) e (laid_out (b + size_of s.dims) ss f.1))

pub all_shaped : (b : ℕ) (ss : List Shape) → AllFine ss → All (λ (o : object.Object). length o.dims ≤ 3) (laid_from b ss)
all_shaped b [] f k d h = absurd (omega arith)
all_shaped b (s ∷ ss) f zero d h = f.0.0
all_shaped b (s ∷ ss) f (suc k) d h = all_shaped (b + size_of s.dims) ss f.1 k d (omega arith)
