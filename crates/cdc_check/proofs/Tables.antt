-- What the names of a unit stand for agrees with their declarations.
use Rattle.std.proofs.Common.{◌≡◌, ℕ, suc, ℤ, ◌+◌, ◌<◌, ◌≤◌, Bool, true, false, List, [], ◌∷◌, ◌++◌, map, length, Option, Some, None, refl, ap, sym, subst, ◌∙◌, arith, append_assoc}
use Rattle.std.specs.Prelude.{if◌then◌else◌, is_some, slice_get, pos}
use Rattle.std.specs.Str.{bytes_eq}
use Rattle.std.proofs.lemmas.List.{length-append}
use Rattle.std.proofs.lemmas.Slice.Eq.{bytes_eq-Decides}
use Rattle.cdc_tree.specs.Forms.{PBound}
use Rattle.cdc_prog.specs.declared.expr.Var.TheVariants.{Object}
use Rattle.cdc_prog.specs.declared.program.Dim.{Dim}
use Rattle.cdc_prog.specs.declared.program.Object as object
use Rattle.cdc_prog.specs.Data.{size_of, dims_in}
use Rattle.cdc_names.specs.declared.scope.Sort.{Sort}
use Rattle.cdc_names.specs.declared.scope.Sort.TheVariants.{Parameter}
use Rattle.cdc_names.specs.Declarations.{Declares}
use Rattle.cdc_names.specs.Scopes.{sort_by_dimensions, sort_of, sorts_from}
use Rattle.cdc_names.specs.Table.{found, placed, added}
use Rattle.cdc_names.specs.Used.{Used}
use Rattle.cdc_names.proofs.Nexts.{found_placed}
use Rattle.cdc_check.specs.declared.meaning.Meaning.{Meaning}
use Rattle.cdc_check.specs.declared.meaning.Meaning.TheVariants as meaning
use Rattle.cdc_check.specs.declared.progress.Shape.{Shape}
use Rattle.cdc_check.specs.Threads.{numbered}
use Rattle.cdc_check.specs.Layout.{laid_from}
use Rattle.cdc_check.specs.Objects.{dim, Naming, naming, shape, with_object, with_value, with_declared, declared_from, implied_from}
use Rattle.cdc_check.proofs.Fitting.{rank_of, Agrees}

-- ---- layout
laid_length : (b : ℕ) (ss : List Shape) → length (laid_from b ss) ≡ length ss
laid_length b [] = refl
laid_length b (s ∷ ss) = ap suc (laid_length (b + size_of s.dims) ss)

laid_dims : (b : ℕ) (xs ys : List Shape) (sh : Shape) → dims_in (slice_get (laid_from b (xs ++ sh ∷ ys)) (length xs)) ≡ sh.dims
laid_dims b [] ys sh = refl
laid_dims b (x ∷ xs) ys sh = laid_dims (b + size_of x.dims) xs ys sh

pub numbered_small : (n : ℕ) → n < 1024 → numbered n ≡ n
numbered_small n h = grind arith

-- ---- more objects
pub record Grown (before now : List Shape) : Type 0 where
  pub more : List Shape
  pub is : now ≡ before ++ more

append_nil : {A : Type 0} (xs : List A) → xs ≡ xs ++ []
append_nil [] = refl
append_nil (x ∷ xs) = ap (λ l. x ∷ l) (append_nil xs)

pub same : (xs : List Shape) → Grown xs xs
same xs = record { more = []; is = append_nil xs }

pub grown_by : (a b c : List Shape) → Grown a b → Grown b c → Grown a c
grown_by a b c g h = record { more = g.more ++ h.more; is = h.is ∙ ap (λ l. l ++ h.more) g.is ∙ append_assoc a g.more h.more }

object_grown : (unit : ℕ) (name : List ℕ) (dims : List Dim) (n : Naming) → Grown n.objects ((with_object unit name dims n).objects)
object_grown unit name dims n = go (is_some (found name n.names))
  where
    go : (b : Bool) → Grown n.objects ((if b then n else naming (placed name (meaning.Variable (Object (numbered (length n.objects)))) n.names) (n.objects ++ shape unit name dims ∷ [])).objects)
    go true = same n.objects
    go false = record { more = shape unit name dims ∷ []; is = refl }

value_kept : (name : List ℕ) (x : Option ℤ) (n : Naming) → Grown n.objects ((with_value name x n).objects)
value_kept name None n = same n.objects
value_kept name (Some x) n = same n.objects

declared_one : (unit : ℕ) (values : List (List ℕ × ℤ)) (n : Naming) (d : Declares) → Grown n.objects ((with_declared unit values n d).objects)
declared_one unit values n d = go (is_some d.value)
  where
    go : (b : Bool) → Grown n.objects ((if b then with_value d.named.name (found d.named.name values) n else with_object unit d.named.name (map (dim values) d.bounds) n).objects)
    go true = value_kept d.named.name (found d.named.name values) n
    go false = object_grown unit d.named.name (map (dim values) d.bounds) n

pub declared_grown : (unit : ℕ) (values : List (List ℕ × ℤ)) (n : Naming) (ds : List Declares) → Grown n.objects ((declared_from unit values n ds).objects)
declared_grown unit values n [] = same n.objects
declared_grown unit values n (d ∷ ds) =
    grown_by n.objects ((with_declared unit values n d).objects) ((declared_from unit values (with_declared unit values n d) ds).objects)
    (declared_one unit values n d) (declared_grown unit values (with_declared unit values n d) ds)

pub implied_grown : (unit : ℕ) (n : Naming) (us : List Used) → Grown n.objects ((implied_from unit n us).objects)
implied_grown unit n [] = same n.objects
implied_grown unit n (u ∷ us) =
    grown_by n.objects ((with_object unit u.name [] n).objects) ((implied_from unit (with_object unit u.name [] n) us).objects)
    (object_grown unit u.name [] n) (implied_grown unit (with_object unit u.name [] n) us)

-- the dimensions agree with the sort
rank_by : (values : List (List ℕ × ℤ)) (bs : List PBound) → length (map (dim values) bs) ≡ rank_of (Some (sort_by_dimensions (length bs)))
rank_by values [] = refl
rank_by values (b ∷ bs) = ap suc (mapped bs)
  where
    mapped : (xs : List PBound) → length (map (dim values) xs) ≡ length xs
    mapped [] = refl
    mapped (x ∷ xs) = ap suc (mapped xs)

abbrev pub is_there : List (List ℕ × Meaning) → List ℕ → Type 0
is_there names m = is_some (found m names) ≡ true

module _ (F : List Shape) (small : length F ≤ 1024) (shapes : List (List Dim)) (slots : ℕ) where
  abbrev pub os : List object.Object
  os = laid_from 0 F

  abbrev Fit : Option Meaning → Option Sort → Type 0
  Fit = Agrees os shapes slots

  -- a declared name stands for something, and no other does
  abbrev pub Entry : Option Meaning → Option Sort → Type 0
  Entry None None = Unit {0}
  Entry None (Some sort) = ⊥
  Entry (Some m) None = ⊥
  Entry (Some m) (Some sort) = Fit (Some m) (Some sort)

  abbrev pub Locked : List (List ℕ × Meaning) → List (List ℕ × Sort) → Type 0
  Locked names sorts = (m : List ℕ) → Entry (found m names) (found m sorts)

  -- the next object is where it is put
  new_fits : (xs rest : List Shape) (sh : Shape) (sort : Option Sort) → F ≡ (xs ++ sh ∷ []) ++ rest → length sh.dims ≡ rank_of sort
      → Fit (Some (meaning.Variable (Object (numbered (length xs))))) sort
  new_fits xs rest sh sort e h =
      let flat : F ≡ xs ++ sh ∷ rest = e ∙ append_assoc xs (sh ∷ []) rest in
      let count : length F ≡ length xs + suc (length rest) = ap length flat ∙ length-append xs (sh ∷ rest) in
      let number : numbered (length xs) ≡ length xs = numbered_small (length xs) (omega arith) in
      let laid : length os ≡ length F = laid_length 0 F in (
        omega arith,
        ap (λ k. length (dims_in (slice_get os k))) number ∙ ap (λ l. length (dims_in (slice_get (laid_from 0 l) (length xs)))) flat ∙ ap length (laid_dims 0 xs rest sh) ∙ h,
      )

  object_step : (unit : ℕ) (name : List ℕ) (dims : List Dim) (sort : Sort) (n : Naming) (sorts : List (List ℕ × Sort)) (rest : List Shape)
      → F ≡ (with_object unit name dims n).objects ++ rest → length dims ≡ rank_of (Some sort) → Locked n.names sorts → Locked ((with_object unit name dims n).names) (added name sort sorts)
  object_step unit name dims sort n sorts rest e h lk = go (found name n.names) (found name sorts) (lk name) e
    where
      v : Meaning
      v = meaning.Variable (Object (numbered (length n.objects)))

      go : (a : Option Meaning) (b : Option Sort) → Entry a b
          → F ≡ (if is_some a then n else naming (placed name (meaning.Variable (Object (numbered (length n.objects)))) n.names) (n.objects ++ shape unit name dims ∷ [])).objects ++ rest
          → Locked ((if is_some a then n else naming (placed name (meaning.Variable (Object (numbered (length n.objects)))) n.names) (n.objects ++ shape unit name dims ∷ [])).names) (if is_some b then sorts else placed name sort sorts)
      go None None t e = λ m. subst (λ o. Entry o (found m (placed name sort sorts))) (sym (found_placed m name (meaning.Variable (Object (numbered (length n.objects)))) n.names)) (subst (λ o. Entry (if bytes_eq m name then Some (meaning.Variable (Object (numbered (length n.objects)))) else found m n.names) o) (sym (found_placed m name sort sorts)) (pick m (bytes_eq m name)))
        where
          pick : (m : List ℕ) (b : Bool) → Entry (if b then Some (meaning.Variable (Object (numbered (length n.objects)))) else found m n.names) (if b then Some sort else found m sorts)
          pick m true = new_fits n.objects rest (shape unit name dims) (Some sort) e h
          pick m false = lk m
      go None (Some s) t e = absurd t
      go (Some m) None t e = absurd t
      go (Some m) (Some s) t e = lk

  value_step : (name : List ℕ) (x : Option ℤ) (n : Naming) (sorts : List (List ℕ × Sort)) → Locked n.names sorts → Locked ((with_value name x n).names) (added name Parameter sorts)
  value_step name x n sorts lk = both x
    where
      go : (y : ℤ) (a : Option Meaning) (b : Option Sort) → Entry a b → Locked (if is_some a then n.names else placed name (meaning.Number y) n.names) (if is_some b then sorts else placed name Parameter sorts)
      go y None None t = λ m. subst (λ o. Entry o (found m (placed name Parameter sorts))) (sym (found_placed m name (meaning.Number y) n.names)) (subst (λ o. Entry (if bytes_eq m name then Some (meaning.Number y) else found m n.names) o) (sym (found_placed m name Parameter sorts)) (pick m (bytes_eq m name)))
        where
          pick : (m : List ℕ) (b : Bool) → Entry (if b then Some (meaning.Number y) else found m n.names) (if b then Some Parameter else found m sorts)
          pick m true = refl
          pick m false = lk m
      go y None (Some s) t = absurd t
      go y (Some m) None t = absurd t
      go y (Some m) (Some s) t = lk

      both : (x : Option ℤ) → Locked ((with_value name x n).names) (added name Parameter sorts)
      both None = go (pos 0) (found name n.names) (found name sorts) (lk name)
      both (Some y) = go y (found name n.names) (found name sorts) (lk name)

  declared_step : (unit : ℕ) (values : List (List ℕ × ℤ)) (n : Naming) (d : Declares) (sorts : List (List ℕ × Sort)) (rest : List Shape)
      → F ≡ (with_declared unit values n d).objects ++ rest → Locked n.names sorts → Locked ((with_declared unit values n d).names) (added d.named.name (sort_of d) sorts)
  declared_step unit values n d sorts rest e lk = go (is_some d.value) e
    where
      go : (b : Bool) → F ≡ (if b then with_value d.named.name (found d.named.name values) n else with_object unit d.named.name (map (dim values) d.bounds) n).objects ++ rest
          → Locked ((if b then with_value d.named.name (found d.named.name values) n else with_object unit d.named.name (map (dim values) d.bounds) n).names) (added d.named.name (if b then Parameter else sort_by_dimensions (length d.bounds)) sorts)
      go true e = value_step d.named.name (found d.named.name values) n sorts lk
      go false e = object_step unit d.named.name (map (dim values) d.bounds) (sort_by_dimensions (length d.bounds)) n sorts rest e (rank_by values d.bounds) lk

  pub declared_locked : (unit : ℕ) (values : List (List ℕ × ℤ)) (ds : List Declares) (n : Naming) (sorts : List (List ℕ × Sort)) (rest : List Shape)
      → F ≡ (declared_from unit values n ds).objects ++ rest → Locked n.names sorts → Locked ((declared_from unit values n ds).names) (sorts_from sorts ds)
  declared_locked unit values [] n sorts rest e lk = lk
  declared_locked unit values (d ∷ ds) n sorts rest e lk =
      let g : Grown ((with_declared unit values n d).objects) ((declared_from unit values (with_declared unit values n d) ds).objects) = declared_grown unit values (with_declared unit values n d) ds in
      let h : F ≡ (with_declared unit values n d).objects ++ (g.more ++ rest) = e ∙ ap (λ l. l ++ rest) g.is ∙ append_assoc ((with_declared unit values n d).objects) g.more rest in
      declared_locked unit values ds (with_declared unit values n d) (added d.named.name (sort_of d) sorts) rest e (declared_step unit values n d sorts (g.more ++ rest) h lk)

  -- ---- implicit names
  -- a name that stands for something agrees with its declaration, and is a scalar without one
  abbrev pub Half : Option Meaning → Option Sort → Type 0
  Half None None = Unit {0}
  Half None (Some sort) = ⊥
  Half (Some m) sort = Fit (Some m) sort

  half_of : (a : Option Meaning) (b : Option Sort) → Entry a b → Half a b
  half_of None None t = t
  half_of None (Some s) t = t
  half_of (Some m) None t = absurd t
  half_of (Some m) (Some s) t = t

  implied_step : (unit : ℕ) (name : List ℕ) (n : Naming) (sorts : List (List ℕ × Sort)) (rest : List Shape)
      → F ≡ (with_object unit name [] n).objects ++ rest → ((m : List ℕ) → Half (found m n.names) (found m sorts)) → (m : List ℕ) → Half (found m ((with_object unit name [] n).names)) (found m sorts)
  implied_step unit name n sorts rest e lk = go (found name n.names) (found name sorts) refl (lk name) e
    where
      go : (a : Option Meaning) (b : Option Sort) → found name sorts ≡ b → Half a b
          → F ≡ (if is_some a then n else naming (placed name (meaning.Variable (Object (numbered (length n.objects)))) n.names) (n.objects ++ shape unit name [] ∷ [])).objects ++ rest
          → (m : List ℕ) → Half (found m ((if is_some a then n else naming (placed name (meaning.Variable (Object (numbered (length n.objects)))) n.names) (n.objects ++ shape unit name [] ∷ [])).names)) (found m sorts)
      go None None q t e = λ m. subst (λ o. Half o (found m sorts)) (sym (found_placed m name (meaning.Variable (Object (numbered (length n.objects)))) n.names)) (pick m (bytes_eq m name) refl)
        where
          pick : (m : List ℕ) (b : Bool) → bytes_eq m name ≡ b → Half (if b then Some (meaning.Variable (Object (numbered (length n.objects)))) else found m n.names) (found m sorts)
          pick m true r = subst (λ o. Half (Some (meaning.Variable (Object (numbered (length n.objects))))) o) (sym (ap (λ l. found l sorts) ((bytes_eq-Decides m name).0 r) ∙ q)) (new_fits n.objects rest (shape unit name []) None e refl)
          pick m false r = lk m
      go None (Some s) q t e = absurd t
      go (Some m) b q t e = lk

  pub implied_half : (unit : ℕ) (us : List Used) (n : Naming) (sorts : List (List ℕ × Sort)) (rest : List Shape)
      → F ≡ (implied_from unit n us).objects ++ rest → ((m : List ℕ) → Half (found m n.names) (found m sorts)) → (m : List ℕ) → Half (found m ((implied_from unit n us).names)) (found m sorts)
  implied_half unit [] n sorts rest e lk = lk
  implied_half unit (u ∷ us) n sorts rest e lk =
      let g : Grown ((with_object unit u.name [] n).objects) ((implied_from unit (with_object unit u.name [] n) us).objects) = implied_grown unit (with_object unit u.name [] n) us in
      let h : F ≡ (with_object unit u.name [] n).objects ++ (g.more ++ rest) = e ∙ ap (λ l. l ++ rest) g.is ∙ append_assoc ((with_object unit u.name [] n).objects) g.more rest in
      implied_half unit us (with_object unit u.name [] n) sorts rest e (implied_step unit u.name n sorts (g.more ++ rest) h lk)

  pub locked_half : (names : List (List ℕ × Meaning)) (sorts : List (List ℕ × Sort)) → Locked names sorts → (m : List ℕ) → Half (found m names) (found m sorts)
  locked_half names sorts lk m = half_of (found m names) (found m sorts) (lk m)
