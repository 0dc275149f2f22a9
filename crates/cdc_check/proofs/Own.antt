-- The object that a name stands for has that name, so no two names of a unit stand for one object.
use Rattle.std.proofs.Common.{◌≡◌, ℕ, suc, ℤ, ◌+◌, ◌≤◌, Bool, true, false, List, [], ◌∷◌, ◌++◌, map, length, Option, Some, None, refl, ap, sym, subst, ◌∙◌, arith, append_assoc}
use Rattle.std.specs.Prelude.{if◌then◌else◌, is_some, slice_get, pos}
use Rattle.std.specs.Str.{bytes_eq}
use Rattle.std.proofs.lemmas.List.{length-append}
use Rattle.std.proofs.lemmas.Slice.Eq.{bytes_eq-Decides}
use Rattle.cdc_prog.specs.declared.expr.Var.{Var}
use Rattle.cdc_prog.specs.declared.expr.Var.TheVariants.{Object, Dummy, Slot}
use Rattle.cdc_prog.specs.declared.program.Dim.{Dim}
use Rattle.cdc_names.specs.Declarations.{Declares}
use Rattle.cdc_names.specs.Scopes.{PScope}
use Rattle.cdc_names.specs.Table.{found, placed}
use Rattle.cdc_names.specs.Used.{Used}
use Rattle.cdc_names.proofs.Nexts.{found_placed}
use Rattle.cdc_check.specs.declared.meaning.Meaning.{Meaning}
use Rattle.cdc_check.specs.declared.meaning.Meaning.TheVariants as meaning
use Rattle.cdc_check.specs.declared.progress.Shape.{Shape}
use Rattle.cdc_check.specs.Threads.{numbered}
use Rattle.cdc_check.specs.Objects.{dim, Naming, naming, shape, with_object, with_value, with_declared, declared_from, implied_from, named_in}
use Rattle.cdc_check.proofs.Inside.{AreApart}
use Rattle.cdc_check.proofs.Tables.{Grown, numbered_small, declared_grown, implied_grown}

abbrev name_in : Option Shape → Option (List ℕ)
name_in None = None
name_in (Some sh) = Some sh.name

get_at : (xs ys : List Shape) (sh : Shape) → slice_get (xs ++ sh ∷ ys) (length xs) ≡ Some sh
get_at [] ys sh = refl
get_at (x ∷ xs) ys sh = get_at xs ys sh

module _ (F : List Shape) (small : length F ≤ 1024) where
  abbrev IsOwn : List ℕ → Option Meaning → Type 0
  IsOwn m None = Unit {0}
  IsOwn m (Some (meaning.Number x)) = Unit {0}
  IsOwn m (Some (meaning.Variable (Object k))) = name_in (slice_get F k) ≡ Some m
  IsOwn m (Some (meaning.Variable v)) = ⊥

  abbrev pub Owned : List (List ℕ × Meaning) → Type 0
  Owned names = (m : List ℕ) → IsOwn m (found m names)

  new_own : (xs rest : List Shape) (sh : Shape) → F ≡ (xs ++ sh ∷ []) ++ rest → IsOwn sh.name (Some (meaning.Variable (Object (numbered (length xs)))))
  new_own xs rest sh e =
      let flat : F ≡ xs ++ sh ∷ rest = e ∙ append_assoc xs (sh ∷ []) rest in
      let count : length F ≡ length xs + suc (length rest) = ap length flat ∙ length-append xs (sh ∷ rest) in
      let number : numbered (length xs) ≡ length xs = numbered_small (length xs) (omega arith) in
      ap (λ k. name_in (slice_get F k)) number ∙ ap (λ l. name_in (slice_get l (length xs))) flat ∙ ap name_in (get_at xs rest sh)

  object_own : (unit : ℕ) (name : List ℕ) (dims : List Dim) (n : Naming) (rest : List Shape) → F ≡ (with_object unit name dims n).objects ++ rest → Owned n.names → Owned ((with_object unit name dims n).names)
  object_own unit name dims n rest e own = go (is_some (found name n.names)) e
    where
      go : (b : Bool) → F ≡ (if b then n else naming (placed name (meaning.Variable (Object (numbered (length n.objects)))) n.names) (n.objects ++ shape unit name dims ∷ [])).objects ++ rest
          → Owned ((if b then n else naming (placed name (meaning.Variable (Object (numbered (length n.objects)))) n.names) (n.objects ++ shape unit name dims ∷ [])).names)
      go true e = own
      go false e = λ m. subst (IsOwn m) (sym (found_placed m name (meaning.Variable (Object (numbered (length n.objects)))) n.names)) (pick m (bytes_eq m name) refl)
        where
          pick : (m : List ℕ) (b : Bool) → bytes_eq m name ≡ b → IsOwn m (if b then Some (meaning.Variable (Object (numbered (length n.objects)))) else found m n.names)
          pick m true r = subst (λ l. IsOwn l (Some (meaning.Variable (Object (numbered (length n.objects)))))) (sym ((bytes_eq-Decides m name).0 r)) (new_own n.objects rest (shape unit name dims) e)
          pick m false r = own m

  value_own : (name : List ℕ) (x : Option ℤ) (n : Naming) → Owned n.names → Owned ((with_value name x n).names)
  value_own name x n own = both x
    where
      go : (y : ℤ) (b : Bool) → Owned (if b then n.names else placed name (meaning.Number y) n.names)
      go y true = own
      go y false = λ m. subst (IsOwn m) (sym (found_placed m name (meaning.Number y) n.names)) (pick m (bytes_eq m name))
        where
          pick : (m : List ℕ) (b : Bool) → IsOwn m (if b then Some (meaning.Number y) else found m n.names)
          pick m true = tt
          pick m false = own m

      both : (x : Option ℤ) → Owned ((with_value name x n).names)
      both None = go (pos 0) (is_some (found name n.names))
      both (Some y) = go y (is_some (found name n.names))

  declared_one : (unit : ℕ) (values : List (List ℕ × ℤ)) (n : Naming) (d : Declares) (rest : List Shape) → F ≡ (with_declared unit values n d).objects ++ rest → Owned n.names → Owned ((with_declared unit values n d).names)
  declared_one unit values n d rest e own = go (is_some d.value) e
    where
      go : (b : Bool) → F ≡ (if b then with_value d.named.name (found d.named.name values) n else with_object unit d.named.name (map (dim values) d.bounds) n).objects ++ rest
          → Owned ((if b then with_value d.named.name (found d.named.name values) n else with_object unit d.named.name (map (dim values) d.bounds) n).names)
      go true e = value_own d.named.name (found d.named.name values) n own
      go false e = object_own unit d.named.name (map (dim values) d.bounds) n rest e own

  declared_own : (unit : ℕ) (values : List (List ℕ × ℤ)) (ds : List Declares) (n : Naming) (rest : List Shape) → F ≡ (declared_from unit values n ds).objects ++ rest → Owned n.names → Owned ((declared_from unit values n ds).names)
  declared_own unit values [] n rest e own = own
  declared_own unit values (d ∷ ds) n rest e own =
      let g : Grown ((with_declared unit values n d).objects) ((declared_from unit values (with_declared unit values n d) ds).objects) = declared_grown unit values (with_declared unit values n d) ds in
      let h : F ≡ (with_declared unit values n d).objects ++ (g.more ++ rest) = e ∙ ap (λ l. l ++ rest) g.is ∙ append_assoc ((with_declared unit values n d).objects) g.more rest in
      declared_own unit values ds (with_declared unit values n d) rest e (declared_one unit values n d (g.more ++ rest) h own)

  implied_own : (unit : ℕ) (us : List Used) (n : Naming) (rest : List Shape) → F ≡ (implied_from unit n us).objects ++ rest → Owned n.names → Owned ((implied_from unit n us).names)
  implied_own unit [] n rest e own = own
  implied_own unit (u ∷ us) n rest e own =
      let g : Grown ((with_object unit u.name [] n).objects) ((implied_from unit (with_object unit u.name [] n) us).objects) = implied_grown unit (with_object unit u.name [] n) us in
      let h : F ≡ (with_object unit u.name [] n).objects ++ (g.more ++ rest) = e ∙ ap (λ l. l ++ rest) g.is ∙ append_assoc ((with_object unit u.name [] n).objects) g.more rest in
      implied_own unit us (with_object unit u.name [] n) rest e (object_own unit u.name [] n (g.more ++ rest) h own)

  pub named_own : (number : ℕ) (s : PScope) (objects rest : List Shape) → F ≡ (named_in number s objects).objects ++ rest → Owned ((named_in number s objects).names)
  named_own number s objects rest e =
      let d : Naming = declared_from number s.values (naming [] objects) s.declarations in
      let g : Grown d.objects ((implied_from number d s.uses).objects) = implied_grown number d s.uses in
      let h : F ≡ d.objects ++ (g.more ++ rest) = e ∙ ap (λ l. l ++ rest) g.is ∙ append_assoc d.objects g.more rest in
      implied_own number s.uses d rest e (declared_own number s.values s.declarations (naming [] objects) (g.more ++ rest) h (λ m. tt))

  -- one variable is of one name
  one_name : (v : Var) (m n : List ℕ) → IsOwn m (Some (meaning.Variable v)) → IsOwn n (Some (meaning.Variable v)) → m ≡ n
  one_name (Object k) m n f g = let same : Some m ≡ Some n = sym f ∙ g in cc
  one_name (Dummy k) m n f g = absurd f
  one_name (Slot k) m n f g = absurd f

  distinct : (names : List (List ℕ × Meaning)) → Owned names → (m n : List ℕ) (v : Var) → found m names ≡ Some (meaning.Variable v) → found n names ≡ Some (meaning.Variable v) → m ≡ n
  distinct names own m n v e f = one_name v m n (subst (IsOwn m) e (own m)) (subst (IsOwn n) f (own n))

  pub apart : (names : List (List ℕ × Meaning)) → Owned names → AreApart names
  apart names own = record { one = distinct names own; no_slot = λ m k e. subst (IsOwn m) e (own m) }
