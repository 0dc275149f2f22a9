-- What is shown stands first.
use Rattle.std.proofs.Common.{◌≡◌, ◌⊎◌, inl, inr, Bool, true, false, List, [], ◌∷◌, ◌++◌, map, Option, Some, None, refl, sym, subst, append_assoc, arith}
use Rattle.std.proofs.lemmas.List.{append-nil}
use Rattle.std.specs.Prelude.{ℕ, ℤ, not, ◌||◌, ◌&&◌, if◌then◌else◌}
use Rattle.cdc_base.specs.declared.place.Place.{Place}
use Rattle.cdc_tree.specs.declared.tree.Named.{Named}
use Rattle.cdc_tree.specs.Forms.{PBound}
use Rattle.cdc_names.specs.declared.name_use.Role.{Role}
use Rattle.cdc_names.specs.Declarations.{Declares}
use Rattle.cdc_names.specs.DoallBodies.{misplaced, body_inside, doall_body_in}
use Rattle.cdc_names.specs.DoVariables.{opened_after, spoiled, spoiled_from, do_variable_in}
use Rattle.cdc_names.specs.Duplicates.{before_pair, sooner_pair, twice, first_pair, name_lists}
use Rattle.cdc_names.specs.NotConstant.{not_constant, optional_not_constant, bound_not_constant, declares_no_constant, not_constants}
use Rattle.cdc_names.specs.Places.{before, sooner, first_of, joined}
use Rattle.cdc_names.specs.Privates.{shared, shared_from, not_private_in}
use Rattle.cdc_names.specs.Scopes.{PScope, known_after}
use Rattle.cdc_names.specs.Shapes.{misused, misshapen, shape_in}
use Rattle.cdc_names.specs.Undeclared.{undeclared, undeclared_in}
use Rattle.cdc_names.specs.Used.{Used}
use Rattle.cdc_names.specs.Firsts.{Finds, IsFirst, undeclareds, bound_faults, declares_faults, constant_faults, shape_faults, spoils, misfits, shares, FirstsStandFirst}

found_more : {P : Type 0} (os qs : List (Option P)) (p : P) → Finds (os ++ qs) p → Finds os p ⊎ Finds qs p
found_more [] qs p f = inr f
found_more (o ∷ os) qs p (inl e) = inl (inl e)
found_more (o ∷ os) qs p (inr f) = elim (found_more os qs p f) [ inl g ↦ inl (inr g) | inr g ↦ inr g ]

found_left : {P : Type 0} (os qs : List (Option P)) (p : P) → Finds os p → Finds (os ++ qs) p
found_left [] qs p f = absurd f
found_left (o ∷ os) qs p (inl e) = inl e
found_left (o ∷ os) qs p (inr f) = inr (found_left os qs p f)

found_right : {P : Type 0} (os qs : List (Option P)) (p : P) → Finds qs p → Finds (os ++ qs) p
found_right [] qs p f = f
found_right (o ∷ os) qs p f = inr (found_right os qs p f)

-- an order, and which of two is the sooner by it
pub record Orders {P : Type 0} (before : P → P → Bool) (sooner : Option P → Option P → Option P) : Type 0 where
  irreflexive : (p : P) → before p p ≡ false
  asymmetric : (p q : P) → before q p ≡ true → before p q ≡ false
  transitive : (p q r : P) → before q p ≡ false → before r q ≡ false → before r p ≡ false
  none : (b : Option P) → sooner None b ≡ b
  some : (p : P) → sooner (Some p) None ≡ Some p
  both : (p q : P) → sooner (Some p) (Some q) ≡ (if before q p then Some q else Some p)

module _ {P : Type 0} (before : P → P → Bool) (sooner : Option P → Option P → Option P) (order : Orders before sooner) where
  -- the first of two lists is the sooner of their firsts
  pub first_append : (os qs : List (Option P)) (a b : Option P) → IsFirst before os a → IsFirst before qs b → IsFirst before (os ++ qs) (sooner a b)
  first_append os qs None None f g = subst (IsFirst before (os ++ qs)) (sym (order.none None)) (λ p h. elim (found_more os qs p h) [ inl x ↦ f p x | inr x ↦ g p x ])
  first_append os qs None (Some q) f g =
      subst (IsFirst before (os ++ qs)) (sym (order.none (Some q)))
      (found_right os qs q g.0, λ p h. elim (found_more os qs p h) [ inl x ↦ absurd (f p x) | inr x ↦ g.1 p x ])
  first_append os qs (Some p) None f g =
      subst (IsFirst before (os ++ qs)) (sym (order.some p))
      (found_left os qs p f.0, λ r h. elim (found_more os qs r h) [ inl x ↦ f.1 r x | inr x ↦ absurd (g r x) ])
  first_append os qs (Some p) (Some q) f g = subst (IsFirst before (os ++ qs)) (sym (order.both p q)) (choose (before q p) refl)
    where
      choose : (b : Bool) → before q p ≡ b → IsFirst before (os ++ qs) (if b then Some q else Some p)
      choose true h = (
        found_right os qs q g.0,
        λ r k. elim (found_more os qs r k) [ inl x ↦ order.transitive q p r (order.asymmetric p q h) (f.1 r x) | inr x ↦ g.1 r x ],
      )
      choose false h = (
        found_left os qs p f.0,
        λ r k. elim (found_more os qs r k) [ inl x ↦ f.1 r x | inr x ↦ order.transitive p q r h (g.1 r x) ],
      )

  pub first_one : (o : Option P) → IsFirst before (o ∷ []) o
  first_one None = λ p f. none_found p f
    where
      none_found : (p : P) → Finds (None ∷ []) p → ⊥
      none_found p (inl e) = cc
      none_found p (inr f) = f
  first_one (Some p) = (inl refl, λ q f. same q f)
    where
      same : (q : P) → Finds (Some p ∷ []) q → before q p ≡ false
      same q (inl e) = let is : p ≡ q = cc in subst (λ (r : P). before r p ≡ false) is (order.irreflexive p)
      same q (inr f) = absurd f

-- ---- places

places : Orders before sooner
places = record {
  irreflexive = λ p. itself p;
  asymmetric = λ p q h. other p q h;
  transitive = λ p q r h k. further p q r h k;
  none = λ b. refl;
  some = λ p. refl;
  both = λ p q. refl;
}
  where
    itself : (p : Place) → before p p ≡ false
    itself p = grind arith

    other : (p q : Place) → before q p ≡ true → before p q ≡ false
    other p q h = grind arith

    further : (p q r : Place) → before q p ≡ false → before r q ≡ false → before r p ≡ false
    further p q r h k = grind arith

append_place : (os qs : List (Option Place)) (a b : Option Place) → IsFirst before os a → IsFirst before qs b → IsFirst before (os ++ qs) (sooner a b)
append_place = first_append before sooner places

one_place : (o : Option Place) → IsFirst before (o ∷ []) o
one_place = first_one before sooner places

nothing : IsFirst before [] None
nothing = λ p f. f

pub first_map : {A : Type 0} (f : A → Option Place) (xs : List A) → IsFirst before (map f xs) (first_of f xs)
first_map f [] = nothing
first_map f (x ∷ xs) = append_place (f x ∷ []) (map f xs) (f x) (first_of f xs) (one_place (f x)) (first_map f xs)

-- the same where each item has several places
pub first_joined : {A : Type 0} (found : A → List (Option Place)) (first : A → Option Place) → ((x : A) → IsFirst before (found x) (first x)) → (xs : List A)
    → IsFirst before (joined (map found xs)) (first_of first xs)
first_joined found first is [] = nothing
first_joined found first is (x ∷ xs) = append_place (found x) (joined (map found xs)) (first x) (first_of first xs) (is x) (first_joined found first is xs)

first_bound : (values : List (List ℕ × ℤ)) (b : PBound) → IsFirst before (bound_faults values b) (bound_not_constant values b)
first_bound values b =
    append_place (optional_not_constant values b.0 ∷ []) (not_constant values b.1 ∷ []) (optional_not_constant values b.0) (not_constant values b.1)
    (one_place (optional_not_constant values b.0)) (one_place (not_constant values b.1))

first_declares : (values : List (List ℕ × ℤ)) (d : Declares) → IsFirst before (declares_faults values d) (declares_no_constant values d)
first_declares values d =
    append_place (joined (map (bound_faults values) d.bounds)) (optional_not_constant values d.value ∷ []) (first_of (bound_not_constant values) d.bounds) (optional_not_constant values d.value)
    (first_joined (bound_faults values) (bound_not_constant values) (first_bound values) d.bounds) (one_place (optional_not_constant values d.value))

first_constants : (values : List (List ℕ × ℤ)) (ds : List Declares) → IsFirst before (constant_faults values ds) (not_constants values ds)
first_constants values [] = nothing
first_constants values (d ∷ ds) =
    append_place (declares_faults values d) (constant_faults (known_after values d) ds) (declares_no_constant values d) (not_constants (known_after values d) ds)
    (first_declares values d) (first_constants (known_after values d) ds)

first_shapes : (s : PScope) → IsFirst before (shape_faults s) (shape_in s)
first_shapes s =
    append_place (map (misused s) s.uses) (map (misshapen s.values) s.declarations) (first_of (misused s) s.uses) (first_of (misshapen s.values) s.declarations)
    (first_map (misused s) s.uses) (first_map (misshapen s.values) s.declarations)

first_spoils : (os : List (List ℕ × Role)) (us : List Used) → IsFirst before (spoils os us) (spoiled_from os us)
first_spoils os [] = nothing
first_spoils os (u ∷ us) =
    append_place (spoiled os u ∷ []) (spoils (opened_after os u.role u.name) us) (spoiled os u) (spoiled_from (opened_after os u.role u.name) us)
    (one_place (spoiled os u)) (first_spoils (opened_after os u.role u.name) us)

first_shares : (os : List (List ℕ × Role)) (us : List Used) → IsFirst before (shares os us) (shared_from os us)
first_shares os [] = nothing
first_shares os (u ∷ us) =
    append_place (shared os u ∷ []) (shares (opened_after os u.role u.name) us) (shared os u) (shared_from (opened_after os u.role u.name) us)
    (one_place (shared os u)) (first_shares (opened_after os u.role u.name) us)

-- ---- pairs of places

place_further : (p q r : Place) → before q p ≡ false → before r q ≡ false → before r p ≡ false
place_further p q r h k = grind arith

sooner_still : (p q r : Place) → before p q ≡ true → before r q ≡ false → before p r ≡ true
sooner_still p q r h k = grind arith

sooner_then : (p q r : Place) → before q p ≡ false → before q r ≡ true → before p r ≡ true
sooner_then p q r h k = grind arith

-- a pair is not before another
abbrev NotBefore : Place × Place → Place × Place → Type 0
NotBefore q p = (before q.0 p.0 ≡ false) × ((before p.0 q.0 ≡ true) ⊎ (before q.1 p.1 ≡ false))

apart : (a b c : Bool) → (a || (not b && c)) ≡ false → (a ≡ false) × ((b ≡ true) ⊎ (c ≡ false))
apart true b c h = absurd cc
apart false true c h = (refl, inl refl)
apart false false c h = (refl, inr h)

together : (a b c : Bool) → a ≡ false → (b ≡ true) ⊎ (c ≡ false) → (a || (not b && c)) ≡ false
together true b c e f = absurd cc
together false true c e f = refl
together false false c e (inl f) = absurd cc
together false false c e (inr f) = f

later_pair : (p q r : Place × Place) → NotBefore q p → NotBefore r q → (before p.0 r.0 ≡ true) ⊎ (before r.1 p.1 ≡ false)
later_pair p q r h k = go h.1 k.1
  where
    go : (before p.0 q.0 ≡ true) ⊎ (before q.1 p.1 ≡ false) → (before q.0 r.0 ≡ true) ⊎ (before r.1 q.1 ≡ false) → (before p.0 r.0 ≡ true) ⊎ (before r.1 p.1 ≡ false)
    go (inl x) y = inl (sooner_still p.0 q.0 r.0 x k.0)
    go (inr x) (inl y) = inl (sooner_then p.0 q.0 r.0 h.0 y)
    go (inr x) (inr y) = inr (place_further p.1 q.1 r.1 x y)

pairs : Orders before_pair sooner_pair
pairs = record {
  irreflexive = λ p. itself p;
  asymmetric = λ p q h. other p q h;
  transitive = λ p q r h k. further p q r h k;
  none = λ b. refl;
  some = λ p. refl;
  both = λ p q. refl;
}
  where
    itself : (p : Place × Place) → before_pair p p ≡ false
    itself p = grind arith

    other : (p q : Place × Place) → before_pair q p ≡ true → before_pair p q ≡ false
    other p q h = grind arith

    further : (p q r : Place × Place) → before_pair q p ≡ false → before_pair r q ≡ false → before_pair r p ≡ false
    further p q r h k =
        let f : NotBefore q p = apart (before q.0 p.0) (before p.0 q.0) (before q.1 p.1) h in
        let g : NotBefore r q = apart (before r.0 q.0) (before q.0 r.0) (before r.1 q.1) k in
        together (before r.0 p.0) (before p.0 r.0) (before r.1 p.1) (place_further p.0 q.0 r.0 f.0 g.0) (later_pair p q r f g)

first_pairs : (known : List (Option (Place × Place))) (best : Option (Place × Place)) (lists : List (List Named)) → IsFirst before_pair known best → IsFirst before_pair (known ++ map twice lists) (first_pair best lists)
first_pairs known best [] is = subst (λ (l : List (Option (Place × Place))). IsFirst before_pair l best) (sym (append-nil known)) is
first_pairs known best (names ∷ lists) is =
    subst (λ (l : List (Option (Place × Place))). IsFirst before_pair l (first_pair (sooner_pair best (twice names)) lists)) (append_assoc known (twice names ∷ []) (map twice lists))
    (first_pairs (known ++ twice names ∷ []) (sooner_pair best (twice names)) lists
    (first_append before_pair sooner_pair pairs known (twice names ∷ []) best (twice names) is (first_one before_pair sooner_pair pairs (twice names))))

-- ---- the law

pub stand_first : FirstsStandFirst
stand_first = record {
  undeclared = first_joined undeclareds undeclared_in (λ s. first_map (undeclared s) s.uses);
  duplicate = λ us. first_pairs [] None (name_lists us) (λ p f. f);
  not_constant = first_joined (λ s. constant_faults [] s.declarations) (λ s. not_constants [] s.declarations) (λ s. first_constants [] s.declarations);
  shape = first_joined shape_faults shape_in first_shapes;
  do_variable = first_joined (λ s. spoils [] s.uses) do_variable_in (λ s. first_spoils [] s.uses);
  doall_body = first_joined misfits doall_body_in (λ u. first_map misplaced (body_inside u.body));
  not_private = first_joined (λ s. shares [] s.uses) not_private_in (λ s. first_shares [] s.uses);
}
