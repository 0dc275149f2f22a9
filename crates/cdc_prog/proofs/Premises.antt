-- Which examples keep the premises.
use Rattle.std.proofs.Common.{rules, ◌≡◌, ◌≢◌, ◌⊎◌, inl, inr, ℕ, zero, suc, ℤ, pos, true, false, List, [], ◌∷◌, map, get_or, Ok, Err, refl, sym, ap, ◌∙◌, subst, arith}
use Rattle.std.specs.List.{Any}
use Rattle.cdc_prog.specs.declared.expr.Var.{Var}
use Rattle.cdc_prog.specs.declared.expr.Var.TheVariants as var
use Rattle.cdc_prog.specs.declared.program.Dummy.{Dummy}
use Rattle.cdc_prog.specs.Plain.{Scalar, Actual, Whole, Skip, Seq}
use Rattle.cdc_prog.specs.declared.expr.BinOp.TheVariants.{Add}
use Rattle.cdc_prog.specs.Value.{Got, binary}
use Rattle.cdc_prog.specs.Data.{Store, zeros, Binding, object_of}
use Rattle.cdc_prog.specs.Process.{Process, Save, Join, or_fail}
use Rattle.cdc_prog.specs.Alone.{accesses, ending}
use Rattle.cdc_prog.specs.Apart.{Touches, Writes, AreApart, IsApart}
use Rattle.cdc_prog.specs.Units.{body_of, binding_of, process_of}
use Rattle.cdc_prog.specs.Uses.{ActualMentions, Uses, Stores, HasCall, Itself, MayStore, TellsWritten}
use Rattle.cdc_prog.specs.Paths.{passed_var, IsUnder, Denotes}
use Rattle.cdc_prog.specs.Premises.{StoresAlone, KeepsLoopVariables, IsUnaliased}
use Rattle.cdc_prog.specs.Sameness.{AreSame}
use Rattle.cdc_prog.proofs.Alone.{writes_touches}
use Rattle.cdc_prog.proofs.Lists.{any_none, any_first}
use Rattle.cdc_prog.specs.Examples.{first_loop, ref, print, one_to, iterations, rest_of_fork, least, largest, own, met, overwritten, overwritten_by_call, swapped, aliased, untold, next_at, next_turned}

-- ---- DOALL bodies
pub least_stores_alone : StoresAlone least
least_stores_alone zero = search rules
least_stores_alone (suc u) = tt

pub met_stores_in_one : StoresAlone met → ⊥
met_stores_in_one h = (h 0).0.0

-- ---- DO variables
-- a body that prints stores in nothing
prints_alone : MayStore largest (var.Object 0) (Seq (print 3 (Scalar (ref 2 (var.Object 0)) ∷ [])) Skip) → ⊥
prints_alone (inl (inl h)) = h
prints_alone (inl (inr h)) = h
prints_alone (inr (k, number, u, w, actuals, is, inl has, reaches, stores)) = has
prints_alone (inr (k, number, u, w, actuals, is, inr has, reaches, stores)) = has

pub largest_keeps : KeepsLoopVariables largest
largest_keeps zero = ((prints_alone, (tt, tt)), tt)
largest_keeps (suc u) = tt

pub overwritten_keeps_not : KeepsLoopVariables overwritten → ⊥
overwritten_keeps_not h = (h 0).0.0 (inl (inl refl))

pub by_call_keeps_not : KeepsLoopVariables overwritten_by_call → ⊥
by_call_keeps_not h = (h 0).0.0 (inr (0, 1, 1, 1, [], refl, inl (refl, refl, refl), Itself 1, inl refl))

-- ---- equal trees
pub next_same : AreSame (next_at 1) (next_at 5)
next_same = refl

pub turned_not_same : AreSame (next_at 1) next_turned → ⊥
turned_not_same e = cc

-- ---- aliases
pub aliased_is : IsUnaliased aliased → ⊥
aliased_is h =
    h (1 ∷ []) 1 (0 ∷ 0 ∷ []) (var.Dummy 0) (var.Dummy 1) 0
    (0, [], Whole (var.Object 0) ∷ Whole (var.Object 0) ∷ [], (refl, refl), inl (refl, refl, refl), refl)
    (inl (inl (inl refl))) (inl (inr (inl refl))) (λ e. cc) (inl refl) refl refl

abbrev passes : (path : List ℕ) (caller : ℕ) (outer : List ℕ) → Actual → ℕ
passes path caller outer a = object_of (binding_of swapped path caller outer) (passed_var a)

under_swapped : (path : List ℕ) (u : ℕ) (bound : List ℕ) → IsUnder swapped path u bound → (u ≡ 0) ⊎ ((u ≡ 1) × ((bound ≡ 0 ∷ 1 ∷ []) ⊎ (bound ≡ 1 ∷ 0 ∷ [])))
under_swapped [] u bound h = inl h.0
under_swapped (n ∷ path) u bound (caller, outer, actuals, under, has, is) = go (under_swapped path caller outer under)
  where
    called : HasCall n u actuals (body_of swapped 0) → (u ≡ 0) ⊎ ((u ≡ 1) × ((bound ≡ 0 ∷ 1 ∷ []) ⊎ (bound ≡ 1 ∷ 0 ∷ [])))
    called (inl h) = inr (sym h.1, inl (is ∙ ap (map (passes path caller outer)) (sym h.2)))
    called (inr (inl h)) = inr (sym h.1, inr (is ∙ ap (map (passes path caller outer)) (sym h.2)))
    called (inr (inr h)) = absurd h

    none : HasCall n u actuals (body_of swapped 1) → ⊥
    none (inl h) = h
    none (inr h) = h

    go : (caller ≡ 0) ⊎ ((caller ≡ 1) × ((outer ≡ 0 ∷ 1 ∷ []) ⊎ (outer ≡ 1 ∷ 0 ∷ []))) → (u ≡ 0) ⊎ ((u ≡ 1) × ((bound ≡ 0 ∷ 1 ∷ []) ⊎ (bound ≡ 1 ∷ 0 ∷ [])))
    go (inl e) = called (subst (λ c. HasCall n u actuals (body_of swapped c)) e has)
    go (inr e) = absurd (none (subst (λ c. HasCall n u actuals (body_of swapped c)) e.0 has))

abbrev IsObject : Var → Type 0
IsObject v = (i : ℕ) × (var.Object i ≡ v)

abbrev ActualUses : Var → Actual → Type 0
ActualUses v = ActualMentions (λ at. at.var ≡ v) (λ w. w ≡ v)

actual_object : (i j : ℕ) (v : Var) → Any (ActualUses v) (Whole (var.Object i) ∷ Whole (var.Object j) ∷ []) → IsObject v
actual_object i j v h = go (any_first (ActualUses v) (Whole (var.Object i)) (Whole (var.Object j) ∷ []) h)
  where
    last : (var.Object j ≡ v) ⊎ Any (ActualUses v) [] → IsObject v
    last (inl e) = (j, e)
    last (inr h) = absurd (any_none (ActualUses v) h)

    go : (var.Object i ≡ v) ⊎ Any (ActualUses v) (Whole (var.Object j) ∷ []) → IsObject v
    go (inl e) = (i, e)
    go (inr h) = last (any_first (ActualUses v) (Whole (var.Object j)) [] h)

main_object : (v : Var) → Uses v (body_of swapped 0) → IsObject v
main_object v (inl h) = actual_object 0 1 v h
main_object v (inr (inl h)) = actual_object 1 0 v h
main_object v (inr (inr h)) = absurd h

one_object : (b : Binding) (v w : Var) (k : ℕ) → IsObject v → IsObject w → Denotes b v k → Denotes b w k → v ≡ w
one_object b v w k (i, e) (j, f) d g =
    let first : i ≡ k = subst (λ x. Denotes b x k) (sym e) d in
    let second : j ≡ k = subst (λ x. Denotes b x k) (sym f) g in
    sym e ∙ ap var.Object (first ∙ sym second) ∙ f

moved_or : (v : Var) → Uses v (body_of swapped 1) → (var.Dummy 0 ≡ v) ⊎ (var.Dummy 1 ≡ v)
moved_or v (inl (inl (inl e))) = inl e
moved_or v (inl (inl (inr (inl h)))) = absurd h
moved_or v (inl (inl (inr (inr h)))) = absurd h
moved_or v (inl (inr (inl e))) = inr e
moved_or v (inl (inr (inr (inl h)))) = absurd h
moved_or v (inl (inr (inr (inr h)))) = absurd h
moved_or v (inr h) = absurd h

stored : (v : Var) → Stores swapped v (body_of swapped 1) → var.Dummy 0 ≡ v
stored v (inl e) = e
stored v (inr h) = absurd h

two_objects : (bound : List ℕ) (k : ℕ) → (bound ≡ 0 ∷ 1 ∷ []) ⊎ (bound ≡ 1 ∷ 0 ∷ []) → get_or bound 0 0 ≡ k → get_or bound 1 0 ≡ k → ⊥
two_objects bound k (inl e) f g = let first = ap (λ l. get_or l 0 0) e in let second = ap (λ l. get_or l 1 0) e in omega (arith, first, second, f, g)
two_objects bound k (inr e) f g = let first = ap (λ l. get_or l 0 0) e in let second = ap (λ l. get_or l 1 0) e in omega (arith, first, second, f, g)

pub swapped_unaliased : IsUnaliased swapped
swapped_unaliased path u bound v w k under uses also ne stores d g = go (under_swapped path u bound under)
  where
    moved : (u ≡ 1) × ((bound ≡ 0 ∷ 1 ∷ []) ⊎ (bound ≡ 1 ∷ 0 ∷ [])) → (var.Dummy 0 ≡ w) ⊎ (var.Dummy 1 ≡ w) → ⊥
    moved h (inl e) = ne (sym (stored v (subst (λ x. Stores swapped v (body_of swapped x)) h.0 stores)) ∙ e)
    moved h (inr e) =
        let first = subst (λ x. Denotes (binding_of swapped path u bound) x k) (sym (stored v (subst (λ x. Stores swapped v (body_of swapped x)) h.0 stores))) d in
        let second = subst (λ x. Denotes (binding_of swapped path u bound) x k) (sym e) g in
        two_objects bound k h.1 first second

    go : (u ≡ 0) ⊎ ((u ≡ 1) × ((bound ≡ 0 ∷ 1 ∷ []) ⊎ (bound ≡ 1 ∷ 0 ∷ []))) → ⊥
    go (inl e) =
        ne (one_object (binding_of swapped path u bound) v w k (main_object v (subst (λ x. Uses v (body_of swapped x)) e uses)) (main_object w (subst (λ x. Uses w (body_of swapped x)) e also)) d g)
    go (inr h) = moved h (moved_or w (subst (λ x. Uses w (body_of swapped x)) h.0 also))

-- ---- dummies that are written
pub moves_tells : TellsWritten swapped
moves_tells zero k d is stores = cc
moves_tells (suc zero) zero d is stores =
    let first : record { name = []; dims = one_to 2; written = true } ≡ d = cc in sym (ap (λ (e : Dummy). e.written) first)
moves_tells (suc zero) (suc k) d is (inl e) = cc
moves_tells (suc zero) (suc k) d is (inr h) = absurd h
moves_tells (suc (suc u)) k d is stores = cc

pub untold_tells_not : TellsWritten untold → ⊥
untold_tells_not h = let told = h 1 0 (record { name = []; dims = one_to 2; written = false }) refl (inl refl) in cc

-- ---- forks
apart_two : (body : ℕ → Process) (s : Store) → ((w : ℕ) → Writes (accesses (body 0) s) w → Touches (accesses (body 1) s) w → ⊥) → ((w : ℕ) → Writes (accesses (body 1) s) w → Touches (accesses (body 0) s) w → ⊥) → AreApart 2 body s
apart_two body s f g zero zero w li lj ne h k = absurd (ne refl)
apart_two body s f g zero (suc zero) w li lj ne h k = f w h k
apart_two body s f g (suc zero) zero w li lj ne h k = g w h k
apart_two body s f g (suc zero) (suc zero) w li lj ne h k = absurd (ne refl)
apart_two body s f g (suc (suc i)) j w li lj ne h k = absurd (omega (arith, li))
apart_two body s f g zero (suc (suc j)) w li lj ne h k = absurd (omega (arith, lj))
apart_two body s f g (suc zero) (suc (suc j)) w li lj ne h k = absurd (omega (arith, lj))

-- a value is stored in a word, or a fault stands in its place
stored_at : (line : ℕ) (path : List ℕ) (site x : ℕ) (g : Got ℤ) (s : Store) (w : ℕ) → Touches (accesses (or_fail line g (λ v. Save path site x v Join)) s) w → x ≡ w
stored_at line path site x (Ok v) s w (inl e) = e
stored_at line path site x (Ok v) s w (inr h) = absurd h
stored_at line path site x (Err kind) s w h = absurd h

-- an element is read, and a value is stored in it
raised_at : (line : ℕ) (path : List ℕ) (site x : ℕ) (g : Got ℤ) (s : Store) (w : ℕ) → (x ≡ w) ⊎ Touches (accesses (or_fail line g (λ v. Save path site x v Join)) s) w → x ≡ w
raised_at line path site x g s w (inl e) = e
raised_at line path site x g s w (inr h) = stored_at line path site x g s w h

-- a word that is written is none of two others
turned_around : (x y z w : ℕ) → x ≡ w → x ≢ y → x ≢ z → (y ≡ w) ⊎ ((z ≡ w) ⊎ ⊥) → ⊥
turned_around x y z w e f g (inl h) = f (e ∙ sym h)
turned_around x y z w e f g (inr (inl h)) = g (e ∙ sym h)
turned_around x y z w e f g (inr (inr h)) = h

-- the iterations of the first loop, which comes on any store
abbrev own_first : Store → ℕ → Process
own_first s = iterations (ending (process_of own []) s)

pub own_is_apart : IsApart (process_of own [])
own_is_apart s = (
  apart_two (own_first s) s
      (λ w h k.
      let a = raised_at 4 [] 2 0 (binary Add (s 0) (pos 1)) s w (writes_touches (accesses (own_first s 0) s) w h) in
      let b = raised_at 4 [] 2 1 (binary Add (s 1) (pos 2)) s w k in
      absurd (omega (arith, a, b)))
      (λ w h k.
      let a = raised_at 4 [] 2 1 (binary Add (s 1) (pos 2)) s w (writes_touches (accesses (own_first s 1) s) w h) in
      let b = raised_at 4 [] 2 0 (binary Add (s 0) (pos 1)) s w k in
      absurd (omega (arith, a, b))),
  λ t. (
    apart_two (iterations (ending (rest_of_fork (ending (process_of own []) s)) t)) t
        (λ w h k. elim h [ inl e ↦ turned_around 2 0 3 w e (omega arith) (omega arith) k | inr g ↦ absurd g ])
        (λ w h k. elim h [ inl e ↦ turned_around 3 1 2 w e (omega arith) (omega arith) k | inr g ↦ absurd g ]),
    λ u. tt,
  ),
)

pub own_apart : AreApart 2 (first_loop own) zeros
own_apart = (own_is_apart zeros).0

pub met_is_not_apart : IsApart (process_of met []) → ⊥
met_is_not_apart h = (h zeros).0 0 1 0 (omega arith) (omega arith) (λ e. cc) (inl refl) (inl refl)
