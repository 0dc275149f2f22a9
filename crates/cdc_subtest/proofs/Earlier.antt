-- A reference that is like an earlier one fails with no later one.
use Rattle.std.proofs.Common.{◌≡◌, ℕ, suc, ◌+◌, ◌<◌, Bool, true, false, if◌then◌else◌, List, [], ◌∷◌, ◌++◌, map, take, drop, length, get_or, inl, inr, ℤ, ◌-ℤ◌, Option, Some, None, refl, sym, ap, ap₂, ◌∙◌, subst, arith}
use Rattle.std.specs.Prelude.{◌&&◌, ◌||◌, not}
use Rattle.std.proofs.Math.Seq.{drop-cons}
use Rattle.std.proofs.lemmas.List.{take_more, map-append}
use Rattle.cdc_base.specs.declared.place.Place.{Place}
use Rattle.cdc_num.specs.declared.interval.Interval.{Interval}
use Rattle.cdc_prog.specs.declared.expr.Var.{Var}
use Rattle.cdc_prog.specs.declared.affine.Term.{Term}
use Rattle.cdc_prog.specs.Affine.{same_var}
use Rattle.cdc_prog.specs.Dependence.{same_number, same_terms, failing_with, or_first, first_failing}
use Rattle.std.proofs.lemmas.Int.{ints}
use Rattle.cdc_affine.proofs.Worth.{and_true}
use Rattle.cdc_subtest.specs.declared.references.Reference.{Reference}
use Rattle.cdc_subtest.specs.Sketches.{Glance, some_apart}
use Rattle.cdc_subtest.specs.Seen.{Seen, seen_of, pair_fails, places_of, IsLike, HasLike, ArePassed}
use Rattle.cdc_subtest.proofs.Apart.{is_zero_of, same_var_of}

-- ---- equal forms
number_of : (a b : ℤ) → same_number a b ≡ true → a ≡ b
number_of a b e = let z = is_zero_of (a -ℤ b) e in omega (arith, ints)

abbrev term : Var → ℤ → Term
term v n = record { var = v; times = n }

pub terms_of : (ts us : List Term) → same_terms ts us ≡ true → ts ≡ us
terms_of [] [] e = refl
terms_of [] (u ∷ us) e = cc
terms_of (t ∷ ts) [] e = cc
terms_of (t ∷ ts) (u ∷ us) e =
    let p = and_true (same_var t.var u.var && same_number t.times u.times) (same_terms ts us) e in
    let q = and_true (same_var t.var u.var) (same_number t.times u.times) p.0 in
    let var : t.var ≡ u.var = same_var_of t.var u.var q.0 in
    let times : t.times ≡ u.times = number_of t.times u.times q.1 in
    let one : t ≡ u = ap₂ term var times in
    ap₂ (λ x xs. x ∷ xs) one (terms_of ts us p.1)

abbrev glance : List Term → Bool → ℕ → Option Interval → ℤ → Option Interval → ℤ → Glance
glance still steady common whole own others rest = record { still = still; steady = steady; common = common; whole = whole; own = own; others = others; rest = rest }

pub glances_are : (x y : Glance) → x.rest ≡ y.rest → x.own ≡ y.own → x.steady ≡ y.steady → x.common ≡ y.common → x.whole ≡ y.whole → x.others ≡ y.others → same_terms x.still y.still ≡ true → x ≡ y
glances_are x y rest own steady common whole others terms =
    ap₂ (λ a b. glance a b x.common x.whole x.own x.others x.rest) (terms_of x.still y.still terms) steady
    ∙ ap₂ (λ a b. glance y.still y.steady a b x.own x.others x.rest) common whole
    ∙ ap₂ (λ a b. glance y.still y.steady y.common y.whole a b x.rest) own others
    ∙ ap (λ a. glance y.still y.steady y.common y.whole y.own y.others a) rest

-- ---- references
module _ (step : Option ℤ) where
  same_pair : (p r q : Seen) → IsLike p r → pair_fails step p q ≡ pair_fails step r q
  same_pair p r q is =
      ap₂ (λ a b. a && not b) (ap₂ (λ v w. same_var v q.at.var && (w || q.writes)) is.var is.writes) (ap (λ xs. some_apart step xs q.subs) is.subs)

  passes : (p r : Seen) (rest : List Seen) → IsLike p r → failing_with (pair_fails step) r rest ≡ None → failing_with (pair_fails step) p rest ≡ None
  passes p r [] is none = refl
  passes p r (q ∷ qs) is none = go (pair_fails step p q) (pair_fails step r q) (same_pair p r q is) none (passes p r qs is)
    where
      go : (a b : Bool) → a ≡ b → (if b then Some (r, q) else failing_with (pair_fails step) r qs) ≡ None → (failing_with (pair_fails step) r qs ≡ None → failing_with (pair_fails step) p qs ≡ None) → (if a then Some (p, q) else failing_with (pair_fails step) p qs) ≡ None
      go a true e none h = cc
      go true false e none h = cc
      go false false e none h = h none

  pub like_passes : (p : Seen) (earlier rest : List Seen) → HasLike p earlier → ArePassed step earlier rest → failing_with (pair_fails step) p rest ≡ None
  like_passes p [] rest h are = absurd h
  like_passes p (r ∷ rs) rest (inl is) are = passes p r rest is are.0
  like_passes p (r ∷ rs) rest (inr h) are = like_passes p rs rest h are.1

  later : (p q : Seen) (rest : List Seen) → failing_with (pair_fails step) p (q ∷ rest) ≡ None → failing_with (pair_fails step) p rest ≡ None
  later p q rest none = go (pair_fails step p q) none
    where
      go : (a : Bool) → (if a then Some (p, q) else failing_with (pair_fails step) p rest) ≡ None → failing_with (pair_fails step) p rest ≡ None
      go true e = cc
      go false e = e

  one_more : (earlier : List Seen) (p : Seen) (rest : List Seen) → ArePassed step earlier (p ∷ rest) → failing_with (pair_fails step) p (p ∷ rest) ≡ None → ArePassed step (earlier ++ p ∷ []) rest
  one_more [] p rest are none = (later p p rest none, tt)
  one_more (r ∷ rs) p rest are none = (later r p rest are.0, one_more rs p rest are.1 none)

  no_places : (o : Option (Seen × Seen)) → places_of o ≡ None → o ≡ None
  no_places None e = refl
  no_places (Some pair) e = cc

  -- the references up to `i` have passed, and the first failing pair of all is that of the rest
  pub record IsAt (ps : List Reference) (i : ℕ) : Type 0 where
    pub passed : ArePassed step (map seen_of (take i ps)) (map seen_of (drop i ps))
    pub same : places_of (first_failing (pair_fails step) (map seen_of (drop i ps))) ≡ places_of (first_failing (pair_fails step) (map seen_of ps))

  dropped : (ps : List Reference) (i : ℕ) (p : Reference) → i < length ps → map seen_of (drop i ps) ≡ seen_of (get_or ps i p) ∷ map seen_of (drop (i + 1) ps)
  dropped ps i p lt =
      let next : suc i ≡ i + 1 = omega arith in
      ap (map seen_of) (drop-cons ps i p lt) ∙ ap (λ k. seen_of (get_or ps i p) ∷ map seen_of (drop k ps)) next

  taken : (ps : List Reference) (i : ℕ) (p : Reference) → i < length ps → map seen_of (take (i + 1) ps) ≡ map seen_of (take i ps) ++ seen_of (get_or ps i p) ∷ []
  taken ps i p lt = ap (map seen_of) (take_more ps i p lt) ∙ map-append seen_of (take i ps) (get_or ps i p ∷ [])

  or_none : (o q : Option (Seen × Seen)) → o ≡ None → or_first o q ≡ q
  or_none None q e = refl
  or_none (Some pair) q e = cc

  or_some : (o q : Option (Seen × Seen)) (pair : Place × Place) → places_of o ≡ Some pair → places_of (or_first o q) ≡ Some pair
  or_some None q pair e = cc
  or_some (Some found) q pair e = e

  pub next_at : (ps : List Reference) (i : ℕ) (p : Reference) → i < length ps → IsAt ps i → places_of (failing_with (pair_fails step) (seen_of (get_or ps i p)) (map seen_of (drop i ps))) ≡ None → IsAt ps (i + 1)
  next_at ps i p lt is none =
      let one : Seen = seen_of (get_or ps i p) in
      let rest : List Seen = map seen_of (drop (i + 1) ps) in
      let parts : map seen_of (drop i ps) ≡ one ∷ rest = dropped ps i p lt in
      let nothing : failing_with (pair_fails step) one (one ∷ rest) ≡ None = no_places _ (subst (λ qs. places_of (failing_with (pair_fails step) one qs) ≡ None) parts none) in
      record {
        passed = subst (λ qs. ArePassed step qs rest) (sym (taken ps i p lt)) (one_more (map seen_of (take i ps)) one rest (subst (ArePassed step (map seen_of (take i ps))) parts is.passed) nothing);
        same = ap places_of (sym (or_none (failing_with (pair_fails step) one (one ∷ rest)) (first_failing (pair_fails step) rest) nothing)) ∙ ap (λ qs. places_of (first_failing (pair_fails step) qs)) (sym parts) ∙ is.same;
      }

  pub found_at : (ps : List Reference) (i : ℕ) (p : Reference) (pair : Place × Place) → i < length ps → IsAt ps i → places_of (failing_with (pair_fails step) (seen_of (get_or ps i p)) (map seen_of (drop i ps))) ≡ Some pair → Some pair ≡ places_of (first_failing (pair_fails step) (map seen_of ps))
  found_at ps i p pair lt is found =
      let one : Seen = seen_of (get_or ps i p) in
      let rest : List Seen = map seen_of (drop (i + 1) ps) in
      let parts : map seen_of (drop i ps) ≡ one ∷ rest = dropped ps i p lt in
      let here : places_of (failing_with (pair_fails step) one (one ∷ rest)) ≡ Some pair = subst (λ qs. places_of (failing_with (pair_fails step) one qs) ≡ Some pair) parts found in
      sym (or_some (failing_with (pair_fails step) one (one ∷ rest)) (first_failing (pair_fails step) rest) pair here) ∙ ap (λ qs. places_of (first_failing (pair_fails step) qs)) (sym parts) ∙ is.same
