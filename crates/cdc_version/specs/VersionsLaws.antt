-- The laws of version numbers, for one object.
use Rattle.std.proofs.Common.{◌≡◌, ◌⊎◌, ℕ, suc, ◌+◌, ◌-◌, ◌≤◌, max, List, [], ◌∷◌, length, take, refl, ◌∙◌, ap, subst, arith, inl, inr, ⊎_elim}
use Rattle.std.specs.Prelude.{Option, Some, None, Bool, true, false, IsTrue, if◌then◌else◌, ◌||◌, ◌==◌, Contains}
use Rattle.std.proofs.lemmas.Bool.{cases_lt}
use Rattle.std.proofs.lemmas.Bool.Decides.{nat_tests}
use Rattle.std.proofs.lemmas.List.Folds.{list_any-from_Any}
use Rattle.cdc_prog.specs.declared.program.Mark.TheVariants.{Time}
use Rattle.cdc_scheme.specs.TrueTime.{present, beside, WasDated, IsListed, IsYoung, Covers}
use Rattle.cdc_version.specs.Versions.{is_in, listed, filled_birth, written_birth, vc_admits, kept_birth, next_current, IsBorn}

test_same : (x y : ℕ) → x ≡ y → (x == y) ≡ true
test_same x y same = grind (arith, nat_tests)

pub same_from_test : (x y : ℕ) → (x == y) ≡ true → x ≡ y
same_from_test x y test = grind (arith, nat_tests)

or_cases : (a b : Bool) → (a || b) ≡ true → (a ≡ true) ⊎ (b ≡ true)
or_cases true b is = inl refl
or_cases false b is = inr is

-- the test finds what the list contains
pub is_in_list : (object : ℕ) (written : List ℕ) → Contains written object → is_in object written ≡ true
is_in_list object written (k, below, is) = list_any-from_Any (λ x. x == object) written (k, object, below, is, test_same object object refl)

-- a list that covers others has what they have
pub covered : (object : ℕ) (written objects : List ℕ) → Covers written objects → is_in object objects ≡ true → is_in object written ≡ true
covered object written [] covers here = absurd (cc here)
covered object written (x ∷ objects) covers here =
    ⊎_elim
    (λ same. is_in_list object written (subst (Contains written) (same_from_test x object same) covers.0))
    (λ later. covered object written objects covers.1 later)
    (or_cases (x == object) (is_in object objects) here)

-- an object that no list counts stands in none
pub none_listed : (object : ℕ) (lists : List (List ℕ)) → listed object lists ≡ 0 → IsListed object lists → ⊥
none_listed object [] none stands = stands
none_listed object (written ∷ lists) none (inl here) =
    let counted : listed object (written ∷ lists) ≡ listed object lists + 1 = ap (λ b. if b then listed object lists + 1 else listed object lists) (is_in_list object written here) in
    absurd (omega (arith, counted, none))
none_listed object (written ∷ lists) none (inr later) = none_listed object lists (none_later (is_in object written) none) later
  where
    none_later : (b : Bool) → (if b then listed object lists + 1 else listed object lists) ≡ 0 → listed object lists ≡ 0
    none_later true is = absurd (omega (arith, is))
    none_later false is = is

none_taken : (object : ℕ) (lists : List (List ℕ)) (k : ℕ) → k ≡ 0 → listed object (take k lists) ≡ 0
none_taken object lists k is = ap (λ n. listed object (take n lists)) is

module _ (lists : List (List ℕ)) (stored : Bool) (object current : ℕ) where
  pub target_born : (before : ℕ) (old : Option ℕ) → WasDated (IsBorn lists stored object current) old before → IsBorn lists stored object current (filled_birth current old) (present lists)
  target_born before None dated = record { past = omega arith; older = λ le. absurd (omega (arith, le)); newer = λ e. inl (omega arith) }
  target_born before (Some birth) dated = record {
    past = omega arith;
    older = λ le. absurd (omega (arith, le));
    newer = λ e. elim (cases_lt before (length lists + 1)) [
      | inl past ↦ inl (omega (arith, dated.older (omega (arith, past))))
      | inr here ↦ ⊎_elim (λ le. inl (omega (arith, le))) (λ more. inr (omega (arith, more.0), more.1)) (dated.newer (omega (arith, here, dated.past)))
    ];
  }

  pub neighbour_born : (before : ℕ) (old : Option ℕ) → WasDated (IsBorn lists stored object current) old before → IsBorn lists stored object current (filled_birth current old) (beside lists before)
  neighbour_born before None dated = record {
    past = omega (arith, dated);
    older = λ le. omega (arith, none_taken object lists (length lists - max (length lists) before) (omega arith));
    newer = λ e. absurd (omega (arith, e, dated));
  }
  neighbour_born before (Some birth) dated = record {
    past = omega (arith, dated.past);
    older = λ le. omega (arith, none_taken object lists (length lists - max (length lists) before) (omega arith), dated.older (omega (arith, le)));
    newer = λ e. ⊎_elim (λ le. inl (omega (arith, le))) (λ more. inr (omega (arith, more.0), more.1)) (dated.newer (omega (arith, e)));
  }

  pub admitted_young : (birth made d : ℕ) → IsBorn lists stored object current birth made → 1 ≤ d → IsTrue (vc_admits current (Time d) birth) → IsYoung d lists object made
  admitted_young birth made d born some admitted =
      let le : current ≤ birth = grind (arith, nat_tests) in
      elim (cases_lt (length lists) made) [
        | inl here ↦ inl (omega (arith, here, some))
        | inr past ↦ inr (none_listed object (take (length lists - made) lists) (omega (arith, le, born.older past)))
      ]

pub wrote_born : (last : ℕ) (lists : List (List ℕ)) (object current : ℕ) (objects : List ℕ) → IsBorn lists (is_in object (object ∷ objects)) object current (written_birth last current) (present lists)
wrote_born last lists object current objects = record {
  past = omega arith;
  older = λ le. absurd (omega (arith, le));
  newer = λ e. elim (cases_lt current last) [
    | inl room ↦ inr (omega (arith, room), ap (λ b. b || is_in object objects) (test_same object object refl))
    | inr full ↦ inl (omega (arith, full))
  ];
}

-- a write elsewhere
pub other_born : (lists : List (List ℕ)) (object current birth made other : ℕ) (objects : List ℕ) → IsBorn lists (is_in object objects) object current birth made → IsBorn lists (is_in object (other ∷ objects)) object current birth made
other_born lists object current birth made other objects born = record {
  past = born.past;
  older = born.older;
  newer = λ e. ⊎_elim inl (λ more. inr (more.0, or_right (other == object) (is_in object objects) more.1)) (born.newer e);
}
  where
    or_right : (a b : Bool) → b ≡ true → (a || b) ≡ true
    or_right true b is = refl
    or_right false b is = is

kept_cases : (b : Bool) (birth kept : ℕ) → (if b then None else Some birth) ≡ Some kept → (b ≡ false) × (birth ≡ kept)
kept_cases true birth kept is = absurd (cc is)
kept_cases false birth kept is = (refl, cc is)

-- the lists since a copy was made, one boundary later
listed_next : (object made : ℕ) (written : List ℕ) (lists : List (List ℕ)) (b : Bool) → is_in object written ≡ b → made ≤ length lists → listed object (take (length (written ∷ lists) - made) (written ∷ lists)) ≡ (if b then listed object (take (length lists - made) lists) + 1 else listed object (take (length lists - made) lists))
listed_next object made written lists b is le =
    let more : length (written ∷ lists) - made ≡ suc (length lists - made) = omega (arith, le) in
    ap (λ k. listed object (take k (written ∷ lists))) more ∙ ap (λ c. if c then listed object (take (length lists - made) lists) + 1 else listed object (take (length lists - made) lists)) is

pub kept_born : (last : ℕ) (lists : List (List ℕ)) (written : List ℕ) (stored : Bool) (object current birth kept made : ℕ) (here : Bool) → is_in object written ≡ here → (stored ≡ true → here ≡ true) → IsBorn lists stored object current birth made → kept_birth last current here birth ≡ Some kept
    → IsBorn (written ∷ lists) false object (next_current last current here) kept made
kept_born last lists written stored object current birth kept made true is covers born keeps =
    let cases = kept_cases (current == last) birth kept keeps in
    let next : next_current last current true ≡ current + 1 = ap (λ b. if b then 0 else current + 1) cases.0 in
    record {
      past = omega (arith, born.past);
      older = λ le. elim (cases_lt (length lists) made) [
        | inl now ↦ ⊎_elim
            (λ small. omega (arith, next, cases.1, small, none_taken object (written ∷ lists) (length (written ∷ lists) - made) (omega (arith, now))))
            (λ ahead. omega (arith, next, cases.1, ahead.0, none_taken object (written ∷ lists) (length (written ∷ lists) - made) (omega (arith, now))))
            (born.newer (omega (arith, now, born.past)))
        | inr past ↦ omega (arith, next, cases.1, born.older past, listed_next object made written lists true is past)
      ];
      newer = λ e. absurd (omega (arith, e, born.past));
    }
kept_born last lists written stored object current birth kept made false is covers born keeps =
    let same : birth ≡ kept = cc keeps in
    record {
      past = omega (arith, born.past);
      older = λ le. elim (cases_lt (length lists) made) [
        | inl now ↦ ⊎_elim
            (λ small.
            let none : listed object (take (length (written ∷ lists) - made) (written ∷ lists)) ≡ 0 = none_taken object (written ∷ lists) (length (written ∷ lists) - made) (omega (arith, now)) in
            omega (arith, same, small, none))
            (λ ahead. absurd (cc (covers ahead.1)))
            (born.newer (omega (arith, now, born.past)))
        | inr past ↦
            let behind : birth + listed object (take (length lists - made) lists) ≤ current = born.older past in
            let none : listed object (take (length (written ∷ lists) - made) (written ∷ lists)) ≡ listed object (take (length lists - made) lists) = listed_next object made written lists false is past in
            omega (arith, same, behind, none)
      ];
      newer = λ e. absurd (omega (arith, e, born.past));
    }
