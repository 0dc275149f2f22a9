-- The loop over a line: what stands before this place is read, and each fault of the line stands here or later.
use Rattle.std.proofs.Common.{◌≡◌, ◌≢◌, ◌⊎◌, ℕ, zero, suc, ◌+◌, ◌<◌, ◌≤◌, Bool, true, false, List, [], ◌∷◌, ◌++◌, length, drop, ℤ, map, refl, sym, ◌∙◌, ap, subst, inl, inr, ⊎_elim, arith, append_assoc, append-nil}
use Rattle.std.specs.Prelude.{slice_index, slice_range}
use Rattle.std.proofs.lemmas.Bool.{cases_Bool, false≢true}
use Rattle.std.proofs.Math.Seq.{drop-length}
use Rattle.cdc_input.specs.Records.{is_separator, IsValue, number_of, values_of}
use Rattle.cdc_input.specs.Faults.{IsRun, HasValue, HasComma, IsFault, HasNoFaultIn}
use Rattle.cdc_input.proofs.Runs.{runs_after_separator, runs_after_run}

pub record Reached (line : List ℕ) (values : List ℤ) (at : ℕ) (bare : Bool) : Type 0 where
  pub within : at ≤ length line
  pub bound : (k : ℕ) → k + 1 ≡ at → at < length line → is_separator (slice_index line k) ≡ false → is_separator (slice_index line at) ≡ true
  pub found : values ++ values_of (drop at line) ≡ values_of line
  pub left : (c : ℕ) → IsFault line c → at ≤ c
  pub behind : bare ≡ true → (from to : ℕ) → HasValue line from to → to ≤ at → HasComma line to at
  pub before : bare ≡ false → (from to : ℕ) × HasValue line from to × (to ≤ at) × ((k : ℕ) → to ≤ k → k < at → slice_index line k ≢ 44)

no_value : (line : List ℕ) (from to : ℕ) → HasValue line from to → to ≤ 0 → ⊥
no_value line from to has none = omega (arith, has.run.some, none)

pub reached_start : (line : List ℕ) → Reached line [] 0 true
reached_start line = record {
  within = omega arith;
  bound = λ k e. absurd (omega (arith, e));
  found = refl;
  left = λ c f. omega arith;
  behind = λ on from to has none. absurd (no_value line from to has none);
  before = λ off. absurd (false≢true (sym off));
}

-- ---- at a blank or a comma

no_run : (line : List ℕ) (at to : ℕ) → is_separator (slice_index line at) ≡ true → IsRun line at to → ⊥
no_run line at to on run = false≢true (sym (run.plain at (omega arith) run.some) ∙ on)

no_end : (line : List ℕ) (at from to : ℕ) → is_separator (slice_index line at) ≡ true → HasValue line from to → to ≤ at + 1 → to ≤ at
no_end line at from to on has le =
    ⊎_elim (λ (is : to ≡ at + 1). absurd (false≢true (sym (has.run.plain at (omega (arith, has.run.some, is)) (omega (arith, is))) ∙ on))) (λ less. less) (split to at le)
  where
    split : (m n : ℕ) → m ≤ n + 1 → (m ≡ n + 1) ⊎ (m ≤ n)
    split m n le = grind arith

values_step : (line : List ℕ) (values : List ℤ) (at : ℕ) → at < length line → is_separator (slice_index line at) ≡ true → values ++ values_of (drop at line) ≡ values_of line → values ++ values_of (drop (at + 1) line) ≡ values_of line
values_step line values at below on found = ap (λ rs. values ++ map number_of rs) (sym (runs_after_separator line at below on)) ∙ found

module _ {line : List ℕ} {values : List ℤ} {at : ℕ} (below : at < length line) where
  pub after_blank : {bare : Bool} → Reached line values at bare → is_separator (slice_index line at) ≡ true → slice_index line at ≢ 44 → Reached line values (at + 1) bare
  after_blank {bare} reached on blank = record {
    within = omega (arith, below);
    bound = λ k e more off.
        let here : k ≡ at = omega (arith, e) in
        absurd (false≢true (sym off ∙ ap (λ j. is_separator (slice_index line j)) here ∙ on));
    found = values_step line values at below on reached.found;
    left = λ c f.
        let first = reached.left c f in
        let other : c ≢ at = λ here. not_here (subst (IsFault line) here f) in
        omega (arith, first, other);
    behind = λ is from to has le.
        let comma = reached.behind is from to has (no_end line at from to on has le) in
        (comma.0, comma.1, omega (arith, comma.2), comma.3);
    before = λ is.
        let b = reached.before is in
        (b.0, b.1, b.2, omega (arith, b.3), λ k ge le. ⊎_elim (λ (here : k ≡ at). subst (λ j. slice_index line j ≢ 44) (sym here) blank) (λ less. b.4 k ge less) (split k at le));
  }
    where
      not_here : IsFault line at → ⊥
      not_here (inl bad) = no_run line at bad.0 on bad.1
      not_here (inr comma) = blank comma.comma

      split : (m n : ℕ) → m < n + 1 → (m ≡ n) ⊎ (m < n)
      split m n le = grind arith

  pub after_comma : Reached line values at false → is_separator (slice_index line at) ≡ true → slice_index line at ≡ 44 → Reached line values (at + 1) true
  after_comma reached on comma = record {
    within = omega (arith, below);
    bound = λ k e more off.
        let here : k ≡ at = omega (arith, e) in
        absurd (false≢true (sym off ∙ ap (λ j. is_separator (slice_index line j)) here ∙ on));
    found = values_step line values at below on reached.found;
    left = λ c f.
        let first = reached.left c f in
        let other : c ≢ at = λ here. not_here (subst (IsFault line) here f) in
        omega (arith, first, other);
    behind = λ is from to has le. (at, no_end line at from to on has le, omega arith, comma);
    before = λ off. absurd (false≢true (sym off));
  }
    where
      not_here : IsFault line at → ⊥
      not_here (inl bad) = no_run line at bad.0 on bad.1
      not_here (inr c) =
          let b = reached.before refl in
          let clash = c.bare b.0 b.1 b.2 b.3 in
          b.4 clash.0 clash.1 clash.2 clash.3

  pub bare_comma : Reached line values at true → slice_index line at ≡ 44 → IsFault line at
  bare_comma reached comma = inr (record { within = below; comma = comma; bare = reached.behind refl })

-- ---- at a run

module _ {line : List ℕ} {values : List ℤ} {at end : ℕ} {bare : Bool} (reached : Reached line values at bare) where
  pub run_here : at < length line → is_separator (slice_index line at) ≡ false → at ≤ end → end ≤ length line → ((k : ℕ) → at ≤ k → k < end → is_separator (slice_index line k) ≡ false) → (end < length line → is_separator (slice_index line end) ≡ true) → IsRun line at end
  run_here below off from within plain ends = record {
    some = more;
    within = within;
    plain = plain;
    begins = λ k e. ⊎_elim (λ on. on) (λ (other : is_separator (slice_index line k) ≡ false). absurd (false≢true (sym off ∙ reached.bound k e below other))) (cases_Bool (is_separator (slice_index line k)));
    ends = ends;
  }
    where
      same : end ≡ at → ⊥
      same e = false≢true (sym off ∙ subst (λ j. is_separator (slice_index line j) ≡ true) e (ends (omega (arith, e, below))))

      more : at < end
      more = let other : end ≢ at = same in omega (arith, from, other)

  pub after_value : (value : ℤ) → IsRun line at end → IsValue (slice_range line at end) → value ≡ number_of (slice_range line at end) → Reached line (values ++ value ∷ []) end false
  after_value value run is value_is = record {
    within = run.within;
    bound = λ k e more off. run.ends more;
    found = ap (λ v. (values ++ v ∷ []) ++ values_of (drop end line)) value_is ∙ append_assoc values (number_of (slice_range line at end) ∷ []) (values_of (drop end line)) ∙ ap (λ rs. values ++ map number_of rs) (sym (runs_after_run line at end run)) ∙ reached.found;
    left = λ c f.
        let first = reached.left c f in
        ⊎_elim (λ inside. absurd (not_inside c first inside f)) (λ (past : end ≤ c). past) (split c end);
    behind = λ on. absurd (false≢true on);
    before = λ off. (at, end, record { run = run; value = is }, omega arith, λ k ge less. absurd (omega (arith, ge, less)));
  }
    where
      split : (m n : ℕ) → (m < n) ⊎ (n ≤ m)
      split m n = grind arith

      same_end : (to : ℕ) → IsRun line at to → to ≡ end
      same_end to other = ⊎_elim
          (λ (less : to < end). absurd (false≢true (sym (run.plain to (omega (arith, other.some)) less) ∙ other.ends (omega (arith, less, run.within)))))
          (λ (ge : end ≤ to). ⊎_elim (λ (less : end < to). absurd (false≢true (sym (other.plain end (omega (arith, run.some)) less) ∙ run.ends (omega (arith, less, other.within))))) (λ le. omega (arith, ge, le)) (split end to))
          (split to end)

      not_inside : (c : ℕ) → at ≤ c → c < end → IsFault line c → ⊥
      not_inside c from less (inl (to, other, bad)) = ⊎_elim
          (λ (same : c ≡ at). bad (subst (λ j. IsValue (slice_range line j to)) (sym same) (subst (λ j. IsValue (slice_range line at j)) (sym (same_end to (subst (λ j. IsRun line j to) same other))) is)))
          (λ (more : at < c). before_it c from less more to other)
          (apart at c from)
        where
          apart : (m n : ℕ) → m ≤ n → (n ≡ m) ⊎ (m < n)
          apart m n le = grind arith

          before_it : (c : ℕ) → at ≤ c → c < end → at < c → (to : ℕ) → IsRun line c to → ⊥
          before_it zero from less more to other = omega (arith, more)
          before_it (suc k) from less more to other = false≢true (sym (run.plain k (omega (arith, more)) (omega (arith, less))) ∙ other.begins k (omega arith))
      not_inside c from less (inr comma) = false≢true (sym (run.plain c from less) ∙ ap is_separator comma.comma)

  pub bad_run : IsRun line at end → (IsValue (slice_range line at end) → ⊥) → IsFault line at
  bad_run run bad = inl (end, run, bad)

pub all_read : {line : List ℕ} {values : List ℤ} {at : ℕ} {bare : Bool} → Reached line values at bare → length line ≤ at → (values ≡ values_of line) × HasNoFaultIn line
all_read {line} {values} {at} {bare} reached past =
    let here : at ≡ length line = omega (arith, reached.within, past) in (
      sym (append-nil values) ∙ ap (λ z. values ++ values_of z) (sym (ap (λ k. drop k line) here ∙ drop-length line)) ∙ reached.found,
      λ c f. none c (reached.left c f) f,
    )
  where
    none : (c : ℕ) → at ≤ c → IsFault line c → ⊥
    none c ge (inl bad) = omega (arith, ge, past, bad.1.some, bad.1.within)
    none c ge (inr comma) = omega (arith, ge, past, comma.within)
