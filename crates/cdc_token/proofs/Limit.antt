-- A line that is too long, and the end of a line.
use Rattle.std.proofs.Common.{◌≡◌, ◌⊎◌, ℕ, ◌≤◌, ◌<◌, Bool, true, false, ◌||◌, ltb, leb, List, [], ◌∷◌, ◌++◌, length, append_assoc, append-nil, None, Result, Ok, Err, IfOk, IfErr, sym, refl, ap, ◌∙◌, subst, inl, inr, ⊎_elim, arith}
use Rattle.std.proofs.lemmas.Bool.{or_cases, or_parts, ltb-true, ltb-false, leb-true, leb-false}
use Rattle.cdc_token.specs.declared.fault.Fault.{Fault}
use Rattle.cdc_token.specs.declared.fault.Fault.TheVariants.{LineLong}
use Rattle.cdc_token.specs.declared.fault.LineRefusal.{LineRefusal}
use Rattle.cdc_token.specs.declared.fault.LineRefusal.TheVariants.{At, Memory}
use Rattle.cdc_token.specs.declared.gathered.Gathered.{Gathered}
use Rattle.cdc_token.specs.Refusals.{Seen, Holds}
use Rattle.cdc_token.specs.Logical.{line_items, ending}
use Rattle.cdc_token.specs.Taking.{whole, Takes, TakesPieces, TakesLine, FirstSeen, Sees, FirstHeld, Fails, with_limit}
use Rattle.cdc_token.proofs.Spellings.{by_test}

abbrev Answer : Type 0
Answer = Result Bool LineRefusal

err_same : (x y : LineRefusal) → (let a : Answer = Err x in let b : Answer = Err y in a ≡ b) → x ≡ y
err_same x y h = cc

ok_same : (x y : Bool) → (let a : Answer = Ok x in let b : Answer = Ok y in a ≡ b) → x ≡ y
ok_same x y h = cc

-- the first fault that is seen comes before the 133rd byte, or there is none
early : (was : Bool) (line : List ℕ) (d : Fault) (c : ℕ) → FirstSeen was line d c → (c < 133) ⊎ (length line ≤ 132) → FirstHeld was line d c
early was line d c first before = record { holds = inr first.seen; least = least }
  where
    least : (e : Fault) (x : ℕ) → Holds was line e x → (c < x) ⊎ ((c ≡ x) × ((d ≡ LineLong) ⊎ (d ≡ e)))
    least e x (inl (is, at, long)) = ⊎_elim (λ below. inl (omega (arith, below, at))) (λ short. absurd (omega (arith, short, long))) before
    least e x (inr seen) = ⊎_elim (λ below. inl below) (λ (same, is). inr (same, inr is)) (first.least e x seen)

late : (was : Bool) (line : List ℕ) → 132 < length line → ((e : Fault) (x : ℕ) → Seen 1 was line e x → 133 ≤ x) → FirstHeld was line LineLong 133
late was line long after = record { holds = inl (refl, refl, long); least = least }
  where
    least : (e : Fault) (x : ℕ) → Holds was line e x → (133 < x) ⊎ ((133 ≡ x) × ((LineLong ≡ LineLong) ⊎ (LineLong ≡ e)))
    least e x (inl (is, at, h)) = inr (sym at, inl refl)
    least e x (inr seen) =
        by_test (ltb 133 x)
        (λ on. inl (ltb-true 133 x on))
        (λ off. let most = ltb-false 133 x off in let least = after e x seen in inr (omega (arith, most, least), inl refl))

module _ (was : Bool) (line : List ℕ) (number : ℕ) (old new : Gathered) where
  pub limit_fails : (r : Result Bool LineRefusal) (n : ℕ) → n ≡ length line → IfOk r (λ on. TakesPieces was line number old new on) → IfErr r (λ e. Sees was line e)
      → (e : LineRefusal) → Err e ≡ with_limit n r → Fails was line e
  limit_fails (Err Memory) n size taken sees e is = subst (Fails was line) (sym (err_same e Memory is)) tt
  limit_fails (Err (At d c)) n size taken sees e is =
      by_test (ltb c 133 || leb n 132)
      (λ on.
      let same : e ≡ At d c = err_same e (At d c) (is ∙ rw on refl) in
      let before : (c < 133) ⊎ (length line ≤ 132) = ⊎_elim (λ h. inl (ltb-true c 133 h)) (λ h. inr (let short = leb-true n 132 h in omega (arith, short, size))) (or_cases (ltb c 133) (leb n 132) on) in
      subst (Fails was line) (sym same) (early was line d c sees before))
      (λ off.
      let same : e ≡ At LineLong 133 = err_same e (At LineLong 133) (is ∙ rw off refl) in
      let parts = or_parts (ltb c 133) (leb n 132) off in
      let behind = ltb-false c 133 parts.0 in
      let long = leb-false n 132 parts.1 in
      subst (Fails was line) (sym same)
      (late was line (omega (arith, long, size)) (λ f x seen. ⊎_elim (λ below. omega (arith, below, behind)) (λ at. omega (arith, at.0, behind)) (sees.least f x seen))))
  limit_fails (Ok on) n size taken sees e is =
      by_test (leb n 132)
      (λ short. absurd (let clash : Err e ≡ Ok on = is ∙ rw short refl in cc))
      (λ off.
      let same : e ≡ At LineLong 133 = err_same e (At LineLong 133) (is ∙ rw off refl) in
      let long = leb-false n 132 off in
      subst (Fails was line) (sym same) (late was line (omega (arith, long, size)) (λ f x seen. absurd (taken.none f x seen))))

  pub limit_takes : (r : Result Bool LineRefusal) (n : ℕ) → n ≡ length line → IfOk r (λ on. TakesPieces was line number old new on)
      → (on : Bool) → Ok on ≡ with_limit n r → TakesPieces was line number old new on × (length line ≤ 132)
  limit_takes (Err Memory) n size taken on is = absurd (cc)
  limit_takes (Err (At d c)) n size taken on is =
      by_test (ltb c 133 || leb n 132)
      (λ fine. absurd (let clash : Ok on ≡ Err (At d c) = is ∙ rw fine refl in cc))
      (λ off. absurd (let clash : Ok on ≡ Err (At LineLong 133) = is ∙ rw off refl in cc))
  limit_takes (Ok still) n size taken on is =
      by_test (leb n 132)
      (λ short.
      let same : on ≡ still = ok_same on still (is ∙ rw short refl) in
      let most = leb-true n 132 short in
      (subst (TakesPieces was line number old new) (sym same) taken, omega (arith, most, size)))
      (λ off. absurd (let clash : Ok on ≡ Err (At LineLong 133) = is ∙ rw off refl in cc))

module _ {was : Bool} {line : List ℕ} {number : ℕ} {old mid : Gathered} {on : Bool} (taken : TakesPieces was line number old mid on) (short : length line ≤ 132) where
  none_held : (d : Fault) (c : ℕ) → Holds was line d c → ⊥
  none_held d c (inl (is, at, long)) = omega (arith, short, long)
  none_held d c (inr seen) = taken.none d c seen

  pub line_ends : (new : Gathered) → on ≡ false → Takes mid new (None ∷ []) → TakesLine was line number old new on
  line_ends new off closes = record {
    pieces = taken.pieces;
    leads = taken.leads;
    none = none_held;
    open_is = taken.open_is;
    taken = λ more.
        let here = line_items number 1 taken.pieces in
        closes more ∙ taken.taken (None ∷ more) ∙ ap (whole old) (sym (append_assoc here (None ∷ []) more)) ∙ ap (λ b. whole old ((here ++ ending b) ++ more)) (sym off);
  }

  pub line_goes_on : on ≡ true → TakesLine was line number old mid on
  line_goes_on stays = record {
    pieces = taken.pieces;
    leads = taken.leads;
    none = none_held;
    open_is = taken.open_is;
    taken = λ more.
        let here = line_items number 1 taken.pieces in
        taken.taken more ∙ ap (λ w. whole old (w ++ more)) (sym (append-nil here)) ∙ ap (λ b. whole old ((here ++ ending b) ++ more)) (sym stays);
  }
