-- The loop over the lines: their records are found, and each fault of the file stands in this line or later.
use Rattle.std.proofs.Common.{◌≡◌, ◌⊎◌, ℕ, suc, ◌+◌, ◌-◌, ◌<◌, ◌≤◌, List, [], ◌∷◌, ◌++◌, length, Some, None, ℤ, map, refl, sym, ◌∙◌, ap, subst, inl, inr, ⊎_elim, arith, append_assoc, append-nil}
use Rattle.std.specs.Prelude.{slice_get}
use Rattle.std.specs.Str.Lines.{lines}
use Rattle.cdc_base.specs.declared.place.Place.{Place}
use Rattle.cdc_input.specs.declared.file.InputRefusal.{InputRefusal}
use Rattle.cdc_input.specs.declared.file.InputRefusal.TheVariants.{BadNumber, Memory}
use Rattle.cdc_input.specs.Records.{values_of, records_of}
use Rattle.cdc_input.specs.Faults.{IsFault, HasNoFaultIn}
use Rattle.cdc_input.specs.Refusals.{IsFaultAt, IsNotAfter, HasNoFault, Fails, FailsIn}

pub record Gone (bytes : List ℕ) (records : List (List ℤ)) (number : ℕ) (rest : List ℕ) : Type 0 where
  pub above : ℕ
  pub counted : number ≡ above + 1
  pub small : number + length rest ≤ length bytes + 1
  pub found : records ++ records_of rest ≡ records_of bytes
  pub same : (k n : ℕ) → n ≡ above + k → slice_get (lines bytes) n ≡ slice_get (lines rest) k
  pub left : (n at : ℕ) (line : List ℕ) → slice_get (lines bytes) n ≡ Some line → IsFault line at → above ≤ n

pub gone_start : (bytes : List ℕ) → Gone bytes [] 1 bytes
gone_start bytes = record {
  above = 0;
  counted = refl;
  small = omega arith;
  found = refl;
  same = λ k n e. ap (slice_get (lines bytes)) (let is : n ≡ k = omega (arith, e) in is);
  left = λ n at line get f. omega arith;
}

apart : (m n : ℕ) → m ≤ n → (n ≡ m) ⊎ (m + 1 ≤ n)
apart m n le = grind arith

module _ {bytes : List ℕ} {records : List (List ℤ)} {number : ℕ} {rest line : List ℕ} (after : List ℕ) (gone : Gone bytes records number rest) (cut : lines rest ≡ line ∷ lines after) where
  here : (n : ℕ) → n ≡ gone.above → slice_get (lines bytes) n ≡ Some line
  here n is = gone.same 0 n (omega (arith, is)) ∙ ap (λ ls. slice_get ls 0) cut

  the_line : (n : ℕ) (other : List ℕ) → n ≡ gone.above → slice_get (lines bytes) n ≡ Some other → other ≡ line
  the_line n other is get = let same : Some other ≡ Some line = sym get ∙ here n is in cc

  pub gone_fails : (e : InputRefusal) → FailsIn number line e → Fails bytes e
  gone_fails Memory fails = tt
  gone_fails (BadNumber p) (at, fault, least, place_line, place_column) =
      ((gone.above, at, line, here gone.above refl, fault, place_line ∙ gone.counted, place_column), λ q fault_q. first q fault_q)
    where
      first : (q : Place) → IsFaultAt bytes q → IsNotAfter p q
      first q (n, c, other, get, bad, line_q, column_q) = ⊎_elim
          (λ (is : n ≡ gone.above).
          let lower = least c (subst (λ l. IsFault l c) (the_line n other is get) bad) in
          inr (omega (arith, place_line, gone.counted, line_q, is), omega (arith, place_column, column_q, lower)))
          (λ (more : gone.above + 1 ≤ n). inl (omega (arith, place_line, gone.counted, line_q, more)))
          (apart gone.above n (gone.left n c other get bad))

  pub gone_more : HasNoFaultIn line → length after < length rest → (values : List ℤ) → values ≡ values_of line → Gone bytes (records ++ values ∷ []) (number + 1) after
  gone_more none shorter values is = record {
    above = gone.above + 1;
    counted = omega (arith, gone.counted);
    small = omega (arith, gone.small, shorter);
    found = append_assoc records (values ∷ []) (records_of after) ∙ ap (λ v. records ++ v ∷ records_of after) is ∙ ap (λ ls. records ++ map values_of ls) (sym cut) ∙ gone.found;
    same = λ k n e. gone.same (suc k) n (omega (arith, e)) ∙ ap (λ ls. slice_get ls (suc k)) cut;
    left = λ n at other get bad. ⊎_elim
        (λ (is : n ≡ gone.above). absurd (none at (subst (λ l. IsFault l at) (the_line n other is get) bad)))
        (λ (more : gone.above + 1 ≤ n). more)
        (apart gone.above n (gone.left n at other get bad));
  }

pub gone_end : (bytes : List ℕ) (records : List (List ℤ)) (number : ℕ) (rest : List ℕ) → Gone bytes records number rest → length rest ≡ 0 → (records ≡ records_of bytes) × HasNoFault bytes
gone_end bytes records number [] gone none = (sym (append-nil records) ∙ gone.found, λ p f. no_fault p f)
  where
    no_fault : (p : Place) → IsFaultAt bytes p → ⊥
    no_fault p (n, at, line, get, bad, line_p, column_p) =
        let le = gone.left n at line get bad in
        let clash : Some line ≡ None = sym get ∙ gone.same (n - gone.above) n (omega (arith, le)) in
        absurd (cc)
gone_end bytes records number (b ∷ rest) gone none = absurd (omega (arith, none))
