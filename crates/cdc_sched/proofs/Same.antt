-- Two headers of one file are the same.
use Rattle.std.proofs.Common.{◌≡◌, ℕ, ◌<◌, ◌≤◌, List, [], ◌∷◌, ◌++◌, length, take, drop, Option, Some, refl, sym, ◌∙◌, ap, subst, ⊎_elim, arith, append_assoc, length-append}
use Rattle.std.specs.Str.Lines.{lines}
use Rattle.std.proofs.lemmas.List.{append_cancel_left}
use Rattle.std.proofs.Math.Seq.{take-append_seam}
use Rattle.cdc_sched.specs.declared.header.Header.{Header}
use Rattle.cdc_sched.specs.Events.{listed, bad_line}
use Rattle.cdc_sched.specs.Headers.{places, SayAll, scheme_words, cache_words, kept_words, HasHeader}
use Rattle.cdc_sched.specs.OneHeader.{OneHeader, IsSameHeader, OneRefusal}
use Rattle.cdc_sched.proofs.Exact.{kept_append, order, fewer, not_both, same_bad}

same_some : {A : Type 0} {x y : A} {o : Option A} → o ≡ Some x → o ≡ Some y → x ≡ y
same_some {A} {x} {y} p q = let e : Some x ≡ Some y = sym p ∙ q in cc

-- seven lines that say all of both headers
same_said : (h k : Header) (words : List (List (List ℕ))) → length words ≡ 7 → SayAll places h words → SayAll places k words → h ≡ k
same_said h k (w1 ∷ w2 ∷ w3 ∷ w4 ∷ w5 ∷ w6 ∷ w7 ∷ more) seven s t =
    let scheme : scheme_words h ≡ scheme_words k = same_some s.1.0 t.1.0 in
    let procs : h.procs ≡ k.procs = same_some s.1.1.0 t.1.1.0 in
    let cache : cache_words h.geometry ≡ cache_words k.geometry = same_some s.1.1.1.0 t.1.1.1.0 in
    let bound : h.bound ≡ k.bound = same_some s.1.1.1.1.0 t.1.1.1.1.0 in
    let tail : h.tail ≡ k.tail = same_some s.1.1.1.1.1.0 t.1.1.1.1.1.0 in
    λ i. record {
      scheme = (scheme i).name;
      width = (scheme i).width;
      procs = procs i;
      geometry = record { words = (cache i).words; sets = (cache i).sets; ways = (cache i).ways };
      bound = bound i;
      tail = tail i;
    }
same_said h k (w1 ∷ w2 ∷ w3 ∷ w4 ∷ w5 ∷ w6 ∷ []) seven s t = absurd (omega (arith, seven))
same_said h k (w1 ∷ w2 ∷ w3 ∷ w4 ∷ w5 ∷ []) seven s t = absurd (omega (arith, seven))
same_said h k (w1 ∷ w2 ∷ w3 ∷ w4 ∷ []) seven s t = absurd (omega (arith, seven))
same_said h k (w1 ∷ w2 ∷ w3 ∷ []) seven s t = absurd (omega (arith, seven))
same_said h k (w1 ∷ w2 ∷ []) seven s t = absurd (omega (arith, seven))
same_said h k (w1 ∷ []) seven s t = absurd (omega (arith, seven))
same_said h k [] seven s t = absurd (omega (arith, seven))

module _ {bytes : List ℕ} {h k : Header} {a b : ℕ} (p : HasHeader bytes h a) (q : HasHeader bytes k b) where
  both : lines (take a bytes) ++ lines (drop a bytes) ≡ lines (take b bytes) ++ lines (drop b bytes)
  both = sym p.start.split ∙ q.start.split

  -- a header ends with its seventh line, so it has no line less than another
  not_shorter : length (lines (take a bytes)) < length (lines (take b bytes)) → ⊥
  not_shorter less =
      let last : List (List ℕ) = q.last ∷ [] in
      let split : q.above ++ (last ++ lines (drop b bytes)) ≡ lines (take a bytes) ++ lines (drop a bytes) =
      sym (append_assoc q.above last (lines (drop b bytes))) ∙ ap (λ z. z ++ lines (drop b bytes)) (sym q.ends) ∙ sym both in
      let within : length (lines (take a bytes)) ≤ length q.above = omega (arith, less, ap length q.ends, length-append q.above last) in
      let six = fewer q.above (last ++ lines (drop b bytes)) (lines (take a bytes)) (lines (drop a bytes)) split within in
      let words = ap (λ z. length (kept_words z)) q.ends ∙ ap length (kept_append q.above last) ∙ length-append (kept_words q.above) (kept_words last) in
      let one : length (kept_words last) ≡ 1 = rw q.last_is refl in
      omega (arith, six, words, one, p.all, q.all)

module _ {bytes : List ℕ} {h k : Header} {a b : ℕ} (p : HasHeader bytes h a) (q : HasHeader bytes k b) where
  count : length (lines (take a bytes)) ≡ length (lines (take b bytes))
  count = ⊎_elim
      (λ (less : length (lines (take a bytes)) < length (lines (take b bytes))). absurd (not_shorter p q less))
      (λ (le : length (lines (take b bytes)) ≤ length (lines (take a bytes))). ⊎_elim
      (λ (less : length (lines (take b bytes)) < length (lines (take a bytes))). absurd (not_shorter q p less))
      (λ (ge : length (lines (take a bytes)) ≤ length (lines (take b bytes))). omega (arith, le, ge))
      (order (length (lines (take b bytes))) (length (lines (take a bytes)))))
      (order (length (lines (take a bytes))) (length (lines (take b bytes))))

  above : lines (take a bytes) ≡ lines (take b bytes)
  above =
      sym (take-append_seam (lines (take a bytes)) (lines (drop a bytes))) ∙ (λ i. take (count i) (both p q i)) ∙
      take-append_seam (lines (take b bytes)) (lines (drop b bytes))

  behind : lines (drop a bytes) ≡ lines (drop b bytes)
  behind = append_cancel_left (lines (take b bytes)) (lines (drop a bytes)) (lines (drop b bytes)) (ap (λ z. z ++ lines (drop a bytes)) (sym above) ∙ both p q)

  same : IsSameHeader bytes h k a b
  same = record {
    header = same_said h k (kept_words (lines (take b bytes))) q.all (subst (λ z. SayAll places h (kept_words z)) above p.front.says) q.front.says;
    behind = behind;
    count = count;
    events = λ procs. ap (listed procs) behind;
    bad = λ procs. (λ i. bad_line procs (count i) (behind i));
  }

pub one_header : OneHeader
one_header bytes h k a b p q = same p q

pub one_refusal : OneRefusal
one_refusal = record {
  not_both = λ bytes h a n p b. not_both p b;
  one = λ bytes m n b c. same_bad b c;
}
