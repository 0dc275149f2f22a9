-- From what a run comes to, to its answer.
use Rattle.std.proofs.Common.{◌≡◌, ℕ, zero, suc, ◌-◌, ◌≤◌, ℤ, pos, List, [], ◌∷◌, ◌++◌, length, take, drop, get_or, replicate, Result, Ok, Err, refl, sym, ap, ap₂, ◌∙◌, subst, arith}
use Rattle.std.specs.Prelude.{Option, Some, None}
use Rattle.std.proofs.lemmas.List.{append-nil, take-append-drop}
use Rattle.std.proofs.Math.Seq.{take-append_seam}
use Rattle.cdc_base.specs.Outside.{grown, GrewInPart}
use Rattle.cdc_base.proofs.Grown.{grown-grown}
use Rattle.cdc_prog.specs.Answers.{IsRun, HasPlainCause, IsHanded, IsHandedOn, answer_of}
use Rattle.cdc_prog.specs.Data.{zeros}
use Rattle.cdc_prog.specs.Held.{store_of}
use Rattle.cdc_prog.specs.InOrder as end
use Rattle.cdc_prog.specs.Meaning.{Meaning}
use Rattle.cdc_prog.specs.Output.{Output, told, size_of_taken, Comes}
use Rattle.cdc_prog.specs.declared.plain.Plain.TheVariants.{SinkFault}
use Rattle.cdc_prog.specs.declared.stop.Stop.{Stop}
use Rattle.cdc_prog.specs.declared.stop.Stop.TheVariants.{Faulted, Sink}
use Rattle.cdc_prog.proofs.Output.{longer_grown}

zero_at : (n w : ℕ) → get_or (replicate n (pos 0)) w (pos 0) ≡ pos 0
zero_at zero w = refl
zero_at (suc n) zero = refl
zero_at (suc n) (suc w) = zero_at n w

pub all_zeros : (words : List ℤ) (n : ℕ) → words ≡ replicate n (pos 0) → store_of words ≡ zeros
all_zeros words n is = ap store_of is ∙ (λ i w. zero_at n w i)

grown_none : (o : Option (List ℕ)) → grown o [] ≡ o
grown_none None = refl
grown_none (Some bytes) = ap Some (append-nil bytes)

front_of : (before now : Option (List ℕ)) (all left : List ℕ) → grown now left ≡ grown before all → size_of_taken before ≤ size_of_taken now → (count : ℕ) × (now ≡ grown before (take count all))
front_of None None all left is le = (0, refl)
front_of None (Some bs) all left is le = cc
front_of (Some bs) None all left is le = cc
front_of (Some bs) (Some cs) all left is le =
    let same : cs ++ left ≡ bs ++ all = cc in
    (length cs - length bs, ap Some (front bs cs all left same le))
  where
    front : (bs cs all left : List ℕ) → cs ++ left ≡ bs ++ all → length bs ≤ length cs → cs ≡ bs ++ take (length cs - length bs) all
    front [] cs all left is le =
        let n : length cs ≡ length cs - 0 = omega arith in
        sym (take-append_seam cs left) ∙ ap (take (length cs)) is ∙ ap (λ m. take m all) n
    front (b ∷ bs) [] all left is le = absurd (omega (arith, le))
    front (b ∷ bs) (c ∷ cs) all left is le =
        let same : c ≡ b = cc in
        let rest : cs ++ left ≡ bs ++ all = cc in
        let n : length cs - length bs ≡ length (c ∷ cs) - length (b ∷ bs) = omega arith in
        ap₂ (λ x xs. x ∷ xs) same (front bs cs all left rest (omega (arith, le)) ∙ ap (λ m. bs ++ take m all) n)

-- the end that is meant
abbrev Ends : Meaning → Result (Unit {0}) Stop → Type 0
Ends m (Ok u) = m.end ≡ end.Done
Ends m (Err (Faulted f)) = m.end ≡ end.Faulted (record { kind = f.kind; line = f.line })
Ends m (Err Sink) = ⊥

-- all that is meant was printed, and is handed to the sink as far as it takes it
module _ (m : Meaning) (before : Option (List ℕ)) (y : Output) (now : Option (List ℕ)) (told : told y ≡ grown before m.bytes) (longer : size_of_taken before ≤ size_of_taken y.taken) where
  cut_run : GrewInPart y.taken now y.waits → IsRun m before now SinkFault
  cut_run part =
      let left = drop part.count y.waits in
      let all : grown now left ≡ grown before m.bytes =
      ap (λ o. grown o left) part.front ∙ grown-grown y.taken (take part.count y.waits) left ∙ ap (grown y.taken) (take-append-drop part.count y.waits) ∙ told in
      let more : size_of_taken y.taken ≤ size_of_taken now = subst (λ o. size_of_taken y.taken ≤ size_of_taken o) (sym part.front) (longer_grown y.taken (take part.count y.waits)) in
      front_of before now m.bytes left all (omega (arith, longer, more))

  whole_run : (e : Result (Unit {0}) Stop) → Ends m e → now ≡ grown y.taken y.waits → IsRun m before now (answer_of e)
  whole_run (Ok u) ends took = (took ∙ told, ends)
  whole_run (Err (Faulted f)) ends took = (took ∙ told, ends)
  whole_run (Err Sink) ends took = absurd ends

  handed_run : (e r : Result (Unit {0}) Stop) (risen : ℕ) → Ends m e → IsHanded e y r now risen → IsRun m before now (answer_of r)
  handed_run e (Ok u) risen ends h =
      let w = h.whole (λ is. cc is) in subst (λ a. IsRun m before now (answer_of a)) (sym w.0) (whole_run e ends w.1)
  handed_run e (Err (Faulted f)) risen ends h =
      let w = h.whole (λ is. cc is) in subst (λ a. IsRun m before now (answer_of a)) (sym w.0) (whole_run e ends w.1)
  handed_run e (Err Sink) risen ends h = cut_run (h.part refl).0

handed_cause : (y : Output) (now : Option (List ℕ)) (e r : Result (Unit {0}) Stop) (risen : ℕ) → IsHanded e y r now risen → HasPlainCause y.faults risen (answer_of r)
handed_cause y now e (Ok u) risen h =
    let w = h.whole (λ is. cc is) in record { later = omega (arith, w.2); failed = λ is. cc; kept = λ is. w.2 }
handed_cause y now e (Err (Faulted f)) risen h =
    let w = h.whole (λ is. cc is) in record { later = omega (arith, w.2); failed = λ is. cc; kept = λ is. w.2 }
handed_cause y now e (Err Sink) risen h =
    let w = h.part refl in record { later = w.1; failed = λ is. w.2; kept = λ is. absurd (is refl) }

-- nothing is left to come
abbrev pub over : Meaning
over = record { bytes = []; end = end.Done }

-- nothing waited in the beginning
module _ (m : Meaning) (x y : Output) (r : Result (Unit {0}) Stop) (now : Option (List ℕ)) (risen : ℕ) (none : x.waits ≡ []) where
  opening : grown (told x) m.bytes ≡ grown x.taken m.bytes
  opening = ap (λ l. grown (grown x.taken l) m.bytes) none ∙ ap (λ o. grown o m.bytes) (grown_none x.taken)

  all : grown (told x) m.bytes ≡ grown (told y) [] → told y ≡ grown x.taken m.bytes
  all is = sym (is ∙ grown_none (told y)) ∙ opening

  pub is_run : (e : Result (Unit {0}) Stop) → Comes m x e over y → IsHandedOn e y r now risen → IsRun m x.taken now (answer_of r)
  is_run (Ok u) h hands = handed_run m x.taken y now (all h.whole) h.longer (Ok u) r risen h.ends hands
  is_run (Err (Faulted f)) h hands = handed_run m x.taken y now (all h.whole) h.longer (Err (Faulted f)) r risen h.ends hands
  is_run (Err Sink) h hands =
      subst (λ a. IsRun m x.taken now (answer_of a)) (sym hands.0)
      (subst (λ o. IsRun m x.taken o SinkFault) (sym hands.1) (front_of x.taken y.taken m.bytes h.left (h.front ∙ opening) h.longer))

  pub has_cause : (e : Result (Unit {0}) Stop) → Comes m x e over y → IsHandedOn e y r now risen → HasPlainCause x.faults risen (answer_of r)
  has_cause (Ok u) h hands = subst (λ n. HasPlainCause n risen (answer_of r)) h.faults (handed_cause y now (Ok u) r risen hands)
  has_cause (Err (Faulted f)) h hands = subst (λ n. HasPlainCause n risen (answer_of r)) h.faults (handed_cause y now (Err (Faulted f)) r risen hands)
  has_cause (Err Sink) h hands =
      subst (λ a. HasPlainCause x.faults risen (answer_of a)) (sym hands.0)
      (subst (λ n. HasPlainCause x.faults n SinkFault) (sym hands.2) (record { later = h.later; failed = λ is. h.rose; kept = λ is. absurd (is refl) }))
