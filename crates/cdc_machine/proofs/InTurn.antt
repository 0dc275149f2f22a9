-- A machine whose processors act in turn ends.
use Rattle.std.proofs.Common.{◌≡◌, ℕ, zero, suc, ◌+◌, ◌*◌, ◌%◌, ◌/◌, ◌<◌, ◌≤◌, ◌⊎◌, inl, inr, List, [], ◌∷◌, ◌++◌, Option, Some, None, ℤ, refl, sym, ap, ◌∙◌, subst, if◌then◌else◌, arith}
use Rattle.std.specs.List.{All}
use Rattle.std.proofs.lemmas.List.Elements.{All-head, All-tail}
use Rattle.std.proofs.lemmas.Bool.{eq-eqb}
use Rattle.std.proofs.lemmas.Nat.{mod-mul-add}
use Rattle.std.proofs.Math.Nat.{mod-lt, mod-add-div', suc-mul, mul-suc}
use Rattle.cdc_prog.specs.InOrder.{first_of, choose}
use Rattle.cdc_code.specs.Act.{Act, Goes, Reads, Writes, Prints, Forks, Joins, Halts, Faults, Stuck}
use Rattle.cdc_sched.specs.declared.event.Event.{Event}
use Rattle.cdc_sched.specs.declared.event.Event.TheVariants as event
use Rattle.cdc_sched.specs.declared.header.TailKind.TheVariants.{RoundRobin}
use Rattle.cdc_sched.specs.Events.{processor}
use Rattle.cdc_machine.specs.Machine.{TaskOf, Waiting, Running, Ended, PhaseOf, Serial, Doall, Over, StateOf, DeedOf, Rests, Takes, Acts, Closes, Drops, held, waiting, unended, hand, free, least_free, closing, taking, acting, enabled, unless_over, deed, task_after, opened, stopped, least_fault, forked_by, forked, closed, call, done}
use Rattle.cdc_machine.specs.History as history
use Rattle.cdc_machine.specs.History.{given, counted}
use Rattle.cdc_machine.specs.Code.{tail_events}
use Rattle.cdc_machine.proofs.Updates.{everywhere}
use Rattle.cdc_machine.proofs.Enabled.{choose_by, found, nowhere, IsLive, Enabled, enabled_right}

never : {A : Type 0} (a : A) → ◌≡◌ {A = Option A} (Some a) None → ⊥
never a e = absurd (cc)

-- ---- one of the processors has something to do
module _ {T : Type 0} (procs : ℕ) where
  abbrev HeldBelow : TaskOf T → Type 0
  HeldBelow (Running p at) = p < procs
  HeldBelow t = Unit {0}

  -- tasks are held by processors that are there
  abbrev pub AreHeld : StateOf T → Type 0
  AreHeld m = (i : ℕ) → HeldBelow (m.tasks i)

  -- they are taken by such processors
  abbrev By : DeedOf T → Type 0
  By (Takes p i at) = p < procs
  By d = Unit {0}

  closing_by : (m : StateOf T) → By (closing m)
  closing_by m = choose_by By (first_of (λ k. unended (m.tasks k)) m.count) (λ u. Rests) Closes (λ u e. tt) (λ e. tt)

  enabled_by : (e : Event) (m : StateOf T) → processor e < procs → By (enabled e m)
  enabled_by (event.Take p i) m lt = choose_by By (hand p m) (λ h. Rests) (choose (free i m) (taking p) Rests) (λ h e. tt) (λ e. choose_by By (free i m) (taking p) Rests (λ h e. lt) (λ e. tt))
  enabled_by (event.Step p) m lt = choose_by By (hand p m) (acting p) (closing m) (λ h e. tt) (λ e. closing_by m)
  enabled_by (event.Next p) m lt = choose_by By (hand p m) (acting p) (choose (least_free m) (taking p) (closing m)) (λ h e. tt) (λ e. choose_by By (least_free m) (taking p) (closing m) (λ h e. lt) (λ e. closing_by m))
  enabled_by (event.Evict p line) m lt = tt

  deed_by : (e : Event) (m : StateOf T) → processor e < procs → By (deed e m)
  deed_by e m lt = go m.phase (enabled_by e m lt)
    where
      go : (phase : PhaseOf T) → By (enabled e m) → By (unless_over phase (enabled e m))
      go Serial h = h
      go (Doall number next) h = h
      go (Over end) h = tt

  task_held : (v : ℤ) (p : ℕ) (at : T) (a : Act T) → p < procs → HeldBelow (task_after v p at a)
  task_held v p at (Goes g) lt = lt
  task_held v p at (Reads path site mark w h) lt = lt
  task_held v p at (Writes path site w value g) lt = lt
  task_held v p at (Prints piece g) lt = lt
  task_held v p at (Forks path number count from by body next) lt = tt
  task_held v p at Joins lt = tt
  task_held v p at Halts lt = tt
  task_held v p at (Faults kind line) lt = tt
  task_held v p at Stuck lt = tt

  module _ (look : T → Act T) (entry exit : ℕ → List ℕ) where
    forked_held : (t : TaskOf T) (m : StateOf T) → AreHeld m → AreHeld (forked look entry exit t m)
    forked_held (Waiting at) m h = h
    forked_held (Running p at) m h = h
    forked_held (Ended p at) m h = go (look at)
      where
        go : (a : Act T) → AreHeld (forked_by look entry exit a m)
        go (Goes g) = h
        go (Reads path site mark w k) = h
        go (Writes path site w value g) = h
        go (Prints piece g) = h
        go (Forks path number count from by body next) = λ i. tt
        go Joins = h
        go Halts = h
        go (Faults kind line) = h
        go Stuck = h

    closed_held : (phase : PhaseOf T) (m : StateOf T) → AreHeld m → AreHeld (closed look entry exit phase m)
    closed_held Serial m h = forked_held (m.tasks 0) m h
    closed_held (Doall number next) m h = choose_by AreHeld (least_fault look entry exit m) (λ f. stopped f m) (opened Serial 1 (λ k. next) m) (λ f e. h) (λ e i. tt)
    closed_held (Over end) m h = h

    done_held : (v : ℤ) (d : DeedOf T) (m : StateOf T) → By d → Enabled m d → AreHeld m → AreHeld (done look entry exit v d m)
    done_held v Rests m by ok h = h
    done_held v (Takes p i at) m by ok h = everywhere (λ j t. HeldBelow t) m.tasks i (Running p at) by (λ j ne. h j)
    done_held v (Acts p i at) m by ok h = everywhere (λ j t. HeldBelow t) m.tasks i (task_after v p at (look at)) (task_held v p at (look at) (subst HeldBelow ok.1.1 (h i))) (λ j ne. h j)
    done_held v Closes m by ok h = closed_held m.phase m h
    done_held v (Drops p line) m by ok h = h

    pub event_held : (v : ℤ) (e : Event) (m : StateOf T) → processor e < procs → AreHeld m → AreHeld (done look entry exit v (deed e m) m)
    event_held v e m lt h = done_held v (deed e m) m (deed_by e m lt) (enabled_right m e) h

  -- ---- where nobody has anything to do
  abbrev pub IsIdle : DeedOf T → Type 0
  IsIdle Rests = Unit {0}
  IsIdle (Drops p line) = Unit {0}
  IsIdle d = ⊥

  pub idle_or_busy : (d : DeedOf T) → IsIdle d ⊎ (IsIdle d → ⊥)
  idle_or_busy Rests = inl tt
  idle_or_busy (Takes p i at) = inr (λ h. h)
  idle_or_busy (Acts p i at) = inr (λ h. h)
  idle_or_busy Closes = inr (λ h. h)
  idle_or_busy (Drops p line) = inl tt

  unchosen : {A : Type 0} (o : Option A) (f : A → DeedOf T) (d : DeedOf T) → ((a : A) → IsIdle (f a) → ⊥) → IsIdle (choose o f d) → (o ≡ None) × IsIdle d
  unchosen None f d busy idle = (refl, idle)
  unchosen (Some a) f d busy idle = absurd (busy a idle)

  unclosed : (m : StateOf T) → IsIdle (closing m) → (u : Unit {0}) × (first_of (λ k. unended (m.tasks k)) m.count ≡ Some u)
  unclosed m idle = go (first_of (λ k. unended (m.tasks k)) m.count) refl idle
    where
      go : (o : Option (Unit {0})) → first_of (λ k. unended (m.tasks k)) m.count ≡ o → IsIdle (choose o (λ u. Rests) Closes) → (u : Unit {0}) × (first_of (λ k. unended (m.tasks k)) m.count ≡ Some u)
      go None e h = absurd h
      go (Some u) e h = (u, e)

  -- a machine that has not ended has some processor that goes on
  pub someone : (m : StateOf T) → IsLive m.phase → AreHeld m → 1 ≤ procs → ((p : ℕ) → p < procs → IsIdle (deed (event.Next p) m)) → ⊥
  someone m live are some idle = by_task (m.tasks k) refl first.2
    where
      at_rest : (phase : PhaseOf T) → IsLive phase → (d : DeedOf T) → IsIdle (unless_over phase d) → IsIdle d
      at_rest Serial l d h = h
      at_rest (Doall number next) l d h = h
      at_rest (Over end) l d h = absurd l

      empty : (p : ℕ) → p < procs → (hand p m ≡ None) × IsIdle (choose (least_free m) (taking p) (closing m))
      empty p lt = unchosen (hand p m) (acting p) (choose (least_free m) (taking p) (closing m)) (λ h i. i) (at_rest m.phase live (enabled (event.Next p) m) (idle p lt))

      taken : (least_free m ≡ None) × IsIdle (closing m)
      taken = unchosen (least_free m) (taking 0) (closing m) (λ h i. i) (empty 0 (omega (arith, some))).1

      first : (k : ℕ) × (k < m.count) × (unended (m.tasks k) ≡ Some (unclosed m taken.1).0)
      first = found (λ j. unended (m.tasks j)) m.count (unclosed m taken.1).0 (unclosed m taken.1).1

      k : ℕ
      k = first.0

      holds_itself : (p : ℕ) (at : T) → held p k (Running p at) ≡ Some (k, at)
      holds_itself p at = ap (λ b. if b then Some (k, at) else None) (eq-eqb p p refl)

      by_task : (t : TaskOf T) → m.tasks k ≡ t → unended (m.tasks k) ≡ Some (unclosed m taken.1).0 → ⊥
      by_task (Waiting at) e u =
          let none : waiting k (m.tasks k) ≡ None = nowhere (λ j. waiting j (m.tasks j)) m.count taken.0 k first.1 in
          never (k, at) (sym (ap (waiting k) e) ∙ none)
      by_task (Running p at) e u =
          let none : held p k (m.tasks k) ≡ None = nowhere (λ j. held p j (m.tasks j)) m.count (empty p (subst HeldBelow e (are k))).0 k first.1 in
          never (k, at) (sym (holds_itself p at) ∙ (sym (ap (held p k) e) ∙ none))
      by_task (Ended p at) e u = never (unclosed m taken.1).0 (sym u ∙ ap unended e)

-- ---- turns
-- each processor has its turn among so many events in a row
turn : (procs n p : ℕ) → p < procs → (j : ℕ) × (n ≤ j) × (j < n + procs) × (j % procs ≡ p)
turn procs n p lt =
    let q = n / procs in
    let whole : n % procs + q * procs ≡ n = mod-add-div' n procs in
    let low : n % procs < procs = mod-lt n (omega (arith, lt)) in
    let later_or_now : (p < n % procs) ⊎ (n % procs ≤ p) = grind arith in
    elim later_or_now [
      | inl l ↦
          let more = suc-mul q procs in
          (suc q * procs + p, omega (arith, whole, low, l, more), omega (arith, whole, low, l, more), mod-mul-add (suc q) procs p lt)
      | inr l ↦ (q * procs + p, omega (arith, whole, low, l), omega (arith, whole, low, l, lt), mod-mul-add q procs p lt)
    ]

module _ {T : Type 0} (look : T → Act T) (entry exit : ℕ → List ℕ) (main : T) (procs lines : ℕ) (some : 1 ≤ procs) (events : List Event) (below : All (λ e. processor e < procs) events) where
  -- the events with so many turns after them
  abbrev turns : ℕ → List Event
  turns n = tail_events RoundRobin procs lines n ++ events

  abbrev pub state : ℕ → StateOf T
  state n = (history.after look entry exit main (turns n)).machine

  abbrev pub used : ℕ → ℕ
  used n = history.spent look entry exit main (turns n)

  abbrev next : ℕ → DeedOf T
  next n = deed (event.Next (n % procs)) (state n)

  -- the value that a load of the next event gives
  abbrev value : ℕ → ℤ
  value n = let h = history.after look entry exit main (turns n) in given (call look entry exit (next n) h.machine) h.calls

  held_before : (es : List Event) → All (λ e. processor e < procs) es → AreHeld procs (history.after look entry exit main es).machine
  held_before [] all = λ i. tt
  held_before (e ∷ es) all =
      let h = history.after look entry exit main es in
      event_held procs look entry exit (given (call look entry exit (deed e h.machine) h.machine) h.calls) e h.machine (All-head (λ e. processor e < procs) e es all) (held_before es (All-tail (λ e. processor e < procs) e es all))

  held_at : (n : ℕ) → AreHeld procs (state n)
  held_at zero = held_before events below
  held_at (suc n) = event_held procs look entry exit (value n) (event.Next (n % procs)) (state n) (mod-lt n (omega (arith, some))) (held_at n)

  -- ---- what an idle deed changes
  unmoved : (d : DeedOf T) (v : ℤ) (m : StateOf T) → IsIdle procs d → done look entry exit v d m ≡ m
  unmoved Rests v m h = refl
  unmoved (Takes p i at) v m h = absurd h
  unmoved (Acts p i at) v m h = absurd h
  unmoved Closes v m h = absurd h
  unmoved (Drops p line) v m h = refl

  uncounted : (d : DeedOf T) (n : ℕ) → IsIdle procs d → counted d n ≡ n
  uncounted Rests n h = refl
  uncounted (Takes p i at) n h = absurd h
  uncounted (Acts p i at) n h = absurd h
  uncounted Closes n h = absurd h
  uncounted (Drops p line) n h = refl

  one_more : (d : DeedOf T) (n : ℕ) → (IsIdle procs d → ⊥) → counted d n ≡ suc n
  one_more Rests n h = absurd (h tt)
  one_more (Takes p i at) n h = refl
  one_more (Acts p i at) n h = refl
  one_more Closes n h = refl
  one_more (Drops p line) n h = absurd (h tt)

  rises : (d : DeedOf T) (n : ℕ) → n ≤ counted d n
  rises Rests n = omega arith
  rises (Takes p i at) n = omega arith
  rises (Acts p i at) n = omega arith
  rises Closes n = omega arith
  rises (Drops p line) n = omega arith

  rising : (n m : ℕ) → n ≤ m → used n ≤ used m
  rising n zero le = let e : n ≡ 0 = omega (arith, le) in omega (arith, ap used e)
  rising n (suc m) le =
      let last_or_earlier : (n ≡ suc m) ⊎ (n ≤ m) = grind arith in
      elim last_or_earlier [ inl e ↦ omega (arith, ap used e) | inr l ↦ omega (arith, rising n m l, rises (next m) (used m)) ]

  live_before : (e : Event) (v : ℤ) (m : StateOf T) → IsLive (done look entry exit v (deed e m) m).phase → IsLive m.phase
  live_before e v m live = go m.phase refl live
    where
      go : (phase : PhaseOf T) → m.phase ≡ phase → IsLive (done look entry exit v (unless_over phase (enabled e m)) m).phase → IsLive phase
      go Serial is l = tt
      go (Doall number next) is l = tt
      go (Over end) is l = subst IsLive is l

  -- one that has ended stays ended
  live_earlier : (n m : ℕ) → n ≤ m → IsLive (state m).phase → IsLive (state n).phase
  live_earlier n zero le l = let e : n ≡ 0 = omega (arith, le) in subst (λ k. IsLive (state k).phase) (sym e) l
  live_earlier n (suc m) le l =
      let last_or_earlier : (n ≡ suc m) ⊎ (n ≤ m) = grind arith in
      elim last_or_earlier [ inl e ↦ subst (λ k. IsLive (state k).phase) (sym e) l | inr lt ↦ live_earlier n m lt (live_before (event.Next (m % procs)) (value m) (state m) l) ]

  abbrev IdleUntil : (n m : ℕ) → Type 0
  IdleUntil n m = (state m ≡ state n) × ((j : ℕ) → n ≤ j → j < m → IsIdle procs (deed (event.Next (j % procs)) (state n)))

  -- where nothing was spent, each turn was idle
  idle_until : (n m : ℕ) → n ≤ m → used m ≤ used n → IdleUntil n m
  idle_until n zero le same = let e : 0 ≡ n = omega (arith, le) in (ap state e, λ j a b. absurd (omega (arith, a, b)))
  idle_until n (suc m) le same =
      let last_or_earlier : (n ≡ suc m) ⊎ (n ≤ m) = grind arith in
      elim last_or_earlier [
        | inl e ↦ (ap state (sym e), λ j a b. absurd (omega (arith, a, b, e)))
        | inr l ↦ step l (λ spent. idle_until n m l spent) (idle_or_busy procs (next m))
      ]
    where
      step : n ≤ m → (used m ≤ used n → IdleUntil n m) → IsIdle procs (next m) ⊎ (IsIdle procs (next m) → ⊥) → IdleUntil n (suc m)
      step l before (inr busy) = absurd (omega (arith, same, rising n m l, one_more (next m) (used m) busy))
      step l before (inl idle) =
          let r = before (omega (arith, same, uncounted (next m) (used m) idle)) in (
            unmoved (next m) (value m) (state m) idle ∙ r.0,
            λ j a b.
                let last_or_before : (j ≡ m) ⊎ (j < m) = grind arith in
                elim last_or_before [
                  | inl e ↦ subst (λ k. IsIdle procs (deed (event.Next (k % procs)) (state n))) (sym e) (subst (λ s. IsIdle procs (deed (event.Next (m % procs)) s)) r.0 idle)
                  | inr lt ↦ r.1 j a lt
                ],
          )

  -- one of the turns of all processors is not
  pub moves : (n : ℕ) → IsLive (state n).phase → used n < used (n + procs)
  moves n live =
      let still_or_on : (used (n + procs) ≤ used n) ⊎ (used n < used (n + procs)) = grind arith in
      elim still_or_on [
        | inl still ↦
            let all = idle_until n (n + procs) (omega arith) still in
            absurd (someone procs (state n) live (held_at n) some (λ p lt.
            let t = turn procs n p lt in
            subst (λ q. IsIdle procs (deed (event.Next q) (state n))) t.3 (all.1 t.0 t.1 t.2)))
        | inr on ↦ on
      ]

  after_rounds : (k : ℕ) → IsLive (state (procs * k)).phase → k ≤ used (procs * k)
  after_rounds zero live = omega arith
  after_rounds (suc k) live =
      let all : procs * suc k ≡ procs * k + procs = mul-suc procs k ∙ omega arith in
      let before = live_earlier (procs * k) (procs * suc k) (omega (arith, all)) live in
      omega (arith, after_rounds k before, moves (procs * k) before, ap used all)

  -- rounds enough end it
  pub ended : (total : ℕ) → ((es : List Event) → history.spent look entry exit main es ≤ total) → (n : ℕ) → procs * total ≤ n → IsLive (state n).phase → ⊥
  ended total bounded n le live =
      let before = live_earlier (procs * total) n le live in
      omega (arith, after_rounds total before, moves (procs * total) before, bounded (turns (procs * total + procs)))
