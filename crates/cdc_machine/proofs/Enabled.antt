-- What is true where an event does something.
use Rattle.std.proofs.Common.{◌≡◌, ℕ, zero, suc, ◌<◌, ◌⊎◌, inl, inr, Bool, true, false, Option, Some, None, refl, sym, ap, ◌∙◌, subst, nat_lt, if◌then◌else◌, ◌==◌, arith}
use Rattle.std.proofs.lemmas.Bool.{eqb-true, ltb-true}
use Rattle.cdc_prog.specs.InOrder.{first_of, or_else, choose}
use Rattle.cdc_sched.specs.declared.event.Event.{Event}
use Rattle.cdc_sched.specs.declared.event.Event.TheVariants as event
use Rattle.cdc_machine.specs.Machine.{TaskOf, Waiting, Running, Ended, PhaseOf, Serial, Doall, Over, StateOf, DeedOf, Rests, Takes, Acts, Closes, Drops, held, waiting, unended, hand, free, least_free, closing, taking, acting, enabled, unless_over, deed}

pub choose_by : {A B : Type 0} (P : B → Type 0) (o : Option A) (f : A → B) (b : B) → ((a : A) → o ≡ Some a → P (f a)) → (o ≡ None → P b) → P (choose o f b)
choose_by P None f b some none = none refl
choose_by P (Some a) f b some none = some a refl

pub found : {A : Type 0} (f : ℕ → Option A) (n : ℕ) (a : A) → first_of f n ≡ Some a → (k : ℕ) × (k < n) × (f k ≡ Some a)
found f zero a e = cc
found f (suc n) a e = go (first_of f n) (f n) refl refl e (found f n a)
  where
    go : (o o' : _) → first_of f n ≡ o → f n ≡ o' → or_else o o' ≡ Some a → (first_of f n ≡ Some a → (k : ℕ) × (k < n) × (f k ≡ Some a)) → (k : ℕ) × (k < suc n) × (f k ≡ Some a)
    go None o' q q' e below = (n, omega arith, q' ∙ e)
    go (Some b) o' q q' e below = let r = below (q ∙ e) in (r.0, omega (arith, r.1), r.2)

pub nowhere : {A : Type 0} (f : ℕ → Option A) (n : ℕ) → first_of f n ≡ None → (k : ℕ) → k < n → f k ≡ None
nowhere f zero e k lt = absurd (omega arith)
nowhere f (suc n) e k lt = go (first_of f n) refl e (λ q l. nowhere f n q k l)
  where
    go : (o : _) → first_of f n ≡ o → or_else o (f n) ≡ None → (first_of f n ≡ None → k < n → f k ≡ None) → f k ≡ None
    go (Some b) q e below = cc
    go None q e below =
        let earlier_or_last : (k ≡ n) ⊎ (k < n) = grind arith in
        elim earlier_or_last [ inl r ↦ ap f r ∙ e | inr l ↦ below q l ]

module _ {T : Type 0} where
  some_same : (a b : ℕ × T) → Some a ≡ Some b → a ≡ b
  some_same a b e = cc

  pub held_means : (p i : ℕ) (t : TaskOf T) (h : ℕ × T) → held p i t ≡ Some h → (h.0 ≡ i) × (t ≡ Running p h.1)
  held_means p i (Waiting at) h e = cc
  held_means p i (Ended q at) h e = cc
  held_means p i (Running q at) h e = go (q == p) refl e
    where
      go : (b : Bool) → (q == p) ≡ b → (if b then Some (i, at) else None) ≡ Some h → (h.0 ≡ i) × (Running q at ≡ Running p h.1)
      go false eq e = cc
      go true eq e =
          let same : ◌≡◌ {A = ℕ × T} (i, at) h = some_same (i, at) h e in
          (sym (ap (λ x. x.0) same), ap (λ x. Running x at) (eqb-true q p eq) ∙ ap (λ x. Running p x.1) same)

  pub waiting_means : (i : ℕ) (t : TaskOf T) (h : ℕ × T) → waiting i t ≡ Some h → (h.0 ≡ i) × (t ≡ Waiting h.1)
  waiting_means i (Running p at) h e = cc
  waiting_means i (Ended p at) h e = cc
  waiting_means i (Waiting at) h e =
      let same : ◌≡◌ {A = ℕ × T} (i, at) h = some_same (i, at) h e in
      (sym (ap (λ x. x.0) same), ap (λ x. Waiting x.1) same)

  pub unended_means : (t : TaskOf T) → unended t ≡ None → (p : ℕ) × (at : T) × (t ≡ Ended p at)
  unended_means (Waiting at) e = cc
  unended_means (Running p at) e = cc
  unended_means (Ended p at) e = (p, at, refl)

  abbrev pub IsLive : PhaseOf T → Type 0
  IsLive (Over end) = ⊥
  IsLive phase = Unit {0}

  abbrev pub AllEnded : StateOf T → Type 0
  AllEnded m = (i : ℕ) → i < m.count → (p : ℕ) × (at : T) × (m.tasks i ≡ Ended p at)

  -- what is true where a deed is done
  abbrev pub Fits : StateOf T → DeedOf T → Type 0
  Fits m Rests = Unit {0}
  Fits m (Takes p i at) = (i < m.count) × (m.tasks i ≡ Waiting at)
  Fits m (Acts p i at) = (i < m.count) × (m.tasks i ≡ Running p at)
  Fits m Closes = AllEnded m
  Fits m (Drops p line) = Unit {0}

  abbrev pub Enabled : StateOf T → DeedOf T → Type 0
  Enabled m Rests = Unit {0}
  Enabled m d = IsLive m.phase × Fits m d

  module _ (m : StateOf T) where
    acts : (p : ℕ) (h : ℕ × T) → hand p m ≡ Some h → Fits m (acting p h)
    acts p h e =
        let f = found (λ j. held p j (m.tasks j)) m.count h e in
        let w = held_means p f.0 (m.tasks f.0) h f.2 in
        subst (λ j. Fits m (Acts p j h.1)) (sym w.0) (f.1, w.1)

    takes : (p i : ℕ) (h : ℕ × T) → i < m.count → waiting i (m.tasks i) ≡ Some h → Fits m (taking p h)
    takes p i h lt e =
        let w = waiting_means i (m.tasks i) h e in
        subst (λ j. Fits m (Takes p j h.1)) (sym w.0) (lt, w.1)

    takes_free : (p i : ℕ) (h : ℕ × T) → free i m ≡ Some h → Fits m (taking p h)
    takes_free p i h e = go (nat_lt i m.count) refl e
      where
        go : (b : Bool) → nat_lt i m.count ≡ b → (if b then waiting i (m.tasks i) else None) ≡ Some h → Fits m (taking p h)
        go true q w = takes p i h (ltb-true i m.count q) w
        go false q w = cc

    takes_least : (p : ℕ) (h : ℕ × T) → least_free m ≡ Some h → Fits m (taking p h)
    takes_least p h e = let f = found (λ j. waiting j (m.tasks j)) m.count h e in takes p f.0 h f.1 f.2

    closes : Fits m (closing m)
    closes = choose_by (Fits m) (first_of (λ j. unended (m.tasks j)) m.count) (λ u. Rests) Closes (λ u e. tt)
        (λ e i lt. unended_means (m.tasks i) (nowhere (λ j. unended (m.tasks j)) m.count e i lt))

    fits : (e : Event) → Fits m (enabled e m)
    fits (event.Take p i) = choose_by (Fits m) (hand p m) (λ h. Rests) (choose (free i m) (taking p) Rests) (λ h e. tt)
        (λ e. choose_by (Fits m) (free i m) (taking p) Rests (takes_free p i) (λ w. tt))
    fits (event.Step p) = choose_by (Fits m) (hand p m) (acting p) (closing m) (acts p) (λ e. closes)
    fits (event.Next p) = choose_by (Fits m) (hand p m) (acting p) (choose (least_free m) (taking p) (closing m)) (acts p)
        (λ e. choose_by (Fits m) (least_free m) (taking p) (closing m) (takes_least p) (λ w. closes))
    fits (event.Evict p line) = tt

    live : (d : DeedOf T) → IsLive m.phase → Fits m d → Enabled m d
    live Rests l f = tt
    live (Takes p i at) l f = (l, f)
    live (Acts p i at) l f = (l, f)
    live Closes l f = (l, f)
    live (Drops p line) l f = (l, f)

    pub enabled_right : (e : Event) → Enabled m (deed e m)
    enabled_right e = go m.phase (λ l. live (enabled e m) l (fits e))
      where
        go : (phase : PhaseOf T) → (IsLive phase → Enabled m (enabled e m)) → Enabled m (unless_over phase (enabled e m))
        go Serial h = h tt
        go (Doall number next) h = h tt
        go (Over end) h = tt
