-- One act of a task that does a process.
use Rattle.std.proofs.Common.{◌≡◌, ◌≢◌, ℕ, suc, ◌+◌, ◌*◌, ◌≤◌, ℤ, List, [], ◌∷◌, ◌++◌, inl, Bool, true, false, refl, sym, ap, ◌∙◌, subst, append_assoc, if◌then◌else◌, ◌==◌, arith}
use Rattle.std.proofs.Math.Path.{fun_ext}
use Rattle.std.proofs.lemmas.Bool.{eqb-true, eq-eqb}
use Rattle.cdc_prog.specs.declared.program.Mark.{Mark}
use Rattle.cdc_prog.specs.Data.{Store, put}
use Rattle.cdc_prog.specs.Process.{Process, Load, Tick}
use Rattle.cdc_prog.specs.Alone.{Access, accesses, left, ending, ticks}
use Rattle.cdc_prog.specs.Apart.{Touches, Writes as WritesTo, StaysApart}
use Rattle.cdc_prog.specs.Bodies.{ComesOnlyTo}
use Rattle.cdc_prog.specs.InOrder.{fault_of, output, ends}
use Rattle.cdc_prog.specs.Cost.{full_cost}
use Rattle.cdc_prog.proofs.Alone.{put_other, put_alike, touches_later, writes_later}
use Rattle.cdc_code.specs.Act.{Act, Goes, Reads, Writes, Prints, Forks, Joins, Halts, Faults, Stuck}
use Rattle.cdc_fabric.specs.Calls.{Call, last_store}
use Rattle.cdc_fabric.specs.Calls as call
use Rattle.cdc_machine.specs.Machine.{TaskOf, Waiting, Running, Ended, task_after, said_by, fault_by, call_by}
use Rattle.cdc_machine.specs.History.{memory, given, noted, access_by}
use Rattle.cdc_machine.specs.Doing as doing
use Rattle.cdc_machine.specs.Doing.{Stops, Now}
use Rattle.cdc_machine.specs.Standing.{IterationsJoin, Halfway, paid, StandsWithin, StandsAt, Iterating}

-- a store is what the calls so far make of it
same_test : (x w : ℕ) → (x == w) ≡ (w == x)
same_test x w = go (x == w) (w == x) refl refl
  where
    go : (a b : Bool) → (x == w) ≡ a → (w == x) ≡ b → (x == w) ≡ (w == x)
    go true b e f = e ∙ sym (eq-eqb w x (sym (eqb-true x w e)))
    go false true e f = eq-eqb x w (sym (eqb-true w x f)) ∙ sym f
    go false false e f = e ∙ sym f

pub memory_stored : (calls : List Call) (p x : ℕ) (v : ℤ) → memory (call.Store p x v ∷ calls) ≡ put (memory calls) x v
memory_stored calls p x v = fun_ext (λ w. ap (λ b. if b then v else last_store w calls) (same_test x w))

module _ {T : Type 0} where
  -- what memory holds after an act
  abbrev pub content : Act T → Store → Store
  content (Writes path site w value g) m = put m w value
  content a m = m

  pub memory_after : (look : T → Act T) (entry exit : ℕ → List ℕ) (p : ℕ) (a : Act T) (calls : List Call) → memory (noted (call_by look entry exit p a) calls) ≡ content a (memory calls)
  memory_after look entry exit p (Goes g) calls = refl
  memory_after look entry exit p (Reads path site mark w h) calls = refl
  memory_after look entry exit p (Writes path site w v g) calls = memory_stored calls p w v
  memory_after look entry exit p (Prints piece g) calls = refl
  memory_after look entry exit p (Forks path number count from by body next) calls = refl
  memory_after look entry exit p Joins calls = refl
  memory_after look entry exit p Halts calls = refl
  memory_after look entry exit p (Faults kind line) calls = refl
  memory_after look entry exit p Stuck calls = refl

  -- v is what a load by this act gives on a store
  abbrev pub Gives : Act T → Store → ℤ → Type 0
  Gives (Reads path site mark w h) t v = v ≡ t w
  Gives a t v = Unit {0}

  pub gives_last : (look : T → Act T) (entry exit : ℕ → List ℕ) (p : ℕ) (a : Act T) (calls : List Call) → Gives a (memory calls) (given (call_by look entry exit p a) calls)
  gives_last look entry exit p (Goes g) calls = tt
  gives_last look entry exit p (Reads path site mark w h) calls = refl
  gives_last look entry exit p (Writes path site w v g) calls = tt
  gives_last look entry exit p (Prints piece g) calls = tt
  gives_last look entry exit p (Forks path number count from by body next) calls = tt
  gives_last look entry exit p Joins calls = tt
  gives_last look entry exit p Halts calls = tt
  gives_last look entry exit p (Faults kind line) calls = tt
  gives_last look entry exit p Stuck calls = tt

  -- the access of an act is among these
  abbrev pub Among : List Access → Act T → Type 0
  Among l (Reads path site mark w h) = Touches l w
  Among l (Writes path site w v g) = WritesTo l w
  Among l a = Unit {0}

  among_later : (made l : List Access) (a : Act T) → Among l a → Among (made ++ l) a
  among_later made l (Goes g) h = tt
  among_later made l (Reads path site mark w k) h = touches_later made l w h
  among_later made l (Writes path site w v g) h = writes_later made l w h
  among_later made l (Prints piece g) h = tt
  among_later made l (Forks path number count from by body next) h = tt
  among_later made l Joins h = tt
  among_later made l Halts h = tt
  among_later made l (Faults kind line) h = tt
  among_later made l Stuck h = tt

  -- the process q on the store t does this act, past so many ticks, and goes on as q'
  pub record Leads (q : Process) (t : Store) (a : Act T) (v : ℤ) (q' : Process) (passed : ℕ) : Type 0 where
    pub accesses : accesses q t ≡ access_by v a ++ accesses q' (content a t)
    pub left : left q t ≡ left q' (content a t)
    pub ending : ending q t ≡ ending q' (content a t)
    pub output : output q t ≡ said_by a ++ output q' (content a t)
    pub ends : ends q t ≡ ends q' (content a t)
    pub apart : StaysApart q t → StaysApart q' (content a t)
    pub join : IterationsJoin q → IterationsJoin q'
    pub only : ComesOnlyTo ⊥ ⊥ ⊥ q → ComesOnlyTo ⊥ ⊥ ⊥ q'
    pub ticks : passed + ticks q' (content a t) ≡ ticks q t
    pub full : passed + full_cost q' (content a t) ≡ full_cost q t

  ticked : (next : Process) (t : Store) (a : Act T) (v : ℤ) (q' : Process) (n : ℕ) → Leads next t a v q' n → Leads (Tick next) t a v q' (suc n)
  ticked next t a v q' n l = record {
    accesses = l.accesses;
    left = l.left;
    ending = l.ending;
    output = l.output;
    ends = l.ends;
    apart = l.apart;
    join = l.join;
    only = l.only;
    ticks = omega (arith, l.ticks);
    full = omega (arith, l.full);
  }

  module _ (look : T → Act T) (Does : ℕ → Process → T → Type 0) (mark : ℕ → Mark) where
    -- ---- a task at its end
    pub stops_fault : (b : ℕ) (q : Process) (a : Act T) (s : Store) → Stops Does mark b q a → fault_by a ≡ fault_of (ending q s)
    stops_fault b q a s (doing.forks _ c path number count from by body begin next on le each rest) = refl
    stops_fault b q a s (doing.joins _ le) = refl
    stops_fault b q a s (doing.halts _ le) = refl
    stops_fault b q a s (doing.faults _ kind line le) = refl
    stops_fault b q a s (doing.later _ next _ h) = stops_fault (b + 8) next a s h

    pub stops_left : (b : ℕ) (q : Process) (a : Act T) (s : Store) → Stops Does mark b q a → left q s ≡ s
    stops_left b q a s (doing.forks _ c path number count from by body begin next on le each rest) = refl
    stops_left b q a s (doing.joins _ le) = refl
    stops_left b q a s (doing.halts _ le) = refl
    stops_left b q a s (doing.faults _ kind line le) = refl
    stops_left b q a s (doing.later _ next _ h) = stops_left (b + 8) next a s h

    -- its end leaves room for two of the budget and eight for each tick
    pub stops_room : (b : ℕ) (q : Process) (a : Act T) (s : Store) → Stops Does mark b q a → 2 ≤ b + 8 * ticks q s
    stops_room b q a s (doing.forks _ c path number count from by body begin next on le each rest) = omega (arith, le)
    stops_room b q a s (doing.joins _ le) = omega (arith, le)
    stops_room b q a s (doing.halts _ le) = omega (arith, le)
    stops_room b q a s (doing.faults _ kind line le) = omega (arith, le)
    stops_room b q a s (doing.later _ next _ h) = omega (arith, stops_room (b + 8) next a s h)

    now_room : (b : ℕ) (q : Process) (a : Act T) (s : Store) → Now Does mark b q a → 1 ≤ b + 8 * ticks q s
    now_room b q a s (doing.quiet _ c _ f le d) = omega (arith, le)
    now_room b q a s (doing.reads _ c path site w next h le d) = omega (arith, le)
    now_room b q a s (doing.writes _ c path site w value next f le d) = omega (arith, le)
    now_room b q a s (doing.prints _ c piece next f le d) = omega (arith, le)
    now_room b q a s (doing.stops _ _ _ h) = omega (arith, stops_room b q a s h)
    now_room b q a s (doing.ticks _ next _ h) = omega (arith, now_room (b + 8) next a s h)

    -- there is room for what was paid
    pub paid_room : ((b : ℕ) (q : Process) (at : T) → Does b q at → Now Does mark b q (look at)) → (b : ℕ) (t : TaskOf T) (q : Process) (s : Store) → StandsWithin look Does mark b t q → paid t ≤ b + 8 * ticks q s
    paid_room now b (Waiting at) q s h = omega arith
    paid_room now b (Running p at) q s h = now_room b q (look at) s (now b q at h)
    paid_room now b (Ended p at) q s h = stops_room b q (look at) s h

    stays : (b : ℕ) (q : Process) (a : Act T) (t : Store) (v : ℤ) → Stops Does mark b q a → Leads q t a v q 0
    stays b q a t v (doing.forks _ c path number count from by body begin next on le each rest) =
        record { accesses = refl; left = refl; ending = refl; output = refl; ends = refl; apart = λ h. h; join = λ h. h; only = λ h. h; ticks = omega arith; full = omega arith }
    stays b q a t v (doing.joins _ le) = record { accesses = refl; left = refl; ending = refl; output = refl; ends = refl; apart = λ h. h; join = λ h. h; only = λ h. h; ticks = omega arith; full = omega arith }
    stays b q a t v (doing.halts _ le) = record { accesses = refl; left = refl; ending = refl; output = refl; ends = refl; apart = λ h. h; join = λ h. h; only = λ h. h; ticks = omega arith; full = omega arith }
    stays b q a t v (doing.faults _ kind line le) = record { accesses = refl; left = refl; ending = refl; output = refl; ends = refl; apart = λ h. h; join = λ h. h; only = λ h. h; ticks = omega arith; full = omega arith }
    stays b q a t v (doing.later _ next _ h) =
        let l = stays (b + 8) next a t v h in
        record {
          accesses = l.accesses;
          left = l.left;
          ending = l.ending;
          output = l.output;
          ends = l.ends;
          apart = l.apart;
          join = l.join;
          only = l.only;
          ticks = omega (arith, l.ticks);
          full = omega (arith, l.full);
        }

    pub stops_ended : (b : ℕ) (q : Process) (a : Act T) (v : ℤ) (p : ℕ) (at : T) → Stops Does mark b q a → task_after v p at a ≡ Ended p at
    stops_ended b q a v p at (doing.forks _ c path number count from by body begin next on le each rest) = refl
    stops_ended b q a v p at (doing.joins _ le) = refl
    stops_ended b q a v p at (doing.halts _ le) = refl
    stops_ended b q a v p at (doing.faults _ kind line le) = refl
    stops_ended b q a v p at (doing.later _ next _ h) = stops_ended (b + 8) next a v p at h

    ended : (b : ℕ) (q : Process) (a : Act T) (v : ℤ) (p : ℕ) (at : T) → look at ≡ a → Stops Does mark b q a → StandsWithin look Does mark b (task_after v p at a) q
    ended b q a v p at e h = subst (λ u. StandsWithin look Does mark b u q) (sym (stops_ended b q a v p at h)) (subst (Stops Does mark b q) (sym e) h)

    -- ---- an act of a task
    pub record Went (b : ℕ) (q : Process) (t : Store) (a : Act T) (v : ℤ) (u : TaskOf T) : Type 0 where
      pub rest : Process
      pub passed : ℕ
      pub stands : StandsAt look Does mark u rest
      pub leads : Leads q t a v rest passed
      pub fewer : stands.0 + 2 ≤ b + 8 * passed + paid u

    pub goes : (b : ℕ) (q : Process) (a : Act T) (t : Store) (v : ℤ) (p : ℕ) (at : T) → look at ≡ a → Gives a t v → Now Does mark b q a → Went b q t a v (task_after v p at a)
    goes b q a t v p at e g (doing.quiet _ c _ f le d) =
        record { rest = q; passed = 0; stands = (c, d); leads = record { accesses = refl; left = refl; ending = refl; output = refl; ends = refl; apart = λ h. h; join = λ h. h; only = λ h. h; ticks = omega arith; full = omega arith }; fewer = omega (arith, le) }
    goes b q a t v p at e g (doing.reads _ c path site w next h le d) =
        let there : Leads (Load path site w next) t (Reads path site (mark site) w h) (t w) (next (t w)) 0 =
        record { accesses = refl; left = refl; ending = refl; output = refl; ends = refl; apart = λ k. k; join = λ k. k (t w); only = λ k. k (t w); ticks = omega arith; full = omega arith } in
        record { rest = next v; passed = 0; stands = (c, d v); leads = subst (λ x. Leads (Load path site w next) t (Reads path site (mark site) w h) x (next x) 0) (sym g) there; fewer = omega (arith, le) }
    goes b q a t v p at e g (doing.writes _ c path site w value next f le d) =
        record { rest = next; passed = 0; stands = (c, d); leads = record { accesses = refl; left = refl; ending = refl; output = refl; ends = refl; apart = λ k. k; join = λ k. k; only = λ k. k; ticks = omega arith; full = omega arith }; fewer = omega (arith, le) }
    goes b q a t v p at e g (doing.prints _ c piece next f le d) =
        record { rest = next; passed = 0; stands = (c, d); leads = record { accesses = refl; left = refl; ending = refl; output = refl; ends = refl; apart = λ k. k; join = λ k. k; only = λ k. k.1; ticks = omega arith; full = omega arith }; fewer = omega (arith, le) }
    goes b q a t v p at e g (doing.stops _ _ _ h) = record { rest = q; passed = 0; stands = (b, ended b q a v p at e h); leads = stays b q a t v h; fewer = omega (arith, ap paid (stops_ended b q a v p at h)) }
    goes b q a t v p at e g (doing.ticks _ next _ h) =
        let r = goes (b + 8) next a t v p at e g h in
        record { rest = r.rest; passed = suc r.passed; stands = r.stands; leads = ticked next t a v r.rest r.passed r.leads; fewer = omega (arith, r.fewer) }

    -- the first access of what is left of a task is that of its act
    first_access : (b : ℕ) (q : Process) (a : Act T) (t : Store) → Now Does mark b q a → Among (accesses q t) a
    first_access b q a t (doing.quiet _ c _ f le d) = tt
    first_access b q a t (doing.reads _ c path site w next h le d) = inl refl
    first_access b q a t (doing.writes _ c path site w value next f le d) = inl refl
    first_access b q a t (doing.prints _ c piece next f le d) = tt
    first_access b q a t (doing.stops _ _ _ h) = last_access b q a h
      where
        last_access : (b : ℕ) (q : Process) (a : Act T) → Stops Does mark b q a → Among (accesses q t) a
        last_access b q a (doing.forks _ c path number count from by body begin next on le each rest) = tt
        last_access b q a (doing.joins _ le) = tt
        last_access b q a (doing.halts _ le) = tt
        last_access b q a (doing.faults _ kind line le) = tt
        last_access b q a (doing.later _ next _ k) = last_access (b + 8) next a k
    first_access b q a t (doing.ticks _ next _ h) = first_access (b + 8) next a t h

    -- ---- an iteration
    module _ (b0 : Process) (s m : Store) (made : List Access) where
      pub own_access : (b : ℕ) (q : Process) (a : Act T) → Now Does mark b q a → Halfway b0 s m made q → Among (accesses b0 s) a
      own_access b q a n h = subst (λ l. Among l a) (sym h.prefix) (among_later made (accesses q h.view) a (first_access b q a h.view n))

      -- a load gives the iteration what it sees
      sees : (a : Act T) (view : Store) (v : ℤ) → ((w : ℕ) → Touches (accesses b0 s) w → m w ≡ view w) → Among (accesses b0 s) a → Gives a m v → Gives a view v
      sees (Goes g) view v agree among gives = tt
      sees (Reads path site x w h) view v agree among gives = gives ∙ agree w among
      sees (Writes path site w value g) view v agree among gives = tt
      sees (Prints piece g) view v agree among gives = tt
      sees (Forks path number count from by body next) view v agree among gives = tt
      sees Joins view v agree among gives = tt
      sees Halts view v agree among gives = tt
      sees (Faults kind line) view v agree among gives = tt
      sees Stuck view v agree among gives = tt

      still_sees : (a : Act T) (view : Store) → ((w : ℕ) → Touches (accesses b0 s) w → m w ≡ view w) → (w : ℕ) → Touches (accesses b0 s) w → content a m w ≡ content a view w
      still_sees (Goes g) view agree w t = agree w t
      still_sees (Reads path site x y h) view agree w t = agree w t
      still_sees (Writes path site x value g) view agree w t = put_alike m view x value w (agree w t)
      still_sees (Prints piece g) view agree w t = agree w t
      still_sees (Forks path number count from by body next) view agree w t = agree w t
      still_sees Joins view agree w t = agree w t
      still_sees Halts view agree w t = agree w t
      still_sees (Faults kind line) view agree w t = agree w t
      still_sees Stuck view agree w t = agree w t

      -- it makes its own act, which takes from its share
      pub iterates : (b : ℕ) (q : Process) (a : Act T) (v : ℤ) (p : ℕ) (at : T) (share : ℕ) → look at ≡ a → Gives a m v → Now Does mark b q a → ComesOnlyTo ⊥ ⊥ ⊥ q → (h : Halfway b0 s m made q) → b + 8 * ticks q h.view ≤ share
          → (left : ℕ) × Iterating look Does mark b0 s (content a m) (made ++ access_by v a) left (task_after v p at a) × (left + 2 ≤ share + paid (task_after v p at a))
      iterates b q a v p at share e gives n only h within =
          let w = goes b q a h.view v p at e (sees a h.view v h.sees (own_access b q a n h) gives) n in (
            w.stands.0 + 8 * ticks w.rest (content a h.view),
            record {
              rest = w.rest;
              stands = w.stands;
              only = w.leads.only only;
              halfway = record {
                view = content a h.view;
                prefix = h.prefix ∙ (ap (λ l. made ++ l) w.leads.accesses ∙ sym (append_assoc made (access_by v a) (accesses w.rest (content a h.view))));
                leaves = sym w.leads.left ∙ h.leaves;
                ending = sym w.leads.ending ∙ h.ending;
                sees = still_sees a h.view h.sees;
              };
              within = omega arith;
            },
            omega (arith, within, w.fewer, w.leads.ticks),
          )

      -- another task makes an act, which writes no word that it touches
      pub unmoved : (a : Act T) (w : ℕ) → ((path : List ℕ) (site x : ℕ) (value : ℤ) (g : T) → a ≡ Writes path site x value g → x ≢ w) → content a m w ≡ m w
      unmoved (Goes g) w ne = refl
      unmoved (Reads path site x y h) w ne = refl
      unmoved (Writes path site x value g) w ne = put_other m x value w (λ e. ne path site x value g refl (sym e))
      unmoved (Prints piece g) w ne = refl
      unmoved (Forks path number count from by body next) w ne = refl
      unmoved Joins w ne = refl
      unmoved Halts w ne = refl
      unmoved (Faults kind line) w ne = refl
      unmoved Stuck w ne = refl

      pub undisturbed : (a : Act T) (t : TaskOf T) (share : ℕ) → ((w : ℕ) → Touches (accesses b0 s) w → content a m w ≡ m w) → Iterating look Does mark b0 s m made share t → Iterating look Does mark b0 s (content a m) made share t
      undisturbed a t share same it = record {
        rest = it.rest;
        stands = it.stands;
        only = it.only;
        halfway = record {
          view = it.halfway.view;
          prefix = it.halfway.prefix;
          leaves = it.halfway.leaves;
          ending = it.halfway.ending;
          sees = λ w h. same w h ∙ it.halfway.sees w h;
        };
        within = it.within;
      }

    pub begins : (b : Process) (s : Store) (t : TaskOf T) (share : ℕ) → (stands : StandsAt look Does mark t b) → ComesOnlyTo ⊥ ⊥ ⊥ b → stands.0 + 8 * ticks b s ≤ share → Iterating look Does mark b s s [] share t
    begins b s t share stands only within = record {
      rest = b;
      stands = stands;
      only = only;
      halfway = record { view = s; prefix = refl; leaves = refl; ending = refl; sees = λ w h. refl };
      within = within;
    }
