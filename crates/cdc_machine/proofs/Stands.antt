-- Each event keeps what is true of the machine.
use Rattle.std.proofs.Common.{◌≡◌, ℕ, suc, ◌+◌, ◌*◌, ◌<◌, ◌≤◌, ℤ, List, [], ◌∷◌, ◌++◌, Option, Some, None, refl, sym, ap, ◌∙◌, subst, append_assoc, append-nil, arith}
use Rattle.std.specs.Prelude.{pos}
use Rattle.cdc_prog.specs.declared.piece.Piece.{Piece}
use Rattle.cdc_prog.specs.declared.fault.Fault.{Fault}
use Rattle.cdc_prog.specs.declared.program.Mark.{Mark}
use Rattle.cdc_prog.specs.Data.{Store, zeros}
use Rattle.cdc_prog.specs.Process.{Process, Tick, Fork}
use Rattle.cdc_prog.specs.Alone.{accesses, ticks}
use Rattle.cdc_prog.specs.Apart.{Writes as WritesTo, StaysApart}
use Rattle.cdc_prog.specs.Bodies.{ComesOnlyTo}
use Rattle.cdc_prog.specs.InOrder.{End, Done, Faulted, fault_of, first_fault, after, choose, printed_below, output, ends}
use Rattle.cdc_prog.specs.Cost.{full_cost}
use Rattle.cdc_prog.specs.Cost.{spent_in_full}
use Rattle.cdc_prog.proofs.InOrder.{cost_rest}
use Rattle.cdc_code.specs.Act.{Act, Goes, Reads, Writes, Prints, Forks, Joins, Halts, Faults, Stuck}
use Rattle.cdc_fabric.specs.Calls.{Boundary}
use Rattle.cdc_sched.specs.declared.event.Event.{Event}
use Rattle.cdc_machine.specs.Machine.{TaskOf, Waiting, Running, PhaseOf, Serial, Doall, Over, DeedOf, Rests, Takes, Acts, Closes, Drops, with_at, task_after, said_by, phase_after, opened, stopped, task_fault, least_fault, call_by, call, acted, forked, forked_by, fork_call, fork_call_by, closing_call, closed, deed}
use Rattle.cdc_machine.specs.History as history
use Rattle.cdc_machine.specs.History.{memory, given, noted, HistoryOf, epoch_by, access_by, counted, went, on, spent}
use Rattle.cdc_machine.specs.Doing as doing
use Rattle.cdc_machine.specs.Doing.{Stops, Now}
use Rattle.cdc_machine.specs.Standing.{IterationsJoin, Continues, paid, sum_below, IsForking, StandsWithin, EndsForking, InSerial, Iterating, InDoall, StandsIn, Stands}
use Rattle.cdc_machine.proofs.Updates.{everywhere, everywhere_in_three}
use Rattle.cdc_machine.proofs.Sums.{sum_at_most, sum_with, cost_alone}
use Rattle.cdc_machine.proofs.InOrder.{none_printed, least_in_order, store_in_order}
use Rattle.cdc_machine.proofs.Enabled.{IsLive, AllEnded, Enabled, enabled_right}
use Rattle.cdc_machine.proofs.Steps.{content, memory_after, Gives, gives_last, Among, stops_fault, stops_left, paid_room, goes, own_access, iterates, unmoved, undisturbed, begins}

module _ {T : Type 0} (look : T → Act T) (entry exit : ℕ → List ℕ) (Does : ℕ → Process → T → Type 0) (mark : ℕ → Mark) (now : (b : ℕ) (q : Process) (at : T) → Does b q at → Now Does mark b q (look at)) (out : List Piece) (last : End) (total : ℕ) where
  abbrev In : (spent : ℕ) → (ℕ → Process) → PhaseOf T → HistoryOf T → Type 0
  In = StandsIn look Does mark out last total

  -- ---- a taking
  takes_serial : (n p : ℕ) (at : T) (began : ℕ → Process) (h : HistoryOf T) (v : ℤ) → h.machine.tasks 0 ≡ Waiting at → InSerial look Does mark out last total n (began 0) h → InSerial look Does mark out last total (suc n) (began 0) (went look entry exit v (Takes p 0 at) h)
  takes_serial n p at began h v e s = record {
    one = s.one;
    first = s.first;
    rest = s.rest;
    stands = (s.stands.0, subst (λ t. StandsWithin look Does mark s.stands.0 t s.rest) e s.stands.1);
    prefix = s.prefix;
    goes_on = s.goes_on;
    forks = tt;
    within = omega (arith, s.within, ap paid e);
  }

  takes_doall : (n p i : ℕ) (at : T) (number : ℕ) (next : T) (began : ℕ → Process) (h : HistoryOf T) (v : ℤ) → i < h.machine.count → h.machine.tasks i ≡ Waiting at → InDoall look Does mark out last total n number next began h → InDoall look Does mark out last total (suc n) number next began (went look entry exit v (Takes p i at) h)
  takes_doall n p i at number next began h v lt e d =
      let s = memory h.epoch.before in
      let m = memory h.calls in
      record {
        first = d.first;
        after = d.after;
        goes_on = d.goes_on;
        shares = d.shares;
        each = everywhere (λ j t. j < h.machine.count → Iterating look Does mark (began j) s m (h.epoch.made j) (d.shares j) t) h.machine.tasks i (Running p at)
            (λ lt. let it = d.each i lt in
            record { rest = it.rest; stands = (it.stands.0, subst (λ t. StandsWithin look Does mark it.stands.0 t it.rest) e it.stands.1); only = it.only; halfway = it.halfway; within = it.within })
            (λ j ne. d.each j);
        others = d.others;
        within = omega (arith, d.within, sum_with paid h.machine.count h.machine.tasks i (Running p at) lt, ap paid e);
      }

  takes_kept : (n p i : ℕ) (at : T) (began : ℕ → Process) (h : HistoryOf T) (v : ℤ) → i < h.machine.count → h.machine.tasks i ≡ Waiting at → IsLive h.machine.phase → Stands look Does mark out last total n began h → Stands look Does mark out last total (suc n) began (went look entry exit v (Takes p i at) h)
  takes_kept n p i at began h v lt e live stands = go h.machine.phase live stands
    where
      go : (phase : PhaseOf T) → IsLive phase → In n began phase h → In (suc n) began phase (went look entry exit v (Takes p i at) h)
      go Serial l s =
          let zero : 0 ≡ i = omega (arith, s.one, lt) in
          subst (λ j. InSerial look Does mark out last total (suc n) (began 0) (went look entry exit v (Takes p j at) h)) zero (takes_serial n p at began h v (subst (λ j. h.machine.tasks j ≡ Waiting at) (sym zero) e) s)
      go (Doall number next) l d = takes_doall n p i at number next began h v lt e d
      go (Over end) l o = absurd l

  -- ---- an act
  -- the history after the act a of task i
  abbrev acted_on : (v : ℤ) → (p i : ℕ) → T → Act T → HistoryOf T → HistoryOf T
  acted_on v p i at a h = record {
    machine = acted look entry exit v p i at a h.machine;
    calls = noted (call_by look entry exit p a) h.calls;
    epoch = record { first = h.epoch.first; before = h.epoch.before; made = with_at h.epoch.made i (h.epoch.made i ++ access_by v a) };
  }

  -- an end in a serial epoch
  abbrev EndsBy : ℕ → Process → Store → Act T → Type 0
  EndsBy b q t Joins = (output q t ≡ []) × (ends q t ≡ Done) × (2 ≤ b + 8 * full_cost q t)
  EndsBy b q t Halts = (output q t ≡ []) × (ends q t ≡ Done) × (2 ≤ b + 8 * full_cost q t)
  EndsBy b q t (Faults kind line) = (output q t ≡ []) × (ends q t ≡ Faulted (record { kind = kind; line = line })) × (2 ≤ b + 8 * full_cost q t)
  EndsBy b q t Stuck = ⊥
  EndsBy b q t a = Unit {0}

  ticked : (b : ℕ) (next : Process) (t : Store) (a : Act T) → EndsBy (b + 8) next t a → EndsBy b (Tick next) t a
  ticked b next t (Goes g) e = tt
  ticked b next t (Reads path site x w h) e = tt
  ticked b next t (Writes path site w v g) e = tt
  ticked b next t (Prints piece g) e = tt
  ticked b next t (Forks path number count from by body f) e = tt
  ticked b next t Joins e = (e.0, e.1, omega (arith, e.2))
  ticked b next t Halts e = (e.0, e.1, omega (arith, e.2))
  ticked b next t (Faults kind line) e = (e.0, e.1, omega (arith, e.2))
  ticked b next t Stuck e = e

  stops_by : (b : ℕ) (q : Process) (t : Store) (a : Act T) → Stops Does mark b q a → EndsBy b q t a
  stops_by b q t a (doing.forks _ c path number count from by body begin next on le each rest) = tt
  stops_by b q t a (doing.joins _ le) = (refl, refl, omega (arith, le))
  stops_by b q t a (doing.halts _ le) = (refl, refl, omega (arith, le))
  stops_by b q t a (doing.faults _ kind line le) = (refl, refl, omega (arith, le))
  stops_by b q t a (doing.later _ next _ h) = ticked b next t a (stops_by (b + 8) next t a h)

  ends_by : (b : ℕ) (q : Process) (t : Store) (a : Act T) → Now Does mark b q a → EndsBy b q t a
  ends_by b q t a (doing.quiet _ c _ f le d) = tt
  ends_by b q t a (doing.reads _ c path site w next h le d) = tt
  ends_by b q t a (doing.writes _ c path site w value next f le d) = tt
  ends_by b q t a (doing.prints _ c piece next f le d) = tt
  ends_by b q t a (doing.stops _ _ _ h) = stops_by b q t a h
  ends_by b q t a (doing.ticks _ next _ h) = ticked b next t a (ends_by (b + 8) next t a h)

  acts_serial : (n p : ℕ) (at : T) (a : Act T) (began : ℕ → Process) (h : HistoryOf T) (v : ℤ) (b : ℕ) (q : Process) → look at ≡ a → Gives a (memory h.calls) v → Now Does mark b q a
      → h.machine.count ≡ 1 → (budget : ℕ) × Does budget (began 0) (h.epoch.first 0) → accesses (began 0) (memory h.epoch.before) ≡ h.epoch.made 0 ++ accesses q (memory h.calls) → Continues out last (memory h.calls) h.machine.printed q → n + b + 8 * full_cost q (memory h.calls) ≤ total + 1
      → In (suc n) began (phase_after Serial a) (acted_on v p 0 at a h)
  acts_serial n p at a began h v b q e gives now_at one first prefix c within = by_act a refl
    where
      m : Store
      m = memory h.calls

      still : EndsForking look Does mark (task_after v p at a) → InSerial look Does mark out last total (suc n) (began 0) (acted_on v p 0 at a h)
      still forks =
          let w = goes look Does mark b q a m v p at e gives now_at in
          let same = memory_after look entry exit p a h.calls in
          let c' : Continues out last (content a m) (h.machine.printed ++ said_by a) w.rest = record {
            output = c.output ∙ (ap (λ l. h.machine.printed ++ l) w.leads.output ∙ sym (append_assoc h.machine.printed (said_by a) (output w.rest (content a m))));
            ends = c.ends ∙ w.leads.ends;
            apart = w.leads.apart c.apart;
            join = w.leads.join c.join;
          } in
          record {
            one = one;
            first = first;
            rest = w.rest;
            stands = w.stands;
            prefix = prefix ∙ (ap (λ l. h.epoch.made 0 ++ l) w.leads.accesses ∙ (sym (append_assoc (h.epoch.made 0) (access_by v a) (accesses w.rest (content a m))) ∙ ap (λ t. (h.epoch.made 0 ++ access_by v a) ++ accesses w.rest t) (sym same)));
            goes_on = subst (λ t. Continues out last t (h.machine.printed ++ said_by a) w.rest) (sym same) c';
            forks = forks;
            within = omega (arith, within, w.fewer, w.leads.full, ap (full_cost w.rest) same);
          }

      over : (end : End) (x : Act T) → a ≡ x → said_by x ≡ [] → (output q m ≡ []) × (ends q m ≡ end) × (2 ≤ b + 8 * full_cost q m) → (h.machine.printed ++ said_by a ≡ out) × (end ≡ last) × (suc n ≤ total)
      over end x is quiet o = (
        ap (λ l. h.machine.printed ++ l) (ap said_by is ∙ quiet ∙ sym o.0) ∙ sym c.output,
        sym o.1 ∙ sym c.ends,
        omega (arith, o.2, within),
      )

      running : (x : Act T) → a ≡ x → EndsForking look Does mark (task_after v p at x) → InSerial look Does mark out last total (suc n) (began 0) (acted_on v p 0 at a h)
      running x is f = still (subst (λ y. EndsForking look Does mark (task_after v p at y)) (sym is) f)

      by_act : (x : Act T) → a ≡ x → In (suc n) began (phase_after Serial x) (acted_on v p 0 at a h)
      by_act (Goes g) is = running (Goes g) is tt
      by_act (Reads path site k w g) is = running (Reads path site k w g) is tt
      by_act (Writes path site w u g) is = running (Writes path site w u g) is tt
      by_act (Prints piece g) is = running (Prints piece g) is tt
      by_act (Forks path number count from by body next) is =
          running (Forks path number count from by body next) is (subst IsForking (sym (e ∙ is)) tt)
      by_act Stuck is = absurd (subst (EndsBy b q m) is (ends_by b q m a now_at))
      by_act Joins is = over Done Joins is refl (subst (EndsBy b q m) is (ends_by b q m a now_at))
      by_act Halts is = over Done Halts is refl (subst (EndsBy b q m) is (ends_by b q m a now_at))
      by_act (Faults kind line) is =
          over (Faulted (record { kind = kind; line = line })) (Faults kind line) is refl (subst (EndsBy b q m) is (ends_by b q m a now_at))

  -- an iteration prints nothing
  says_nothing : (b : ℕ) (q : Process) (a : Act T) → Now Does mark b q a → ComesOnlyTo ⊥ ⊥ ⊥ q → said_by a ≡ []
  says_nothing b q a (doing.quiet _ c _ f le d) only = refl
  says_nothing b q a (doing.reads _ c path site w next h le d) only = refl
  says_nothing b q a (doing.writes _ c path site w value next f le d) only = refl
  says_nothing b q a (doing.prints _ c piece next f le d) only = absurd only.0
  says_nothing b q a (doing.stops _ _ _ h) only = stopping b q a h
    where
      stopping : (b : ℕ) (q : Process) (a : Act T) → Stops Does mark b q a → said_by a ≡ []
      stopping b q a (doing.forks _ c path number count from by body begin next on le each rest) = refl
      stopping b q a (doing.joins _ le) = refl
      stopping b q a (doing.halts _ le) = refl
      stopping b q a (doing.faults _ kind line le) = refl
      stopping b q a (doing.later _ next _ h) = stopping (b + 8) next a h
  says_nothing b q a (doing.ticks _ next _ h) only = says_nothing (b + 8) next a h only

  acts_doall : (spent p i : ℕ) (at : T) (a : Act T) (number : ℕ) (next : T) (began : ℕ → Process) (h : HistoryOf T) (v : ℤ) → i < h.machine.count → h.machine.tasks i ≡ Running p at → look at ≡ a → Gives a (memory h.calls) v
      → InDoall look Does mark out last total spent number next began h → InDoall look Does mark out last total (suc spent) number next began (acted_on v p i at a h)
  acts_doall spent p i at a number next began h v lt e is gives d =
      let s = memory h.epoch.before in
      let m = memory h.calls in
      let n = h.machine.count in
      let it = d.each i lt in
      let b = it.stands.0 in
      let stands = subst (λ t. StandsWithin look Does mark b t it.rest) e it.stands.1 in
      let act = subst (Now Does mark b it.rest) is (now b it.rest at stands) in
      let own = own_access look Does mark (began i) s m (h.epoch.made i) b it.rest a act it.halfway in
      let after = iterates look Does mark (began i) s m (h.epoch.made i) b it.rest a v p at (d.shares i) is gives act it.only it.halfway it.within in
      let same = memory_after look entry exit p a h.calls in
      let quiet : h.machine.printed ≡ h.machine.printed ++ said_by a = sym (ap (λ l. h.machine.printed ++ l) (says_nothing b it.rest a act it.only) ∙ append-nil h.machine.printed) in
      record {
        first = d.first;
        after = d.after;
        goes_on = subst (λ l. Continues out last s l (Fork d.after.path number n d.after.from d.after.by began d.after.process)) quiet d.goes_on;
        shares = with_at d.shares i after.0;
        each = subst (λ t. (j : ℕ) → j < n → Iterating look Does mark (began j) s t (with_at h.epoch.made i (h.epoch.made i ++ access_by v a) j) (with_at d.shares i after.0 j) (with_at h.machine.tasks i (task_after v p at a) j)) (sym same)
            (everywhere_in_three (λ j t l share. j < n → Iterating look Does mark (began j) s (content a m) l share t) h.machine.tasks h.epoch.made d.shares i (task_after v p at a) (h.epoch.made i ++ access_by v a) after.0
            (λ l. after.1)
            (λ j ne l. undisturbed look Does mark (began j) s m (h.epoch.made j) a (h.machine.tasks j) (d.shares j)
            (λ w touched. unmoved look Does mark (began j) s m (h.epoch.made j) a w (λ path site x value g writes equal.
            d.goes_on.apart.0 i j w lt l (λ q. ne (sym q)) (subst (λ y. WritesTo (accesses (began i) s) y) equal (subst (Among (accesses (began i) s)) writes own)) touched)) (d.each j l)));
        others = λ w none.
            ap (λ t. t w) same
            ∙ (unmoved look Does mark (began i) s m (h.epoch.made i) a w (λ path site x value g writes equal.
            none i lt (subst (λ y. WritesTo (accesses (began i) s) y) equal (subst (Among (accesses (began i) s)) writes own)))
            ∙ d.others w none);
        within = omega (arith, d.within, sum_with (λ x. x) n d.shares i after.0 lt, sum_with paid n h.machine.tasks i (task_after v p at a) lt, ap paid e, after.2);
      }

  acts_kept : (n p i : ℕ) (at : T) (began : ℕ → Process) (h : HistoryOf T) → i < h.machine.count → h.machine.tasks i ≡ Running p at → IsLive h.machine.phase → Stands look Does mark out last total n began h
      → Stands look Does mark out last total (suc n) began (went look entry exit (given (call_by look entry exit p (look at)) h.calls) (Acts p i at) h)
  acts_kept n p i at began h lt e live stands = go h.machine.phase live stands
    where
      v : ℤ
      v = given (call_by look entry exit p (look at)) h.calls

      gives : Gives (look at) (memory h.calls) v
      gives = gives_last look entry exit p (look at) h.calls

      go : (phase : PhaseOf T) → IsLive phase → In n began phase h → In (suc n) began (phase_after phase (look at)) (acted_on v p i at (look at) h)
      go Serial l s =
          let zero : 0 ≡ i = omega (arith, s.one, lt) in
          let here = subst (λ j. h.machine.tasks j ≡ Running p at) (sym zero) e in
          let b = s.stands.0 in
          let stands = subst (λ t. StandsWithin look Does mark b t s.rest) here s.stands.1 in
          subst (λ j. In (suc n) began (phase_after Serial (look at)) (acted_on v p j at (look at) h)) zero
          (acts_serial n p at (look at) began h v b s.rest refl gives (now b s.rest at stands) s.one s.first s.prefix s.goes_on (omega (arith, s.within, ap paid here)))
      go (Doall number next) l d = acts_doall n p i at (look at) number next began h v lt e refl gives d
      go (Over end) l o = absurd l

  -- ---- a closing
  -- where it stands then, with the processes as which the tasks of the next epoch begin
  abbrev Next : (spent : ℕ) → HistoryOf T → Type 0
  Next n h = (began : ℕ → Process) × Stands look Does mark out last total n began h

  unticked : (m : Store) (printed : List Piece) (next : Process) → Continues out last m printed (Tick next) → Continues out last m printed next
  unticked m printed next c = record { output = c.output; ends = c.ends; apart = c.apart; join = c.join }

  -- the history after a serial epoch whose task ended with the act a
  abbrev forks_on : Act T → HistoryOf T → HistoryOf T
  forks_on a h =
      let m = forked_by look entry exit a h.machine in
      let c = fork_call_by look entry exit a in
      let calls = noted c h.calls in
      record { machine = m; calls = calls; epoch = epoch_by c m calls h.epoch }

  forks_kept : (n b : ℕ) (q : Process) (a : Act T) (h : HistoryOf T) → IsForking a → Stops Does mark b q a → Continues out last (memory h.calls) h.machine.printed q → n + b + 8 * full_cost q (memory h.calls) ≤ total + 2 → Next (suc n) (forks_on a h)
  forks_kept n b q a h forking (doing.forks _ c path number count from by body begin next on le each rest) cont within = (
    body,
    record {
      first = λ i lt. (0, each i);
      after = record { path = path; from = from; by = by; process = next; budget = c; does = rest };
      goes_on = cont;
      shares = λ i. 8 * ticks (body i) (memory h.calls);
      each = λ i lt. begins look Does mark (body i) (memory h.calls) (Waiting (begin i)) (8 * ticks (body i) (memory h.calls)) (0, each i) (cont.join.0 i) (omega arith);
      others = λ w none. refl;
      within = omega (arith, within, le, cost_alone count body (memory h.calls) cont.apart.0 count (omega arith));
    },
  )
  forks_kept n b q a h forking (doing.joins _ le) cont within = absurd forking
  forks_kept n b q a h forking (doing.halts _ le) cont within = absurd forking
  forks_kept n b q a h forking (doing.faults _ kind line le) cont within = absurd forking
  forks_kept n b q a h forking (doing.later _ next _ k) cont within = forks_kept n (b + 8) next a h forking k (unticked (memory h.calls) h.machine.printed next cont) (omega (arith, within))

  -- each iteration has a share of what was paid for it
  shares_hold : (spent number : ℕ) (next : T) (began : ℕ → Process) (h : HistoryOf T) (d : InDoall look Does mark out last total spent number next began h) → sum_below h.machine.count (λ i. paid (h.machine.tasks i)) ≤ sum_below h.machine.count d.shares
  shares_hold spent number next began h d = sum_at_most h.machine.count (λ i. paid (h.machine.tasks i)) d.shares (λ i lt.
      let it = d.each i lt in
      omega (arith, it.within, paid_room look Does mark now it.stands.0 (h.machine.tasks i) it.rest it.halfway.view it.stands.1))

  -- the iterations have all ended
  module _ (spent number : ℕ) (next : T) (began : ℕ → Process) (h : HistoryOf T) (d : InDoall look Does mark out last total spent number next began h) (ended : AllEnded h.machine) where
    abbrev pub s : Store
    s = memory h.epoch.before

    abbrev pub n : ℕ
    n = h.machine.count

    stopped_at : (i : ℕ) (lt : i < n) → Stops Does mark (d.each i lt).stands.0 (d.each i lt).rest (look (ended i lt).1)
    stopped_at i lt = subst (λ t. StandsWithin look Does mark (d.each i lt).stands.0 t (d.each i lt).rest) (ended i lt).2 (d.each i lt).stands.1

    -- the shares hold what was paid
    shared : sum_below n (λ i. paid (h.machine.tasks i)) ≤ sum_below n d.shares
    shared = shares_hold spent number next began h d

    -- the least fault is the first in order
    pub fault_in_order : least_fault look entry exit h.machine ≡ first_fault n began s
    fault_in_order = least_in_order n began s d.goes_on.apart.0 (λ k. task_fault look entry exit (h.machine.tasks k)) (λ k lt.
        let it = d.each k lt in
        ap (task_fault look entry exit) (ended k lt).2
        ∙ (stops_fault look Does mark it.stands.0 it.rest (look (ended k lt).1) it.halfway.view (stopped_at k lt) ∙ ap fault_of it.halfway.ending))

    -- memory is what they leave in order
    pub memory_in_order : memory h.calls ≡ after n began s
    memory_in_order = store_in_order n began s d.goes_on.apart.0 (memory h.calls)
        (λ i w lt touched.
        let it = d.each i lt in
        it.halfway.sees w touched ∙ ap (λ t. t w) (sym (stops_left look Does mark it.stands.0 it.rest (look (ended i lt).1) it.halfway.view (stopped_at i lt)) ∙ it.halfway.leaves)) d.others

    -- the history after the closing, by the least fault
    abbrev ends_on : Option Fault → HistoryOf T
    ends_on o =
        let m = choose o (λ f. stopped f h.machine) (opened Serial 1 (λ k. next) h.machine) in
        let c = choose o (λ f. None) (Some (Boundary (exit number))) in
        let calls = noted c h.calls in
        record { machine = m; calls = calls; epoch = epoch_by c m calls h.epoch }

    silent : printed_below n began s ≡ []
    silent = none_printed n began s d.goes_on.join.0

    by_fault : (o : Option Fault) → least_fault look entry exit h.machine ≡ o → Next (suc spent) (ends_on o)
    by_fault (Some f) e =
        let first : first_fault n began s ≡ Some f = sym fault_in_order ∙ e in
        let rest = output d.after.process (after n began s) in (
          began,
          (
            sym (d.goes_on.output ∙ (ap (λ o. h.machine.printed ++ (printed_below n began s ++ choose o (λ g. []) rest)) first ∙ (ap (λ l. h.machine.printed ++ l) (append-nil (printed_below n began s) ∙ silent) ∙ append-nil h.machine.printed))),
            sym (d.goes_on.ends ∙ ap (λ o. choose o Faulted (ends d.after.process (after n began s))) first),
            omega (arith, d.within, shared),
          ),
        )
    by_fault None e =
        let first : first_fault n began s ≡ None = sym fault_in_order ∙ e in
        let t = after n began s in
        let rest = output d.after.process t in
        let c : Continues out last t h.machine.printed d.after.process = record {
          output = d.goes_on.output ∙ (ap (λ o. h.machine.printed ++ (printed_below n began s ++ choose o (λ g. []) rest)) first ∙ ap (λ l. h.machine.printed ++ (l ++ rest)) silent);
          ends = d.goes_on.ends ∙ ap (λ o. choose o Faulted (ends d.after.process t)) first;
          apart = d.goes_on.apart.1 t;
          join = d.goes_on.join.1;
        } in (
          λ k. d.after.process,
          record {
            one = refl;
            first = (d.after.budget, d.after.does);
            rest = d.after.process;
            stands = (d.after.budget, d.after.does);
            prefix = refl;
            goes_on = subst (λ m. Continues out last m h.machine.printed d.after.process) (sym memory_in_order) c;
            forks = tt;
            within = omega (arith, d.within, shared, ap (λ o. choose o (λ f. 0) (full_cost d.after.process t)) first, ap (full_cost d.after.process) memory_in_order);
          },
        )

    closes_doall : Next (suc spent) (ends_on (least_fault look entry exit h.machine))
    closes_doall = by_fault (least_fault look entry exit h.machine) refl

  -- the history after a closing in this phase
  abbrev closes_on : HistoryOf T → PhaseOf T → HistoryOf T
  closes_on h phase =
      let m = closed look entry exit phase h.machine in
      let c = closing_call look entry exit phase h.machine in
      let calls = noted c h.calls in
      record { machine = m; calls = calls; epoch = epoch_by c m calls h.epoch }

  -- the history after a serial epoch, by its task
  abbrev forked_on : TaskOf T → HistoryOf T → HistoryOf T
  forked_on t h =
      let m = forked look entry exit t h.machine in
      let c = fork_call look entry exit t in
      let calls = noted c h.calls in
      record { machine = m; calls = calls; epoch = epoch_by c m calls h.epoch }

  closes_kept : (n : ℕ) (began : ℕ → Process) (h : HistoryOf T) (v : ℤ) → AllEnded h.machine → IsLive h.machine.phase → Stands look Does mark out last total n began h → Next (suc n) (went look entry exit v Closes h)
  closes_kept n began h v ended live stands = go h.machine.phase live stands
    where
      serial : InSerial look Does mark out last total n (began 0) h → Next (suc n) (closes_on h Serial)
      serial s =
          let e = ended 0 (omega (arith, s.one)) in
          let stop = subst (λ t. StandsWithin look Does mark s.stands.0 t s.rest) e.2 s.stands.1 in
          let forks = subst (EndsForking look Does mark) e.2 s.forks in
          subst (λ t. Next (suc n) (forked_on t h)) (sym e.2) (forks_kept n s.stands.0 s.rest (look e.1) h forks stop s.goes_on (omega (arith, s.within, ap paid e.2)))

      go : (phase : PhaseOf T) → IsLive phase → In n began phase h → Next (suc n) (closes_on h phase)
      go Serial l st = serial st
      go (Doall number next) l st = closes_doall n number next began h st ended
      go (Over end) l st = absurd l

  -- ---- an event
  drops_kept : (n p line : ℕ) (began : ℕ → Process) (h : HistoryOf T) (v : ℤ) → Stands look Does mark out last total n began h → Stands look Does mark out last total n began (went look entry exit v (Drops p line) h)
  drops_kept n p line began h v stands = go h.machine.phase stands
    where
      go : (phase : PhaseOf T) → In n began phase h → In n began phase (went look entry exit v (Drops p line) h)
      go Serial s = record { one = s.one; first = s.first; rest = s.rest; stands = s.stands; prefix = s.prefix; goes_on = s.goes_on; forks = s.forks; within = s.within }
      go (Doall number next) d = record { first = d.first; after = d.after; goes_on = d.goes_on; shares = d.shares; each = d.each; others = d.others; within = d.within }
      go (Over end) o = o

  -- a deed that is enabled, whose load gives the last stored value
  pub deed_kept : (d : DeedOf T) (n : ℕ) (h : HistoryOf T) → Enabled h.machine d → Next n h → Next (counted d n) (went look entry exit (given (call look entry exit d h.machine) h.calls) d h)
  deed_kept Rests n h e s = s
  deed_kept (Takes p i at) n h e s = (s.0, takes_kept n p i at s.0 h (given None h.calls) e.1.0 e.1.1 e.0 s.1)
  deed_kept (Acts p i at) n h e s = (s.0, acts_kept n p i at s.0 h e.1.0 e.1.1 e.0 s.1)
  deed_kept Closes n h e s = closes_kept n s.0 h (pos 0) e.1 e.0 s.1
  deed_kept (Drops p line) n h e s = (s.0, drops_kept n p line s.0 h (pos 0) s.1)

  pub event_kept : (e : Event) (n : ℕ) (h : HistoryOf T) → Next n h → Next (counted (deed e h.machine) n) (on look entry exit e h)
  event_kept e n h s = deed_kept (deed e h.machine) n h (enabled_right h.machine e) s

  pub all_kept : (main : T) (events : List Event) → Next 0 (history.after look entry exit main []) → Next (spent look entry exit main events) (history.after look entry exit main events)
  all_kept main [] n = n
  all_kept main (e ∷ events) n = event_kept e (spent look entry exit main events) (history.after look entry exit main events) (all_kept main events n)

  -- no more than the total is spent
  pub never_more : (n : ℕ) (h : HistoryOf T) → Next n h → n ≤ total
  never_more n h s = go h.machine.phase s.1
    where
      go : (phase : PhaseOf T) → In n s.0 phase h → n ≤ total
      go Serial st =
          let m = memory h.calls in
          omega (arith, st.within, paid_room look Does mark now st.stands.0 (h.machine.tasks 0) st.rest m st.stands.1, cost_rest spent_in_full st.rest m)
      go (Doall number next) d = omega (arith, d.within, shares_hold n number next s.0 h d)
      go (Over end) o = o.2

-- the machine at its start, where the total is that of the process and its budget
pub begins_standing : {T : Type 0} (look : T → Act T) (entry exit : ℕ → List ℕ) (Does : ℕ → Process → T → Type 0) (mark : ℕ → Mark) (b : ℕ) (main : Process) (at : T) → Does b main at → StaysApart main zeros → IterationsJoin main
    → Stands look Does mark (output main zeros) (ends main zeros) (b + 8 * full_cost main zeros) 0 (λ k. main) (history.after look entry exit at [])
begins_standing look entry exit Does mark b main at d apart join = record {
  one = refl;
  first = (b, d);
  rest = main;
  stands = (b, d);
  prefix = refl;
  goes_on = record { output = refl; ends = refl; apart = apart; join = join };
  forks = tt;
  within = omega arith;
}
