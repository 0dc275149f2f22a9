-- A DOALL is its iterations, one after another.
use Rattle.std.proofs.Common.{◌≡◌, ◌⊎◌, inl, inr, ℕ, zero, suc, ◌+◌, ◌-◌, ◌<◌, ◌≤◌, ℤ, pos, ◌+ℤ◌, ◌*ℤ◌, Bool, true, false, if◌then◌else◌, List, [], ◌∷◌, Result, Ok, Err, refl, sym, ap, ◌∙◌, subst, arith}
use Rattle.std.specs.Prelude.{Option, Some, None}
use Rattle.cdc_prog.specs.declared.expr.Ref.{Ref}
use Rattle.cdc_prog.specs.declared.expr.BinOp.TheVariants.{Add}
use Rattle.cdc_prog.specs.Plain.{Expr, Number, Scalar, Element, Un, Bin, Exprs, Empty, More, Control, Stmt, Skip, Seq, Assign, If, Arm, Do, Doall, Call, Print, Read}
use Rattle.cdc_prog.specs.declared.fault.Fault.{Fault}
use Rattle.cdc_prog.specs.Value.{Got, unary, binary, is_zero, trips, few}
use Rattle.cdc_prog.specs.Trips.{few_of}
use Rattle.cdc_prog.specs.Data.{Store, zeros, put, Binding, base_of, dims_of, element}
use Rattle.cdc_prog.specs.Input.{Input}
use Rattle.cdc_prog.specs.Process.{Process, Load, Save, Say, Tick, Fork, Join, Halt, Fail, or_fail}
use Rattle.cdc_prog.specs.Expressions.{Surroundings, Cell, InSlot, InWord, scalar, fetch, keep, expr, exprs, located}
use Rattle.cdc_prog.specs.Statements.{Work, Calls, controls, raise, turns, branch, beginning, stmt}
use Rattle.cdc_prog.specs.Alone.{left, ending}
use Rattle.cdc_prog.specs.InOrder.{fault_of, after, Run, run}
use Rattle.cdc_prog.specs.Bodies.{ComesOnlyTo, HasOnly}
use Rattle.cdc_prog.specs.Held.{store_of, around, Same}
use Rattle.cdc_prog.specs.Laws.{AreSilent, AreDone}
use Rattle.cdc_prog.proofs.Bodies.{iteration_fine, silent}
use Rattle.cdc_prog.proofs.Forks.{fork_done, fork_faulted}
use Rattle.cdc_prog.specs.declared.stop.Stop.{Stop}
use Rattle.cdc_prog.specs.declared.stop.Stop.TheVariants.{Faulted, Sink}
use Rattle.cdc_meaning.specs.Carried.{Output, State, Follows, Comes}
use Rattle.cdc_meaning.specs.declared.doall.Fork.{Fork as ForkOf}
use Rattle.cdc_meaning.specs.Doall.{forked}
use Rattle.cdc_meaning.proofs.Comes.{follows_after, ticked}

-- a process that goes on where it joins
abbrev goes_on : Process → (next : Process) → Process
goes_on (Load path site w more) next = Load path site w (λ v. goes_on (more v) next)
goes_on (Save path site w v more) next = Save path site w v (goes_on more next)
goes_on (Say piece more) next = Say piece (goes_on more next)
goes_on (Tick more) next = Tick (goes_on more next)
goes_on (Fork path number n from by body more) next = Fork path number n from by body (goes_on more next)
goes_on Join next = next
goes_on Halt next = Halt
goes_on (Fail kind line) next = Fail kind line

-- ---- what follows statements is handed to them
module _ (next : Process) where
  abbrev On : Process → Process → Type 0
  On p q = goes_on p next ≡ q

  or_fail_on : {A : Type 0} (line : ℕ) (g : Got A) (rest more : A → Process) → ((a : A) → On (rest a) (more a)) → On (or_fail line g rest) (or_fail line g more)
  or_fail_on line (Ok a) rest more h = h a
  or_fail_on line (Err kind) rest more h = refl

  load_on : (path : List ℕ) (site w : ℕ) (rest more : ℤ → Process) → ((v : ℤ) → On (rest v) (more v)) → On (Load path site w rest) (Load path site w more)
  load_on path site w rest more h = λ i. Load path site w (λ v. h v i)

  fetch_on : (cell : Cell) (c : Surroundings) (rest more : ℤ → Process) → ((v : ℤ) → On (rest v) (more v)) → On (fetch cell c rest) (fetch cell c more)
  fetch_on (InSlot k) c rest more h = h (c.slots k)
  fetch_on (InWord path site w) c rest more h = load_on path site w rest more h

  -- what leaves the input alone goes on as what follows it does
  abbrev GoOn : Surroundings → (rest more : Surroundings → Process) → Type 0
  GoOn c rest more = (d : Surroundings) → d.input ≡ c.input → On (rest d) (more d)

  abbrev WorkOn : Work → Type 0
  WorkOn f = (c : Surroundings) (rest more : Surroundings → Process) → GoOn c rest more → On (f c rest) (f c more)

  keep_on : (cell : Cell) (v : ℤ) → WorkOn (keep cell v)
  keep_on (InSlot k) v c rest more h = h (record { slots = put c.slots k v; input = c.input }) refl
  keep_on (InWord path site w) v c rest more h = ap (Save path site w v) (h c refl)

  mutual
    expr_on : (b : Binding) (line : ℕ) (e : Expr) (c : Surroundings) (rest more : ℤ → Process) → ((v : ℤ) → On (rest v) (more v)) → On (expr b line e c rest) (expr b line e c more)
    expr_on b line (Number n) c rest more h = ap Tick (h n)
    expr_on b line (Scalar at) c rest more h = ap Tick (fetch_on (scalar b at) c rest more h)
    expr_on b line (Element at subs) c rest more h =
        ap Tick (exprs_on b line subs c _ _ (λ vs. or_fail_on line (element (dims_of b at.var) vs) _ _ (λ n. load_on b.path at.site (base_of b at.var + n) rest more h)))
    expr_on b line (Un op e) c rest more h = ap Tick (expr_on b line e c _ _ (λ x. or_fail_on line (unary op x) rest more h))
    expr_on b line (Bin op e f) c rest more h =
        ap Tick (expr_on b line e c _ _ (λ x. expr_on b line f c _ _ (λ y. or_fail_on line (binary op x y) rest more h)))

    exprs_on : (b : Binding) (line : ℕ) (es : Exprs) (c : Surroundings) (rest more : List ℤ → Process) → ((vs : List ℤ) → On (rest vs) (more vs)) → On (exprs b line es c rest) (exprs b line es c more)
    exprs_on b line Empty c rest more h = h []
    exprs_on b line (More e es) c rest more h = expr_on b line e c _ _ (λ v. exprs_on b line es c _ _ (λ vs. h (v ∷ vs)))

  located_on : (b : Binding) (line : ℕ) (at : Ref) (subs : Exprs) (c : Surroundings) (rest more : Cell → Process) → ((cell : Cell) → On (rest cell) (more cell)) → On (located b line at subs c rest) (located b line at subs c more)
  located_on b line at Empty c rest more h = h (scalar b at)
  located_on b line at (More e es) c rest more h =
      let cell = λ (n : ℕ). InWord b.path at.site (base_of b at.var + n) in
      let found = λ (k : Cell → Process) (vs : List ℤ). or_fail line (element (dims_of b at.var) vs) (λ n. k (cell n)) in
      exprs_on b line (More e es) c (found rest) (found more) (λ vs. or_fail_on line (element (dims_of b at.var) vs) (λ n. rest (cell n)) (λ n. more (cell n)) (λ n. h (cell n)))

  controls_on : (b : Binding) (k : Control) (c : Surroundings) (rest more : ℤ → ℤ → ℕ → Process) → ((m1 m3 : ℤ) (n : ℕ) → On (rest m1 m3 n) (more m1 m3 n)) → On (controls b k c rest) (controls b k c more)
  controls_on b k c rest more h =
      expr_on b k.line k.from c _ _ (λ m1. expr_on b k.line k.to c _ _ (λ m2. expr_on b k.line k.by c _ _ (λ m3.
      or_fail_on k.line (trips m1 m2 m3) _ _ (λ n. h m1 m3 n))))

  raise_on : (b : Binding) (line : ℕ) (again bump : Ref) (by : ℤ) → WorkOn (raise b line again bump by)
  raise_on b line again bump by c rest more h =
      fetch_on (scalar b again) c _ _ (λ x. or_fail_on line (binary Add x by) _ _ (λ y. keep_on (scalar b bump) y c rest more h))

  turns_on : (n : ℕ) (body raised : Work) → WorkOn body → WorkOn raised → WorkOn (turns n body raised)
  turns_on zero body raised f g c rest more h = ap Tick (h c refl)
  turns_on (suc n) body raised f g c rest more h =
      ap Tick (f c _ _ (λ d e. g d _ _ (λ x y. turns_on n body raised f g x rest more (λ z w. h z (w ∙ y ∙ e)))))

  branch_on : (v : ℤ) (p p' q q' : Process) → On p p' → On q q' → On (branch v p q) (branch v p' q')
  branch_on v p p' q q' f g = go (is_zero v)
    where
      go : (t : Bool) → On (if t then q else p) (if t then q' else p')
      go true = g
      go false = f

  stmt_on : (calls : Calls) (b : Binding) (s : Stmt) → HasOnly ⊥ ⊥ ⊥ s → WorkOn (stmt calls b s)
  stmt_on calls b Skip only c rest more h = h c refl
  stmt_on calls b (Seq x y) only c rest more h = stmt_on calls b x only.0 c _ _ (λ d e. stmt_on calls b y only.1 d rest more (λ z w. h z (w ∙ e)))
  stmt_on calls b (Assign line t value) only c rest more h =
      ap Tick (located_on b line t.at t.subs c _ _ (λ cell. expr_on b line value c _ _ (λ v. keep_on cell v c rest more h)))
  stmt_on calls b (If arms) only c rest more h = ap Tick (stmt_on calls b arms only c rest more h)
  stmt_on calls b (Arm line cond body other) only c rest more h =
      ap Tick (expr_on b line cond c _ _ (λ v. branch_on v _ _ _ _ (stmt_on calls b body only.0 c rest more h) (stmt_on calls b other only.1 c rest more h)))
  stmt_on calls b (Do k first body again bump) only c rest more h =
      ap Tick (controls_on b k c _ _ (λ m1 m3 n. keep_on (scalar b first) m1 c _ _ (λ d e.
      turns_on n (stmt calls b body) (raise b k.line again bump m3) (stmt_on calls b body only) (raise_on b k.line again bump m3) d rest more (λ z w. h z (w ∙ e)))))
  stmt_on calls b (Doall k number slots body) only c rest more h = absurd only
  stmt_on calls b (Call line number u actuals) only c rest more h = absurd only
  stmt_on calls b (Print line shown) only c rest more h = absurd only
  stmt_on calls b (Read line targets) only c rest more h = absurd only

-- ---- one process after another
-- a process without a fault, and what follows its join
joins : (p next : Process) (s : Store) → ComesOnlyTo ⊥ ⊥ ⊥ p → fault_of (ending p s) ≡ None → run (goes_on p next) s ≡ run next (left p s)
joins (Load path site w more) next s fine e = joins (more (s w)) next s (fine (s w)) e
joins (Save path site w v more) next s fine e = joins more next (put s w v) fine e
joins (Say piece more) next s fine e = absurd fine.0
joins (Tick more) next s fine e = joins more next s fine e
joins (Fork path number n from by body more) next s fine e = absurd fine
joins Join next s fine e = refl
joins Halt next s fine e = absurd fine
joins (Fail kind line) next s fine e = cc

-- a process with a fault
stops : (p next : Process) (s : Store) (f : Fault) → ComesOnlyTo ⊥ ⊥ ⊥ p → fault_of (ending p s) ≡ Some f → run (goes_on p next) s ≡ run (Fail f.kind f.line) s
stops (Load path site w more) next s f fine e = stops (more (s w)) next s f (fine (s w)) e
stops (Save path site w v more) next s f fine e = stops more next (put s w v) f fine e
stops (Say piece more) next s f fine e = absurd fine.0
stops (Tick more) next s f fine e = stops more next s f fine e
stops (Fork path number n from by body more) next s f fine e = absurd fine
stops Join next s f fine e = cc
stops Halt next s f fine e = absurd fine
stops (Fail kind line) next s f fine e =
    let same : record { kind = kind; line = line } ≡ f = cc in ap (λ (g : Fault). run (Fail g.kind g.line) s) same

abbrev one_by_one : (m k : ℕ) → (ℕ → Process) → (next : Process) → Process
one_by_one zero k body next = next
one_by_one (suc m) k body next = goes_on (body k) (one_by_one m (suc k) body next)

module _ (path : List ℕ) (number n : ℕ) (from by : ℤ) (body : ℕ → Process) (next : Process) (s : Store) (fine : (k : ℕ) → ComesOnlyTo ⊥ ⊥ ⊥ (body k)) where
  silence : AreSilent n body s
  silence k lt = (silent (body k) (after k body s) (fine k)).0

  next_done : (k : ℕ) → AreDone k body s → fault_of (ending (body k) (after k body s)) ≡ None → AreDone (suc k) body s
  next_done k done e j lt =
      let earlier_or_last : (j < k) ⊎ (j ≡ k) = grind arith in
      elim earlier_or_last [
        | inl earlier ↦ done j earlier
        | inr last ↦ subst (λ i. fault_of (ending (body i) (after i body s)) ≡ None) (sym last) e
      ]

  -- the run of a fork, by its iterations from k on
  abbrev GoesFrom : (m k : ℕ) → Type 0
  GoesFrom m k = run (Fork path number n from by body next) s ≡ run (one_by_one m k body next) (after k body s)

  one_more : (m k : ℕ) (o : Option Fault) → k < n → AreDone k body s → fault_of (ending (body k) (after k body s)) ≡ o → (AreDone (suc k) body s → GoesFrom m (suc k)) → GoesFrom (suc m) k
  one_more m k None lt done e later = later (next_done k done e) ∙ sym (joins (body k) (one_by_one m (suc k) body next) (after k body s) (fine k) e)
  one_more m k (Some f) lt done e later =
      fork_faulted body s path number n from by next k f silence lt done e ∙ sym (stops (body k) (one_by_one m (suc k) body next) (after k body s) f (fine k) e)

  from_here : (m k : ℕ) → k + m ≡ n → AreDone k body s → GoesFrom m k
  from_here zero k is done =
      let same : k ≡ n = omega (arith, is) in
      fork_done body s path number n from by next silence (λ j lt. done j (omega (arith, lt, same))) ∙ ap (λ j. run next (after j body s)) (sym same)
  from_here (suc m) k is done =
      one_more m k (fault_of (ending (body k) (after k body s))) (omega (arith, is)) done refl (from_here m (suc k) (omega (arith, is)))

-- ---- the iterations that are left
-- from iteration k on, one after another. The slots around them stay, and what is left of the input is handed on
abbrev pub iterations_left : (m k : ℕ) → (from by : ℤ) → (body : Work) → Work
iterations_left zero k from by body c rest = rest c
iterations_left (suc m) k from by body c rest =
    Tick (body (beginning from by k c) (λ d. iterations_left m (suc k) from by body (record { slots = c.slots; input = d.input }) rest))

module _ (calls : Calls) (b : Binding) (s : Stmt) (only : HasOnly ⊥ ⊥ ⊥ s) (from by : ℤ) (c : Surroundings) (rest : Surroundings → Process) where
  abbrev body : Work
  body = stmt calls b s

  abbrev iteration : ℕ → Process
  iteration k = Tick (body (beginning from by k c) (λ d. Join))

  same_input : (m k : ℕ) (d : Surroundings) → d.input ≡ c.input → iterations_left m k from by body c rest ≡ iterations_left m k from by body (record { slots = c.slots; input = d.input }) rest
  same_input m k d e = ap (λ input. iterations_left m k from by body (record { slots = c.slots; input = input }) rest) (sym e)

  in_order : (m k : ℕ) → one_by_one m k iteration (rest c) ≡ iterations_left m k from by body c rest
  in_order zero k = refl
  in_order (suc m) k =
      ap Tick (stmt_on (one_by_one m (suc k) iteration (rest c)) calls b s only (beginning from by k c) (λ d. Join)
      (λ d. iterations_left m (suc k) from by body (record { slots = c.slots; input = d.input }) rest) (λ d e. in_order m (suc k) ∙ same_input m (suc k) d e))

-- a DOALL whose iterations print nothing is its iterations, one after another
pub is_in_order : (calls : Calls) (b : Binding) (s : Stmt) (number n : ℕ) (f : ForkOf) (c : Surroundings) (rest : Surroundings → Process) (t : Store) → HasOnly ⊥ ⊥ ⊥ s → n ≡ f.count →
    Same (forked b number f (stmt calls b s) c rest) t (iterations_left n 0 f.from f.by (stmt calls b s) c rest) t
is_in_order calls b s number n f c rest t only is =
    let each = λ (k : ℕ). Tick (stmt calls b s (beginning f.from f.by k c) (λ d. Join)) in
    let runs = from_here b.path number f.count f.from f.by each (rest c) t (λ k. iteration_fine calls b s (beginning f.from f.by k c) only) f.count 0 (omega arith) (λ j lt. absurd (omega (arith, lt))) in
    let all = runs ∙ ap (λ (p : Process). run p t) (in_order calls b s only f.from f.by c rest f.count 0) ∙ ap (λ m. run (iterations_left m 0 f.from f.by (stmt calls b s) c rest) t) (sym is) in
    record { output = ap (λ (r : Run). r.printed) all; ends = ap (λ (r : Run). r.end) all }

-- nothing depends on what surrounds a state
module _ (texts : List (List ℕ)) (p : Process) (x : State) (s : Store) (c d : Surroundings) (o : Output) where
  abbrev here : State
  here = record { store = s; around = c; output = o }

  abbrev there : State
  there = record { store = s; around = d; output = o }

  pub follows_there : (q : Process) → Follows texts p x q here → Follows texts p x q there
  follows_there q h = record { goes_on = h.goes_on; line = h.line }

  pub comes_there : (q : Process) (result : Result (Unit {0}) Stop) → Comes texts p x result q here → Comes texts p x result q there
  comes_there q (Ok u) h = follows_there q h
  comes_there q (Err (Faulted f)) h = follows_there (Fail f.kind f.line) h
  comes_there q (Err Sink) h = h

-- one iteration, in its own slots
pub one_iteration : (texts : List (List ℕ)) (n k : ℕ) (from by : ℤ) (body : Work) (slots lane : List ℤ) (left : Input) (rest : Surroundings → Process) (p : Process) (x y : State) → k < n →
    store_of lane ≡ put zeros 0 (from +ℤ (pos k *ℤ by)) → Follows texts p x (iterations_left (n - k) k from by body (around slots left) rest) y →
    Follows texts p x (body (around lane left) (λ d. iterations_left (n - (k + 1)) (k + 1) from by body (record { slots = store_of slots; input = d.input }) rest)) y
one_iteration texts n k from by body slots lane left rest p x y lt is h =
    let more : n - k ≡ suc (n - (k + 1)) = omega (arith, lt) in
    let next : suc k ≡ k + 1 = omega arith in
    let later = λ (m j : ℕ) (d : Surroundings). iterations_left m j from by body (record { slots = store_of slots; input = d.input }) rest in
    let begun = follows_after texts (subst (λ m. Follows texts p x (iterations_left m k from by body (around slots left) rest) y) more h) (ticked texts) in
    let own = subst (λ (t : Store). Follows texts p x (body (record { slots = t; input = left }) (later (n - (k + 1)) (suc k))) y) (sym is) begun in
    subst (λ j. Follows texts p x (body (around lane left) (later (n - (k + 1)) j)) y) next own

pub no_iteration : (texts : List (List ℕ)) (n k : ℕ) (from by : ℤ) (body : Work) (c : Surroundings) (rest : Surroundings → Process) (p : Process) (x y : State) → n ≤ k →
    Follows texts p x (iterations_left (n - k) k from by body c rest) y → Follows texts p x (rest c) y
no_iteration texts n k from by body c rest p x y le h =
    let none : n - k ≡ 0 = omega (arith, le) in
    subst (λ m. Follows texts p x (iterations_left m k from by body c rest) y) none h

-- a number of iterations that is not too large
pub few_fork : (line : ℕ) (t : Got ℕ) (count : ℕ) (more : ℕ → Process) (s : Store) → few_of t ≡ Ok count → Same (or_fail line t (λ n. or_fail line (few n) more)) s (more count) s
few_fork line (Ok n) count more s e = subst (λ (g : Got ℕ). Same (or_fail line g more) s (more count) s) (sym e) (record { output = refl; ends = refl })
few_fork line (Err kind) count more s e = cc
