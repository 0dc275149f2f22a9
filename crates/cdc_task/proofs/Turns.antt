-- An iteration that is carried out.
use Rattle.std.proofs.Common.{◌≡◌, ◌⊎◌, inl, inr, ℕ, suc, ◌<◌, ℤ, pos, ◌+ℤ◌, ◌*ℤ◌, Bool, List, [], ◌∷◌, Some, None, Ok, Err, refl, sym, ap, ◌∙◌, subst, arith}
use Rattle.std.specs.Prelude.{if◌then◌else◌}
use Rattle.std.proofs.lemmas.Bool.{lt-ltb}
use Rattle.cdc_prog.specs.declared.piece.Piece.{Piece}
use Rattle.cdc_prog.specs.declared.program.FaultKind.{FaultKind}
use Rattle.cdc_prog.specs.Data.{Store}
use Rattle.cdc_prog.specs.Input.{Input}
use Rattle.cdc_prog.specs.Process.{Process, Fork, Join, Halt}
use Rattle.cdc_prog.specs.Alone.{left}
use Rattle.cdc_prog.specs.InOrder.{fault_of, Run}
use Rattle.cdc_code.specs.declared.code.Code.{Code}
use Rattle.cdc_code.specs.Frames.{Frame}
use Rattle.cdc_code.specs.Rows.{act}
use Rattle.cdc_code.specs.Does.{Does}
use Rattle.cdc_task.specs.declared.end.StepEnd.{StepEnd}
use Rattle.cdc_task.specs.declared.end.StepEnd.TheVariants.{Went, Printed, Forked, Joined, Halted, Faulted}
use Rattle.cdc_task.specs.declared.port.Port.{Ghosts}
use Rattle.cdc_task.specs.declared.run.Fork.{Fork as ForkOf}
use Rattle.cdc_prog.specs.declared.stop.Stop.{Stop}
use Rattle.cdc_task.specs.Held.{Held, frame_of, resumed, begun}
use Rattle.cdc_task.specs.Steps.{GoesOn, Stepped}
use Rattle.cdc_task.specs.Course.{Serial, Inside, Place, next_place, remaining}
use Rattle.cdc_prog.specs.Output.{Output}
use Rattle.cdc_task.specs.Running.{Doing, Forking, bodies, before, inside, EndsWithin, IsNearer, behind, stopped, turn, Follows, Comes, Says}
use Rattle.cdc_task.proofs.GoesOn.{goes_on_here}
use Rattle.cdc_task.proofs.Remaining.{remains, further}
use Rattle.cdc_task.proofs.Moves.{IsMemory, Moved, Over, steps_went, steps_printed, steps_joined, steps_halted, steps_faulted, steps_forked}
use Rattle.cdc_task.proofs.Runs.{leads_turn, joins_turn, fails_turn}
use Rattle.cdc_task.proofs.Output.{same_run, as_run, follows_after, comes_after, comes_err}

-- a task that does a process goes on
pub doing_goes_on : (code : Code) (records : Input) (h : Held) → Doing code records h → (path : List ℕ) × GoesOn code (frame_of path records h)
doing_goes_on code records h d = (d.path, goes_on_here code d.marks d.budget d.process (frame_of d.path records h) d.does)

-- ---- how much is left
module _ (code : Code) where
  pub within_further : (most : ℕ) (p q : Place) → next_place code p ≡ Some q → EndsWithin code most p → EndsWithin code most q
  within_further most p q e h =
      let f = further code h.0 p q e h.2 in
      (f.0, omega (arith, h.1, f.1), f.2)

  pub less : (most : ℕ) (p q : Place) → next_place code p ≡ Some q → EndsWithin code most p → remaining code most q < remaining code most p
  less most p q e h =
      let f = further code h.0 p q e h.2 in
      omega (arith, remains code h.0 most p h.2 h.1, remains code f.0 most q f.2 (omega (arith, h.1, f.1)), f.1)

  pub nearer : (p q : Place) → next_place code p ≡ Some q → IsNearer code p q
  nearer p q e n h = let f = further code n p q e h in (f.0, omega (arith, f.1), f.2)

  pub nearer_after : (p q r : Place) → IsNearer code p q → next_place code q ≡ Some r → IsNearer code p r
  nearer_after p q r h e n k =
      let m = h n k in
      let f = further code m.0 q r e m.2 in
      (f.0, omega (arith, m.1, f.1), f.2)

module _ (code : Code) (records : Input) {P : Type 0} (port : Ghosts P) (words : P → Store) (memory : IsMemory port words) (serial : Held) (fork : ForkOf) (k : ℕ) where
  abbrev Forks : Type 0
  Forks = Forking code records serial fork.from fork.by

  -- what is known of an iteration that began on this store and output, in its midst
  pub record Midst (s : Store) (x : Output) (h : Held) (t : Store) (y : Output) : Type 0 where
    pub some : Doing code records h
    pub doing : (d : Forks) → (e : Doing code records h) × ((rest : Run) → Follows code.texts (turn (d.body k) s rest) x (turn e.process t rest) y) × (left (d.body k) s ≡ left e.process t)
    pub nearer : IsNearer code (before records serial fork k, s) (inside records serial fork k h, t)

  -- it begins
  starts : (h : Held) (s : Store) → k < fork.count → frame_of [] records h ≡ begun [] records serial (fork.from +ℤ (pos k *ℤ fork.by)) → next_place code (before records serial fork k, s) ≡ Some (inside records serial fork k h, s)
  starts h s lt e =
      let after = frame_of [] records (resumed serial) in
      ap (λ (b : Bool). if b then Some (Inside (bodies records serial fork k) k fork.count (bodies records serial fork) after, s) else Some (Serial after, s)) (lt-ltb k fork.count lt)
      ∙ ap (λ (f : Frame). Some (Inside f k fork.count (bodies records serial fork) after, s)) (sym e)

  pub begins : (h : Held) (s : Store) (x : Output) → ((path : List ℕ) → frame_of path records h ≡ begun path records serial (fork.from +ℤ (pos k *ℤ fork.by))) → k < fork.count → Forks → Midst s x h s x
  begins h s x at lt d =
      let doing = λ (d : Forks). let e : Doing code records h = record { marks = d.marks; path = d.path; budget = 0; process = d.body k; does = subst (Does code d.marks (GoesOn code) 0 (d.body k)) (sym (at d.path)) (d.each k) } in e in
      record {
        some = doing d;
        doing = λ d. (doing d, λ rest. same_run code.texts (turn (d.body k) s rest) x, refl);
        nearer = nearer code (before records serial fork k, s) (inside records serial fork k h, s) (starts h s lt (at []));
      }

  -- it goes on
  on : (s : Store) (x : Output) (h : Held) (t : Store) (y : Output) (pieces : List Piece) (h' : Held) (u : Store) (z : Output) → Midst s x h t y → ((d : Doing code records h) → Moved code records port words memory h d t pieces h' u)
      → ((rest : Run) → Follows code.texts (behind pieces rest) y rest z) → Midst s x h' u z
  on s x h t y pieces h' u z i moves says = record {
    some = (moves i.some).doing;
    doing = λ d.
        let e = i.doing d in
        let m = moves e.0 in (
          m.doing,
          λ rest. follows_after code.texts (turn (d.body k) s rest) (turn e.0.process t rest) (turn m.doing.process u rest) x y z (e.1 rest)
              (subst (λ r. Follows code.texts r y (turn m.doing.process u rest) z) (sym (leads_turn e.0.process t pieces m.doing.process u rest m.leads)) (says (turn m.doing.process u rest))),
          e.2 ∙ m.leads.left,
        );
    nearer = nearer_after code (before records serial fork k, s) (inside records serial fork k h, t) (inside records serial fork k h', u) i.nearer ((moves i.some).goes.inside k fork.count (bodies records serial fork) _);
  }

  pub went_on : (s : Store) (x : Output) (h : Held) (y : Output) (p : P) (h' : Held) (p' : P) → Midst s x h (words p) y
      → ((path : List ℕ) → Stepped port records (act code (frame_of path records h)) p Went h' p') → Midst s x h' (words p') y
  went_on s x h y p h' p' i steps =
      on s x h (words p) y [] h' (words p') y i (λ d. steps_went code records port words memory h d p h' p' (steps d.path)) (λ rest. same_run code.texts rest y)

  pub printed_on : (s : Store) (x : Output) (h : Held) (y : Output) (p : P) (piece : Piece) (h' : Held) (p' : P) (z : Output) → Midst s x h (words p) y
      → ((path : List ℕ) → Stepped port records (act code (frame_of path records h)) p (Printed piece) h' p') → Says code.texts piece y (Ok tt) z → Midst s x h' (words p') z
  printed_on s x h y p piece h' p' z i steps says =
      on s x h (words p) y (piece ∷ []) h' (words p') z i (λ d. steps_printed code records port words memory h d p h' p' piece (steps d.path)) says

  -- what is left
  pub one_on : (h : Held) (t : Store) (pieces : List Piece) (h' : Held) (u : Store) (d : Doing code records h) → Moved code records port words memory h d t pieces h' u → next_place code (inside records serial fork k h, t) ≡ Some (inside records serial fork k h', u)
  one_on h t pieces h' u d m = m.goes.inside k fork.count (bodies records serial fork) _

  pub went_one : (h : Held) (p : P) (h' : Held) (p' : P) → Doing code records h → ((path : List ℕ) → Stepped port records (act code (frame_of path records h)) p Went h' p') → next_place code (inside records serial fork k h, words p) ≡ Some (inside records serial fork k h', words p')
  went_one h p h' p' d steps = one_on h (words p) [] h' (words p') d (steps_went code records port words memory h d p h' p' (steps d.path))

  pub printed_one : (h : Held) (p : P) (piece : Piece) (h' : Held) (p' : P) → Doing code records h → ((path : List ℕ) → Stepped port records (act code (frame_of path records h)) p (Printed piece) h' p') → next_place code (inside records serial fork k h, words p) ≡ Some (inside records serial fork k h', words p')
  printed_one h p piece h' p' d steps = one_on h (words p) (piece ∷ []) h' (words p') d (steps_printed code records port words memory h d p h' p' piece (steps d.path))

  -- it stops
  pub cut : (s : Store) (x : Output) (h : Held) (y : Output) (p : P) (piece : Piece) (h' : Held) (p' : P) (e : Stop) (z : Output) → Midst s x h (words p) y
      → ((path : List ℕ) → Stepped port records (act code (frame_of path records h)) p (Printed piece) h' p') → Says code.texts piece y (Err e) z → (d : Forks) (rest : Run) → Comes code.texts (turn (d.body k) s rest) x (Err e) rest z
  cut s x h y p piece h' p' e z i steps says d rest =
      let at = i.doing d in
      let m = steps_printed code records port words memory h at.0 p h' p' piece (steps at.0.path) in
      let then' = turn m.doing.process (words p') rest in
      comes_err code.texts (turn (d.body k) s rest) then' rest x z e
      (comes_after code.texts (turn (d.body k) s rest) (turn at.0.process (words p) rest) then' x y z (Err e) (at.1 rest)
      (subst (λ r. Comes code.texts r y (Err e) then' z) (sym (leads_turn at.0.process (words p) (piece ∷ []) m.doing.process (words p') rest m.leads)) (says then')))

  pub faulted : (s : Store) (x : Output) (h : Held) (y : Output) (p : P) (kind : FaultKind) (line : ℕ) (h' : Held) (p' : P) → Midst s x h (words p) y
      → ((path : List ℕ) → Stepped port records (act code (frame_of path records h)) p (Faulted kind line) h' p') → (d : Forks) (rest : Run) → Follows code.texts (turn (d.body k) s rest) x (stopped (record { kind = kind; line = line })) y
  faulted s x h y p kind line h' p' i steps d rest =
      let at = i.doing d in
      let end = (steps_faulted code records port words memory h at.0 p h' p' kind line (steps at.0.path)).0 in
      follows_after code.texts (turn (d.body k) s rest) (turn at.0.process (words p) rest) (stopped (record { kind = kind; line = line })) x y y (at.1 rest)
      (as_run code.texts (turn at.0.process (words p) rest) (stopped (record { kind = kind; line = line })) y (fails_turn at.0.process (words p) kind line rest end))

  -- ---- it is over
  pub record IsOver (h : Held) (d : Doing code records h) (t u : Store) : Type 0 where
    pub process : Process
    pub none : fault_of process ≡ None
    pub same : u ≡ t
    pub turn : (rest : Run) → turn d.process t rest ≡ rest
    pub left : left d.process t ≡ t
    pub next : next_place code (inside records serial fork k h, t) ≡ Some (before records serial fork (suc k), u)

  over : (h : Held) (d : Doing code records h) (t u : Store) (q : Process) → fault_of q ≡ None → Over code records port words memory h d t q u → IsOver h d t u
  over h d t u q none o = record {
    process = q;
    none = none;
    same = o.same;
    turn = λ rest. joins_turn d.process t q rest o.at_end none;
    left = o.at_end.left;
    next = o.inside k fork.count (bodies records serial fork) _;
  }

  -- the answers with which an iteration is over
  abbrev pub Ended : StepEnd → Type 0
  Ended end = ((n : ℕ) × (c : ℕ) × (m : ℤ) × (b : ℤ) × (end ≡ Forked n c m b)) ⊎ ((end ≡ Joined) ⊎ (end ≡ Halted))

  pub ended : (end : StepEnd) (h : Held) (p : P) (h' : Held) (p' : P) (d : Doing code records h) → Ended end → Stepped port records (act code (frame_of d.path records h)) p end h' p' → IsOver h d (words p) (words p')
  ended end h p h' p' d (inl w) st =
      let off = steps_forked code records port words memory h d p h' p' w.0 w.1 w.2 w.3 (subst (λ e. Stepped port records (act code (frame_of d.path records h)) p e h' p') w.4 st) in
      record {
        process = Fork off.path off.number w.1 w.2 w.3 off.forking.body off.next;
        none = refl;
        same = off.same;
        turn = λ rest. joins_turn d.process (words p) _ rest off.at_end refl;
        left = off.at_end.left;
        next = off.inside k fork.count (bodies records serial fork) _;
      }
  ended end h p h' p' d (inr (inl e)) st =
      over h d (words p) (words p') Join refl (steps_joined code records port words memory h d p h' p' (subst (λ e. Stepped port records (act code (frame_of d.path records h)) p e h' p') e st))
  ended end h p h' p' d (inr (inr e)) st =
      over h d (words p) (words p') Halt refl (steps_halted code records port words memory h d p h' p' (subst (λ e. Stepped port records (act code (frame_of d.path records h)) p e h' p') e st))

  pub ended_turn : (s : Store) (x : Output) (h : Held) (y : Output) (p : P) (end : StepEnd) (h' : Held) (p' : P) → Midst s x h (words p) y → Ended end
      → ((path : List ℕ) → Stepped port records (act code (frame_of path records h)) p end h' p') → (d : Forks) (rest : Run) → Follows code.texts (turn (d.body k) s rest) x rest y
  ended_turn s x h y p end h' p' i is steps d rest =
      let at = i.doing d in
      let o = ended end h p h' p' at.0 is (steps at.0.path) in
      follows_after code.texts (turn (d.body k) s rest) (turn at.0.process (words p) rest) rest x y y (at.1 rest) (as_run code.texts (turn at.0.process (words p) rest) rest y (o.turn rest))

  pub ended_memory : (s : Store) (x : Output) (h : Held) (y : Output) (p : P) (end : StepEnd) (h' : Held) (p' : P) → Midst s x h (words p) y → Ended end
      → ((path : List ℕ) → Stepped port records (act code (frame_of path records h)) p end h' p') → (d : Forks) → words p' ≡ left (d.body k) s
  ended_memory s x h y p end h' p' i is steps d =
      let at = i.doing d in
      let o = ended end h p h' p' at.0 is (steps at.0.path) in
      o.same ∙ sym (at.2 ∙ o.left)

  pub ended_nearer : (s : Store) (x : Output) (h : Held) (y : Output) (p : P) (end : StepEnd) (h' : Held) (p' : P) → Midst s x h (words p) y → Ended end
      → ((path : List ℕ) → Stepped port records (act code (frame_of path records h)) p end h' p') → IsNearer code (before records serial fork k, s) (before records serial fork (suc k), words p')
  ended_nearer s x h y p end h' p' i is steps =
      nearer_after code (before records serial fork k, s) (inside records serial fork k h, words p) (before records serial fork (suc k), words p') i.nearer (ended end h p h' p' i.some is (steps i.some.path)).next

  -- ---- what is left, an instruction further
  abbrev pub Steps : (h : Held) (p : P) → StepEnd → (h' : Held) (p' : P) → Type 0
  Steps h p end h' p' = (path : List ℕ) → Stepped port records (act code (frame_of path records h)) p end h' p'

  abbrev pub at : Held → P → Place
  at h p = (inside records serial fork k h, words p)

  pub went_within : (most : ℕ) (h : Held) (p : P) (h' : Held) (p' : P) → Doing code records h → Steps h p Went h' p' → EndsWithin code most (at h p) → EndsWithin code most (at h' p')
  went_within most h p h' p' d steps ends = within_further code most (at h p) (at h' p') (went_one h p h' p' d steps) ends

  pub went_less : (most : ℕ) (h : Held) (p : P) (h' : Held) (p' : P) → Doing code records h → Steps h p Went h' p' → EndsWithin code most (at h p) → remaining code most (at h' p') < remaining code most (at h p)
  went_less most h p h' p' d steps ends = less code most (at h p) (at h' p') (went_one h p h' p' d steps) ends

  pub printed_within : (most : ℕ) (h : Held) (p : P) (piece : Piece) (h' : Held) (p' : P) → Doing code records h → Steps h p (Printed piece) h' p' → EndsWithin code most (at h p) → EndsWithin code most (at h' p')
  printed_within most h p piece h' p' d steps ends = within_further code most (at h p) (at h' p') (printed_one h p piece h' p' d steps) ends

  pub printed_less : (most : ℕ) (h : Held) (p : P) (piece : Piece) (h' : Held) (p' : P) → Doing code records h → Steps h p (Printed piece) h' p' → EndsWithin code most (at h p) → remaining code most (at h' p') < remaining code most (at h p)
  printed_less most h p piece h' p' d steps ends = less code most (at h p) (at h' p') (printed_one h p piece h' p' d steps) ends

  pub begins_within : (most : ℕ) (h : Held) (p : P) → ((path : List ℕ) → frame_of path records h ≡ begun path records serial (fork.from +ℤ (pos k *ℤ fork.by))) → k < fork.count
      → EndsWithin code most (before records serial fork k, words p) → EndsWithin code most (at h p)
  begins_within most h p is lt ends = within_further code most (before records serial fork k, words p) (at h p) (starts h (words p) lt (is [])) ends
