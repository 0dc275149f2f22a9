-- A step of a task that does a process.
use Rattle.std.proofs.Common.{◌≡◌, ℕ, suc, ℤ, pos, ◌+ℤ◌, ◌*ℤ◌, List, [], ◌∷◌, Some, refl, sym, ap, ap₂, ◌∙◌, subst, subst₂}
use Rattle.std.proofs.Math.Path.{fun_ext}
use Rattle.cdc_prog.specs.declared.piece.Piece.{Piece}
use Rattle.cdc_prog.specs.declared.program.FaultKind.{FaultKind}
use Rattle.cdc_prog.specs.declared.program.Mark.{Mark}
use Rattle.cdc_prog.specs.Data.{Store, put}
use Rattle.cdc_prog.specs.Input.{Input}
use Rattle.cdc_prog.specs.Process.{Process, Fork, Join, Halt, Fail}
use Rattle.cdc_prog.specs.Alone.{said}
use Rattle.cdc_code.specs.declared.code.Code.{Code}
use Rattle.cdc_code.specs.Act.{Act, Goes, Reads, Writes, Prints, Forks, Joins, Halts, Faults}
use Rattle.cdc_code.specs.Frames.{Frame}
use Rattle.cdc_code.specs.Rows.{act}
use Rattle.cdc_code.specs.Does.{Does}
use Rattle.cdc_code.proofs.OneStep as done
use Rattle.cdc_code.proofs.OneStep.{Leads, IsAtEnd, Still, one_step}
use Rattle.cdc_task.specs.declared.end.StepEnd.TheVariants.{Went, Printed, Forked, Joined, Halted, Faulted}
use Rattle.cdc_task.specs.declared.port.Port.{Ghosts}
use Rattle.cdc_task.specs.Held.{Held, frame_of, StandsIn, resumed, begun}
use Rattle.cdc_task.specs.Steps.{GoesOn, Stepped}
use Rattle.cdc_prog.specs.Trips.{HasIndexes}
use Rattle.cdc_task.specs.Course.{unpathed, unpathed_act, Serial, Before, Inside, serial_next, inside_next, next_place}
use Rattle.cdc_task.specs.Running.{Doing, Forking}
use Rattle.cdc_task.proofs.Unpathed.{same_act}

-- `words` says what a port holds, and its calls are those of plain memory
pub record IsMemory {P : Type 0} (port : Ghosts P) (words : P → Store) : Type 0 where
  pub loads : (p q : P) (word : ℕ) (mark : Mark) (v : ℤ) → port.loads p word mark v q → (v ≡ words p word) × (q ≡ p)
  pub stores : (p q : P) (word : ℕ) (v : ℤ) → port.stores p word v q → words q ≡ put (words p) word v

module _ (code : Code) (records : Input) {P : Type 0} (port : Ghosts P) (words : P → Store) (memory : IsMemory port words) where
  abbrev frame : Held → Frame
  frame h = frame_of [] records h

  -- the run goes on, in whatever task it is
  pub record GoesTo (h : Held) (s : Store) (h' : Held) (t : Store) : Type 0 where
    pub serial : next_place code (Serial (frame h), s) ≡ Some (Serial (frame h'), t)
    pub inside : (k count : ℕ) (body : ℕ → Frame) (next : Frame) → next_place code (Inside (frame h) k count body next, s) ≡ Some (Inside (frame h') k count body next, t)

  -- the task printed these pieces, and does what is left of its process
  pub record Moved (h : Held) (d : Doing code records h) (s : Store) (pieces : List Piece) (h' : Held) (t : Store) : Type 0 where
    pub doing : Doing code records h'
    pub leads : Leads d.process s pieces doing.process t
    pub goes : GoesTo h s h' t

  -- the process has come to its end
  pub record Over (h : Held) (d : Doing code records h) (s : Store) (q : Process) (t : Store) : Type 0 where
    pub at_end : IsAtEnd d.process s q
    pub same : t ≡ s
    pub inside : (k count : ℕ) (body : ℕ → Frame) (next : Frame) → next_place code (Inside (frame h) k count body next, s) ≡ Some (Before (suc k) count body next, t)

  -- it has come to a fork
  pub record ForkedOff (h : Held) (d : Doing code records h) (s : Store) (count : ℕ) (from by : ℤ) (h' : Held) (t : Store) : Type 0 where
    pub path : List ℕ
    pub number : ℕ
    pub forking : Forking code records h' from by
    pub next : Process
    pub resumes : Doing code records (resumed h')
    pub goes_on : resumes.process ≡ next
    pub at_end : IsAtEnd d.process s (Fork path number count from by forking.body next)
    pub same : t ≡ s
    pub indexes : HasIndexes count from by
    pub serial : next_place code (Serial (frame h), s) ≡ Some (Before 0 count (λ k. begun [] records h' (from +ℤ (pos k *ℤ by))) (frame (resumed h')), t)
    pub inside : (k n : ℕ) (body : ℕ → Frame) (next : Frame) → next_place code (Inside (frame h) k n body next, s) ≡ Some (Before (suc k) n body next, t)

  module _ (h : Held) (d : Doing code records h) (p : P) (h' : Held) (p' : P) where
    abbrev here : Frame
    here = frame_of d.path records h

    abbrev s : Store
    s = words p

    abbrev Did : Act Frame → Type 0
    Did a = done.Stepped code d.marks (GoesOn code) d.budget d.process s a

    -- where the task stands, its call path aside
    stood : (g : Frame) → StandsIn records h' g → frame h' ≡ unpathed g
    stood g e = ap unpathed e

    at_serial : (a : Act Frame) → act code here ≡ a → next_place code (Serial (frame h), s) ≡ serial_next (unpathed_act a) s
    at_serial a e = ap (λ a. serial_next a s) (same_act code here ∙ ap unpathed_act e)

    at_inside : (k count : ℕ) (body : ℕ → Frame) (next : Frame) (a : Act Frame) → act code here ≡ a → next_place code (Inside (frame h) k count body next, s) ≡ inside_next (unpathed_act a) k count body next s
    at_inside k count body next a e = ap (λ a. inside_next a k count body next s) (same_act code here ∙ ap unpathed_act e)

    moved : (pieces : List Piece) (g : Frame) (t : Store) → Still code d.marks (GoesOn code) d.budget d.process s pieces g t → StandsIn records h' g → words p' ≡ t
        → next_place code (Serial (frame h), s) ≡ Some (Serial (unpathed g), t)
        → ((k count : ℕ) (body : ℕ → Frame) (next : Frame) → next_place code (Inside (frame h) k count body next, s) ≡ Some (Inside (unpathed g) k count body next, t))
        → Moved h d s pieces h' (words p')
    moved pieces g t still at same serial inside = record {
      doing = record { marks = d.marks; path = g.kept.path; budget = still.rest; process = still.process; does = subst (Does code d.marks (GoesOn code) still.rest still.process) (sym at) still.does };
      leads = subst (Leads d.process s pieces still.process) (sym same) still.leads;
      goes = record {
        serial = serial ∙ ap₂ (λ (f : Frame) (u : Store). Some (Serial f, u)) (sym (stood g at)) (sym same);
        inside = λ k count body next. inside k count body next ∙ ap₂ (λ (f : Frame) (u : Store). Some (Inside f k count body next, u)) (sym (stood g at)) (sym same);
      };
    }

    went : (a : Act Frame) → act code here ≡ a → Did a → Stepped port records a p Went h' p' → Moved h d s [] h' (words p')
    went (Goes g) e did k = moved [] g s did k.0 (ap words k.1) (at_serial (Goes g) e) (λ j n body next. at_inside j n body next (Goes g) e)
    went (Reads path site mark w loads) e did k =
        let v = k.1 in
        let load = memory.loads p p' w mark v k.2 in
        moved [] (loads (s w)) s did (subst (λ v. StandsIn records h' (loads v)) load.0 k.3) (ap words load.1) (at_serial (Reads path site mark w loads) e) (λ j n body next. at_inside j n body next (Reads path site mark w loads) e)
    went (Writes path site w v g) e did k =
        moved [] g (put s w v) did k.2 (memory.stores p p' w v k.1) (at_serial (Writes path site w v g) e) (λ j n body next. at_inside j n body next (Writes path site w v g) e)
    went a e did k = absurd k.0

    printed : (piece : Piece) (a : Act Frame) → act code here ≡ a → Did a → Stepped port records a p (Printed piece) h' p' → Moved h d s (piece ∷ []) h' (words p')
    printed piece (Prints said g) e did k =
        moved (piece ∷ []) g s (subst (λ x. Still code d.marks (GoesOn code) d.budget d.process s (x ∷ []) g s) (sym k.0.0) did) k.0.1 (ap words k.1) (at_serial (Prints said g) e) (λ j n body next. at_inside j n body next (Prints said g) e)
    printed piece (Reads path site mark w loads) e did k = cc
    printed piece (Writes path site w v g) e did k = cc
    printed piece a e did k = absurd k.0

    over : (q : Process) (a : Act Frame) → act code here ≡ a → IsAtEnd d.process s q → p' ≡ p
        → ((k n : ℕ) (body : ℕ → Frame) (next : Frame) → inside_next (unpathed_act a) k n body next s ≡ Some (Before (suc k) n body next, s)) → Over h d s q (words p')
    over q a e end same after = record {
      at_end = end;
      same = ap words same;
      inside = λ k n body next. at_inside k n body next a e ∙ (after k n body next ∙ ap (λ (u : Store). Some (Before (suc k) n body next, u)) (sym (ap words same)));
    }

    joined : (a : Act Frame) → act code here ≡ a → Did a → Stepped port records a p Joined h' p' → Over h d s Join (words p')
    joined Joins e did k = over Join Joins e did k.1 (λ j n body next. refl)
    joined (Reads path site mark w loads) e did k = cc
    joined (Writes path site w v g) e did k = cc
    joined a e did k = absurd k.0

    halted : (a : Act Frame) → act code here ≡ a → Did a → Stepped port records a p Halted h' p' → Over h d s Halt (words p')
    halted Halts e did k = over Halt Halts e did k.1 (λ j n body next. refl)
    halted (Reads path site mark w loads) e did k = cc
    halted (Writes path site w v g) e did k = cc
    halted a e did k = absurd k.0

    faulted : (kind : FaultKind) (line : ℕ) (a : Act Frame) → act code here ≡ a → Did a → Stepped port records a p (Faulted kind line) h' p' → IsAtEnd d.process s (Fail kind line) × (words p' ≡ s)
    faulted kind line (Faults k l) e did h = (subst₂ (λ x y. IsAtEnd d.process s (Fail x y)) (sym h.0.0) (sym h.0.1) did, ap words h.1)
    faulted kind line (Reads path site mark w loads) e did k = cc
    faulted kind line (Writes path site w v g) e did k = cc
    faulted kind line a e did k = absurd k.0

    forked : (n k : ℕ) (m b : ℤ) (a : Act Frame) → act code here ≡ a → Did a → Stepped port records a p (Forked n k m b) h' p' → ForkedOff h d s k m b h' (words p')
    forked n k m b (Forks path number count from by frames g) e did hyp =
        let q = hyp.0 in
        let body = did.0 in
        let bodies : (λ j. unpathed (frames j)) ≡ (λ j. begun [] records h' (from +ℤ (pos j *ℤ by))) = fun_ext (λ j. ap unpathed (sym (q.5 j))) in
        let same = ap words hyp.1 in
        let off : ForkedOff h d s count from by h' (words p') = record {
          path = path;
          number = number;
          forking = record { marks = d.marks; path = path; body = body; each = λ j. subst (Does code d.marks (GoesOn code) 0 (body j)) (sym (q.5 j)) (did.4 j) };
          next = did.1;
          resumes = record { marks = d.marks; path = g.kept.path; budget = did.2; process = did.1; does = subst (Does code d.marks (GoesOn code) did.2 did.1) (sym q.4) did.5 };
          goes_on = refl;
          at_end = did.3;
          same = same;
          indexes = q.6;
          serial =
              at_serial (Forks path number count from by frames g) e
              ∙ (ap (λ (l : ℕ → Frame). Some (Before 0 count l (unpathed g), s)) bodies
              ∙ ap₂ (λ (f : Frame) (u : Store). Some (Before 0 count (λ j. begun [] records h' (from +ℤ (pos j *ℤ by))) f, u)) (sym (ap unpathed q.4)) (sym same));
          inside = λ j c then_body next. at_inside j c then_body next (Forks path number count from by frames g) e ∙ ap (λ (u : Store). Some (Before (suc j) c then_body next, u)) (sym same);
        } in
        subst (λ x. ForkedOff h d s x m b h' (words p')) (sym q.1)
        (subst (λ x. ForkedOff h d s count x b h' (words p')) (sym q.2)
        (subst (λ x. ForkedOff h d s count from x h' (words p')) (sym q.3) off))
    forked n k m b (Reads path site mark w loads) e did hyp = cc
    forked n k m b (Writes path site w v g) e did hyp = cc
    forked n k m b a e did hyp = absurd hyp.0

    -- ---- by the answer
    did_here : Did (act code here)
    did_here = (one_step code d.marks (GoesOn code) d.budget d.process here s d.does).stepped

    pub steps_went : Stepped port records (act code here) p Went h' p' → Moved h d s [] h' (words p')
    steps_went k = went (act code here) refl did_here k

    pub steps_printed : (piece : Piece) → Stepped port records (act code here) p (Printed piece) h' p' → Moved h d s (piece ∷ []) h' (words p')
    steps_printed piece k = printed piece (act code here) refl did_here k

    pub steps_joined : Stepped port records (act code here) p Joined h' p' → Over h d s Join (words p')
    steps_joined k = joined (act code here) refl did_here k

    pub steps_halted : Stepped port records (act code here) p Halted h' p' → Over h d s Halt (words p')
    steps_halted k = halted (act code here) refl did_here k

    pub steps_faulted : (kind : FaultKind) (line : ℕ) → Stepped port records (act code here) p (Faulted kind line) h' p' → IsAtEnd d.process s (Fail kind line) × (words p' ≡ s)
    steps_faulted kind line k = faulted kind line (act code here) refl did_here k

    pub steps_forked : (n k : ℕ) (m b : ℤ) → Stepped port records (act code here) p (Forked n k m b) h' p' → ForkedOff h d s k m b h' (words p')
    steps_forked n k m b hyp = forked n k m b (act code here) refl did_here hyp
