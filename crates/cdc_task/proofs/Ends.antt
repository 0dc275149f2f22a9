-- The one-memory run of sound code ends.
use Rattle.std.proofs.Common.{◌≡◌, ℕ, zero, suc, ◌+◌, ◌*◌, ◌<◌, Bool, true, false, List, [], ◌∷◌, Option, Some, None, refl, sym, ap, ap₂, ◌∙◌, subst, arith}
use Rattle.std.specs.Prelude.{nat_lt, if◌then◌else◌}
use Rattle.std.proofs.lemmas.Bool.{lt-ltb, le-ltb}
use Rattle.cdc_prog.specs.declared.program.Mark.{Mark}
use Rattle.cdc_prog.specs.Data.{Store, put, zeros}
use Rattle.cdc_prog.specs.Input.{Input}
use Rattle.cdc_prog.specs.declared.piece.Piece.{Piece}
use Rattle.cdc_prog.specs.Process.{Process, Fork, Join, Halt}
use Rattle.cdc_prog.specs.declared.fault.Fault.{Fault}
use Rattle.cdc_prog.specs.Alone.{left, ending, ticks}
use Rattle.cdc_prog.specs.InOrder.{fault_of, or_else, choose, after, first_fault}
use Rattle.cdc_prog.specs.Cost.{cost, spent}
use Rattle.cdc_prog.specs.Units.{process_of}
use Rattle.cdc_code.specs.declared.code.Code.{Code}
use Rattle.cdc_code.specs.Act.{Act, Goes, Reads, Writes, Prints, Forks, Joins, Halts, Faults, Stuck}
use Rattle.cdc_code.specs.Frames.{Frame}
use Rattle.cdc_code.specs.Rows.{act, first_frame}
use Rattle.cdc_code.specs.Room.{IsWithin}
use Rattle.cdc_code.specs.Does.{Does}
use Rattle.cdc_code.specs.Sound.{IsSound}
use Rattle.cdc_prog.proofs.InOrder.{cost_rest}
use Rattle.cdc_code.proofs.OneStep.{IsAtEnd, Still, Stepped, one_step}
use Rattle.cdc_task.specs.Course.{unpathed, unpathed_act, Serial, Before, Inside, Place, inside_next, serial_next, next_place, Lasts, Ends}
use Rattle.cdc_task.proofs.Unpathed.{same_act}
use Rattle.cdc_task.proofs.Remaining.{before, last}

module _ (code : Code) (marks : List Mark) (Fits : Frame → Type 0) where
  abbrev Stops : Place → Type 0
  Stops p = (n : ℕ) × Lasts code n p

  back : (p q : Place) → next_place code p ≡ Some q → Stops q → Stops p
  back p q e h = (suc h.0, before code h.0 p q e h.1)

  -- ---- an iteration
  module _ (k count : ℕ) (frames : ℕ → Frame) (next : Frame) where
    abbrev inside : Frame → Store → Place
    inside f s = (Inside (unpathed f) k count frames next, s)

    abbrev done : Store → Place
    done s = (Before (suc k) count frames next, s)

    at_inside : (f : Frame) (s : Store) (a : Act Frame) → act code f ≡ a → next_place code (inside f s) ≡ inside_next (unpathed_act a) k count frames next s
    at_inside f s a e = ap (λ a. inside_next a k count frames next s) (same_act code f ∙ ap unpathed_act e)

    -- what is said of an iteration with less than n left to do
    abbrev Turns : ℕ → Type 0
    Turns n = (b : ℕ) (q : Process) (f : Frame) (s : Store) → b + 8 * ticks q s < n → Does code marks Fits b q f → (fault_of (ending q s) ≡ None → Stops (done (left q s))) → Stops (inside f s)

    turned : (n : ℕ) → Turns n → (b : ℕ) (q : Process) (f : Frame) (s : Store) → b + 8 * ticks q s < suc n → (fault_of (ending q s) ≡ None → Stops (done (left q s))) → (a : Act Frame) → act code f ≡ a → Stepped code marks Fits b q s a → Stops (inside f s)
    turned n again b q f s lt rest a e h = go a (at_inside f s a e) h
      where
        on : (pieces : List Piece) (g : Frame) (t : Store) → next_place code (inside f s) ≡ Some (inside g t) → Still code marks Fits b q s pieces g t → Stops (inside f s)
        on pieces g t e h =
            back (inside f s) (inside g t) e (again h.rest h.process g t (omega (arith, lt, h.fewer)) h.does (λ none. subst (λ u. Stops (done u)) h.leads.left (rest (ap fault_of h.leads.ending ∙ none))))

        over : (r : Process) → next_place code (inside f s) ≡ Some (done s) → IsAtEnd q s r → fault_of r ≡ None → Stops (inside f s)
        over r e h none = back (inside f s) (done s) e (subst (λ u. Stops (done u)) h.left (rest (ap fault_of h.ending ∙ none)))

        go : (a : Act Frame) → next_place code (inside f s) ≡ inside_next (unpathed_act a) k count frames next s → Stepped code marks Fits b q s a → Stops (inside f s)
        go (Goes g) e h = on [] g s e h
        go (Reads path site mark w loads) e h = on [] (loads (s w)) s e h
        go (Writes path site w v g) e h = on [] g (put s w v) e h
        go (Prints piece g) e h = on (piece ∷ []) g s e h
        go (Forks path number c from by bodies g) e h = over _ e h.3 refl
        go Joins e h = over Join e h refl
        go Halts e h = over Halt e h refl
        go (Faults kind line) e h = (0, last code (inside f s) e)
        go Stuck e h = absurd h

    turn : (n : ℕ) → Turns n
    turn zero b q f s lt d rest = absurd (omega (arith, lt))
    turn (suc n) b q f s lt d rest = turned n (turn n) b q f s lt rest (act code f) refl (one_step code marks Fits b q f s d).stepped

  -- ---- the iterations of a fork
  module _ (count : ℕ) (frames : ℕ → Frame) (next : Frame) (body : ℕ → Process) (s : Store) (each : (k : ℕ) → Does code marks Fits 0 (body k) (frames k)) (then' : first_fault count body s ≡ None → Stops (Serial (unpathed next), after count body s)) where
    abbrev bodies : ℕ → Frame
    bodies k = unpathed (frames k)

    abbrev spot : ℕ → Place
    spot k = (Before k count bodies (unpathed next), after k body s)

    choice : (k : ℕ) (b : Bool) → nat_lt k count ≡ b → next_place code (spot k) ≡ (if b then Some (Inside (bodies k) k count bodies (unpathed next), after k body s) else Some (Serial (unpathed next), after k body s))
    choice k b e = ap (λ b. if b then Some (Inside (bodies k) k count bodies (unpathed next), after k body s) else Some (Serial (unpathed next), after k body s)) e

    turns : (m k : ℕ) → k + m ≡ count → first_fault k body s ≡ None → Stops (spot k)
    turns zero k e none =
        let same : k ≡ count = omega (arith, e) in
        let over : nat_lt k count ≡ false = le-ltb k count (omega (arith, e)) in
        back (spot k) (Serial (unpathed next), after k body s) (choice k false over) (subst (λ n. Stops (Serial (unpathed next), after n body s)) (sym same) (then' (subst (λ n. first_fault n body s ≡ None) same none)))
    turns (suc m) k e none =
        let more : nat_lt k count ≡ true = lt-ltb k count (omega (arith, e)) in
        let t = after k body s in
        back (spot k) (Inside (bodies k) k count bodies (unpathed next), t) (choice k true more)
        (turn k count bodies (unpathed next) (suc (0 + 8 * ticks (body k) t)) 0 (body k) (frames k) t (omega arith) (each k) (λ done. turns m (suc k) (omega (arith, e)) (ap₂ or_else none done)))

  -- ---- the whole run
  at_serial : (f : Frame) (s : Store) (a : Act Frame) → act code f ≡ a → next_place code (Serial (unpathed f), s) ≡ serial_next (unpathed_act a) s
  at_serial f s a e = ap (λ a. serial_next a s) (same_act code f ∙ ap unpathed_act e)

  abbrev Serials : ℕ → Type 0
  Serials n = (b : ℕ) (q : Process) (f : Frame) (s : Store) → b + 8 * cost q s < n → Does code marks Fits b q f → Stops (Serial (unpathed f), s)

  stepped_serial : (n : ℕ) → Serials n → (b : ℕ) (q : Process) (f : Frame) (s : Store) → b + 8 * cost q s < suc n → (a : Act Frame) → act code f ≡ a → Stepped code marks Fits b q s a → Stops (Serial (unpathed f), s)
  stepped_serial n again b q f s lt a e h = go a (at_serial f s a e) h
    where
      at_first : cost q s ≡ ticks q s + cost (ending q s) (left q s)
      at_first = cost_rest spent q s

      on : (pieces : List Piece) (g : Frame) (t : Store) → next_place code (Serial (unpathed f), s) ≡ Some (Serial (unpathed g), t) → Still code marks Fits b q s pieces g t → Stops (Serial (unpathed f), s)
      on pieces g t e h =
          let now = cost_rest spent h.process t in
          let same : cost (ending q s) (left q s) ≡ cost (ending h.process t) (left h.process t) = ap₂ cost h.leads.ending h.leads.left in
          back (Serial (unpathed f), s) (Serial (unpathed g), t) e (again h.rest h.process g t (omega (arith, lt, h.fewer, now, same, at_first)) h.does)

      go : (a : Act Frame) → next_place code (Serial (unpathed f), s) ≡ serial_next (unpathed_act a) s → Stepped code marks Fits b q s a → Stops (Serial (unpathed f), s)
      go (Goes g) e h = on [] g s e h
      go (Reads path site mark w loads) e h = on [] (loads (s w)) s e h
      go (Writes path site w v g) e h = on [] g (put s w v) e h
      go (Prints piece g) e h = on (piece ∷ []) g s e h
      go (Forks path number count from by frames g) e h =
          let body = h.0 in
          let next = h.1 in
          let m = h.2 in
          let end : cost (ending q s) (left q s) ≡ cost (Fork path number count from by body next) s = ap₂ cost h.3.ending h.3.left in
          let spends = λ (none : first_fault count body s ≡ None). ap (λ (o : Option Fault). spent count body s + choose o (λ f. 0) (cost next (after count body s))) none in
          back (Serial (unpathed f), s) (Before 0 count (λ k. unpathed (frames k)) (unpathed g), s) e
          (turns count frames g body s h.4 (λ none. again m next g (after count body s) (omega (arith, lt, h.6, at_first, end, spends none)) h.5) count 0 (omega arith) refl)
      go Joins e h = (0, last code (Serial (unpathed f), s) e)
      go Halts e h = (0, last code (Serial (unpathed f), s) e)
      go (Faults kind line) e h = (0, last code (Serial (unpathed f), s) e)
      go Stuck e h = absurd h

  pub serial : (n : ℕ) → Serials n
  serial zero b q f s lt d = absurd (omega (arith, lt))
  serial (suc n) b q f s lt d = stepped_serial n (serial n) b q f s lt (act code f) refl (one_step code marks Fits b q f s d).stepped

-- so sound code comes to an end on every input
pub ends : (code : Code) → IsSound code → (records : Input) → Ends code records
ends code s records =
    let q = process_of s.program records in
    serial code s.marks.reads IsWithin (suc (8 + 8 * cost q zeros)) 8 q (first_frame code records) zeros (omega arith) (s.does records)
