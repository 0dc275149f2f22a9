-- Serial tasks that are carried out, with the iterations that they fork.
use Rattle.std.proofs.Common.{◌≡◌, ◌⊎◌, inl, inr, ℕ, ◌<◌, List, [], ◌∷◌, Ok, Err, sym, subst, arith}
use Rattle.cdc_prog.specs.declared.piece.Piece.{Piece}
use Rattle.cdc_prog.specs.declared.program.FaultKind.{FaultKind}
use Rattle.cdc_prog.specs.Data.{Store}
use Rattle.cdc_prog.specs.Input.{Input}
use Rattle.cdc_prog.specs.Process.{Join, Halt}
use Rattle.cdc_prog.specs.InOrder.{Run, run}
use Rattle.cdc_code.specs.declared.code.Code.{Code}
use Rattle.cdc_code.specs.Rows.{act}
use Rattle.cdc_task.specs.declared.end.StepEnd.{StepEnd}
use Rattle.cdc_task.specs.declared.end.StepEnd.TheVariants.{Went, Printed, Forked, Joined, Halted, Faulted}
use Rattle.cdc_task.specs.declared.port.Port.{Ghosts}
use Rattle.cdc_task.specs.declared.run.Fork.{Fork as ForkOf}
use Rattle.cdc_prog.specs.declared.stop.Stop.{Stop}
use Rattle.cdc_task.specs.Held.{Held, frame_of, resumed}
use Rattle.cdc_task.specs.Steps.{Stepped}
use Rattle.cdc_prog.specs.Trips.{HasIndexes}
use Rattle.cdc_task.specs.Course.{Serial, Place, remaining}
use Rattle.cdc_prog.specs.Output.{Output}
use Rattle.cdc_task.specs.Running.{Doing, Forking, before, EndsWithin, IsNearer, behind, stopped, nothing, turns, Follows, Comes, Says}
use Rattle.cdc_task.proofs.Remaining.{remains, further}
use Rattle.cdc_task.proofs.Moves.{IsMemory, Moved, ForkedOff, steps_went, steps_printed, steps_joined, steps_halted, steps_faulted, steps_forked}
use Rattle.cdc_task.proofs.Runs.{leads_run, ends_run, forks_run}
use Rattle.cdc_task.proofs.Output.{same_run, as_run, follows_after, comes_after, comes_err}
use Rattle.cdc_task.proofs.Turns.{within_further, less}

module _ (code : Code) (records : Input) {P : Type 0} (port : Ghosts P) (words : P → Store) (memory : IsMemory port words) where
  abbrev pub Steps : (h : Held) (p : P) → StepEnd → (h' : Held) (p' : P) → Type 0
  Steps h p end h' p' = (path : List ℕ) → Stepped port records (act code (frame_of path records h)) p end h' p'

  abbrev pub at : Held → Store → Place
  at h t = (Serial (frame_of [] records h), t)

  -- what is known of a run that began in this task on this store and output, in its midst
  pub record Midst (h0 : Held) (s : Store) (x : Output) (h : Held) (t : Store) (y : Output) : Type 0 where
    pub some : Doing code records h
    pub doing : (d : Doing code records h0) → (e : Doing code records h) × Follows code.texts (run d.process s) x (run e.process t) y

  pub starts : (h : Held) (s : Store) (x : Output) → Doing code records h → Midst h s x h s x
  starts h s x d = record { some = d; doing = λ d. (d, same_run code.texts (run d.process s) x) }

  -- ---- it goes on
  on : (h0 : Held) (s : Store) (x : Output) (h : Held) (t : Store) (y : Output) (pieces : List Piece) (h' : Held) (u : Store) (z : Output) → Midst h0 s x h t y → ((d : Doing code records h) → Moved code records port words memory h d t pieces h' u)
      → ((rest : Run) → Follows code.texts (behind pieces rest) y rest z) → Midst h0 s x h' u z
  on h0 s x h t y pieces h' u z i moves says = record {
    some = (moves i.some).doing;
    doing = λ d.
        let e = i.doing d in
        let m = moves e.0 in
        let then' = run m.doing.process u in (
          m.doing,
          follows_after code.texts (run d.process s) (run e.0.process t) then' x y z e.1
              (subst (λ r. Follows code.texts r y then' z) (sym (leads_run e.0.process t pieces m.doing.process u m.leads)) (says then')),
        );
  }

  pub went_on : (h0 : Held) (s : Store) (x : Output) (h : Held) (y : Output) (p : P) (h' : Held) (p' : P) → Midst h0 s x h (words p) y → Steps h p Went h' p' → Midst h0 s x h' (words p') y
  went_on h0 s x h y p h' p' i steps =
      on h0 s x h (words p) y [] h' (words p') y i (λ d. steps_went code records port words memory h d p h' p' (steps d.path)) (λ rest. same_run code.texts rest y)

  pub printed_on : (h0 : Held) (s : Store) (x : Output) (h : Held) (y : Output) (p : P) (piece : Piece) (h' : Held) (p' : P) (z : Output) → Midst h0 s x h (words p) y
      → Steps h p (Printed piece) h' p' → Says code.texts piece y (Ok tt) z → Midst h0 s x h' (words p') z
  printed_on h0 s x h y p piece h' p' z i steps says =
      on h0 s x h (words p) y (piece ∷ []) h' (words p') z i (λ d. steps_printed code records port words memory h d p h' p' piece (steps d.path)) says

  pub went_within : (most : ℕ) (h : Held) (p : P) (h' : Held) (p' : P) → Doing code records h → Steps h p Went h' p' → EndsWithin code most (at h (words p)) → EndsWithin code most (at h' (words p'))
  went_within most h p h' p' d steps ends =
      within_further code most (at h (words p)) (at h' (words p')) (steps_went code records port words memory h d p h' p' (steps d.path)).goes.serial ends

  pub went_less : (most : ℕ) (h : Held) (p : P) (h' : Held) (p' : P) → Doing code records h → Steps h p Went h' p' → EndsWithin code most (at h (words p)) → remaining code most (at h' (words p')) < remaining code most (at h (words p))
  went_less most h p h' p' d steps ends =
      less code most (at h (words p)) (at h' (words p')) (steps_went code records port words memory h d p h' p' (steps d.path)).goes.serial ends

  pub printed_within : (most : ℕ) (h : Held) (p : P) (piece : Piece) (h' : Held) (p' : P) → Doing code records h → Steps h p (Printed piece) h' p' → EndsWithin code most (at h (words p)) → EndsWithin code most (at h' (words p'))
  printed_within most h p piece h' p' d steps ends =
      within_further code most (at h (words p)) (at h' (words p')) (steps_printed code records port words memory h d p h' p' piece (steps d.path)).goes.serial ends

  pub printed_less : (most : ℕ) (h : Held) (p : P) (piece : Piece) (h' : Held) (p' : P) → Doing code records h → Steps h p (Printed piece) h' p' → EndsWithin code most (at h (words p)) → remaining code most (at h' (words p')) < remaining code most (at h (words p))
  printed_less most h p piece h' p' d steps ends =
      less code most (at h (words p)) (at h' (words p')) (steps_printed code records port words memory h d p h' p' piece (steps d.path)).goes.serial ends

  -- ---- it stops
  pub cut : (h0 : Held) (s : Store) (x : Output) (h : Held) (y : Output) (p : P) (piece : Piece) (h' : Held) (p' : P) (e : Stop) (z : Output) → Midst h0 s x h (words p) y
      → Steps h p (Printed piece) h' p' → Says code.texts piece y (Err e) z → (d : Doing code records h0) → Comes code.texts (run d.process s) x (Err e) nothing z
  cut h0 s x h y p piece h' p' e z i steps says d =
      let at = i.doing d in
      let m = steps_printed code records port words memory h at.0 p h' p' piece (steps at.0.path) in
      let then' = run m.doing.process (words p') in
      comes_err code.texts (run d.process s) then' nothing x z e
      (comes_after code.texts (run d.process s) (run at.0.process (words p)) then' x y z (Err e) at.1
      (subst (λ r. Comes code.texts r y (Err e) then' z) (sym (leads_run at.0.process (words p) (piece ∷ []) m.doing.process (words p') m.leads)) (says then')))

  pub faulted : (h0 : Held) (s : Store) (x : Output) (h : Held) (y : Output) (p : P) (kind : FaultKind) (line : ℕ) (h' : Held) (p' : P) → Midst h0 s x h (words p) y
      → Steps h p (Faulted kind line) h' p' → (d : Doing code records h0) → Follows code.texts (run d.process s) x (stopped (record { kind = kind; line = line })) y
  faulted h0 s x h y p kind line h' p' i steps d =
      let at = i.doing d in
      let end = (steps_faulted code records port words memory h at.0 p h' p' kind line (steps at.0.path)).0 in
      let r = stopped (record { kind = kind; line = line }) in
      follows_after code.texts (run d.process s) (run at.0.process (words p)) r x y y at.1 (as_run code.texts (run at.0.process (words p)) r y (ends_run at.0.process (words p) _ end))

  pub ended : (h0 : Held) (s : Store) (x : Output) (h : Held) (y : Output) (p : P) (end : StepEnd) (h' : Held) (p' : P) → Midst h0 s x h (words p) y → (end ≡ Joined) ⊎ (end ≡ Halted)
      → Steps h p end h' p' → (d : Doing code records h0) → Follows code.texts (run d.process s) x nothing y
  ended h0 s x h y p end h' p' i is steps d =
      let at = i.doing d in
      follows_after code.texts (run d.process s) (run at.0.process (words p)) nothing x y y at.1 (as_run code.texts (run at.0.process (words p)) nothing y (over at.0 is (steps at.0.path)))
    where
      over : (e : Doing code records h) → (end ≡ Joined) ⊎ (end ≡ Halted) → Stepped port records (act code (frame_of e.path records h)) p end h' p' → run e.process (words p) ≡ nothing
      over e (inl q) st = ends_run e.process (words p) Join (steps_joined code records port words memory h e p h' p' (subst (λ o. Stepped port records (act code (frame_of e.path records h)) p o h' p') q st)).at_end
      over e (inr q) st = ends_run e.process (words p) Halt (steps_halted code records port words memory h e p h' p' (subst (λ o. Stepped port records (act code (frame_of e.path records h)) p o h' p') q st)).at_end

  -- ---- it forks
  module _ (h : Held) (p : P) (number : ℕ) (fork : ForkOf) (h' : Held) (p' : P) (steps : Steps h p (Forked number fork.count fork.from fork.by) h' p') where
    off : (d : Doing code records h) → ForkedOff code records port words memory h d (words p) fork.count fork.from fork.by h' (words p')
    off d = steps_forked code records port words memory h d p h' p' number fork.count fork.from fork.by (steps d.path)

    pub forked_indexes : Doing code records h → HasIndexes fork.count fork.from fork.by
    forked_indexes d = (off d).indexes

    pub forked_each : Doing code records h → Forking code records h' fork.from fork.by
    forked_each d = (off d).forking

    pub forked_within : (most : ℕ) → Doing code records h → EndsWithin code most (at h (words p)) → EndsWithin code most (before records h' fork 0, words p')
    forked_within most d ends = within_further code most (at h (words p)) (before records h' fork 0, words p') (off d).serial ends

    -- all iterations are done
    pub resumed_on : (h0 : Held) (s : Store) (x y : Output) (u : Store) (z : Output) → Midst h0 s x h (words p) y
        → ((d : Forking code records h' fork.from fork.by) (rest : Store → Run) → Follows code.texts (turns fork.count 0 d.body (words p') rest) y (rest u) z) → Midst h0 s x (resumed h') u z
    resumed_on h0 s x y u z i turned = record {
      some = (off i.some).resumes;
      doing = λ d.
          let e = i.doing d in
          let o = off e.0 in
          let next = run o.next u in (
            o.resumes,
            follows_after code.texts (run d.process s) (run e.0.process (words p)) (run o.resumes.process u) x y z e.1
                (subst (λ q. Follows code.texts (run e.0.process (words p)) y (run q u) z) (sym o.goes_on)
                (subst (λ r. Follows code.texts r y next z) (sym (forks_run e.0.process (words p) o.path o.number fork.count fork.from fork.by o.forking.body o.next o.at_end))
                (subst (λ t. Follows code.texts (turns fork.count 0 o.forking.body t (run o.next)) y next z) o.same (turned o.forking (run o.next))))),
          );
    }

    pub resumed_cut : (h0 : Held) (s : Store) (x y : Output) (e : Stop) (u : Store) (z : Output) → Midst h0 s x h (words p) y
        → ((d : Forking code records h' fork.from fork.by) (rest : Store → Run) → Comes code.texts (turns fork.count 0 d.body (words p') rest) y (Err e) (rest u) z) → (d : Doing code records h0) → Comes code.texts (run d.process s) x (Err e) nothing z
    resumed_cut h0 s x y e u z i turned d =
        let at = i.doing d in
        let o = off at.0 in
        let next = run o.next u in
        comes_err code.texts (run d.process s) next nothing x z e
        (comes_after code.texts (run d.process s) (run at.0.process (words p)) next x y z (Err e) at.1
        (subst (λ r. Comes code.texts r y (Err e) next z) (sym (forks_run at.0.process (words p) o.path o.number fork.count fork.from fork.by o.forking.body o.next o.at_end))
        (subst (λ t. Comes code.texts (turns fork.count 0 o.forking.body t (run o.next)) y (Err e) next z) o.same (turned o.forking (run o.next)))))

    pub resumed_within : (most : ℕ) (u : Store) → Doing code records h → EndsWithin code most (at h (words p)) → IsNearer code (before records h' fork 0, words p') (at (resumed h') u) → EndsWithin code most (at (resumed h') u)
    resumed_within most u d ends near =
        let f = forked_within most d ends in
        let m = near f.0 f.2 in
        (m.0, omega (arith, f.1, m.1), m.2)

    pub resumed_less : (most : ℕ) (u : Store) → Doing code records h → EndsWithin code most (at h (words p)) → IsNearer code (before records h' fork 0, words p') (at (resumed h') u)
        → remaining code most (at (resumed h') u) < remaining code most (at h (words p))
    resumed_less most u d ends near =
        let f = further code ends.0 (at h (words p)) (before records h' fork 0, words p') (off d).serial ends.2 in
        let m = near f.0 f.2 in
        omega (arith, remains code ends.0 most (at h (words p)) ends.2 ends.1, remains code m.0 most (at (resumed h') u) m.2 (omega (arith, ends.1, f.1, m.1)), f.1, m.1)
