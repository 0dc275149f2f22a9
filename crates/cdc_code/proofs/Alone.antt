-- Code that does a process runs as the process does.
use Rattle.std.proofs.Common.{◌≡◌, ℕ, zero, suc, ◌+◌, ℤ, List, [], ◌∷◌, ◌++◌, Option, Some, None, refl, sym, ap, ◌∙◌, subst, arith, append_assoc}
use Rattle.std.proofs.lemmas.List.{append-nil}
use Rattle.cdc_prog.specs.declared.program.Mark.{Mark}
use Rattle.cdc_prog.specs.declared.fault.Fault.{Fault}
use Rattle.cdc_prog.specs.Data.{Store, put, zeros}
use Rattle.cdc_prog.specs.declared.piece.Piece.{Piece}
use Rattle.cdc_prog.specs.Process.{Process, Load, Save, Say, Tick, Fork, Join, Halt, Fail}
use Rattle.cdc_prog.specs.Alone.{Access, Read, Write, accesses, left, said, ending}
use Rattle.cdc_prog.specs.InOrder.{Faulted, fault_of, or_else, choose, after, first_fault, printed_below, Run, run}
use Rattle.cdc_prog.specs.Units.{process_of}
use Rattle.cdc_code.specs.declared.code.Code.{Code}
use Rattle.cdc_code.specs.Act.{Act, Forks, Joins, Halts, Faults}
use Rattle.cdc_code.specs.Frames.{Frame}
use Rattle.cdc_code.specs.Rows.{act, first_frame}
use Rattle.cdc_code.specs.Template.{code_of}
use Rattle.cdc_code.specs.Room.{IsWithin}
use Rattle.cdc_code.specs.Does as does
use Rattle.cdc_code.specs.Does.{Comes, here, Does}
use Rattle.cdc_code.specs.Alone.{Ran, accessing, saying, act_on, alone, IsAlone, fault_in, Turned, Iterates, no_turn, one_turn, past_fault, Runs, halts, faults, faults_in, forks}
use Rattle.cdc_code.specs.Laws.{Anywhere, EndsAs, TaskFollows, CodeRuns, CodeIsSound}
use Rattle.cdc_code.proofs.Whole.{follows}
use Rattle.cdc_code.proofs.OneRun.{one_run}

module _ (code : Code) (marks : List Mark) (Fits : Frame → Type 0) where
  -- past quiet instructions a task alone goes on as from there
  comes_alone : (k n : ℕ) (f g : Frame) (s : Store) → Comes code marks Fits k f g → alone code (k + n) f s ≡ alone code n g s
  comes_alone k n f g s (here _ _) = let e : 0 + n ≡ n = omega arith in ap (λ m. alone code m f s) e
  comes_alone k n f g s (does.after j _ h _ _ q rest) =
      let e : suc j + n ≡ suc (j + n) = omega arith in
      ap (λ m. alone code m f s) e ∙ (ap (λ a. act_on a s (alone code (j + n))) q ∙ comes_alone j n h g s rest)

  -- quiet instructions, and one more
  step_alone : (k n : ℕ) (f g : Frame) (s : Store) (a : Act Frame) (o : Option Ran) → Comes code marks Fits k f g → act code g ≡ a → act_on a s (alone code n) ≡ o → alone code (k + suc n) f s ≡ o
  step_alone k n f g s a o comes q e = comes_alone k (suc n) f g s comes ∙ (ap (λ a. act_on a s (alone code n)) q ∙ e)

  pub task : (budget : ℕ) (q : Process) (f : Frame) (s : Store) → Does code marks Fits budget q f → TaskFollows code marks Fits budget q f s
  task b (Tick next) f s d =
      let t = task (b + 8) next f s d in
      record { steps = t.steps; within = omega (arith, t.within); last = t.last; alone = t.alone; ends = t.ends }
  task b (Load path site word next) f s d =
      let t = task d.left (next (s word)) (d.does.0 (s word)) s (d.does.2 (s word)) in
      record {
        steps = d.steps + suc t.steps;
        within = omega (arith, t.within, d.within);
        last = t.last;
        alone = step_alone d.steps t.steps f d.place s _ _ d.comes d.does.1 (ap (accessing (Read path site word (s word))) t.alone);
        ends = t.ends;
      }
  task b (Save path site word v next) f s d =
      let t = task d.left next d.does.0 (put s word v) d.does.2 in
      record {
        steps = d.steps + suc t.steps;
        within = omega (arith, t.within, d.within);
        last = t.last;
        alone = step_alone d.steps t.steps f d.place s _ _ d.comes d.does.1 (ap (accessing (Write path site word v)) t.alone);
        ends = t.ends;
      }
  task b (Say piece next) f s d =
      let t = task d.left next d.does.0 s d.does.2 in
      record {
        steps = d.steps + suc t.steps;
        within = omega (arith, t.within, d.within);
        last = t.last;
        alone = step_alone d.steps t.steps f d.place s _ _ d.comes d.does.1 (ap (saying piece) t.alone);
        ends = t.ends;
      }
  task b (Fork path number count from by body next) f s d = record {
    steps = d.steps + 1;
    within = omega (arith, d.within);
    last = Forks path number count from by d.does.0 d.does.1;
    alone = step_alone d.steps 0 f d.place s _ _ d.comes d.does.2 refl;
    ends = (d.left, d.does.0, d.does.1, refl, d.does.3, d.does.4);
  }
  task b Join f s d = record { steps = d.steps + 1; within = omega (arith, d.within); last = Joins; alone = step_alone d.steps 0 f d.place s _ _ d.comes d.does refl; ends = refl }
  task b Halt f s d = record { steps = d.steps + 1; within = omega (arith, d.within); last = Halts; alone = step_alone d.steps 0 f d.place s _ _ d.comes d.does refl; ends = refl }
  task b (Fail kind line) f s d =
      record { steps = d.steps + 1; within = omega (arith, d.within); last = Faults kind line; alone = step_alone d.steps 0 f d.place s _ _ d.comes d.does refl; ends = refl }

  -- ---- iterations
  same_fault : (q : Process) (a : Act Frame) → EndsAs code marks Fits q a → fault_in a ≡ fault_of q
  same_fault (Load path site word next) a e = absurd e
  same_fault (Save path site word v next) a e = absurd e
  same_fault (Say piece next) a e = absurd e
  same_fault (Tick next) a e = absurd e
  same_fault (Fork path number count from by body next) a e = ap fault_in e.3
  same_fault Join a e = ap fault_in e
  same_fault Halt a e = ap fault_in e
  same_fault (Fail kind line) a e = ap fault_in e

  -- what the iterations below n do in order, as their processes do
  record AreTurned (n : ℕ) (body : ℕ → Process) (e : ℕ → Frame) (s : Store) : Type 0 where
    turned : Turned
    iterates : Iterates code e s n turned
    said : turned.said ≡ printed_below n body s
    fault : turned.fault ≡ first_fault n body s
    left : first_fault n body s ≡ None → turned.left ≡ after n body s

  one_more : (n : ℕ) (body : ℕ → Process) (e : ℕ → Frame) (s : Store) → Does code marks Fits 0 (body n) (e n) → AreTurned n body e s → (o : Option Fault) → first_fault n body s ≡ o → AreTurned (suc n) body e s
  one_more n body e s d b None none_yet =
      let t = task 0 (body n) (e n) (after n body s) d in
      let r : Ran = record { accesses = accesses (body n) (after n body s); said = said (body n) (after n body s); left = left (body n) (after n body s); ending = t.last } in
      let alone_here : IsAlone code (e n) b.turned.left r = (t.steps, ap (λ w. alone code t.steps (e n) w) (b.left none_yet) ∙ t.alone) in
      record {
        turned = record { said = b.turned.said ++ r.said; left = r.left; fault = fault_in r.ending };
        iterates = one_turn n b.turned r b.iterates (b.fault ∙ none_yet) alone_here;
        said = ap (λ pieces. pieces ++ said (body n) (after n body s)) b.said ∙ ap (λ o. printed_below n body s ++ choose o (λ f. []) (said (body n) (after n body s))) (sym none_yet);
        fault = same_fault (ending (body n) (after n body s)) t.last t.ends ∙ ap (λ o. or_else o (fault_of (ending (body n) (after n body s)))) (sym none_yet);
        left = λ h. refl;
      }
  one_more n body e s d b (Some fault) faulted =
      let first : first_fault (suc n) body s ≡ Some fault = ap (λ o. or_else o (fault_of (ending (body n) (after n body s)))) faulted in
      record {
        turned = b.turned;
        iterates = past_fault n b.turned fault b.iterates (b.fault ∙ faulted);
        said = b.said ∙ (sym (append-nil (printed_below n body s)) ∙ ap (λ o. printed_below n body s ++ choose o (λ f. []) (said (body n) (after n body s))) (sym faulted));
        fault = b.fault ∙ (faulted ∙ sym first);
        left = λ h. absurd (cc (first, h));
      }

  are_turned : (n : ℕ) (body : ℕ → Process) (e : ℕ → Frame) (s : Store) → ((k : ℕ) → Does code marks Fits 0 (body k) (e k)) → AreTurned n body e s
  are_turned zero body e s d = record { turned = record { said = []; left = s; fault = None }; iterates = no_turn; said = refl; fault = refl; left = λ h. refl }
  are_turned (suc n) body e s d = one_more n body e s (d n) (are_turned n body e s d) (first_fault n body s) refl

  -- ---- in order
  -- what comes before a run stands before its output
  runs_before : (f g : Frame) (s t : Store) (pieces : List Piece) → ((r : Ran) → IsAlone code g t r → (seen : List Access) × IsAlone code f s (record { accesses = seen; said = pieces ++ r.said; left = r.left; ending = r.ending })) → (run : Run) → Runs code g t run → Runs code f s (record { printed = pieces ++ run.printed; end = run.end })
  runs_before f g s t pieces ahead run (halts _ _ r al e) = halts f s _ (ahead r al).1 e
  runs_before f g s t pieces ahead run (faults _ _ r fault al e) = faults f s _ fault (ahead r al).1 e
  runs_before f g s t pieces ahead run (faults_in _ _ r count body h i fault al e it q) =
      subst (λ printed. Runs code f s (record { printed = printed; end = Faulted fault })) (append_assoc pieces r.said i.said) (faults_in f s _ count body h i fault (ahead r al).1 e it q)
  runs_before f g s t pieces ahead run (forks _ _ r count body h i rest al e it q on) =
      subst (λ printed. Runs code f s (record { printed = printed; end = rest.end })) (append_assoc pieces r.said (i.said ++ rest.printed)) (forks f s _ count body h i rest (ahead r al).1 e it q on)

  forked : (path : List ℕ) (number count : ℕ) (from by : ℤ) (body : ℕ → Process) (q : Process) (e : ℕ → Frame) (f h : Frame) (s : Store) → IsAlone code f s (record { accesses = []; said = []; left = s; ending = Forks path number count from by e h }) → (b : AreTurned count body e s) → ((t : Store) → Runs code h t (run q t)) → (o : Option Fault) → first_fault count body s ≡ o → Runs code f s (run (Fork path number count from by body q) s)
  forked path number count from by body q e f h s al b on None none_yet =
      let rest = run q (after count body s) in
      let go = subst (λ t. Runs code h t rest) (sym (b.left none_yet)) (on (after count body s)) in
      let whole = forks f s _ count e h b.turned rest al (refl, refl, refl) b.iterates (b.fault ∙ none_yet) go in
      let pieces = ap (λ p. p ++ rest.printed) b.said in
      let as_run = λ (o : Option Fault). let r : Run = record { printed = printed_below count body s ++ choose o (λ f. []) rest.printed; end = choose o Faulted rest.end } in r in
      subst (λ o. Runs code f s (as_run o)) (sym none_yet) (subst (λ printed. Runs code f s (record { printed = printed; end = rest.end })) pieces whole)
  forked path number count from by body q e f h s al b on (Some fault) faulted =
      let rest = run q (after count body s) in
      let whole = faults_in f s _ count e h b.turned fault al (refl, refl, refl) b.iterates (b.fault ∙ faulted) in
      let pieces = b.said ∙ sym (append-nil (printed_below count body s)) in
      let as_run = λ (o : Option Fault). let r : Run = record { printed = printed_below count body s ++ choose o (λ f. []) rest.printed; end = choose o Faulted rest.end } in r in
      subst (λ o. Runs code f s (as_run o)) (sym faulted) (subst (λ printed. Runs code f s (record { printed = printed; end = Faulted fault })) pieces whole)

  pub in_order : (budget : ℕ) (q : Process) (f : Frame) (s : Store) → Does code marks Fits budget q f → Runs code f s (run q s)
  in_order b (Tick next) f s d = in_order (b + 8) next f s d
  in_order b (Load path site word next) f s d =
      runs_before f (d.does.0 (s word)) s s [] (λ r al. (Read path site word (s word) ∷ r.accesses, (d.steps + suc al.0, step_alone d.steps al.0 f d.place s _ _ d.comes d.does.1 (ap (accessing (Read path site word (s word))) al.1))))
      (run (next (s word)) s) (in_order d.left (next (s word)) (d.does.0 (s word)) s (d.does.2 (s word)))
  in_order b (Save path site word v next) f s d =
      runs_before f d.does.0 s (put s word v) [] (λ r al. (Write path site word v ∷ r.accesses, (d.steps + suc al.0, step_alone d.steps al.0 f d.place s _ _ d.comes d.does.1 (ap (accessing (Write path site word v)) al.1))))
      (run next (put s word v)) (in_order d.left next d.does.0 (put s word v) d.does.2)
  in_order b (Say piece next) f s d =
      runs_before f d.does.0 s s (piece ∷ []) (λ r al. (r.accesses, (d.steps + suc al.0, step_alone d.steps al.0 f d.place s _ _ d.comes d.does.1 (ap (saying piece) al.1))))
      (run next s) (in_order d.left next d.does.0 s d.does.2)
  in_order b (Fork path number count from by body next) f s d =
      forked path number count from by body next d.does.0 f d.does.1 s (d.steps + 1, step_alone d.steps 0 f d.place s _ _ d.comes d.does.2 refl) (are_turned count body d.does.0 s d.does.3)
      (λ t. in_order d.left next d.does.1 t d.does.4) (first_fault count body s) refl
  in_order b Join f s d = halts f s _ (d.steps + 1, step_alone d.steps 0 f d.place s _ _ d.comes d.does refl) tt
  in_order b Halt f s d = halts f s _ (d.steps + 1, step_alone d.steps 0 f d.place s _ _ d.comes d.does refl) tt
  in_order b (Fail kind line) f s d = faults f s _ _ (d.steps + 1, step_alone d.steps 0 f d.place s _ _ d.comes d.does refl) refl

pub code_runs : CodeRuns
code_runs = record {
  task = λ code marks budget q f s d. task code marks IsWithin budget q f s d;
  task_anywhere = λ code marks budget q f s d. task code marks Anywhere budget q f s d;
  in_order = λ code marks budget q f s d. in_order code marks Anywhere budget q f s d;
  one = one_run;
  program = λ p marks records r numbered.
      let code = code_of p marks in
      (run (process_of p records) zeros, in_order code marks.reads Anywhere 8 (process_of p records) (first_frame code records) zeros (follows.follows p marks records r numbered), refl, refl);
}

unfoldable pub code_is_sound : CodeIsSound
code_is_sound p marks r numbered room unaliased apart = record {
  program = p;
  marks = marks;
  resolved = r;
  numbered = numbered;
  room = room;
  unaliased = unaliased;
  is_code = refl;
  does = λ records. follows.within p marks records r numbered room;
  runs = λ records. code_runs.program p marks records r numbered;
  apart = apart;
}
