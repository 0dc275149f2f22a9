-- The machine on code that does a process.
use Rattle.std.proofs.Common.{◌≡◌, ℕ, zero, suc, ◌+◌, ◌*◌, ◌≤◌, ◌<◌, List, [], ◌∷◌, ◌++◌, Option, Some, None, refl, sym, ap, ◌∙◌, subst, append_assoc, arith}
use Rattle.cdc_prog.specs.declared.program.Mark.{Mark}
use Rattle.cdc_prog.specs.declared.piece.Piece.{Piece}
use Rattle.cdc_prog.specs.Marked.{mark_of}
use Rattle.cdc_prog.specs.Data.{Store, zeros}
use Rattle.cdc_prog.specs.Input.{Input}
use Rattle.cdc_prog.specs.Process.{Process, Load, Save, Say, Tick, Fork, Join, Halt, Fail}
use Rattle.cdc_prog.specs.declared.fault.Fault.{Fault}
use Rattle.cdc_prog.specs.Alone.{Access, accesses, left, said, ending}
use Rattle.cdc_prog.specs.InOrder as turn
use Rattle.cdc_prog.specs.InOrder.{End, output, ends}
use Rattle.cdc_prog.specs.Cost as price
use Rattle.cdc_prog.specs.Units.{process_of}
use Rattle.cdc_prog.specs.Meaning.{meaning, full_cost, bytes_of, bytes_of_piece}
use Rattle.cdc_code.specs.declared.code.Code.{Code}
use Rattle.cdc_code.specs.Act.{Act}
use Rattle.cdc_code.specs.Frames.{Frame}
use Rattle.cdc_code.specs.Rows.{act, first_frame}
use Rattle.cdc_code.specs.Room.{IsWithin}
use Rattle.cdc_code.specs.Does.{Comes, here, after, Reach, Does}
use Rattle.cdc_code.specs.Alone.{Ran, alone, fault_in, Turned, Iterates, no_turn, one_turn}
use Rattle.cdc_code.specs.Laws.{EndsAs}
use Rattle.cdc_code.specs.Sound.{IsSound}
use Rattle.cdc_code.proofs.Alone.{task}
use Rattle.cdc_sched.specs.declared.event.Event.{Event}
use Rattle.cdc_machine.specs.Machine.{PhaseOf, Serial, Doall, Over, least_fault}
use Rattle.cdc_machine.specs.History.{HistoryOf, memory}
use Rattle.cdc_machine.specs.Doing as doing
use Rattle.cdc_machine.specs.Doing.{Stops, Now}
use Rattle.cdc_machine.specs.Standing.{InDoall, StandsIn, Stands}
use Rattle.cdc_machine.specs.Code.{entry_of, exit_of, run, spent, IsFront, ended_with, IsMeant}
use Rattle.cdc_machine.specs.Laws.{MadeFront, IsOver, IsComplete, EveryInterleaving, EveryRunEnds}
use Rattle.cdc_machine.proofs.Stands.{all_kept, never_more, begins_standing, fault_in_order, memory_in_order}
use Rattle.cdc_machine.proofs.Joining.{program_joins}
use Rattle.cdc_machine.proofs.Enabled.{IsLive}
use Rattle.cdc_machine.proofs.InTurn.{moves, ended}

module _ (code : Code) (marks : List Mark) (Fits : Frame → Type 0) where
  -- a task faults where the process does that it does
  same_fault : (q : Process) (a : Act Frame) → EndsAs code marks Fits q a → fault_in a ≡ turn.fault_of q
  same_fault (Load path site word next) a e = absurd e
  same_fault (Save path site word v next) a e = absurd e
  same_fault (Say piece next) a e = absurd e
  same_fault (Tick next) a e = absurd e
  same_fault (Fork path number count from by body next) a e = ap fault_in e.3
  same_fault Join a e = ap fault_in e
  same_fault Halt a e = ap fault_in e
  same_fault (Fail kind line) a e = ap fault_in e

  abbrev pub DoesCode : ℕ → Process → Frame → Type 0
  DoesCode = Does code marks Fits

  abbrev pub NowCode : ℕ → Process → Act Frame → Type 0
  NowCode = Now DoesCode (mark_of marks)

  abbrev pub StopsCode : ℕ → Process → Act Frame → Type 0
  StopsCode = Stops DoesCode (mark_of marks)

  -- at a reach: a quiet instruction of it, or the act of the process
  reached : (price b : ℕ) (q : Process) (f : Frame) (P : ℕ → Frame → Type 0) → 1 ≤ price → Reach code marks Fits price b f P
      → ((n : ℕ) (g : Frame) → Reach code marks Fits price n g P → DoesCode n q g)
      → ((m : ℕ) → m + price ≤ b → P m f → NowCode b q (act code f))
      → NowCode b q (act code f)
  reached price b q f P some r again own = go r.steps r.place r.comes r.within r.does
    where
      go : (k : ℕ) (place : Frame) → Comes code marks Fits k f place → k + price + r.left ≤ b → P r.left place → NowCode b q (act code f)
      go k place (here _ ok) le h = own r.left (omega (arith, le)) h
      go k place (after n _ g _ ok e rest) le h =
          let remaining : Reach code marks Fits price (n + price + r.left) g P = record { steps = n; left = r.left; within = omega arith; place = place; comes = rest; does = h } in
          subst (NowCode b q) (sym e) (doing.quiet b (n + price + r.left) q g (omega (arith, le)) (again (n + price + r.left) g remaining))

  -- an instruction of code that does a process is a quiet one, or does what the process does first
  pub code_now : (b : ℕ) (q : Process) (f : Frame) → DoesCode b q f → NowCode b q (act code f)
  code_now b (Tick next) f d = doing.ticks b next (act code f) (code_now (b + 8) next f d)
  code_now b (Load path site word next) f d =
      reached 1 b (Load path site word next) f _ (omega arith) d (λ n g r. r) (λ m le h. subst (NowCode b (Load path site word next)) (sym h.1) (doing.reads b m path site word next h.0 le h.2))
  code_now b (Save path site word v next) f d =
      reached 1 b (Save path site word v next) f _ (omega arith) d (λ n g r. r) (λ m le h. subst (NowCode b (Save path site word v next)) (sym h.1) (doing.writes b m path site word v next h.0 le h.2))
  code_now b (Say piece next) f d =
      reached 1 b (Say piece next) f _ (omega arith) d (λ n g r. r) (λ m le h. subst (NowCode b (Say piece next)) (sym h.1) (doing.prints b m piece next h.0 le h.2))
  code_now b (Fork path number count from by body next) f d =
      let q = Fork path number count from by body next in
      reached 4 b q f _ (omega arith) d (λ n g r. r) (λ m le h.
      subst (NowCode b q) (sym h.2) (doing.stops b q _ (doing.forks b m path number count from by body h.0 next h.1 le h.3 h.4)))
  code_now b Join f d = reached 2 b Join f _ (omega arith) d (λ n g r. r) (λ m le h. subst (NowCode b Join) (sym h) (doing.stops b Join _ (doing.joins b (omega (arith, le)))))
  code_now b Halt f d = reached 2 b Halt f _ (omega arith) d (λ n g r. r) (λ m le h. subst (NowCode b Halt) (sym h) (doing.stops b Halt _ (doing.halts b (omega (arith, le)))))
  code_now b (Fail kind line) f d =
      reached 2 b (Fail kind line) f _ (omega arith) d (λ n g r. r) (λ m le h. subst (NowCode b (Fail kind line)) (sym h) (doing.stops b (Fail kind line) _ (doing.faults b kind line (omega (arith, le)))))

bytes_of_both : (texts : List (List ℕ)) (a b : List Piece) → bytes_of texts (a ++ b) ≡ bytes_of texts a ++ bytes_of texts b
bytes_of_both texts [] b = refl
bytes_of_both texts (piece ∷ a) b = ap (λ l. bytes_of_piece texts piece ++ l) (bytes_of_both texts a b) ∙ sym (append_assoc (bytes_of_piece texts piece) (bytes_of texts a) (bytes_of texts b))

-- sound code, of which each task that goes on keeps `Fits`
module _ (code : Code) (sound : IsSound code) (Fits : Frame → Type 0) (records : Input) (does : Does code sound.marks.reads Fits 8 (process_of sound.program records) (first_frame code records)) where
  abbrev pub main : Process
  main = process_of sound.program records

  abbrev pub out : List Piece
  out = output main zeros

  abbrev pub last : End
  last = ends main zeros

  -- what the run of the code may spend
  abbrev pub total : ℕ
  total = 8 + 8 * price.full_cost main zeros

  abbrev pub StandsOn : (spent : ℕ) → (ℕ → Process) → HistoryOf Frame → Type 0
  StandsOn = Stands (act code) (Does code sound.marks.reads Fits) (mark_of sound.marks.reads) out last total

  -- after every list of events
  pub stands : (events : List Event) → (began : ℕ → Process) × StandsOn (spent code records events) began (run code records events)
  stands events =
      let D = Does code sound.marks.reads Fits in
      let mark = mark_of sound.marks.reads in
      all_kept (act code) (entry_of code) (exit_of code) D mark (code_now code sound.marks.reads Fits) out last total (first_frame code records) events
      (λ k. main, begins_standing (act code) (entry_of code) (exit_of code) D mark 8 main (first_frame code records) does (sound.apart records zeros) (program_joins sound.program records sound.resolved))

  pub bounded : (events : List Event) → spent code records events ≤ total
  bounded events =
      never_more (act code) (entry_of code) (exit_of code) (Does code sound.marks.reads Fits) (mark_of sound.marks.reads) (code_now code sound.marks.reads Fits) out last total (spent code records events) (run code records events) (stands events)

  pub meant : (events : List Event) → IsMeant code.texts (meaning sound.program records) (run code records events).machine
  meant events = let n = stands events in by_phase (spent code records events) n.0 (run code records events).machine.phase refl n.1
    where
      h : HistoryOf Frame
      h = run code records events

      texts : bytes_of code.texts out ≡ (meaning sound.program records).bytes
      texts = ap (λ (c : Code). bytes_of c.texts out) sound.is_code

      front : (rest : List Piece) → out ≡ h.machine.printed ++ rest → IsFront (bytes_of code.texts h.machine.printed) (meaning sound.program records).bytes
      front rest e = record {
        rest = bytes_of code.texts rest;
        split = sym (bytes_of_both code.texts h.machine.printed rest) ∙ (ap (bytes_of code.texts) (sym e) ∙ texts);
      }

      by_phase : (n : ℕ) (began : ℕ → Process) (phase : PhaseOf Frame) → h.machine.phase ≡ phase → StandsIn (act code) (Does code sound.marks.reads Fits) (mark_of sound.marks.reads) out last total n began phase h → IsMeant code.texts (meaning sound.program records) h.machine
      by_phase n began Serial is s = record { running = λ none. front _ s.goes_on.output; over = λ end e. let never : None ≡ Some end = sym (ap ended_with is) ∙ e in absurd (cc) }
      by_phase n began (Doall number next) is d = record { running = λ none. front _ d.goes_on.output; over = λ end e. let never : None ≡ Some end = sym (ap ended_with is) ∙ e in absurd (cc) }
      by_phase n began (Over end) is o = record {
        running = λ e. let never : Some end ≡ None = sym (ap ended_with is) ∙ e in absurd (cc);
        over = λ other e. let same : other ≡ end = (let both : Some other ≡ Some end = sym e ∙ ap ended_with is in cc) in (ap (bytes_of code.texts) o.0 ∙ texts, same ∙ o.1);
      }

-- ---- each task beside what it does alone
module _ (code : Code) (sound : IsSound code) (records : Input) where
  abbrev D : ℕ → Process → Frame → Type 0
  D = Does code sound.marks.reads IsWithin

  abbrev mark : ℕ → Mark
  mark = mark_of sound.marks.reads

  standing : (events : List Event) → (began : ℕ → Process) × StandsOn code sound IsWithin records (sound.does records) (spent code records events) began (run code records events)
  standing events = stands code sound IsWithin records (sound.does records) events

  made_front : (b : ℕ) (q : Process) (f : Frame) (s : Store) (made rest : List Access) → D b q f → accesses q s ≡ made ++ rest → MadeFront code f s made
  made_front b q f s made rest d e =
      let t = task code sound.marks.reads IsWithin b q f s d in
      record { ran = record { accesses = accesses q s; said = said q s; left = left q s; ending = t.last }; alone = (t.steps, t.alone); rest = rest; front = e }

  pub made_alone : (events : List Event) → let h = run code records events in (IsOver h.machine.phase → ⊥) → (i : ℕ) → i < h.machine.count → MadeFront code (h.epoch.first i) (memory h.epoch.before) (h.epoch.made i)
  made_alone events live i lt = let n = standing events in go (spent code records events) n.0 (run code records events).machine.phase live n.1
    where
      h : HistoryOf Frame
      h = run code records events

      go : (n : ℕ) (began : ℕ → Process) (phase : PhaseOf Frame) → (IsOver phase → ⊥) → StandsIn (act code) D mark (output (process_of sound.program records) zeros) (ends (process_of sound.program records) zeros) (total code sound IsWithin records (sound.does records)) n began phase h → MadeFront code (h.epoch.first i) (memory h.epoch.before) (h.epoch.made i)
      go n began Serial l s =
          let zero : 0 ≡ i = omega (arith, s.one, lt) in
          subst (λ j. MadeFront code (h.epoch.first j) (memory h.epoch.before) (h.epoch.made j)) zero
          (made_front s.first.0 (began 0) (h.epoch.first 0) (memory h.epoch.before) (h.epoch.made 0) (accesses s.rest (memory h.calls)) s.first.1 s.prefix)
      go n began (Doall number next) l d =
          let f = d.first i lt in
          let it = (d.each i lt).halfway in
          made_front f.0 (began i) (h.epoch.first i) (memory h.epoch.before) (h.epoch.made i) (accesses (d.each i lt).rest it.view) f.1 it.prefix
      go n began (Over end) l o = absurd (l tt)

  -- iterations in order, up to one that has not faulted
  record InTurn (first : ℕ → Frame) (began : ℕ → Process) (s : Store) (n : ℕ) : Type 0 where
    turned : Turned
    iterates : Iterates code first s n turned
    fault : turned.fault ≡ None
    left : turned.left ≡ turn.after n began s

  both_none : (o o' : Option Fault) → turn.or_else o o' ≡ None → (o ≡ None) × (o' ≡ None)
  both_none None o' e = (refl, e)
  both_none (Some f) o' e = absurd (cc)

  in_turn : (first : ℕ → Frame) (began : ℕ → Process) (s : Store) (n : ℕ) → ((i : ℕ) → i < n → (b : ℕ) × D b (began i) (first i)) → turn.first_fault n began s ≡ None → InTurn first began s n
  in_turn first began s zero d e = record { turned = record { said = []; left = s; fault = None }; iterates = no_turn; fault = refl; left = refl }
  in_turn first began s (suc n) d e =
      let both = both_none (turn.first_fault n began s) (turn.fault_of (ending (began n) (turn.after n began s))) e in
      let before = in_turn first began s n (λ i lt. d i (omega arith)) both.0 in
      let own = d n (omega arith) in
      let t = turn.after n began s in
      let r = task code sound.marks.reads IsWithin own.0 (began n) (first n) t own.1 in
      let ran : Ran = record { accesses = accesses (began n) t; said = said (began n) t; left = left (began n) t; ending = r.last } in
      record {
        turned = record { said = before.turned.said ++ ran.said; left = ran.left; fault = fault_in r.last };
        iterates = one_turn n before.turned ran before.iterates before.fault (r.steps, ap (λ w. alone code r.steps (first n) w) before.left ∙ r.alone);
        fault = same_fault code sound.marks.reads IsWithin (ending (began n) t) r.last r.ends ∙ both.1;
        left = refl;
      }

  pub memory_of_doall : (events : List Event) (number : ℕ) (next : Frame) → let h = run code records events in
      h.machine.phase ≡ Doall number next → IsComplete h.machine → least_fault (act code) (entry_of code) (exit_of code) h.machine ≡ None →
      (turned : Turned) × Iterates code h.epoch.first (memory h.epoch.before) h.machine.count turned × (turned.left ≡ memory h.calls)
  memory_of_doall events number next is complete none =
      let h = run code records events in
      let n = standing events in
      let out = output (process_of sound.program records) zeros in
      let last = ends (process_of sound.program records) zeros in
      let all = total code sound IsWithin records (sound.does records) in
      let many = spent code records events in
      let d : InDoall (act code) D mark out last all many number next n.0 h = subst (λ phase. StandsIn (act code) D mark out last all many n.0 phase h) is n.1 in
      let now = code_now code sound.marks.reads IsWithin in
      let fault = fault_in_order (act code) (entry_of code) (exit_of code) D mark now out last all many number next n.0 h d complete in
      let same = memory_in_order (act code) (entry_of code) (exit_of code) D mark now out last all many number next n.0 h d complete in
      let t = in_turn h.epoch.first n.0 (memory h.epoch.before) h.machine.count d.first (sym fault ∙ none) in
      (t.turned, t.iterates, t.left ∙ sym same)

pub every_interleaving : EveryInterleaving
every_interleaving = record {
  meaning = λ code sound records events. meant code sound IsWithin records (sound.does records) events;
  alone = made_alone;
  in_order = memory_of_doall;
}

-- ---- the end
unended_lives : (phase : PhaseOf Frame) → (IsOver phase → ⊥) → IsLive phase
unended_lives Serial h = tt
unended_lives (Doall number next) h = tt
unended_lives (Over end) h = absurd (h tt)

over_by : (phase : PhaseOf Frame) → (IsLive phase → ⊥) → IsOver phase
over_by Serial h = absurd (h tt)
over_by (Doall number next) h = absurd (h tt)
over_by (Over end) h = tt

at_most : (code : Code) (sound : IsSound code) (records : Input) (events : List Event) → spent code records events ≤ 8 * full_cost sound.program records + 8
at_most code sound records events = omega (arith, bounded code sound IsWithin records (sound.does records) events)

pub every_run_ends : EveryRunEnds
every_run_ends = record {
  bounded = at_most;
  moves = λ code records procs lines n events some below live.
      moves (act code) (entry_of code) (exit_of code) (first_frame code records) procs lines some events below n (unended_lives _ live);
  ends = λ code sound records procs lines n events some below le.
      over_by _ (ended (act code) (entry_of code) (exit_of code) (first_frame code records) procs lines some events below (8 * full_cost sound.program records + 8) (at_most code sound records) n le);
}
