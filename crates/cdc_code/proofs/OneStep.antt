-- One instruction of code that does a process: what is left of the process.
use Rattle.std.proofs.Common.{◌≡◌, ℕ, ◌+◌, ◌*◌, ◌<◌, ◌≤◌, ℤ, List, [], ◌∷◌, ◌++◌, refl, sym, subst, arith}
use Rattle.cdc_prog.specs.declared.piece.Piece.{Piece}
use Rattle.cdc_prog.specs.declared.program.Mark.{Mark}
use Rattle.cdc_prog.specs.Data.{Store, put}
use Rattle.cdc_prog.specs.Process.{Process, Load, Save, Say, Tick, Fork, Join, Halt, Fail}
use Rattle.cdc_prog.specs.Alone.{left, said, ending, ticks}
use Rattle.cdc_code.specs.declared.code.Code.{Code}
use Rattle.cdc_code.specs.Act.{Act, Goes, Reads, Writes, Prints, Forks, Joins, Halts, Faults, Stuck}
use Rattle.cdc_code.specs.Frames.{Frame}
use Rattle.cdc_code.specs.Rows.{act}
use Rattle.cdc_code.specs.Does.{Comes, here, after, Reach, Does}

-- a process on its store prints these pieces and then does what another does on its own
pub record Leads (p : Process) (s : Store) (pieces : List Piece) (q : Process) (t : Store) : Type 0 where
  pub said : said p s ≡ pieces ++ said q t
  pub left : left p s ≡ left q t
  pub ending : ending p s ≡ ending q t

-- a process on its store is at its end
pub record IsAtEnd (p : Process) (s : Store) (q : Process) : Type 0 where
  pub said : said p s ≡ []
  pub left : left p s ≡ s
  pub ending : ending p s ≡ q

-- what a process keeps as it goes on
pub record GoesWith (Keeps : Process → Type 0) : Type 0 where
  pub load : (path : List ℕ) (site word : ℕ) (next : ℤ → Process) → Keeps (Load path site word next) → (v : ℤ) → Keeps (next v)
  pub save : (path : List ℕ) (site word : ℕ) (value : ℤ) (next : Process) → Keeps (Save path site word value next) → Keeps next
  pub say : (piece : Piece) (next : Process) → Keeps (Say piece next) → Keeps next
  pub tick : (next : Process) → Keeps (Tick next) → Keeps next

module _ (code : Code) (marks : List Mark) (Fits : Frame → Type 0) (Keeps : Process → Type 0) (goes : GoesWith Keeps) where
  -- what the code still does from a frame on a store: a process to which the one before leads, in fewer instructions
  pub record StillWith (budget : ℕ) (p : Process) (s : Store) (pieces : List Piece) (g : Frame) (t : Store) : Type 0 where
    pub rest : ℕ
    pub process : Process
    pub does : Does code marks Fits rest process g
    pub leads : Leads p s pieces process t
    pub fewer : rest + 8 * ticks process t < budget + 8 * ticks p s
    pub kept : Keeps p → Keeps process

  -- what the act of the frame says of the process
  abbrev pub SteppedWith : (budget : ℕ) → Process → Store → Act Frame → Type 0
  SteppedWith b p s (Goes g) = StillWith b p s [] g s
  SteppedWith b p s (Reads path site mark word h) = StillWith b p s [] (h (s word)) s
  SteppedWith b p s (Writes path site word v g) = StillWith b p s [] g (put s word v)
  SteppedWith b p s (Prints piece g) = StillWith b p s (piece ∷ []) g s
  SteppedWith b p s (Forks path number count from by e h) =
      (body : ℕ → Process) × (next : Process) × (m : ℕ) × IsAtEnd p s (Fork path number count from by body next) × ((k : ℕ) → Does code marks Fits 0 (body k) (e k)) × Does code marks Fits m next h × (m < b + 8 * ticks p s)
  SteppedWith b p s Joins = IsAtEnd p s Join
  SteppedWith b p s Halts = IsAtEnd p s Halt
  SteppedWith b p s (Faults kind line) = IsAtEnd p s (Fail kind line)
  SteppedWith b p s Stuck = ⊥

  -- the frame has room, and its act is the one that the process says
  pub record StepsWith (budget : ℕ) (p : Process) (f : Frame) (s : Store) : Type 0 where
    pub fits : Fits f
    pub stepped : SteppedWith budget p s (act code f)

  -- a tick more before the process
  later : (b : ℕ) (next : Process) (s : Store) (pieces : List Piece) (g : Frame) (t : Store) → StillWith (b + 8) next s pieces g t → StillWith b (Tick next) s pieces g t
  later b next s pieces g t h = record {
    rest = h.rest;
    process = h.process;
    does = h.does;
    leads = record { said = h.leads.said; left = h.leads.left; ending = h.leads.ending };
    fewer = omega (arith, h.fewer);
    kept = λ k. h.kept (goes.tick next k);
  }

  ticked : (b : ℕ) (next : Process) (s : Store) (a : Act Frame) → SteppedWith (b + 8) next s a → SteppedWith b (Tick next) s a
  ticked b next s (Goes g) h = later b next s [] g s h
  ticked b next s (Reads path site mark word h) k = later b next s [] (h (s word)) s k
  ticked b next s (Writes path site word v g) k = later b next s [] g (put s word v) k
  ticked b next s (Prints piece g) k = later b next s (piece ∷ []) g s k
  ticked b next s (Forks path number count from by e h) k =
      (k.0, k.1, k.2, record { said = k.3.said; left = k.3.left; ending = k.3.ending }, k.4, k.5, omega (arith, k.6))
  ticked b next s Joins k = record { said = k.said; left = k.left; ending = k.ending }
  ticked b next s Halts k = record { said = k.said; left = k.left; ending = k.ending }
  ticked b next s (Faults kind line) k = record { said = k.said; left = k.left; ending = k.ending }
  ticked b next s Stuck k = k

  -- at a reach: a quiet instruction of it, or the act of the process
  reached : (price b : ℕ) (p : Process) (f : Frame) (s : Store) (P : ℕ → Frame → Type 0) → 1 ≤ price → Reach code marks Fits price b f P
      → ((n : ℕ) (g : Frame) → Reach code marks Fits price n g P → Does code marks Fits n p g)
      → ((m : ℕ) → m < b → P m f → SteppedWith b p s (act code f))
      → StepsWith b p f s
  reached price b p f s P some r again own = go r.steps r.place r.comes r.within r.does
    where
      go : (k : ℕ) (place : Frame) → Comes code marks Fits k f place → k + price + r.left ≤ b → P r.left place → StepsWith b p f s
      go k place (here _ ok) le h = record { fits = ok; stepped = own r.left (omega (arith, some, le)) h }
      go k place (after n _ g _ ok q rest) le h =
          let remaining : Reach code marks Fits price (n + price + r.left) g P = record { steps = n; left = r.left; within = omega arith; place = place; comes = rest; does = h } in
          let still : StillWith b p s [] g s = record { rest = n + price + r.left; process = p; does = again (n + price + r.left) g remaining; leads = record { said = refl; left = refl; ending = refl }; fewer = omega (arith, le); kept = λ k. k } in
          record { fits = ok; stepped = subst (SteppedWith b p s) (sym q) still }

  pub one_step_with : (b : ℕ) (p : Process) (f : Frame) (s : Store) → Does code marks Fits b p f → StepsWith b p f s
  one_step_with b (Tick next) f s d =
      let h = one_step_with (b + 8) next f s d in
      record { fits = h.fits; stepped = ticked b next s (act code f) h.stepped }
  one_step_with b (Load path site word next) f s d =
      reached 1 b (Load path site word next) f s _ (omega arith) d (λ n g r. r) (λ m lt h.
      let still : StillWith b (Load path site word next) s [] (h.0 (s word)) s = record { rest = m; process = next (s word); does = h.2 (s word); leads = record { said = refl; left = refl; ending = refl }; fewer = omega (arith, lt); kept = λ k. goes.load path site word next k (s word) } in
      subst (SteppedWith b (Load path site word next) s) (sym h.1) still)
  one_step_with b (Save path site word v next) f s d =
      reached 1 b (Save path site word v next) f s _ (omega arith) d (λ n g r. r) (λ m lt h.
      let still : StillWith b (Save path site word v next) s [] h.0 (put s word v) = record { rest = m; process = next; does = h.2; leads = record { said = refl; left = refl; ending = refl }; fewer = omega (arith, lt); kept = λ k. goes.save path site word v next k } in
      subst (SteppedWith b (Save path site word v next) s) (sym h.1) still)
  one_step_with b (Say piece next) f s d =
      reached 1 b (Say piece next) f s _ (omega arith) d (λ n g r. r) (λ m lt h.
      let still : StillWith b (Say piece next) s (piece ∷ []) h.0 s = record { rest = m; process = next; does = h.2; leads = record { said = refl; left = refl; ending = refl }; fewer = omega (arith, lt); kept = goes.say piece next } in
      subst (SteppedWith b (Say piece next) s) (sym h.1) still)
  one_step_with b (Fork path number count from by body next) f s d =
      reached 4 b (Fork path number count from by body next) f s _ (omega arith) d (λ n g r. r) (λ m lt h.
      let over : IsAtEnd (Fork path number count from by body next) s (Fork path number count from by body next) = record { said = refl; left = refl; ending = refl } in
      subst (SteppedWith b (Fork path number count from by body next) s) (sym h.2) (body, next, m, over, h.3, h.4, omega (arith, lt)))
  one_step_with b Join f s d =
      reached 2 b Join f s _ (omega arith) d (λ n g r. r) (λ m lt h. let over : IsAtEnd Join s Join = record { said = refl; left = refl; ending = refl } in subst (SteppedWith b Join s) (sym h) over)
  one_step_with b Halt f s d =
      reached 2 b Halt f s _ (omega arith) d (λ n g r. r) (λ m lt h. let over : IsAtEnd Halt s Halt = record { said = refl; left = refl; ending = refl } in subst (SteppedWith b Halt s) (sym h) over)
  one_step_with b (Fail kind line) f s d =
      reached 2 b (Fail kind line) f s _ (omega arith) d (λ n g r. r) (λ m lt h.
      let over : IsAtEnd (Fail kind line) s (Fail kind line) = record { said = refl; left = refl; ending = refl } in subst (SteppedWith b (Fail kind line) s) (sym h) over)

-- the same, where nothing is kept
abbrev pub Anything : Process → Type 0
Anything q = Unit {0}

abbrev pub anything_goes : GoesWith Anything
anything_goes = record { load = λ path site word next k v. tt; save = λ path site word value next k. tt; say = λ piece next k. tt; tick = λ next k. tt }

module _ (code : Code) (marks : List Mark) (Fits : Frame → Type 0) where
  abbrev pub Still : (budget : ℕ) → Process → Store → List Piece → Frame → Store → Type 0
  Still = StillWith code marks Fits Anything anything_goes

  abbrev pub Stepped : (budget : ℕ) → Process → Store → Act Frame → Type 0
  Stepped = SteppedWith code marks Fits Anything anything_goes

  abbrev pub Steps : (budget : ℕ) → Process → Frame → Store → Type 0
  Steps = StepsWith code marks Fits Anything anything_goes

  pub one_step : (b : ℕ) (p : Process) (f : Frame) (s : Store) → Does code marks Fits b p f → Steps b p f s
  one_step = one_step_with code marks Fits Anything anything_goes
