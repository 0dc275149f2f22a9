-- The iterations of a fork, one after another.
use Rattle.std.proofs.Common.{◌≡◌, ℕ, suc, ◌-◌, ◌<◌, ◌≤◌, Bool, [], Some, Err, sym, ap, subst, arith}
use Rattle.std.specs.Prelude.{if◌then◌else◌}
use Rattle.std.proofs.lemmas.Bool.{le-ltb}
use Rattle.cdc_prog.specs.Data.{Store}
use Rattle.cdc_prog.specs.Input.{Input}
use Rattle.cdc_prog.specs.Process.{Process}
use Rattle.cdc_prog.specs.Alone.{left}
use Rattle.cdc_prog.specs.InOrder.{Run}
use Rattle.cdc_code.specs.declared.code.Code.{Code}
use Rattle.cdc_task.specs.declared.run.Fork.{Fork}
use Rattle.cdc_prog.specs.declared.stop.Stop.{Stop}
use Rattle.cdc_task.specs.Held.{Held, frame_of, resumed}
use Rattle.cdc_task.specs.Course.{Serial, Inside, next_place, Lasts}
use Rattle.cdc_prog.specs.Output.{Output}
use Rattle.cdc_task.specs.Running.{Forking, bodies, before, EndsWithin, IsNearer, turn, turns, Follows, Comes}
use Rattle.cdc_task.proofs.Remaining.{further}
use Rattle.cdc_task.proofs.Output.{as_run, follows_after, comes_after, comes_err}

module _ (code : Code) (records : Input) (serial : Held) (fork : Fork) (most : ℕ) (s : Store) (x : Output) where
  abbrev Forks : Type 0
  Forks = Forking code records serial fork.from fork.by

  -- what is left from iteration k on
  abbrev pub rest_of : (k : ℕ) → (ℕ → Process) → Store → (Store → Run) → Run
  rest_of k body t rest = turns (fork.count - k) k body t rest

  -- before iteration k, when the iterations before it have been carried out
  pub record Between (k : ℕ) (t : Store) (y : Output) : Type 0 where
    pub doing : (d : Forks) (rest : Store → Run) → Follows code.texts (turns fork.count 0 d.body s rest) x (rest_of k d.body t rest) y
    pub nearer : (n : ℕ) → Lasts code n (before records serial fork 0, s) → (m : ℕ) × (m ≤ n) × Lasts code m (before records serial fork k, t)
    pub ends : EndsWithin code most (before records serial fork k, t)

  whole : (body : ℕ → Process) (rest : Store → Run) → turns fork.count 0 body s rest ≡ rest_of 0 body s rest
  whole body rest = let e : fork.count ≡ fork.count - 0 = omega arith in ap (λ n. turns n 0 body s rest) e

  pub starts : EndsWithin code most (before records serial fork 0, s) → Between 0 s x
  starts ends = record { doing = λ d rest. as_run code.texts (turns fork.count 0 d.body s rest) (rest_of 0 d.body s rest) x (whole d.body rest); nearer = λ n h. (n, omega arith, h); ends = ends }

  one_of : (k : ℕ) (body : ℕ → Process) (t : Store) (rest : Store → Run) → k < fork.count → rest_of k body t rest ≡ turn (body k) t (rest_of (suc k) body (left (body k) t) rest)
  one_of k body t rest lt =
      let e : fork.count - k ≡ suc (fork.count - suc k) = omega (arith, lt) in
      ap (λ n. turns n k body t rest) e

  pub next : (k j : ℕ) (t : Store) (y : Output) (u : Store) (z : Output) → j ≡ suc k → k < fork.count → Between k t y → ((d : Forks) (rest : Run) → Follows code.texts (turn (d.body k) t rest) y rest z) → ((d : Forks) → u ≡ left (d.body k) t)
      → IsNearer code (before records serial fork k, t) (before records serial fork (suc k), u) → Between j u z
  next k j t y u z is lt b turned memory near = subst (λ n. Between n u z) (sym is) (record {
    doing = λ d rest.
        let after = rest_of (suc k) d.body (left (d.body k) t) rest in
        follows_after code.texts (turns fork.count 0 d.body s rest) (rest_of k d.body t rest) (rest_of (suc k) d.body u rest) x y z (b.doing d rest)
        (subst (λ r. Follows code.texts r y (rest_of (suc k) d.body u rest) z) (sym (one_of k d.body t rest lt))
        (subst (λ v. Follows code.texts (turn (d.body k) t after) y (rest_of (suc k) d.body v rest) z) (sym (memory d)) (turned d after)));
    nearer = λ n h.
        let at = b.nearer n h in
        let m = near at.0 at.2 in
        (m.0, omega (arith, at.1, m.1), m.2);
    ends =
        let m = near b.ends.0 b.ends.2 in
        (m.0, omega (arith, b.ends.1, m.1), m.2);
  })

  pub cut : (k : ℕ) (t : Store) (y : Output) (e : Stop) (u : Store) (z : Output) → k < fork.count → Between k t y → ((d : Forks) (rest : Run) → Comes code.texts (turn (d.body k) t rest) y (Err e) rest z)
      → (d : Forks) (rest : Store → Run) → Comes code.texts (turns fork.count 0 d.body s rest) x (Err e) (rest u) z
  cut k t y e u z lt b turned d rest =
      let after = rest_of (suc k) d.body (left (d.body k) t) rest in
      comes_err code.texts (turns fork.count 0 d.body s rest) after (rest u) x z e
      (comes_after code.texts (turns fork.count 0 d.body s rest) (rest_of k d.body t rest) after x y z (Err e) (b.doing d rest)
      (subst (λ r. Comes code.texts r y (Err e) after z) (sym (one_of k d.body t rest lt)) (turned d after)))

  pub over : (k : ℕ) (t : Store) (y : Output) → fork.count ≤ k → Between k t y → (d : Forks) (rest : Store → Run) → Follows code.texts (turns fork.count 0 d.body s rest) x (rest t) y
  over k t y le b d rest =
      let e : fork.count - k ≡ 0 = omega (arith, le) in
      subst (λ n. Follows code.texts (turns fork.count 0 d.body s rest) x (turns n k d.body t rest) y) e (b.doing d rest)

  pub over_nearer : (k : ℕ) (t : Store) (y : Output) → fork.count ≤ k → Between k t y → IsNearer code (before records serial fork 0, s) (Serial (frame_of [] records (resumed serial)), t)
  over_nearer k t y le b n h =
      let at = b.nearer n h in
      let after = frame_of [] records (resumed serial) in
      let e : next_place code (before records serial fork k, t) ≡ Some (Serial after, t) =
      ap (λ (c : Bool). if c then Some (Inside (bodies records serial fork k) k fork.count (bodies records serial fork) after, t) else Some (Serial after, t)) (le-ltb k fork.count le) in
      let m = further code at.0 (before records serial fork k, t) (Serial after, t) e at.2 in
      (m.0, omega (arith, at.1, m.1), m.2)
