-- No instruction asks for the call path.
use Rattle.std.proofs.Common.{◌≡◌, ℕ, zero, suc, ◌+◌, ℤ, pos, negsuc, List, [], ◌∷◌, length, Option, Some, None, Ok, Err, refl, ap}
use Rattle.std.specs.Prelude.{slice_get}
use Rattle.cdc_prog.specs.declared.expr.UnOp.TheVariants as un
use Rattle.cdc_prog.specs.declared.expr.BinOp.{BinOp}
use Rattle.cdc_prog.specs.declared.expr.BinOp.TheVariants as bin
use Rattle.cdc_prog.specs.Value.{Got, unary, binary, trips, few}
use Rattle.cdc_prog.specs.Data.{dims_of, element}
use Rattle.cdc_prog.specs.Input as input
use Rattle.cdc_prog.specs.Expressions.{Surroundings}
use Rattle.cdc_code.specs.declared.code.Code.{Code}
use Rattle.cdc_code.specs.declared.instr.Instr.{Instr}
use Rattle.cdc_code.specs.declared.instr.Instr.TheVariants as instr
use Rattle.cdc_code.specs.declared.instr.Step.{Step}
use Rattle.cdc_code.specs.Act.{Act, Goes, or_fault}
use Rattle.cdc_code.specs.Frames.{Loop, Caller, Kept, Frame, stands}
use Rattle.cdc_code.specs.Rows.{binding_at, pop, pops, as_number, test, step_of, returned, act_of, act}
use Rattle.cdc_task.specs.Steps.{does}
use Rattle.cdc_task.specs.Course.{unpathed_kept, unpathed, unpathed_act}

-- acts that are the same but for the call path
abbrev Same : Act Frame → Act Frame → Type 0
Same a b = unpathed_act a ≡ unpathed_act b

popped : (s : List ℤ) (go on : ℤ → List ℤ → Act Frame) → ((v : ℤ) (s : List ℤ) → Same (go v s) (on v s)) → Same (pop s go) (pop s on)
popped [] go on h = refl
popped (v ∷ s) go on h = h v s

popped_all : (n : ℕ) (taken s : List ℤ) (go on : List ℤ → List ℤ → Act Frame) → ((vs s : List ℤ) → Same (go vs s) (on vs s)) → Same (pops n taken s go) (pops n taken s on)
popped_all zero taken s go on h = h taken s
popped_all (suc n) taken [] go on h = refl
popped_all (suc n) taken (v ∷ s) go on h = popped_all n (v ∷ taken) s go on h

got : {A : Type 0} (line : ℕ) (o : Got A) (go on : A → Act Frame) → ((a : A) → Same (go a) (on a)) → Same (or_fault line o go) (or_fault line o on)
got line (Ok a) go on h = h a
got line (Err kind) go on h = refl

numbered : (i : ℤ) (go on : ℕ → Act Frame) → ((n : ℕ) → Same (go n) (on n)) → Same (as_number i go) (as_number i on)
numbered (pos n) go on h = h n
numbered (negsuc n) go on h = refl

tested : (l : List Loop) (out on out' on' : List Loop → Frame) → ((l : List Loop) → unpathed (out l) ≡ unpathed (out' l)) → ((l : List Loop) → unpathed (on l) ≡ unpathed (on' l)) → Same (test l out on) (test l out' on')
tested [] out on out' on' h k = refl
tested ((zero, by) ∷ l) out on out' on' h k = ap Goes (h l)
tested ((suc n, by) ∷ l) out on out' on' h k = ap Goes (k ((n, by) ∷ l))

stepped : (l : List Loop) (go on : ℤ → Act Frame) → ((v : ℤ) → Same (go v) (on v)) → Same (step_of l go) (step_of l on)
stepped [] go on h = refl
stepped (loop ∷ l) go on h = h loop.1

back : (ks : List Caller) (s : List ℤ) (l : Kept) (c : Surroundings) → Same (returned ks s (unpathed_kept l) c) (returned ks s l c)
back [] s l c = refl
back (k ∷ ks) s l c = refl

module _ (code : Code) (line pc : ℕ) (s : List ℤ) (l : Kept) (c : Surroundings) where
  two : (op : BinOp) → Same (pop s (λ y s. pop s (λ x s. or_fault line (binary op x y) (λ v. Goes (stands (pc + 1) (v ∷ s) (unpathed_kept l) c))))) (pop s (λ y s. pop s (λ x s. or_fault line (binary op x y) (λ v. Goes (stands (pc + 1) (v ∷ s) l c)))))
  two op = popped s _ _ (λ y s. popped s _ _ (λ x s. got line (binary op x y) _ _ (λ v. refl)))

  same_row : (i : Instr) → Same (does code i line pc s (unpathed_kept l) c) (does code i line pc s l c)
  same_row (instr.Const n) = refl
  same_row (instr.Local k) = refl
  same_row (instr.Setlocal k) = popped s _ _ (λ v s. refl)
  same_row (instr.Index v) = popped_all (length (dims_of (binding_at code l) v)) [] s _ _ (λ subs s. got line (element (dims_of (binding_at code l) v) subs) _ _ (λ n. refl))
  same_row (instr.Load v site mark) = refl
  same_row (instr.Loade v site mark) = popped s _ _ (λ i s. numbered i _ _ (λ n. refl))
  same_row (instr.Store v site) = popped s _ _ (λ x s. refl)
  same_row (instr.Storee v site) = popped s _ _ (λ x s. popped s _ _ (λ i s. numbered i _ _ (λ n. refl)))
  same_row instr.Neg = popped s _ _ (λ x s. got line (unary un.Neg x) _ _ (λ v. refl))
  same_row instr.Abs = popped s _ _ (λ x s. got line (unary un.Abs x) _ _ (λ v. refl))
  same_row instr.Not = popped s _ _ (λ x s. refl)
  same_row instr.Add = two bin.Add
  same_row instr.Sub = two bin.Sub
  same_row instr.Mul = two bin.Mul
  same_row instr.Div = two bin.Div
  same_row instr.Mod = two bin.Mod
  same_row instr.Min = two bin.Min
  same_row instr.Max = two bin.Max
  same_row instr.Eq = two bin.Eq
  same_row instr.Ne = two bin.Ne
  same_row instr.Lt = two bin.Lt
  same_row instr.Le = two bin.Le
  same_row instr.Gt = two bin.Gt
  same_row instr.Ge = two bin.Ge
  same_row instr.And = two bin.And
  same_row instr.Or = two bin.Or
  same_row (instr.Jump d) = refl
  same_row (instr.Jumpz d) = popped s _ _ (λ v s. refl)
  same_row instr.Doinit = popped s _ _ (λ m3 s. popped s _ _ (λ m2 s. popped s _ _ (λ m1 s. got line (trips m1 m2 m3) _ _ (λ n. refl))))
  same_row (instr.Dotest d) = tested l.loops _ _ _ _ (λ l. refl) (λ l. refl)
  same_row instr.Doadd = popped s _ _ (λ a s. stepped l.loops _ _ (λ m3. got line (binary bin.Add a m3) _ _ (λ v. refl)))
  same_row instr.Take = got line (input.take c.input) _ _ (λ got. refl)
  same_row instr.RecordEnd = got line (input.end_record c.input) _ _ (λ left. refl)
  same_row instr.Put = popped s _ _ (λ v s. refl)
  same_row instr.Gap = refl
  same_row (instr.Text number) = refl
  same_row instr.Line = refl
  same_row (instr.Arg v) = refl
  same_row (instr.Call u) = refl
  same_row instr.Return = back l.callers s l c
  same_row (instr.Fork number d) = popped s _ _ (λ m3 s. popped s _ _ (λ m2 s. popped s _ _ (λ m1 s. got line (trips m1 m2 m3) _ _ (λ n. got line (few n) _ _ (λ count. refl)))))
  same_row instr.Join = refl
  same_row instr.Halt = refl

pub same_act : (code : Code) (f : Frame) → unpathed_act (act code (unpathed f)) ≡ unpathed_act (act code f)
same_act code f = go (slice_get code.steps f.pc)
  where
    go : (o : Option Step) → unpathed_act (act_of code o (unpathed f)) ≡ unpathed_act (act_of code o f)
    go None = refl
    go (Some i) = same_row code i.line f.pc f.stack f.kept f.around i.instr
