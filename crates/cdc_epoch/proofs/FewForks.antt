-- A DOALL that code forks has at most 2^20 iterations.
use Rattle.std.proofs.Common.{◌≡◌, ℕ, zero, suc, ◌+◌, ◌≤◌, ◌^◌, ℤ, pos, negsuc, List, [], ◌∷◌, Bool, true, false, Option, Some, None, refl, subst, nat_lt, if◌then◌else◌}
use Rattle.std.specs.Prelude.{Ok, Err, slice_get, length}
use Rattle.std.proofs.lemmas.Bool.{ltb-false}
use Rattle.cdc_prog.specs.declared.program.FaultKind.TheVariants.{TripTooLarge}
use Rattle.cdc_prog.specs.Value.{Got, unary, binary, trips, few}
use Rattle.cdc_prog.specs.Data.{Binding, dims_of, element}
use Rattle.cdc_prog.specs.declared.expr.UnOp.{UnOp}
use Rattle.cdc_prog.specs.declared.expr.UnOp.TheVariants as un
use Rattle.cdc_prog.specs.declared.expr.BinOp.{BinOp}
use Rattle.cdc_prog.specs.declared.expr.BinOp.TheVariants as bin
use Rattle.cdc_prog.specs.Input as input
use Rattle.cdc_prog.specs.Expressions.{Surroundings}
use Rattle.cdc_code.specs.declared.code.Code.{Code}
use Rattle.cdc_code.specs.declared.instr.Step.{Step}
use Rattle.cdc_code.specs.declared.instr.Instr.{Instr}
use Rattle.cdc_code.specs.declared.instr.Instr.TheVariants.{Setlocal, Index, Loade, Store, Storee, Neg, Abs, Not, Add, Sub, Mul, Div, Mod, Min, Max, Eq, Ne, Lt, Le, Gt, Ge, And, Or, Jumpz, Doinit, Dotest, Doadd, Take, RecordEnd, Put, Return, Fork}
use Rattle.cdc_code.specs.Act.{Act, Goes, Forks, or_fault}
use Rattle.cdc_code.specs.Frames.{Loop, Caller, Kept, Frame, stands}
use Rattle.cdc_code.specs.Rows.{pop, pops, as_number, test, step_of, returned, unary_act, binary_act, act_at, act_of, act, binding_at}

-- where it forks, it forks so few
abbrev IsFew : Act Frame → Type 0
IsFew (Forks path number count from by body next) = count ≤ 2 ^ 20
IsFew a = Unit {0}

few_pop : (s : List ℤ) (go : ℤ → List ℤ → Act Frame) → ((v : ℤ) (t : List ℤ) → IsFew (go v t)) → IsFew (pop s go)
few_pop [] go h = tt
few_pop (v ∷ s) go h = h v s

few_pops : (n : ℕ) (taken s : List ℤ) (go : List ℤ → List ℤ → Act Frame) → ((vs t : List ℤ) → IsFew (go vs t)) → IsFew (pops n taken s go)
few_pops zero taken s go h = h taken s
few_pops (suc n) taken [] go h = tt
few_pops (suc n) taken (v ∷ s) go h = few_pops n (v ∷ taken) s go h

few_number : (v : ℤ) (go : ℕ → Act Frame) → ((n : ℕ) → IsFew (go n)) → IsFew (as_number v go)
few_number (pos n) go h = h n
few_number (negsuc n) go h = tt

few_or_fault : {A : Type 0} (line : ℕ) (got : Got A) (go : A → Act Frame) → ((a : A) → IsFew (go a)) → IsFew (or_fault line got go)
few_or_fault line (Ok a) go h = h a
few_or_fault line (Err kind) go h = tt

few_test : (l : List Loop) (out on : List Loop → Frame) → IsFew (test l out on)
few_test [] out on = tt
few_test ((zero, by) ∷ l) out on = tt
few_test ((suc n, by) ∷ l) out on = tt

few_step : (l : List Loop) (go : ℤ → Act Frame) → ((v : ℤ) → IsFew (go v)) → IsFew (step_of l go)
few_step [] go h = tt
few_step (loop ∷ l) go h = h loop.1

few_returned : (ks : List Caller) (s : List ℤ) (l : Kept) (c : Surroundings) → IsFew (returned ks s l c)
few_returned [] s l c = tt
few_returned (k ∷ ks) s l c = tt

few_fork : (line n : ℕ) (go : ℕ → Act Frame) → ((count : ℕ) → count ≤ 2 ^ 20 → IsFew (go count)) → IsFew (or_fault line (few n) go)
few_fork line n go h = by_test (nat_lt (2 ^ 20) n) refl
  where
    by_test : (b : Bool) → nat_lt (2 ^ 20) n ≡ b → IsFew (or_fault line (if b then Err TripTooLarge else Ok n) go)
    by_test true e = tt
    by_test false e = h n (ltb-false (2 ^ 20) n e)

few_unary : (op : UnOp) (line pc : ℕ) (s : List ℤ) (l : Kept) (c : Surroundings) → IsFew (unary_act op line pc s l c)
few_unary op line pc s l c = few_pop s _ (λ x s. few_or_fault line (unary op x) (λ v. Goes (stands (pc + 1) (v ∷ s) l c)) (λ v. tt))

few_binary : (op : BinOp) (line pc : ℕ) (s : List ℤ) (l : Kept) (c : Surroundings) → IsFew (binary_act op line pc s l c)
few_binary op line pc s l c = few_pop s _ (λ y s. few_pop s _ (λ x s. few_or_fault line (binary op x y) (λ v. Goes (stands (pc + 1) (v ∷ s) l c)) (λ v. tt)))

few_at : (code : Code) (b : Binding) (i : Instr) (line pc : ℕ) (s : List ℤ) (l : Kept) (c : Surroundings) → IsFew (act_at code b i line pc s l c)
few_at code b (Setlocal k) line pc s l c = few_pop s _ (λ v s. tt)
few_at code b (Index v) line pc s l c = few_pops (length (dims_of b v)) [] s _ (λ subs s. few_or_fault line (element (dims_of b v) subs) _ (λ n. tt))
few_at code b (Loade v site mark) line pc s l c = few_pop s _ (λ i s. few_number i _ (λ n. tt))
few_at code b (Store v site) line pc s l c = few_pop s _ (λ x s. tt)
few_at code b (Storee v site) line pc s l c = few_pop s _ (λ x s. few_pop s _ (λ i s. few_number i _ (λ n. tt)))
few_at code b Neg line pc s l c = few_unary un.Neg line pc s l c
few_at code b Abs line pc s l c = few_unary un.Abs line pc s l c
few_at code b Not line pc s l c = few_unary un.Not line pc s l c
few_at code b Add line pc s l c = few_binary bin.Add line pc s l c
few_at code b Sub line pc s l c = few_binary bin.Sub line pc s l c
few_at code b Mul line pc s l c = few_binary bin.Mul line pc s l c
few_at code b Div line pc s l c = few_binary bin.Div line pc s l c
few_at code b Mod line pc s l c = few_binary bin.Mod line pc s l c
few_at code b Min line pc s l c = few_binary bin.Min line pc s l c
few_at code b Max line pc s l c = few_binary bin.Max line pc s l c
few_at code b Eq line pc s l c = few_binary bin.Eq line pc s l c
few_at code b Ne line pc s l c = few_binary bin.Ne line pc s l c
few_at code b Lt line pc s l c = few_binary bin.Lt line pc s l c
few_at code b Le line pc s l c = few_binary bin.Le line pc s l c
few_at code b Gt line pc s l c = few_binary bin.Gt line pc s l c
few_at code b Ge line pc s l c = few_binary bin.Ge line pc s l c
few_at code b And line pc s l c = few_binary bin.And line pc s l c
few_at code b Or line pc s l c = few_binary bin.Or line pc s l c
few_at code b (Jumpz d) line pc s l c = few_pop s _ (λ v s. tt)
few_at code b Doinit line pc s l c = few_pop s _ (λ m3 s. few_pop s _ (λ m2 s. few_pop s _ (λ m1 s. few_or_fault line (trips m1 m2 m3) _ (λ n. tt))))
few_at code b (Dotest d) line pc s l c = few_test l.loops _ _
few_at code b Doadd line pc s l c = few_pop s _ (λ a s. few_step l.loops _ (λ m3. few_or_fault line (binary bin.Add a m3) (λ v. Goes (stands (pc + 1) (v ∷ s) l c)) (λ v. tt)))
few_at code b Take line pc s l c = few_or_fault line (input.take c.input) (λ got. Goes (stands (pc + 1) (got.0 ∷ s) l (record { slots = c.slots; input = got.1 }))) (λ got. tt)
few_at code b RecordEnd line pc s l c = few_or_fault line (input.end_record c.input) (λ left. Goes (stands (pc + 1) s l (record { slots = c.slots; input = left }))) (λ left. tt)
few_at code b Put line pc s l c = few_pop s _ (λ v s. tt)
few_at code b Return line pc s l c = few_returned l.callers s l c
few_at code b (Fork number d) line pc s l c =
    few_pop s _ (λ m3 s. few_pop s _ (λ m2 s. few_pop s _ (λ m1 s. few_or_fault line (trips m1 m2 m3) _ (λ n. few_fork line n _ (λ count le. le)))))
few_at code b i line pc s l c = tt

few_of : (code : Code) (o : Option Step) (f : Frame) → IsFew (act_of code o f)
few_of code None f = tt
few_of code (Some i) f = few_at code (binding_at code f.kept) i.instr i.line f.pc f.stack f.kept f.around

pub few_forks : (code : Code) (f : Frame) (path : List ℕ) (number count : ℕ) (from by : ℤ) (body : ℕ → Frame) (next : Frame) → act code f ≡ Forks path number count from by body next → count ≤ 2 ^ 20
few_forks code f path number count from by body next e = subst IsFew e (few_of code (slice_get code.steps f.pc) f)
