-- What the code prints is there: the texts that its instructions name.
use Rattle.std.proofs.Common.{◌≡◌, ℕ, zero, suc, ℤ, pos, negsuc, List, [], ◌∷◌, length, Option, Some, None, Ok, Err, refl, subst}
use Rattle.std.specs.Prelude.{slice_get}
use Rattle.std.specs.List.{All}
use Rattle.std.proofs.lemmas.List.Elements.{All-head, All-tail}
use Rattle.cdc_prog.specs.declared.expr.UnOp.{UnOp}
use Rattle.cdc_prog.specs.declared.expr.UnOp.TheVariants as un
use Rattle.cdc_prog.specs.declared.expr.BinOp.{BinOp}
use Rattle.cdc_prog.specs.declared.expr.BinOp.TheVariants as bin
use Rattle.cdc_prog.specs.Value.{Got, unary, binary, trips, few}
use Rattle.cdc_prog.specs.Data.{Binding, dims_of, element}
use Rattle.cdc_prog.specs.Input as input
use Rattle.cdc_prog.specs.Expressions.{Surroundings}
use Rattle.cdc_code.specs.declared.instr.Instr.{Instr}
use Rattle.cdc_code.specs.declared.instr.Instr.TheVariants.{Const, Local, Setlocal, Index, Load, Loade, Store, Storee, Neg, Abs, Not, Add, Sub, Mul, Div, Mod, Min, Max, Eq, Ne, Lt, Le, Gt, Ge, And, Or, Jump, Jumpz, Doinit, Dotest, Doadd, Take, RecordEnd, Put, Gap, Text, Line, Arg, Call, Return, Fork, Join, Halt}
use Rattle.cdc_code.specs.declared.instr.Step.{Step}
use Rattle.cdc_code.specs.declared.code.Code.{Code}
use Rattle.cdc_code.specs.Act.{Act, or_fault}
use Rattle.cdc_code.specs.Frames.{Loop, Caller, Kept, Frame}
use Rattle.cdc_code.specs.Rows.{pop, pops, as_number, test, step_of, returned, unary_act, binary_act, binding_at, act_at, act_of, act}
use Rattle.cdc_code.specs.Room.{IsNamed, NamesWithin, SaysThere}

module _ (texts : ℕ) where
  popped : (s : List ℤ) (go : ℤ → List ℤ → Act Frame) → ((v : ℤ) (s : List ℤ) → SaysThere texts (go v s)) → SaysThere texts (pop s go)
  popped [] go h = tt
  popped (v ∷ s) go h = h v s

  many : (n : ℕ) (taken s : List ℤ) (go : List ℤ → List ℤ → Act Frame) → ((taken s : List ℤ) → SaysThere texts (go taken s)) → SaysThere texts (pops n taken s go)
  many zero taken s go h = h taken s
  many (suc n) taken [] go h = tt
  many (suc n) taken (v ∷ s) go h = many n (v ∷ taken) s go h

  or_faulted : {A : Type 0} (line : ℕ) (got : Got A) (go : A → Act Frame) → ((a : A) → SaysThere texts (go a)) → SaysThere texts (or_fault line got go)
  or_faulted line (Ok a) go h = h a
  or_faulted line (Err kind) go h = tt

  numbered : (i : ℤ) (go : ℕ → Act Frame) → ((n : ℕ) → SaysThere texts (go n)) → SaysThere texts (as_number i go)
  numbered (pos n) go h = h n
  numbered (negsuc n) go h = tt

  tested : (loops : List Loop) (out on : List Loop → Frame) → SaysThere texts (test loops out on)
  tested [] out on = tt
  tested ((zero, by) ∷ loops) out on = tt
  tested ((suc n, by) ∷ loops) out on = tt

  stepped : (loops : List Loop) (go : ℤ → Act Frame) → ((by : ℤ) → SaysThere texts (go by)) → SaysThere texts (step_of loops go)
  stepped [] go h = tt
  stepped (loop ∷ loops) go h = h loop.1

  went_back : (callers : List Caller) (s : List ℤ) (l : Kept) (c : Surroundings) → SaysThere texts (returned callers s l c)
  went_back [] s l c = tt
  went_back (k ∷ ks) s l c = tt

  unary_says : (op : UnOp) (line pc : ℕ) (s : List ℤ) (l : Kept) (c : Surroundings) → SaysThere texts (unary_act op line pc s l c)
  unary_says op line pc s l c = popped s _ (λ x s. or_faulted line (unary op x) _ (λ v. tt))

  binary_says : (op : BinOp) (line pc : ℕ) (s : List ℤ) (l : Kept) (c : Surroundings) → SaysThere texts (binary_act op line pc s l c)
  binary_says op line pc s l c = popped s _ (λ y s. popped s _ (λ x s. or_faulted line (binary op x y) _ (λ v. tt)))

says_at : (code : Code) (b : Binding) (i : Instr) (line pc : ℕ) (s : List ℤ) (l : Kept) (c : Surroundings) (texts : ℕ) → IsNamed texts i → SaysThere texts (act_at code b i line pc s l c)
says_at code b (Const n) line pc s l c texts named = tt
says_at code b (Local k) line pc s l c texts named = tt
says_at code b (Setlocal k) line pc s l c texts named = popped texts s _ (λ v s. tt)
says_at code b (Index v) line pc s l c texts named = many texts (length (dims_of b v)) [] s _ (λ subs s. or_faulted texts line (element (dims_of b v) subs) _ (λ n. tt))
says_at code b (Load v site mark) line pc s l c texts named = tt
says_at code b (Loade v site mark) line pc s l c texts named = popped texts s _ (λ i s. numbered texts i _ (λ n. tt))
says_at code b (Store v site) line pc s l c texts named = popped texts s _ (λ x s. tt)
says_at code b (Storee v site) line pc s l c texts named = popped texts s _ (λ x s. popped texts s _ (λ i s. numbered texts i _ (λ n. tt)))
says_at code b Neg line pc s l c texts named = unary_says texts un.Neg line pc s l c
says_at code b Abs line pc s l c texts named = unary_says texts un.Abs line pc s l c
says_at code b Not line pc s l c texts named = unary_says texts un.Not line pc s l c
says_at code b Add line pc s l c texts named = binary_says texts bin.Add line pc s l c
says_at code b Sub line pc s l c texts named = binary_says texts bin.Sub line pc s l c
says_at code b Mul line pc s l c texts named = binary_says texts bin.Mul line pc s l c
says_at code b Div line pc s l c texts named = binary_says texts bin.Div line pc s l c
says_at code b Mod line pc s l c texts named = binary_says texts bin.Mod line pc s l c
says_at code b Min line pc s l c texts named = binary_says texts bin.Min line pc s l c
says_at code b Max line pc s l c texts named = binary_says texts bin.Max line pc s l c
says_at code b Eq line pc s l c texts named = binary_says texts bin.Eq line pc s l c
says_at code b Ne line pc s l c texts named = binary_says texts bin.Ne line pc s l c
says_at code b Lt line pc s l c texts named = binary_says texts bin.Lt line pc s l c
says_at code b Le line pc s l c texts named = binary_says texts bin.Le line pc s l c
says_at code b Gt line pc s l c texts named = binary_says texts bin.Gt line pc s l c
says_at code b Ge line pc s l c texts named = binary_says texts bin.Ge line pc s l c
says_at code b And line pc s l c texts named = binary_says texts bin.And line pc s l c
says_at code b Or line pc s l c texts named = binary_says texts bin.Or line pc s l c
says_at code b (Jump d) line pc s l c texts named = tt
says_at code b (Jumpz d) line pc s l c texts named = popped texts s _ (λ v s. tt)
says_at code b Doinit line pc s l c texts named = popped texts s _ (λ m3 s. popped texts s _ (λ m2 s. popped texts s _ (λ m1 s. or_faulted texts line (trips m1 m2 m3) _ (λ n. tt))))
says_at code b (Dotest d) line pc s l c texts named = tested texts l.loops _ _
says_at code b Doadd line pc s l c texts named = popped texts s _ (λ a s. stepped texts l.loops _ (λ m3. or_faulted texts line (binary bin.Add a m3) _ (λ v. tt)))
says_at code b Take line pc s l c texts named = or_faulted texts line (input.take c.input) _ (λ got. tt)
says_at code b RecordEnd line pc s l c texts named = or_faulted texts line (input.end_record c.input) _ (λ left. tt)
says_at code b Put line pc s l c texts named = popped texts s _ (λ v s. tt)
says_at code b Gap line pc s l c texts named = tt
says_at code b (Text number) line pc s l c texts named = named
says_at code b Line line pc s l c texts named = tt
says_at code b (Arg v) line pc s l c texts named = tt
says_at code b (Call u) line pc s l c texts named = tt
says_at code b Return line pc s l c texts named = went_back texts l.callers s l c
says_at code b (Fork number d) line pc s l c texts named = popped texts s _ (λ m3 s. popped texts s _ (λ m2 s. popped texts s _ (λ m1 s. or_faulted texts line (trips m1 m2 m3) _ (λ n. or_faulted texts line (few n) _ (λ count. tt)))))
says_at code b Join line pc s l c texts named = tt
says_at code b Halt line pc s l c texts named = tt

named_at : (texts : ℕ) (steps : List Step) (pc : ℕ) (i : Step) → All (λ (i : Step). IsNamed texts i.instr) steps → slice_get steps pc ≡ Some i → IsNamed texts i.instr
named_at texts [] pc i all e = absurd (cc e)
named_at texts (j ∷ steps) zero i all e = let same : j ≡ i = cc e in subst (λ (k : Step). IsNamed texts k.instr) same (All-head (λ (i : Step). IsNamed texts i.instr) j steps all)
named_at texts (j ∷ steps) (suc pc) i all e = named_at texts steps pc i (All-tail (λ (i : Step). IsNamed texts i.instr) j steps all) e

-- a text that the code prints from a frame is one of its texts
pub says_there : (code : Code) (f : Frame) → NamesWithin code → SaysThere (length code.texts) (act code f)
says_there code f named = at_step (slice_get code.steps f.pc) refl
  where
    at_step : (o : Option Step) → slice_get code.steps f.pc ≡ o → SaysThere (length code.texts) (act_of code o f)
    at_step None e = tt
    at_step (Some i) e = says_at code (binding_at code f.kept) i.instr i.line f.pc f.stack f.kept f.around (length code.texts) (named_at (length code.texts) code.steps f.pc i named e)
