-- What each instruction does to a task that stands in the code.
use Rattle.std.specs.Prelude.{ℕ, zero, suc, ◌+◌, ◌-◌, if◌then◌else◌, ℤ, pos, negsuc, Bool, true, false, count_by, take, List, [], ◌∷◌, length, slice_get, get_or, Option, Some, None}
use Rattle.cdc_prog.specs.declared.expr.UnOp.{UnOp}
use Rattle.cdc_prog.specs.declared.expr.UnOp.TheVariants as un
use Rattle.cdc_prog.specs.declared.expr.BinOp.{BinOp}
use Rattle.cdc_prog.specs.declared.expr.BinOp.TheVariants as bin
use Rattle.cdc_prog.specs.Value.{unary, binary, is_zero, trips, few}
use Rattle.cdc_prog.specs.Data.{zeros, put, Binding, object_of, base_of, dims_of, element}
use Rattle.cdc_prog.specs.Input as input
use Rattle.cdc_prog.specs.Input.{Input}
use Rattle.cdc_prog.specs.declared.piece.Piece.TheVariants as piece
use Rattle.cdc_prog.specs.Expressions.{Surroundings}
use Rattle.cdc_prog.specs.Statements.{beginning}
use Rattle.cdc_code.specs.declared.instr.Instr.{Instr}
use Rattle.cdc_code.specs.declared.instr.Instr.TheVariants.{Const, Local, Setlocal, Index, Load, Loade, Store, Storee, Neg, Abs, Not, Add, Sub, Mul, Div, Mod, Min, Max, Eq, Ne, Lt, Le, Gt, Ge, And, Or, Jump, Jumpz, Doinit, Dotest, Doadd, Take, RecordEnd, Put, Gap, Text, Line, Arg, Call, Return, Fork, Join, Halt}
use Rattle.cdc_code.specs.declared.instr.Step.{Step}
use Rattle.cdc_code.specs.declared.code.Code.{Code}
use Rattle.cdc_code.specs.Act.{Act, Goes, Reads, Writes, Prints, Forks, Joins, Halts, Stuck, or_fault}
use Rattle.cdc_code.specs.Frames.{Loop, Caller, Kept, Frame, stands, with_loops, opened, with_args, iterating, calling, in_order, outer}

-- ---- the code
-- what a variable stands for is told by the unit, its call path and the objects of its dummies
abbrev pub binding_at : Code → Kept → Binding
binding_at code l = record { path = l.path; objects = code.objects; shapes = get_or code.shapes l.unit []; bound = l.bound }

abbrev pub calls : Instr → Bool
calls (Call u) = true
calls i = false

abbrev pub is_call : Step → Bool
is_call i = calls i.instr

-- CALLs are numbered from 1 in the order of the text, as their call instructions stand in the code
abbrev pub call_number : Code → (pc : ℕ) → ℕ
call_number code pc = suc (count_by is_call (take pc code.steps))

-- a place that is d further
abbrev pub moved : ℕ → ℤ → ℕ
moved pc (pos d) = pc + d
moved pc (negsuc d) = pc - suc d

-- ---- stacks
-- the top of the stack, and what is below it
abbrev pub pop : List ℤ → (ℤ → List ℤ → Act Frame) → Act Frame
pop [] go = Stuck
pop (v ∷ s) go = go v s

-- the top n of the stack, the lowest first
abbrev pub pops : (n : ℕ) → (taken : List ℤ) → List ℤ → (List ℤ → List ℤ → Act Frame) → Act Frame
pops zero taken s go = go taken s
pops (suc n) taken [] go = Stuck
pops (suc n) taken (v ∷ s) go = pops n (v ∷ taken) s go

abbrev pub as_number : ℤ → (ℕ → Act Frame) → Act Frame
as_number (pos n) go = go n
as_number (negsuc n) go = Stuck

-- the innermost loop is closed where no turn is left
abbrev pub test : List Loop → (out on : List Loop → Frame) → Act Frame
test [] out on = Stuck
test ((zero, by) ∷ l) out on = Goes (out l)
test ((suc n, by) ∷ l) out on = Goes (on ((n, by) ∷ l))

abbrev pub step_of : List Loop → (ℤ → Act Frame) → Act Frame
step_of [] go = Stuck
step_of (loop ∷ l) go = go loop.1

-- back to the caller
abbrev pub returned : List Caller → List ℤ → Kept → Surroundings → Act Frame
returned [] s l c = Stuck
returned (k ∷ ks) s l c = Goes (stands k.pc s (record { loops = l.loops; args = []; path = outer l.path; unit = k.unit; bound = k.bound; callers = ks }) c)

abbrev pub unary_act : UnOp → (line pc : ℕ) → List ℤ → Kept → Surroundings → Act Frame
unary_act op line pc s l c = pop s (λ x s. or_fault line (unary op x) (λ v. Goes (stands (pc + 1) (v ∷ s) l c)))

abbrev pub binary_act : BinOp → (line pc : ℕ) → List ℤ → Kept → Surroundings → Act Frame
binary_act op line pc s l c = pop s (λ y s. pop s (λ x s. or_fault line (binary op x y) (λ v. Goes (stands (pc + 1) (v ∷ s) l c))))

-- ---- the rows
-- what the instruction at a place does, by its line, to a task with this stack, where variables stand for what b says
abbrev pub act_at : Code → (b : Binding) → Instr → (line pc : ℕ) → List ℤ → Kept → Surroundings → Act Frame
act_at code b (Const n) line pc s l c = Goes (stands (pc + 1) (n ∷ s) l c)
act_at code b (Local k) line pc s l c = Goes (stands (pc + 1) (c.slots k ∷ s) l c)
act_at code b (Setlocal k) line pc s l c = pop s (λ v s. Goes (stands (pc + 1) s l (record { slots = put c.slots k v; input = c.input })))
act_at code b (Index v) line pc s l c =
    pops (length (dims_of b v)) [] s (λ subs s. or_fault line (element (dims_of b v) subs) (λ n. Goes (stands (pc + 1) (pos n ∷ s) l c)))
act_at code b (Load v site mark) line pc s l c = Reads b.path site mark (base_of b v) (λ x. stands (pc + 1) (x ∷ s) l c)
act_at code b (Loade v site mark) line pc s l c =
    pop s (λ i s. as_number i (λ n. Reads b.path site mark (base_of b v + n) (λ x. stands (pc + 1) (x ∷ s) l c)))
act_at code b (Store v site) line pc s l c = pop s (λ x s. Writes b.path site (base_of b v) x (stands (pc + 1) s l c))
act_at code b (Storee v site) line pc s l c =
    pop s (λ x s. pop s (λ i s. as_number i (λ n. Writes b.path site (base_of b v + n) x (stands (pc + 1) s l c))))
act_at code b Neg line pc s l c = unary_act un.Neg line pc s l c
act_at code b Abs line pc s l c = unary_act un.Abs line pc s l c
act_at code b Not line pc s l c = unary_act un.Not line pc s l c
act_at code b Add line pc s l c = binary_act bin.Add line pc s l c
act_at code b Sub line pc s l c = binary_act bin.Sub line pc s l c
act_at code b Mul line pc s l c = binary_act bin.Mul line pc s l c
act_at code b Div line pc s l c = binary_act bin.Div line pc s l c
act_at code b Mod line pc s l c = binary_act bin.Mod line pc s l c
act_at code b Min line pc s l c = binary_act bin.Min line pc s l c
act_at code b Max line pc s l c = binary_act bin.Max line pc s l c
act_at code b Eq line pc s l c = binary_act bin.Eq line pc s l c
act_at code b Ne line pc s l c = binary_act bin.Ne line pc s l c
act_at code b Lt line pc s l c = binary_act bin.Lt line pc s l c
act_at code b Le line pc s l c = binary_act bin.Le line pc s l c
act_at code b Gt line pc s l c = binary_act bin.Gt line pc s l c
act_at code b Ge line pc s l c = binary_act bin.Ge line pc s l c
act_at code b And line pc s l c = binary_act bin.And line pc s l c
act_at code b Or line pc s l c = binary_act bin.Or line pc s l c
act_at code b (Jump d) line pc s l c = Goes (stands (moved pc d) s l c)
act_at code b (Jumpz d) line pc s l c = pop s (λ v s. Goes (stands (if is_zero v then moved pc d else pc + 1) s l c))
act_at code b Doinit line pc s l c =
    pop s (λ m3 s. pop s (λ m2 s. pop s (λ m1 s. or_fault line (trips m1 m2 m3) (λ n. Goes (stands (pc + 1) (m1 ∷ s) (opened (n, m3) l) c)))))
act_at code b (Dotest d) line pc s l c = test l.loops (λ loops. stands (moved pc d) s (with_loops loops l) c) (λ loops. stands (pc + 1) s (with_loops loops l) c)
act_at code b Doadd line pc s l c = pop s (λ a s. step_of l.loops (λ m3. or_fault line (binary bin.Add a m3) (λ v. Goes (stands (pc + 1) (v ∷ s) l c))))
act_at code b Take line pc s l c =
    or_fault line (input.take c.input) (λ got. Goes (stands (pc + 1) (got.0 ∷ s) l (record { slots = c.slots; input = got.1 })))
act_at code b RecordEnd line pc s l c =
    or_fault line (input.end_record c.input) (λ left. Goes (stands (pc + 1) s l (record { slots = c.slots; input = left })))
act_at code b Put line pc s l c = pop s (λ v s. Prints (piece.Number v) (stands (pc + 1) s l c))
act_at code b Gap line pc s l c = Prints piece.Space (stands (pc + 1) s l c)
act_at code b (Text number) line pc s l c = Prints (piece.Text number) (stands (pc + 1) s l c)
act_at code b Line line pc s l c = Prints piece.LineEnd (stands (pc + 1) s l c)
act_at code b (Arg v) line pc s l c = Goes (stands (pc + 1) s (with_args (object_of b v ∷ l.args) l) c)
act_at code b (Call u) line pc s l c = Goes (stands (get_or code.starts u 0) s (calling (call_number code pc) u (in_order l.args []) (pc + 1) l) c)
act_at code b Return line pc s l c = returned l.callers s l c
act_at code b (Fork number d) line pc s l c =
    pop s (λ m3 s. pop s (λ m2 s. pop s (λ m1 s. or_fault line (trips m1 m2 m3) (λ n. or_fault line (few n) (λ count.
    Forks b.path number count m1 m3 (λ k. stands (pc + 1) [] (iterating l) (beginning m1 m3 k c)) (stands (moved pc d) s l c))))))
act_at code b Join line pc s l c = Joins
act_at code b Halt line pc s l c = Halts

abbrev pub act_of : Code → Option Step → Frame → Act Frame
act_of code None f = Stuck
act_of code (Some i) f = act_at code (binding_at code f.kept) i.instr i.line f.pc f.stack f.kept f.around

-- the instruction at the place of the frame
abbrev pub act : Code → Frame → Act Frame
act code f = act_of code (slice_get code.steps f.pc) f

-- ---- the first task
-- no call leads to the main unit, and it has no dummies
abbrev pub main_kept : Code → Kept
main_kept code = record { loops = []; args = []; path = []; unit = code.main; bound = []; callers = [] }

-- where the first task begins on an input
abbrev pub first_frame : Code → Input → Frame
first_frame code records = stands (get_or code.starts code.main 0) [] (main_kept code) (record { slots = zeros; input = records })
