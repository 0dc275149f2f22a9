-- Where a task stands in the code.
use Rattle.std.specs.Prelude.{ℕ, ℤ, List, [], ◌∷◌}
use Rattle.cdc_prog.specs.Expressions.{Surroundings}

-- an open loop: how many turns are left, and the step
abbrev pub Loop : Type 0
Loop = ℕ × ℤ

-- where a call goes on, and the unit there with the objects of its dummies
pub record Caller : Type 0 where
  pub pc : ℕ
  pub unit : ℕ
  pub bound : List ℕ

-- what expressions leave alone: the open loops with the innermost first, the arguments that are being gathered with the latest first, the unit with its call path and the objects of its dummies, and its callers with the latest first
pub record Kept : Type 0 where
  pub loops : List Loop
  pub args : List ℕ
  pub path : List ℕ
  pub unit : ℕ
  pub bound : List ℕ
  pub callers : List Caller

-- a place in the code, the stack with its top first, what is kept, and the surroundings: the slots, and what is left of the input
pub record Frame : Type 0 where
  pub pc : ℕ
  pub stack : List ℤ
  pub kept : Kept
  pub around : Surroundings

abbrev pub stands : ℕ → List ℤ → Kept → Surroundings → Frame
stands pc stack kept around = record { pc = pc; stack = stack; kept = kept; around = around }

abbrev pub with_loops : List Loop → Kept → Kept
with_loops loops l = record { loops = loops; args = l.args; path = l.path; unit = l.unit; bound = l.bound; callers = l.callers }

abbrev pub opened : Loop → Kept → Kept
opened loop l = with_loops (loop ∷ l.loops) l

abbrev pub with_args : List ℕ → Kept → Kept
with_args args l = record { loops = l.loops; args = args; path = l.path; unit = l.unit; bound = l.bound; callers = l.callers }

-- an iteration has the bindings and the call path of the frame that forked it
abbrev pub iterating : Kept → Kept
iterating l = record { loops = []; args = []; path = l.path; unit = l.unit; bound = l.bound; callers = [] }

abbrev pub caller_at : (back : ℕ) → Kept → Caller
caller_at back l = record { pc = back; unit = l.unit; bound = l.bound }

-- a unit is called by the CALL of this number, with the objects of its dummies
abbrev pub calling : (number unit : ℕ) → (bound : List ℕ) → (back : ℕ) → Kept → Kept
calling number unit bound back l =
    record { loops = l.loops; args = []; path = number ∷ l.path; unit = unit; bound = bound; callers = caller_at back l ∷ l.callers }

-- what was gathered with the latest first, in order
abbrev pub in_order : List ℕ → (taken : List ℕ) → List ℕ
in_order [] taken = taken
in_order (k ∷ ks) taken = in_order ks (k ∷ taken)

-- the call path of the caller
abbrev pub outer : List ℕ → List ℕ
outer [] = []
outer (number ∷ path) = path
