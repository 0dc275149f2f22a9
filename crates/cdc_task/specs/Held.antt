-- What a task holds: the frame in which it stands, but for its call path, which no instruction asks for, and for the records of the input.
use Rattle.std.specs.Prelude.{◌≡◌, ℕ, ℤ, List, [], ◌∷◌, drop, Option, Some, None, Bool, true, false, ◌+◌, ◌<◌, length}
use Rattle.cdc_prog.specs.Data.{zeros, put}
use Rattle.cdc_prog.specs.Input.{Input}
use Rattle.cdc_prog.specs.Unread.{without}
use Rattle.cdc_prog.specs.Expressions.{Surroundings}
use Rattle.cdc_prog.specs.Held.{store_of}
use Rattle.cdc_code.specs.Frames.{Loop, Caller, Kept, Frame, stands, iterating, in_order}
use Rattle.cdc_task.specs.declared.place.Place.{Place}

-- what is left of the records at a place
abbrev pub left_at : Input → Place → Input
left_at records place = without place.used (drop place.records records)

-- a place in the code; the stack, the open loops, the arguments that are gathered and the callers, each with the latest first; the unit, and the objects of its dummies; the slots; the place in the input; and where the task goes on after its last fork
pub record Held : Type 0 where
  pub pc : ℕ
  pub stack : List ℤ
  pub loops : List Loop
  pub args : List ℕ
  pub unit : ℕ
  pub bound : List ℕ
  pub callers : List Caller
  pub slots : List ℤ
  pub place : Place
  pub after : ℕ

abbrev pub kept_of : (path : List ℕ) → Held → Kept
kept_of path h = record { loops = h.loops; args = h.args; path = path; unit = h.unit; bound = h.bound; callers = h.callers }

abbrev pub around_of : Input → Held → Surroundings
around_of records h = record { slots = store_of h.slots; input = left_at records h.place }

-- the frame under a call path, on these records
abbrev pub frame_of : (path : List ℕ) → Input → Held → Frame
frame_of path records h = stands h.pc h.stack (kept_of path h) (around_of records h)

-- the task stands in this frame
abbrev pub StandsIn : Input → Held → Frame → Type 0
StandsIn records h f = frame_of f.kept.path records h ≡ f

-- ---- a task that has forked stands where its iterations begin
-- it goes on behind them
abbrev pub resumed : Held → Held
resumed h = record h { pc = h.after }

-- a fork at this place
abbrev pub forked : (after : ℕ) → Held → Held
forked after h = record h { pc = h.pc + 1; after = after }

-- the iteration of this index begins with its index in slot 0 and with private scalars of 0, and has the bindings and the call path of the task that forked
abbrev pub begun : (path : List ℕ) → Input → Held → (index : ℤ) → Frame
begun path records h index = stands h.pc [] (iterating (kept_of path h)) (record { slots = put zeros 0 index; input = left_at records h.place })

-- ---- the same with another part
abbrev pub with_pc : ℕ → Held → Held
with_pc pc h = record h { pc = pc }

abbrev pub with_stack : List ℤ → Held → Held
with_stack stack h = record h { stack = stack }

abbrev pub with_loops : List Loop → Held → Held
with_loops loops h = record h { loops = loops }

abbrev pub with_args : List ℕ → Held → Held
with_args args h = record h { args = args }

abbrev pub with_slots : List ℤ → Held → Held
with_slots slots h = record h { slots = slots }

abbrev pub with_place : Place → Held → Held
with_place place h = record h { place = place }

-- the top of the stack was popped, if there is one
abbrev pub Popped : Held → Option ℤ → Held → Type 0
Popped before None after = (before.stack ≡ []) × (after ≡ before)
Popped before (Some v) after = before ≡ with_stack (v ∷ after.stack) after

-- a unit is called, which begins at a place
abbrev pub entered : (start unit : ℕ) → Held → Held
entered start unit h = record h { pc = start; args = []; unit = unit; bound = in_order h.args []; callers = record { pc = h.pc + 1; unit = h.unit; bound = h.bound } ∷ h.callers }

-- the task went back to its latest caller, if it has one
abbrev pub WentBack : List Caller → Held → Bool → Held → Type 0
WentBack [] before went after = went ≡ false
WentBack (k ∷ ks) before went after =
    (went ≡ true) × (after ≡ record before { pc = k.pc; args = []; unit = k.unit; bound = k.bound; callers = ks })

-- the three numbers on the top of the stack were popped, if there are so many; the lowest is the first
abbrev pub PoppedThree : Held → Option (ℤ × ℤ × ℤ) → Held → Type 0
PoppedThree before None after = (length before.stack < 3)
PoppedThree before (Some (a, b, c)) after = before ≡ with_stack (c ∷ b ∷ a ∷ after.stack) after
