-- Parts of a task, as code holds them.
use Rattle.std.specs.Prelude.{◌≡◌, List, [], ◌∷◌, Option, Some, None}
use Rattle.cdc_code.specs.Frames.{Loop, Caller}
use Rattle.cdc_task.specs.declared.parts.Open.{Open}
use Rattle.cdc_task.specs.declared.parts.Caller as held
use Rattle.cdc_task.specs.Held.{Held, with_loops}

abbrev pub loop_of : Open → Loop
loop_of o = (o.left, o.by)

abbrev pub caller_of : held.Caller → Caller
caller_of c = record { pc = c.pc; unit = c.unit; bound = c.bound.items }

-- the innermost loop is this one, if there is one
abbrev pub IsInnermost : List Loop → Option Open → Type 0
IsInnermost loops None = loops ≡ []
IsInnermost loops (Some o) = (rest : List Loop) × (loops ≡ loop_of o ∷ rest)

-- the innermost loop was taken away, if there is one
abbrev pub Closed : Held → Option Open → Held → Type 0
Closed before None after = (before.loops ≡ []) × (after ≡ before)
Closed before (Some o) after = before ≡ with_loops (loop_of o ∷ after.loops) after
