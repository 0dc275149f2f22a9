-- Where tasks of sound code go on.
use Rattle.std.specs.Prelude.{ℕ, List}
use Rattle.std.specs.List.{All}
use Rattle.cdc_prog.specs.declared.program.Mark.{Mark}
use Rattle.cdc_prog.specs.Input.{Input}
use Rattle.cdc_prog.specs.Process.{Process}
use Rattle.cdc_prog.specs.Bodies.{StaysBelow}
use Rattle.cdc_prog.specs.Units.{process_of}
use Rattle.cdc_code.specs.declared.code.Code.{Code}
use Rattle.cdc_code.specs.Frames.{Frame}
use Rattle.cdc_code.specs.Rows.{first_frame}
use Rattle.cdc_code.specs.Room.{IsWithin, NamesWithin}
use Rattle.cdc_code.specs.Does.{Does}
use Rattle.cdc_code.specs.Sound.{IsSound}
use Rattle.cdc_task.specs.Steps.{IsArray, GoesOn}

-- each dummy has elements, and no more than memory can have words
abbrev pub HasArrays : Code → Type 0
HasArrays code = All (λ shapes. All IsArray shapes) code.shapes

pub record CodeGoesOn : Type 0 where
  -- code that does a process within the room of a task goes on at each frame to which it comes, in iterations too, where the accesses of the process lie in memory, and what the code names is there
  pub does : (code : Code) (marks : List Mark) (budget : ℕ) (q : Process) (f : Frame) → NamesWithin code → All (λ o. IsArray o.dims) code.objects → HasArrays code → StaysBelow code.words q →
      Does code marks IsWithin budget q f → Does code marks (GoesOn code) budget q f
  -- so does sound code
  pub sound : (code : Code) (sound : IsSound code) (records : Input) → HasArrays code → Does code sound.marks.reads (GoesOn code) 8 (process_of sound.program records) (first_frame code records)
  -- at the frame itself
  pub here : (code : Code) (marks : List Mark) (budget : ℕ) (q : Process) (f : Frame) → Does code marks (GoesOn code) budget q f → GoesOn code f
