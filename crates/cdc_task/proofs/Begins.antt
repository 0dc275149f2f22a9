-- Tasks that begin.
use Rattle.std.proofs.Common.{◌≡◌, ℕ, List, []}
use Rattle.cdc_prog.specs.Data.{Store}
use Rattle.cdc_prog.specs.Input.{Input}
use Rattle.cdc_prog.specs.Held.{store_of}
use Rattle.cdc_code.specs.Frames.{stands}
use Rattle.cdc_task.specs.Held.{Held, left_at, frame_of}

-- a task whose stacks are empty
pub record IsEmpty (h : Held) (slots : Store) : Type 0 where
  pub stack : h.stack ≡ []
  pub loops : h.loops ≡ []
  pub args : h.args ≡ []
  pub callers : h.callers ≡ []
  pub zeros : store_of h.slots ≡ slots

pub empty_frame : (path : List ℕ) (records : Input) (h : Held) (slots : Store) → IsEmpty h slots → frame_of path records h ≡ stands h.pc [] (record { loops = []; args = []; path = path; unit = h.unit; bound = h.bound; callers = [] }) (record { slots = slots; input = left_at records h.place })
empty_frame path records h slots e = cc
