-- The least iteration that has faulted.
use Rattle.std.specs.Prelude.{ℕ, nat_le, if◌then◌else◌, Option, Some, None}
use Rattle.cdc_prog.specs.declared.fault.Fault.{Fault}
use Rattle.cdc_epoch.specs.declared.engine.Faulting.{Faulting}

-- the one that had faulted before, where it is lesser, or the other
abbrev pub lesser_fault : Option Faulting → (task : ℕ) → Fault → Faulting
lesser_fault None task fault = record { task = task; fault = fault }
lesser_fault (Some least) task fault = if nat_le least.task task then least else record { task = task; fault = fault }
