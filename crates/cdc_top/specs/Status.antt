-- The statuses that say how a call ended by itself.
use Rattle.std.specs.Prelude.{◌≢◌, ℕ}
use Rattle.cdc_top.specs.declared.status.TheConstants.{READ_FAULT, WRITE_FAULT, OUT_OF_MEMORY}

-- no fault of a file or of the sink, and no want of memory
abbrev pub IsFinished : ℕ → Type 0
IsFinished status = (status ≢ READ_FAULT) × (status ≢ WRITE_FAULT) × (status ≢ OUT_OF_MEMORY)
