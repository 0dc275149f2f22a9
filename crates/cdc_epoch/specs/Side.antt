-- The memory side of the machine.
use Rattle.std.specs.Prelude.{◌≡◌, ℕ, ◌<◌, ℤ, Option, Some, None}
use Rattle.cdc_fabric.specs.Calls.{Call, Load, Store, Evict, Boundary}
use Rattle.cdc_fabric.specs.Made.{IsWrittenList}
use Rattle.cdc_fabric.specs.declared.fabric.Fabric.{Ghosts}
use Rattle.cdc_task.specs.declared.port.Port.{Ghosts as Port}

-- what no call changes
pub record Stays {F : Type 0} (side : Ghosts F) (old new : F) : Type 0 where
  pub procs : side.procs new ≡ side.procs old
  pub words : side.words new ≡ side.words old
  pub made : side.made new ≡ side.made old
  pub lines : side.lines new ≡ side.lines old
  pub plain : side.plain new ≡ side.plain old

-- one call, or none, was made on the side, and gave v where it was a load
abbrev pub Made : {F : Type 0} (side : Ghosts F) → Option Call → F → (v : ℤ) → F → Type 0
Made side None old v new = new ≡ old
Made side (Some (Load p word mark)) old v new = side.loads old p word mark v new
Made side (Some (Store p word value)) old v new = side.stores old p word value new
Made side (Some (Evict p line)) old v new = side.evicts old p line new
Made side (Some (Boundary written)) old v new = side.bounds old written new

-- the side as the port of one processor
abbrev pub as_port : {F : Type 0} → Ghosts F → (p : ℕ) → Port F
as_port {F} side p = record {
  words = side.words;
  loads = λ old word mark value new. side.loads old p word mark value new × Stays side old new;
  stores = λ old word value new. side.stores old p word value new × Stays side old new;
}

-- a call that may be made: its processor, its word and its list are there
abbrev pub IsCallFor : {F : Type 0} → Ghosts F → F → Option Call → Type 0
IsCallFor side f None = Unit {0}
IsCallFor side f (Some (Load p word mark)) = (p < side.procs f) × (word < side.words f)
IsCallFor side f (Some (Store p word value)) = (p < side.procs f) × (word < side.words f)
IsCallFor side f (Some (Evict p line)) = p < side.procs f
IsCallFor side f (Some (Boundary written)) = IsWrittenList (side.made f) written
