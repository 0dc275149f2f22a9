-- From the parts that an engine comes to, to what it did.
use Rattle.std.proofs.Common.{◌≡◌, ℤ, Option, sym, ap, subst}
use Rattle.cdc_fabric.specs.Calls.{Call}
use Rattle.cdc_fabric.specs.declared.fabric.Fabric.{Ghosts}
use Rattle.cdc_machine.specs.declared.effect.Effect.{Effect}
use Rattle.cdc_machine.specs.Code.{State}
use Rattle.cdc_epoch.specs.declared.engine.Engine.{Engine}
use Rattle.cdc_epoch.specs.Side.{Stays, Made}
use Rattle.cdc_epoch.specs.Ties.{Comes}
use Rattle.cdc_epoch.proofs.Acting.{Parts, parts_of, TiesAt, ties_by}

-- an engine on the same code and records, with this memory side and these parts
pub record Becomes {F : Type 0} (side : Ghosts F) (old new : Engine F side) (f : F) (x : Parts) : Type 0 where
  pub code : new.code ≡ old.code
  pub records : new.records ≡ old.records
  pub memory : new.side ≡ f
  pub parts : parts_of side new ≡ x

pub came : {F : Type 0} (side : Ghosts F) (c : Option Call) (to : (v : ℤ) → State) (tells : Effect) (old : Engine F side) (answer : Effect) (new : Engine F side) (f : F) (x : Parts) → Becomes side old new f x
    → (v : ℤ) → Made side c old.side v f → Stays side old.side f → TiesAt (side.procs f) x (to v) → answer ≡ tells → Comes side c to tells old answer new
came side c to tells old answer new f x b v made stays ties effect = record {
  code = b.code;
  records = b.records;
  v = v;
  made = subst (Made side c old.side v) (sym b.memory) made;
  stays = subst (Stays side old.side) (sym b.memory) stays;
  stands = ties_by side new (to v) (side.procs f) x (ap side.procs b.memory) b.parts ties;
  effect = effect;
}
