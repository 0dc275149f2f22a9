-- A memory without caches gives the values of the last stores, over every list of calls.
use Rattle.std.proofs.Common.{◌≡◌, ℕ, ◌<◌, List, ◌∷◌, length, sym, ◌∙◌, subst, arith}
use Rattle.std.specs.Prelude.{ℤ}
use Rattle.std.proofs.Common.{set}
use Rattle.std.proofs.lemmas.Grind.{common_steps}
use Rattle.cdc_prog.specs.declared.program.Mark.{Mark}
use Rattle.cdc_fabric.specs.Calls.{Call, Load, Store, last_store}
use Rattle.cdc_fabric.specs.Uncached.{HoldsStores}
use Rattle.cdc_fabric.specs.UncachedSteps.{uncached_loads, uncached_stores, uncached_stands, IsSameMemory}
use Rattle.cdc_fabric.specs.declared.uncached.Uncached.{Uncached}

pub stored : (cells : List ℤ) (calls : List Call) (p word : ℕ) (value : ℤ) → HoldsStores cells calls → HoldsStores (set cells word value) (Store p word value ∷ calls)
stored cells calls p word value holds = λ x within. grind (arith, common_steps, holds x)

pub uncached_load_right : (old new : Uncached) (p word : ℕ) (mark : Mark) (value : ℤ) (calls : List Call) → word < length old.cells → uncached_loads old p word mark value new → uncached_stands old calls → value ≡ last_store word calls
uncached_load_right old new p word mark value calls within step stands = step.0 ∙ stands word within

pub uncached_load_carries : (old new : Uncached) (p word : ℕ) (mark : Mark) (value : ℤ) (calls : List Call) → uncached_loads old p word mark value new → uncached_stands old calls → uncached_stands new (Load p word mark ∷ calls)
uncached_load_carries old new p word mark value calls step stands = subst (λ cells. HoldsStores cells calls) (sym step.1) stands

pub uncached_store_carries : (old new : Uncached) (p word : ℕ) (value : ℤ) (calls : List Call) → uncached_stores old p word value new → uncached_stands old calls → uncached_stands new (Store p word value ∷ calls)
uncached_store_carries old new p word value calls step stands =
    subst (λ cells. HoldsStores cells (Store p word value ∷ calls)) (sym step.0) (stored old.cells calls p word value stands)

pub uncached_same_carries : (old new : Uncached) (calls : List Call) → IsSameMemory old new → uncached_stands old calls → uncached_stands new calls
uncached_same_carries old new calls step stands = subst (λ cells. HoldsStores cells calls) (sym step.0) stands
