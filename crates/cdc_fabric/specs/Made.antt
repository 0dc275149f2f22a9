-- The lists of objects for which a memory side was made.
use Rattle.std.specs.Prelude.{◌≡◌, ◌⊎◌, ℕ, ◌+◌, ◌<◌, List, [], ◌∷◌, ◌++◌, length, slice_index, replicate, Option, Some, None, All, Bool, IsTrue}
use Rattle.std.specs.List.Sorted.{IsStrictlyIncreasing}
use Rattle.cdc_prog.specs.declared.program.Object.{Object}
use Rattle.cdc_fabric.specs.Calls.{Call, IsOrderly}

-- the object of each word, by its number, where the objects lie one after another from word 0
abbrev pub owners_from : ℕ → List Object → List ℕ
owners_from number [] = []
owners_from number (object ∷ objects) = replicate object.words number ++ owners_from (number + 1) objects

abbrev pub owner_of : List Object → ℕ → ℕ
owner_of objects = slice_index (owners_from 0 objects)

-- the object of each word, and the number of objects
pub record Layout : Type 0 where
  pub owners : List ℕ
  pub objects : ℕ

-- one that was made for no list counts as made for every list
abbrev pub IsMadeFor : Option Layout → List Object → Type 0
IsMadeFor None objects = Unit {0}
IsMadeFor (Some layout) objects = (layout.owners ≡ owners_from 0 objects) × (layout.objects ≡ length objects)

-- a list of objects that a boundary may be given
abbrev pub IsWrittenList : Option Layout → List ℕ → Type 0
IsWrittenList None written = IsStrictlyIncreasing written
IsWrittenList (Some layout) written = IsStrictlyIncreasing written × All (λ object. object < layout.objects) written

-- the calls are orderly for a list of objects for which it was made, or it is plain, so that they need not be
abbrev pub IsInOrder : Bool → Option Layout → List Call → Type 0
IsInOrder plain made calls = IsTrue plain ⊎ ((objects : List Object) × IsMadeFor made objects × IsOrderly (owner_of objects) calls)
