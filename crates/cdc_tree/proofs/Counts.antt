-- How many trees a list has.
use Rattle.std.proofs.Common.{◌≡◌, ℕ, suc, List, [], ◌∷◌, length, map, refl, ap}
use Rattle.cdc_tree.specs.declared.tree.Tree.{Tree}
use Rattle.cdc_tree.specs.Plain.{Plain, count, plain, plains}

pub count_plains : (ts : List Plain) → count (plains ts) ≡ length ts
count_plains [] = refl
count_plains (t ∷ ts) = ap (λ (n : ℕ). suc n) (count_plains ts)

pub count_view : (ts : List Tree) → count (plains (map plain ts)) ≡ length ts
count_view [] = refl
count_view (t ∷ ts) = ap (λ (n : ℕ). suc n) (count_view ts)
