-- The first statement that is not built yet.
use Rattle.std.specs.Prelude.{◌≡◌, ℕ, ◌≤◌, List, ◌∷◌, ◌++◌}
use Rattle.cdc_tree.specs.Forms.{PStatement}
use Rattle.cdc_tree.specs.Order.{Each}
use Rattle.cdc_check.specs.Built.{IsUnbuilt}

-- the least line of a statement that is not built
pub record IsLeastUnbuilt (statements : List PStatement) (number : ℕ) : Type 0 where
  pub before : List PStatement
  pub unbuilt : PStatement
  pub after : List PStatement
  pub parts : statements ≡ before ++ (unbuilt ∷ after)
  pub is_unbuilt : IsUnbuilt unbuilt
  pub number_is : unbuilt.place.line ≡ number
  pub least : Each (λ s. IsUnbuilt s → number ≤ s.place.line) statements
