-- Lists in the order of their lines.
use Rattle.std.specs.Prelude.{ℕ, ◌≤◌, List, [], ◌∷◌}
use Rattle.cdc_tree.specs.Forms.{PStatement}

-- P holds of each item
abbrev pub Each : {A : Type 0} → (A → Type 0) → List A → Type 0
Each P [] = Unit {0}
Each P (x ∷ xs) = P x × Each P xs

-- The numbers ascend; several items may have one number.
abbrev pub Ascending : {A : Type 0} → (A → ℕ) → List A → Type 0
Ascending number [] = Unit {0}
Ascending number (x ∷ xs) = Each (λ y. number x ≤ number y) xs × Ascending number xs

-- the lines of statements ascend
abbrev pub InOrder : List PStatement → Type 0
InOrder = Ascending (λ s. s.place.line)
