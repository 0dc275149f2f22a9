-- Version control. Each object has a current version number, and each cached word has a birth version number, that of the
-- object's version which it belongs to. `last` is the last number, 2 ^ w - 1 for a width of w bits.
use Rattle.std.specs.Prelude.{◌≡◌, ◌⊎◌, ℕ, ◌+◌, ◌-◌, ◌≤◌, min, max, List, [], ◌∷◌, length, take, Option, Some, None, Bool, true, nat_le, if◌then◌else◌, ◌==◌, ◌&&◌}
use Rattle.std.specs.List.{list_any}
use Rattle.cdc_prog.specs.declared.program.Mark.{Mark}
use Rattle.cdc_prog.specs.declared.program.Mark.TheVariants.{Ordinary, Time}

-- the object stands in the list
abbrev pub is_in : ℕ → List ℕ → Bool
is_in object written = list_any (λ x. x == object) written

-- a copy that is read from memory, or comes in beside it: the present version, but one that its processor wrote keeps its
-- number
abbrev pub filled_birth : ℕ → Option ℕ → ℕ
filled_birth current None = current
filled_birth current (Some birth) = max birth current

-- a copy that its processor writes belongs to the next version
abbrev pub written_birth : ℕ → ℕ → ℕ
written_birth last current = min (current + 1) last

-- a marked read uses a copy of the present version or the next
abbrev pub vc_admits : ℕ → Mark → ℕ → Bool
vc_admits current Ordinary birth = true
vc_admits current (Time d) birth = nat_le current birth

-- where an object's numbers begin again, its copies are dropped
abbrev pub kept_birth : ℕ → ℕ → Bool → ℕ → Option ℕ
kept_birth last current in_list birth = if in_list && (current == last) then None else Some birth

-- an object in the list has a new version
abbrev pub next_current : ℕ → ℕ → Bool → ℕ
next_current last current in_list = if in_list then (if current == last then 0 else current + 1) else current

-- how many of these lists have the object
abbrev pub listed : ℕ → List (List ℕ) → ℕ
listed object [] = 0
listed object (written ∷ lists) = if is_in object written then listed object lists + 1 else listed object lists

-- A copy of an object whose current version is this: one of an earlier epoch is behind by the lists since then at least;
-- one of the present epoch is not ahead, or ahead by one where the object was written in this epoch.
pub record IsBorn (lists : List (List ℕ)) (stored : Bool) (object current birth made : ℕ) : Type 0 where
  pub past : made ≤ length lists + 1
  pub older : made ≤ length lists → birth + listed object (take (length lists - made) lists) ≤ current
  pub newer : made ≡ length lists + 1 → (birth ≤ current) ⊎ ((birth ≡ current + 1) × (stored ≡ true))
