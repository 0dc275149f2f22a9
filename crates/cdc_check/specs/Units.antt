-- What units resolve to, in order.
use Rattle.std.specs.Prelude.{ℕ, Bool, true, false, List, [], ◌∷◌, if◌then◌else◌}
use Rattle.cdc_tree.specs.Forms.{PForm, FProgram, FSubroutine}
use Rattle.cdc_tree.specs.Units.{PUnit}
use Rattle.cdc_prog.specs.Plain as plain
use Rattle.cdc_prog.specs.Translation.{chain}
use Rattle.cdc_names.specs.Scopes.{PScope}
use Rattle.cdc_check.specs.declared.progress.Progress.{Progress}
use Rattle.cdc_check.specs.declared.progress.Shape.{Shape}
use Rattle.cdc_check.specs.Threads.{next, on}
use Rattle.cdc_check.specs.Meanings.{surroundings}
use Rattle.cdc_check.specs.Objects.{Naming, named_in}
use Rattle.cdc_check.specs.Statements.{nodes_in}

abbrev pub head_name : PForm → List ℕ
head_name (FProgram name) = name.name
head_name (FSubroutine name dummies) = name.name
head_name _ = []

-- the objects of the units so far, and what was numbered in them
pub record Whole : Type 0 where
  pub objects : List Shape
  pub progress : Progress

abbrev pub whole : List Shape → Progress → Whole
whole objects progress = record { objects = objects; progress = progress }

-- a unit where its names are known
abbrev pub unit_with : Naming → PUnit → Progress → plain.ProgramUnit × Whole
unit_with n u k =
    on (nodes_in u.body (surroundings n.names []) k) (λ b m.
    (record { name = head_name u.head.form; dummies = []; body = chain b }, whole n.objects m))

abbrev pub unit_in : ℕ → PUnit → PScope → Whole → plain.ProgramUnit × Whole
unit_in number u s k = unit_with (named_in number s k.objects) u k.progress

abbrev pub units_from : ℕ → List PUnit → List PScope → List (Whole → plain.ProgramUnit × Whole)
units_from number [] ss = []
units_from number (u ∷ us) [] = []
units_from number (u ∷ us) (s ∷ ss) = unit_in number u s ∷ units_from (next number) us ss

abbrev pub nothing_yet : Whole
nothing_yet = whole [] (record { sites = 0; doalls = 0; texts = [] })

abbrev pub is_program : PForm → Bool
is_program (FProgram name) = true
is_program _ = false

-- the main program, where units are counted from this number
abbrev pub main_from : ℕ → List PUnit → ℕ
main_from k [] = 0
main_from k (u ∷ us) = if is_program u.head.form then k else main_from (next k) us
