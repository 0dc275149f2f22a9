-- Small programs, as trees.
use Rattle.std.specs.Prelude.{ℕ, List, [], ◌∷◌}
use Rattle.cdc_prog.specs.declared.program.Object.{Object}
use Rattle.cdc_prog.specs.Plain.{Stmt, Program}

-- a program of one unit, without texts
abbrev pub alone : Stmt → List Object → (words : ℕ) → Program
alone body objects words = record { units = record { name = []; dummies = []; body = body } ∷ []; main = 0; objects = objects; texts = []; sites = 0; doalls = 0; words = words }
