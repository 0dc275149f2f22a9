-- The answers of a run.
use Rattle.std.specs.Prelude.{ℕ, List, Option}
use Rattle.cdc_prog.specs.Answers.{IsRun}
use Rattle.cdc_prog.specs.Input.{Input}
use Rattle.cdc_prog.specs.Meaning.{Meaning}
use Rattle.cdc_prog.specs.declared.plain.Plain.{Plain}
use Rattle.cdc_code.specs.declared.code.Code.{Code}
use Rattle.cdc_code.specs.Alone.{RunsTo}

-- the run of code on one memory, to a sink
abbrev pub IsRunOf : Code → Input → (before now : Option (List ℕ)) → Plain → Type 0
IsRunOf code records before now answer = (m : Meaning) × RunsTo code records m × IsRun m before now answer
