-- What an accepted source is compiled to.
use Rattle.std.specs.Prelude.{◌≡◌, ℕ, List, Ok}
use Rattle.cdc_prog.specs.declared.program.Marks.{Marks}
use Rattle.cdc_prog.specs.Plain.{Program}
use Rattle.cdc_path.specs.Marks.{AreMarks}
use Rattle.cdc_along.specs.Programs.{GoesAlong, HasTasksAlong, KeepsSections, KeepsCovers}
use Rattle.cdc_code.specs.declared.code.Code.{Code}
use Rattle.cdc_code.specs.Sound.{IsSound}
use Rattle.cdc_compile.specs.Source.{IsProgramOf}

-- the source is accepted as this program, which has these marks and written lists
pub record IsCompiledTo (source : List ℕ) (program : Program) (marks : Marks) : Type 0 where
  pub accepted : IsProgramOf source (Ok program)
  pub marks_are : AreMarks program marks

-- the code is sound, as that of this program with these marks; and the program keeps to the paths, sections and covers by which its marks are defined
pub record IsSoundCodeOf (program : Program) (marks : Marks) (code : Code) : Type 0 where
  pub sound : IsSound code
  pub program_is : sound.program ≡ program
  pub marks_are : sound.marks ≡ marks
  pub along : GoesAlong program
  pub tasks : HasTasksAlong program
  pub sections : KeepsSections program
  pub covers : KeepsCovers program
