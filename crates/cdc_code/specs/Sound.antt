-- Sound code, in the parts that speak of no paths.
use Rattle.std.specs.Prelude.{◌≡◌}
use Rattle.cdc_prog.specs.declared.program.Marks.{Marks}
use Rattle.cdc_prog.specs.Plain.{Program}
use Rattle.cdc_prog.specs.Input.{Input}
use Rattle.cdc_prog.specs.Units.{process_of}
use Rattle.cdc_prog.specs.Resolved.{IsResolved}
use Rattle.cdc_prog.specs.Premises.{IsUnaliased}
use Rattle.cdc_prog.specs.Apart.{IsApart}
use Rattle.cdc_prog.specs.Meaning.{meaning}
use Rattle.cdc_code.specs.declared.code.Code.{Code}
use Rattle.cdc_code.specs.Rows.{first_frame}
use Rattle.cdc_code.specs.Template.{HasCallNumbers, code_of}
use Rattle.cdc_code.specs.Room.{HasRoom, IsWithin}
use Rattle.cdc_code.specs.Does.{Does}
use Rattle.cdc_code.specs.Alone.{RunsTo}

-- it is the code of a resolved program, whose CALLs are numbered and lead to no alias of what is stored in, with its marks; on every input it does what the program does and keeps to the room of a task, its one-memory run has the sequential output and end, and the iterations of a fork do not meet
pub record IsSound (code : Code) : Type 0 where
  pub program : Program
  pub marks : Marks
  pub resolved : IsResolved program
  pub numbered : HasCallNumbers program
  pub room : HasRoom program
  pub unaliased : IsUnaliased program
  pub is_code : code ≡ code_of program marks
  pub does : (records : Input) → Does code marks.reads IsWithin 8 (process_of program records) (first_frame code records)
  pub runs : (records : Input) → RunsTo code records (meaning program records)
  pub apart : (records : Input) → IsApart (process_of program records)
