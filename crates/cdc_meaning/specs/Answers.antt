-- The answers of a run.
use Rattle.std.specs.Prelude.{◌≡◌, ◌≢◌}
use Rattle.cdc_prog.specs.Lines.{is_open}
use Rattle.cdc_prog.specs.Meaning.{Meaning}
use Rattle.cdc_prog.specs.declared.plain.Plain.TheVariants.{SinkFault, Memory}
use Rattle.cdc_meaning.specs.declared.run.Ran.{Ran}

-- where the program ended, the last line is told to be open exactly where it is
abbrev pub TellsLine : Meaning → Ran → Type 0
TellsLine m ran = ran.answer ≢ SinkFault → ran.answer ≢ Memory → ran.is_open ≡ is_open m.bytes
