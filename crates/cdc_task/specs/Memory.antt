-- A memory of words.
use Rattle.cdc_prog.specs.Data.{Store}
use Rattle.cdc_prog.specs.Held.{store_of}
use Rattle.cdc_task.specs.declared.words.Words.{Words}

abbrev pub memory_of : Words → Store
memory_of words = store_of words.cells.items
