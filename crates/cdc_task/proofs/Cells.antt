-- Words are plain memory.
use Rattle.cdc_task.specs.contracts.words.WordsPort.TheImpl.{ghosts}
use Rattle.cdc_task.specs.Memory.{memory_of}
use Rattle.cdc_task.proofs.Moves.{IsMemory}

pub plain : IsMemory ghosts memory_of
plain = record { loads = λ p q word mark v h. h; stores = λ p q word v h. h }
