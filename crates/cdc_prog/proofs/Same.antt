-- Processes that do the same.
use Rattle.std.proofs.Common.{◌∙◌}
use Rattle.cdc_prog.specs.Data.{Store}
use Rattle.cdc_prog.specs.Process.{Process}
use Rattle.cdc_prog.specs.Held.{Same}

pub same_after : {p q r : Process} {s t u : Store} → Same p s q t → Same q t r u → Same p s r u
same_after h k = record { output = h.output ∙ k.output; ends = h.ends ∙ k.ends }
