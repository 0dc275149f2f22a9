use Rattle.std.proofs.Common.{map, drop}
use Rattle.cdc_prog.specs.Process.{Process}
use Rattle.cdc_prog.specs.Expressions.{Surroundings}
use Rattle.cdc_prog.specs.Statements.{reads}
use Rattle.cdc_prog.specs.Translation.{target_of}
use Rattle.cdc_meaning.specs.Frames.{binding}
use Rattle.cdc_prog.specs.Held.{Same, store_of, around}
use Rattle.cdc_prog.specs.Unread.{left_of}
use Rattle.cdc_meaning.proofs.read.read.Given as goal

abbrev pub invariant-loop-target : goal.invariant-loop-target
invariant-loop-target l =
    (rest : Surroundings → Process) → Same
    (reads (binding l.frame) l.line (map target_of l.targets) (around l.initial.slots (left_of l.initial.unread)) rest) (store_of l.initial.words)
    (reads (binding l.frame) l.line (map target_of (drop l.target-index l.targets)) (around l.slots (left_of l.unread)) rest) (store_of l.words)
