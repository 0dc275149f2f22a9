use Rattle.std.proofs.Common.{ℕ, ◌≤◌, drop}
use Rattle.cdc_prog.specs.Plain.{Stmt}
use Rattle.cdc_prog.specs.Translation.{stmts_of, arms_of}
use Rattle.cdc_meaning.specs.Doall.{SlotsWithin}
use Rattle.cdc_meaning.proofs.doall.+slots.Given as goal

abbrev pub invariant-most_slots-loop-statement : goal.invariant-most_slots-loop-statement
invariant-most_slots-loop-statement l = (n : ℕ) → l.most ≤ n → SlotsWithin n (stmts_of (drop l.statement-index l.statements)) → SlotsWithin n (stmts_of l.statements)

abbrev pub invariant-most_slots_in-loop-arm : goal.invariant-most_slots_in-loop-arm
invariant-most_slots_in-loop-arm l =
    (n : ℕ) (other : Stmt) → l.most ≤ n → SlotsWithin n (arms_of (drop l.arm-index l.arm-items) other) → SlotsWithin n (arms_of l.arm-items other)
