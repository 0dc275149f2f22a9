use Rattle.std.proofs.Common.{◌≡◌, ◌↔◌, ◌⊎◌, ℕ, ◌<◌, length, drop, map}
use Rattle.cdc_prog.specs.Plain.{Stmt as PlainStmt}
use Rattle.cdc_prog.specs.Translation.{stmts_of, arms_of}
use Rattle.cdc_path.specs.Covers.{Covers, HasRun}
use Rattle.cdc_mark.specs.Covered.{spot_of, IsOpen}
use Rattle.cdc_mark.specs.Least.{IsIn}
use Rattle.cdc_mark.proofs.covers.+stmt.Given as goal

abbrev pub invariant-cover_statements-loop-s : goal.invariant-cover_statements-loop-s
invariant-cover_statements-loop-s l = record {
  count : length l.covered ≡ length l.initial.covered;
  bits : (site : ℕ) → site < length l.initial.covered → (IsIn l.covered site ⊎ IsOpen site (map spot_of l.run.items) (stmts_of (drop l.s-index l.ss))) ↔ (IsIn l.initial.covered site ⊎ HasRun (Covers site) (stmts_of l.ss));
}

abbrev pub invariant-cover_arms-loop-arm : goal.invariant-cover_arms-loop-arm
invariant-cover_arms-loop-arm l = record {
  count : length l.covered ≡ length l.initial.covered;
  bits : (site : ℕ) → site < length l.initial.covered → (other : PlainStmt) → (IsIn l.covered site ⊎ HasRun (Covers site) (arms_of (drop l.arm-index l.arms) other)) ↔ (IsIn l.initial.covered site ⊎ HasRun (Covers site) (arms_of l.arms other));
}
