-- The iterations of a resolved program print nothing, fork nothing and do not halt.
use Rattle.std.proofs.Common.{ℕ, ℤ}
use Rattle.cdc_prog.specs.Plain.{Stmt, Program}
use Rattle.cdc_prog.specs.Data.{Binding}
use Rattle.cdc_prog.specs.Input.{Input}
use Rattle.cdc_prog.specs.Process.{Process, Tick, Fork, Join}
use Rattle.cdc_prog.specs.Expressions.{Surroundings}
use Rattle.cdc_prog.specs.Statements.{Calls, beginning, stmt}
use Rattle.cdc_prog.specs.Units.{process_of}
use Rattle.cdc_prog.specs.Resolved.{IsResolved}
use Rattle.cdc_prog.proofs.Bodies.{iteration_fine}
use Rattle.cdc_machine.proofs.Ways.{IsWay, Plainly, program_way, resolved_bodies}
use Rattle.cdc_machine.specs.Standing.{IterationsJoin}

join_way : IsWay IterationsJoin
join_way = record {
  load = λ path site w next h. h;
  save = λ path site w v next h. h;
  say = λ piece next h. h;
  tick = λ next h. h;
  fail = λ kind line. tt;
}

fork_joins : (calls : Calls) (b : Binding) (number count : ℕ) (from by : ℤ) (body : Stmt) (c : Surroundings) (next : Process) → Plainly body → IterationsJoin next → IterationsJoin (Fork b.path number count from by (λ i. Tick (stmt calls b body (beginning from by i c) (λ d. Join))) next)
fork_joins calls b number count from by body c next only h = (λ i. iteration_fine calls b body (beginning from by i c) only, h)

pub program_joins : (p : Program) (records : Input) → IsResolved p → IterationsJoin (process_of p records)
program_joins p records r = program_way IterationsJoin join_way Plainly fork_joins p records (resolved_bodies p r) tt
