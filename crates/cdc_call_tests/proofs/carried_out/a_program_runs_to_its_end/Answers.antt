use Rattle.cdc_prog.specs.Translation.{program_of}
use Rattle.cdc_call_tests.proofs.Programs.{one_runs}
use Rattle.cdc_call_tests.proofs.carried_out.a_program_runs_to_its_end.Goals as goal

pub run_plain-requires-clause-resolved : goal.run_plain-requires-clause-resolved
run_plain-requires-clause-resolved g c = one_runs (program_of c.in_ok-program.program) c.in_ok-program.ensures

pub run_lines-end-requires-clause-resolved : goal.run_lines-end-requires-clause-resolved
run_lines-end-requires-clause-resolved g c = one_runs (program_of c.in_ok-program.program) c.in_ok-program.ensures

pub run_lines-end-requires-2-clause-resolved : goal.run_lines-end-requires-2-clause-resolved
run_lines-end-requires-2-clause-resolved g c = one_runs (program_of c.in_ok-program.program) c.in_ok-program.ensures
