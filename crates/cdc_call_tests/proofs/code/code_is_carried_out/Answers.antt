use Rattle.cdc_call_tests.proofs.Codes.{one_sound}
use Rattle.cdc_call_tests.proofs.code.code_is_carried_out.Goals as goal

pub run_alone-requires-clause-sound : goal.run_alone-requires-clause-sound
run_alone-requires-clause-sound g c = one_sound c.in_ok-sum.sum c.in_ok-sum.ensures

pub run_alone-requires-2-clause-sound : goal.run_alone-requires-2-clause-sound
run_alone-requires-2-clause-sound g c = one_sound c.in_ok-sum.sum c.in_ok-sum.ensures
