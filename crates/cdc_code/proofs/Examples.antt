-- The code of some programs is as it is written out.
use Rattle.std.proofs.Common.{ℕ, zero, suc, ◌≤◌, refl, rules, arith}
use Rattle.cdc_prog.specs.Units.{body_of}
use Rattle.cdc_prog.specs.Examples.{least, calls}
use Rattle.cdc_code.specs.declared.room.TheConstants.{STACK, NEST, ARGUMENTS}
use Rattle.cdc_code.specs.Room.{SlotsRoom, StmtRoom}
use Rattle.cdc_code.specs.Examples.{ExamplesAreCoded}

calls_bodies : (u : ℕ) → StmtRoom (λ k. k ≤ STACK) (λ k. k ≤ NEST) (λ k. k ≤ ARGUMENTS) 0 (body_of calls u)
calls_bodies zero = search rules
calls_bodies (suc zero) = search rules
calls_bodies (suc (suc u)) = tt

calls_slots : (u : ℕ) → SlotsRoom (body_of calls u)
calls_slots zero = search rules
calls_slots (suc zero) = search rules
calls_slots (suc (suc u)) = tt

least_bodies : (u : ℕ) → StmtRoom (λ k. k ≤ STACK) (λ k. k ≤ NEST) (λ k. k ≤ ARGUMENTS) 0 (body_of least u)
least_bodies zero = search rules
least_bodies (suc u) = tt

least_slots : (u : ℕ) → SlotsRoom (body_of least u)
least_slots zero = search rules
least_slots (suc u) = tt

pub coded : ExamplesAreCoded
coded = record {
  of_one = refl;
  of_largest = refl;
  of_records = refl;
  of_least = refl;
  of_calls = refl;
  starts = refl;
  first = refl;
  second = refl;
  numbered = refl;
  calls_room = record { units = omega arith; slots = calls_slots; bodies = calls_bodies };
  least_room = record { units = omega arith; slots = least_slots; bodies = least_bodies };
  prints = refl;
}
