-- The laws of change bits.
use Rattle.std.specs.Prelude.{◌≡◌, ℕ, ◌≤◌, List, ◌∷◌, Bool, true, false, IsTrue, Option, Some, None}
use Rattle.std.proofs.Common.{refl, arith, inl}
use Rattle.cdc_prog.specs.declared.program.Mark.TheVariants.{Time}
use Rattle.cdc_scheme.specs.TrueTime.{present, beside, WasDated, IsYoung}
use Rattle.cdc_select.specs.ChangeBits.{new_bit, si_admits, si_keeps, IsStamped}

pub present_stamped : (lists : List (List ℕ)) → IsStamped lists new_bit (present lists)
present_stamped lists = record { past = omega arith; recent = λ unset. omega arith }

pub beside_stamped : (lists : List (List ℕ)) (before : ℕ) (old : Option Bool) → WasDated (IsStamped lists) old before → IsStamped lists new_bit (beside lists before)
beside_stamped lists before None dated = record { past = omega (arith, dated); recent = λ unset. omega arith }
beside_stamped lists before (Some bit) dated = record { past = omega (arith, dated.past); recent = λ unset. omega arith }

pub admitted_young : (lists : List (List ℕ)) (object made d : ℕ) (bit : Bool) → IsStamped lists bit made → 1 ≤ d → IsTrue (si_admits (Time d) bit) → IsYoung d lists object made
admitted_young lists object made d true stamped some admitted = absurd (cc admitted)
admitted_young lists object made d false stamped some admitted = inl (omega (arith, stamped.recent refl, some))

pub kept_stamped : (lists : List (List ℕ)) (written : List ℕ) (made : ℕ) (bit kept : Bool) → IsStamped lists bit made → si_keeps bit ≡ Some kept → IsStamped (written ∷ lists) kept made
kept_stamped lists written made bit true stamped keeps = record { past = omega (arith, stamped.past); recent = λ unset. absurd (cc unset) }
kept_stamped lists written made bit false stamped keeps = absurd (cc keeps)
