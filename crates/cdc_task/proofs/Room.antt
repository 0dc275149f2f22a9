-- What a fit act tells of the stack.
use Rattle.std.proofs.Common.{◌≡◌, ℕ, zero, suc, ◌+◌, ◌<◌, ◌≤◌, ℤ, pos, negsuc, List, [], ◌∷◌, length, subst, arith}
use Rattle.cdc_prog.specs.declared.program.Mark.{Mark}
use Rattle.cdc_prog.specs.Expressions.{Surroundings}
use Rattle.cdc_code.specs.declared.room.TheConstants.{STACK}
use Rattle.cdc_code.specs.Act.{Act, Reads}
use Rattle.cdc_code.specs.Frames.{Kept, Frame, stands}
use Rattle.cdc_code.specs.Rows.{pop, pops, as_number}
use Rattle.cdc_task.specs.Steps.{IsFit}

-- as many numbers lie there as are popped
pub enough : (words n : ℕ) (taken s : List ℤ) (go : List ℤ → List ℤ → Act Frame) → IsFit words (pops n taken s go) → n ≤ length s
enough words zero taken s go h = omega arith
enough words (suc n) taken [] go h = absurd h
enough words (suc n) taken (v ∷ s) go h = omega (arith, enough words n (v ∷ taken) s go h)

module _ (words site base pc : ℕ) (path : List ℕ) (mark : Mark) (l : Kept) (c : Surroundings) where
  abbrev reads : List ℤ → ℕ → Act Frame
  reads s n = Reads path site mark (base + n) (λ x. stands pc (x ∷ s) l c)

  below_number : (i : ℤ) (s : List ℤ) → IsFit words (as_number i (reads s)) → length s < STACK
  below_number (pos n) s h = (h.1 (pos 0)).stack
  below_number (negsuc n) s h = absurd h

  -- there is room for what a load pushes where it popped a number
  pub room_to_read : (i : ℤ) (s stack : List ℤ) → stack ≡ i ∷ s → IsFit words (pop stack (λ i s. as_number i (reads s))) → length s < STACK
  room_to_read i s stack e h = below_number i s (subst (λ l. IsFit words (pop l (λ i s. as_number i (reads s)))) e h)
