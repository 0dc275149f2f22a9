-- What was printed so far, and what comes then.
use Rattle.std.proofs.Common.{◌≡◌, ℕ, zero, suc, ◌≤◌, List, [], ◌∷◌, ◌++◌, length, get_or, Result, Ok, Err, refl, ap, subst, arith}
use Rattle.cdc_base.specs.Outside.{grown, GrewInPart}
use Rattle.cdc_base.specs.Causes.{Rose}
use Rattle.cdc_base.specs.Gathered.{HandsOn}
use Rattle.cdc_prog.specs.declared.piece.Piece.{Piece}
use Rattle.cdc_prog.specs.declared.stop.Stop.{Stop}
use Rattle.cdc_prog.specs.declared.stop.Stop.TheVariants.{Sink}
use Rattle.cdc_prog.specs.InOrder.{Run}
use Rattle.cdc_prog.specs.Meaning.{bytes_of, bytes_of_piece}
use Rattle.cdc_prog.specs.Output.{Output, told, meaning_of}
use Rattle.cdc_prog.proofs.Output as output
use Rattle.cdc_task.specs.Running.{Follows, Comes, Says}

-- a text that is not there has no bytes
pub past_end : (xs : List (List ℕ)) (k : ℕ) → length xs ≤ k → get_or xs k [] ≡ []
past_end [] k le = refl
past_end (t ∷ ts) zero le = absurd (omega (arith, le))
past_end (t ∷ ts) (suc k) le = past_end ts k (omega (arith, le))

module _ (texts : List (List ℕ)) where
  pub same_run : (r : Run) (x : Output) → Follows texts r x r x
  same_run r x = output.same_meaning (meaning_of texts r) x

  pub as_run : (r q : Run) (x : Output) → r ≡ q → Follows texts r x q x
  as_run r q x e = subst (λ p. Follows texts r x p x) e (same_run r x)

  pub follows_after : (p q r : Run) (x y z : Output) → Follows texts p x q y → Follows texts q y r z → Follows texts p x r z
  follows_after p q r x y z h k = output.follows_after h k

  pub comes_after : (p q r : Run) (x y z : Output) (result : Result (Unit {0}) Stop) → Follows texts p x q y → Comes texts q y result r z → Comes texts p x result r z
  comes_after p q r x y z result h k = output.comes_after (meaning_of texts p) (meaning_of texts q) (meaning_of texts r) x y z result h k

  pub comes_err : (p q r : Run) (x y : Output) (e : Stop) → Comes texts p x (Err e) q y → Comes texts p x (Err e) r y
  comes_err p q r x y e h = output.comes_err (meaning_of texts p) (meaning_of texts q) (meaning_of texts r) x y e h

  pub said : (piece : Piece) (x y : Output) → HandsOn x.taken y.taken (x.waits ++ bytes_of_piece texts piece) y.waits → y.faults ≡ x.faults → Says texts piece x (Ok tt) y
  said piece x y hands same rest = output.follows_put (bytes_of_piece texts piece) (meaning_of texts rest) x y hands same

  pub cut_said : (piece : Piece) (x y : Output) → GrewInPart x.taken y.taken (x.waits ++ bytes_of_piece texts piece) → x.faults ≤ y.faults → Rose x.faults y.faults → Says texts piece x (Err Sink) y
  cut_said piece x y grew later rose rest = output.cut_put (bytes_of_piece texts piece) (meaning_of texts rest) x y grew later rose

  -- a piece without bytes
  pub unsaid : (piece : Piece) (x : Output) → bytes_of_piece texts piece ≡ [] → Says texts piece x (Ok tt) x
  unsaid piece x none rest =
      let later = bytes_of texts rest.printed in
      record { whole = ap (λ bytes. grown (told x) (bytes ++ later)) none; ends = refl; longer = omega arith; faults = refl }
