-- Iterations are apart at every fork that is reached.
use Rattle.std.proofs.Common.{◌≡◌, ℕ, ℤ, List, refl, sym, subst}
use Rattle.cdc_prog.specs.Data.{Store, put}
use Rattle.cdc_prog.specs.Process.{Process, Load, Save, Say, Tick, Fork, Join, Halt, Fail}
use Rattle.cdc_prog.specs.Alone.{left, ending}
use Rattle.cdc_prog.specs.Apart.{AreApart, Start, AtBeginning, AtExit, IsReached, First, After, StaysApart, IsApart}

-- where a task comes, iterations stay apart
comes_apart : (p : Process) (s : Store) → StaysApart p s → StaysApart (ending p s) (left p s)
comes_apart (Load path site w next) s h = comes_apart (next (s w)) s h
comes_apart (Save path site w v next) s h = comes_apart next (put s w v) h
comes_apart (Say piece next) s h = comes_apart next s h
comes_apart (Tick next) s h = comes_apart next s h
comes_apart (Fork path number n from by body next) s h = h
comes_apart Join s h = h
comes_apart Halt s h = h
comes_apart (Fail kind line) s h = h

reached_apart : (main : Process) (start : Start) (p : Process) → IsApart main → IsReached main start p → IsApart p
reached_apart main start p h First = h
reached_apart main later p h (After start q s path number n from by body next reached comes) =
    (subst (λ e. StaysApart e (left q s)) comes (comes_apart q s (reached_apart main start q h reached s))).1

pub apart_at : (main : Process) (start : Start) (p : Process) (s : Store) (path : List ℕ) (number n : ℕ) (from by : ℤ) (body : ℕ → Process) (next : Process) → IsApart main → IsReached main start p → ending p s ≡ Fork path number n from by body next → AreApart n body (left p s)
apart_at main start p s path number n from by body next h reached comes =
    (subst (λ e. StaysApart e (left p s)) comes (comes_apart p s (reached_apart main start p h reached s))).0

module _ (main : Process) (all : (start : Start) (p : Process) (s : Store) (path : List ℕ) (number n : ℕ) (from by : ℤ) (body : ℕ → Process) (next : Process) → IsReached main start p → ending p s ≡ Fork path number n from by body next → AreApart n body (left p s)) where
  -- what is left of a reached task p that began on the store s
  stays : (start : Start) (p : Process) (s : Store) → IsReached main start p → (q : Process) (t : Store) → ending q t ≡ ending p s → left q t ≡ left p s → StaysApart q t
  stays start p s reached (Load path site w next) t e f = stays start p s reached (next (t w)) t e f
  stays start p s reached (Save path site w v next) t e f = stays start p s reached next (put t w v) e f
  stays start p s reached (Say piece next) t e f = stays start p s reached next t e f
  stays start p s reached (Tick next) t e f = stays start p s reached next t e f
  stays start p s reached (Fork path number n from by body next) t e f = (
    subst (λ u. AreApart n body u) (sym f) (all start p s path number n from by body next reached (sym e)),
    λ u. stays (AtExit path number) next u (After start p s path number n from by body next reached (sym e)) next u refl refl,
  )
  stays start p s reached Join t e f = tt
  stays start p s reached Halt t e f = tt
  stays start p s reached (Fail kind line) t e f = tt

  pub apart_everywhere : IsApart main
  apart_everywhere s = stays AtBeginning main s First main s refl refl
