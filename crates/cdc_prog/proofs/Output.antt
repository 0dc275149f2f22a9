-- What was printed so far, and what comes then.
use Rattle.std.proofs.Common.{◌≡◌, ℕ, ◌≤◌, List, ◌++◌, take, drop, Result, Ok, Err, refl, sym, ap, ◌∙◌, subst, append_assoc, arith}
use Rattle.std.specs.Prelude.{Option, Some, None}
use Rattle.std.proofs.lemmas.List.{length-append, take-append-drop}
use Rattle.cdc_base.specs.Outside.{grown, GrewInPart}
use Rattle.cdc_base.specs.Causes.{Rose}
use Rattle.cdc_base.specs.Gathered.{HandsOn}
use Rattle.cdc_base.proofs.Grown.{grown-grown}
use Rattle.cdc_prog.specs.Meaning.{Meaning}
use Rattle.cdc_prog.specs.Output.{Output, told, size_of_taken, behind, Follows, IsCut, Comes}
use Rattle.cdc_prog.specs.declared.stop.Stop.{Stop}
use Rattle.cdc_prog.specs.declared.stop.Stop.TheVariants.{Faulted, Sink}

pub longer_grown : (o : Option (List ℕ)) (piece : List ℕ) → size_of_taken o ≤ size_of_taken (grown o piece)
longer_grown None piece = omega arith
longer_grown (Some bytes) piece = omega (arith, length-append bytes piece)

pub same_meaning : (m : Meaning) (x : Output) → Follows m x m x
same_meaning m x = record { whole = refl; ends = refl; longer = omega arith; faults = refl }

pub follows_after : {m n r : Meaning} {x y z : Output} → Follows m x n y → Follows n y r z → Follows m x r z
follows_after {m} {n} {r} {x} {y} {z} h k = record {
  whole = h.whole ∙ k.whole;
  ends = h.ends ∙ k.ends;
  longer = omega (arith, h.longer, k.longer);
  faults = k.faults ∙ h.faults;
}

pub cut_after : {m n : Meaning} {x y z : Output} → Follows m x n y → IsCut n y z → IsCut m x z
cut_after {m} {n} {x} {y} {z} h k = record {
  left = k.left;
  front = k.front ∙ sym h.whole;
  longer = omega (arith, h.longer, k.longer);
  later = omega (arith, h.faults, k.later);
  rose = subst (λ n. Rose n z.faults) h.faults k.rose;
}

pub comes_after : (m n r : Meaning) (x y z : Output) (result : Result (Unit {0}) Stop) → Follows m x n y → Comes n y result r z → Comes m x result r z
comes_after m n r x y z (Ok u) h k = follows_after h k
comes_after m n r x y z (Err (Faulted f)) h k = follows_after h k
comes_after m n r x y z (Err Sink) h k = cut_after h k

-- an early end does not say what would follow
pub comes_err : (m n r : Meaning) (x y : Output) (e : Stop) → Comes m x (Err e) n y → Comes m x (Err e) r y
comes_err m n r x y (Faulted f) h = h
comes_err m n r x y Sink h = h

-- ---- bytes that are put behind those that wait
pub follows_put : (bytes : List ℕ) (rest : Meaning) (x y : Output) → HandsOn x.taken y.taken (x.waits ++ bytes) y.waits → y.faults ≡ x.faults → Follows (behind bytes rest) x rest y
follows_put bytes rest x y hands same =
    let told_then : told y ≡ grown (told x) bytes =
    ap (λ t. grown t y.waits) hands.took ∙ grown-grown x.taken hands.front y.waits ∙ ap (grown x.taken) hands.split ∙ sym (grown-grown x.taken x.waits bytes) in
    record {
      whole = sym (grown-grown (told x) bytes rest.bytes) ∙ ap (λ t. grown t rest.bytes) (sym told_then);
      ends = refl;
      longer = subst (λ t. size_of_taken x.taken ≤ size_of_taken t) (sym hands.took) (longer_grown x.taken hands.front);
      faults = same;
    }

bytes_cut : (o : Option (List ℕ)) (n : ℕ) (piece more : List ℕ) → grown (grown o (take n piece)) (drop n piece ++ more) ≡ grown o (piece ++ more)
bytes_cut o n piece more =
    grown-grown o (take n piece) (drop n piece ++ more) ∙ ap (grown o) (sym (append_assoc (take n piece) (drop n piece) more) ∙ ap (λ l. l ++ more) (take-append-drop n piece))

pub cut_put : (bytes : List ℕ) (rest : Meaning) (x y : Output) → GrewInPart x.taken y.taken (x.waits ++ bytes) → x.faults ≤ y.faults → Rose x.faults y.faults → IsCut (behind bytes rest) x y
cut_put bytes rest x y grew later rose =
    let left = drop grew.count (x.waits ++ bytes) ++ rest.bytes in
    record {
      left = left;
      front =
          ap (λ t. grown t left) grew.front
          ∙ bytes_cut x.taken grew.count (x.waits ++ bytes) rest.bytes
          ∙ ap (grown x.taken) (append_assoc x.waits bytes rest.bytes)
          ∙ sym (grown-grown x.taken x.waits (bytes ++ rest.bytes));
      longer = subst (λ t. size_of_taken x.taken ≤ size_of_taken t) (sym grew.front) (longer_grown x.taken (take grew.count (x.waits ++ bytes)));
      later = later;
      rose = rose;
    }
