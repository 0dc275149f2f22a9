-- What was carried out so far, and what comes then.
use Rattle.std.proofs.Common.{◌≡◌, ℕ, Bool, suc, ◌+◌, ◌≤◌, ◌<◌, List, [], ◌∷◌, ◌++◌, length, drop, get_or, Result, Ok, Err, refl, sym, ap, ap₂, ◌∙◌, subst, add-one}
use Rattle.std.proofs.Math.Seq.{drop-cons}
use Rattle.std.proofs.lemmas.List.{drop_all}
use Rattle.cdc_base.specs.Outside.{GrewInPart}
use Rattle.cdc_base.specs.Causes.{Rose}
use Rattle.cdc_base.specs.Gathered.{HandsOn}
use Rattle.cdc_prog.specs.declared.piece.Piece.{Piece}
use Rattle.cdc_prog.specs.Data.{Store}
use Rattle.cdc_prog.specs.Process.{Process, Say, Tick, Fail}
use Rattle.cdc_prog.specs.InOrder.{End, output}
use Rattle.cdc_prog.specs.Lines.{opened}
use Rattle.cdc_prog.specs.Meaning.{bytes_of, bytes_of_piece}
use Rattle.cdc_prog.specs.Output as sink
use Rattle.cdc_prog.specs.Output.{meaning_of}
use Rattle.cdc_prog.specs.declared.fault.Fault.{Fault}
use Rattle.cdc_prog.specs.declared.stop.Stop.{Stop}
use Rattle.cdc_prog.specs.declared.stop.Stop.TheVariants.{Faulted, Sink}
use Rattle.cdc_prog.specs.Held.{Same}
use Rattle.cdc_meaning.specs.Carried.{Output, State, Follows, meant, Comes}
use Rattle.cdc_prog.proofs.Opened.{opened-opened}
use Rattle.cdc_prog.proofs.Output as outputs

module _ (texts : List (List ℕ)) where
  pub follows_after : {p q r : Process} {x y z : State} → Follows texts p x q y → Follows texts q y r z → Follows texts p x r z
  follows_after {p} {q} {r} {x} {y} {z} h k = record { goes_on = outputs.follows_after h.goes_on k.goes_on; line = h.line ∙ k.line }

  pub comes_after : (p q r : Process) (x y z : State) (result : Result (Unit {0}) Stop) → Follows texts p x q y → Comes texts q y result r z → Comes texts p x result r z
  comes_after p q r x y z (Ok u) h k = follows_after h k
  comes_after p q r x y z (Err (Faulted f)) h k = follows_after h k
  comes_after p q r x y z (Err Sink) h k = outputs.cut_after h.goes_on k

  -- what prints nothing leaves the output alone
  pub same_follows : {p q : Process} {x y : State} → Same p x.store q y.store → x.output ≡ y.output → Follows texts p x q y
  same_follows {p} {q} {x} {y} h same =
      let shown = λ (ps : List Piece) (e : End). meaning_of texts (record { printed = ps; end = e }) in
      let is : meant texts p x.store ≡ meant texts q y.store = ap₂ shown h.output h.ends in
      let at = λ (o : Output). Follows texts p x q (record { store = y.store; around = y.around; output = o }) in
      subst at same (record {
        goes_on = subst (λ m. sink.Follows (meant texts p x.store) x.output.sent m x.output.sent) is (outputs.same_meaning (meant texts p x.store) x.output.sent);
        line = ap (λ ps. opened x.output.is_open (bytes_of texts ps)) h.output;
      })

  comes_err : (p q r : Process) (x y : State) (e : Stop) → Comes texts p x (Err e) q y → Comes texts p x (Err e) r y
  comes_err p q r x y (Faulted f) h = h
  comes_err p q r x y Sink h = h

  -- an early end, after what was carried out so far
  pub exits : (p p' q r : Process) (x y z : State) (result : Result (Unit {0}) Stop) (e : Stop) → result ≡ Err e → Follows texts p x p' y → Comes texts p' y (Err e) q z → Comes texts p x result r z
  exits p p' q r x y z result e is h k =
      subst (λ a. Comes texts p x a r z) (sym is) (comes_after p p' r x y z (Err e) h (comes_err p' q r y z e k))

  -- an early end by a fault
  pub faults : (p p' r : Process) (x y z : State) (result : Result (Unit {0}) Stop) (f : Fault) → result ≡ Err (Faulted f) → Follows texts p x p' y → Same p' y.store (Fail f.kind f.line) z.store → y.output ≡ z.output → Comes texts p x result r z
  faults p p' r x y z result f is h k same =
      subst (λ a. Comes texts p x a r z) (sym is) (follows_after h (same_follows k same))

  pub same_place : {p : Process} {x : State} → Follows texts p x p x
  same_place {p} {x} = same_follows (record { output = refl; ends = refl }) refl

  pub ticked : {p : Process} {x : State} → Follows texts (Tick p) x p x
  ticked {p} {x} = same_follows (record { output = refl; ends = refl }) refl

  pub begun : {p p' : Process} {x : State} → p ≡ Tick p' → Follows texts p x p' x
  begun {p} {p'} {x} is = subst (λ q. Follows texts q x p' x) (sym is) ticked

  pub said : (piece : Piece) (rest : Process) (x y : State) → x.store ≡ y.store → HandsOn x.output.sent.taken y.output.sent.taken (x.output.sent.waits ++ bytes_of_piece texts piece) y.output.sent.waits
      → y.output.is_open ≡ opened x.output.is_open (bytes_of_piece texts piece) → y.output.sent.faults ≡ x.output.sent.faults → Follows texts (Say piece rest) x rest y
  said piece rest x y store hands opens same =
      let bytes = bytes_of_piece texts piece in
      let later = bytes_of texts (output rest x.store) in
      let o = x.output in
      let at = λ (s : Store). Follows texts (Say piece rest) x rest (record { store = s; around = y.around; output = y.output }) in
      subst at store (record {
        goes_on = outputs.follows_put bytes (meant texts rest x.store) o.sent y.output.sent hands same;
        line = sym (opened-opened o.is_open bytes later) ∙ ap (λ (before : Bool). opened before later) (sym opens);
      })

  pub cut_said : (piece : Piece) (rest : Process) (x y : State) → GrewInPart x.output.sent.taken y.output.sent.taken (x.output.sent.waits ++ bytes_of_piece texts piece)
      → x.output.sent.faults ≤ y.output.sent.faults → Rose x.output.sent.faults y.output.sent.faults → sink.IsCut (meant texts (Say piece rest) x.store) x.output.sent y.output.sent
  cut_said piece rest x y grew later rose = outputs.cut_put (bytes_of_piece texts piece) (meant texts rest x.store) x.output.sent y.output.sent grew later rose

-- what is left of a list that is gone through
pub one_left : {A : Type 0} (xs : List A) (i : ℕ) (x : A) → i < length xs → x ≡ get_or xs i x → drop i xs ≡ x ∷ drop (i + 1) xs
one_left xs i x lt item = rw (add-one, drop-cons xs i x) (ap (λ y. y ∷ drop (suc i) xs) (sym item))

pub none_left : {A : Type 0} (xs : List A) (i : ℕ) → length xs ≤ i → drop i xs ≡ []
none_left xs i le = drop_all i xs le
