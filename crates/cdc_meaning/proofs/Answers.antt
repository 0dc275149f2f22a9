-- From the statements of a program to its answer.
use Rattle.std.proofs.Common.{◌≡◌, false, ℕ, zero, suc, ◌+◌, ◌-◌, ◌<◌, List, [], ◌∷◌, length, map, get_or, Result, Ok, Err, refl, sym, ap, ap₂, ◌∙◌, subst, arith}
use Rattle.std.specs.Prelude.{Option, slice_get}
use Rattle.std.proofs.lemmas.List.{length-map}
use Rattle.cdc_prog.specs.declared.program.Unit.{Unit as ProgramUnit}
use Rattle.cdc_prog.specs.declared.program.Dim.{Dim}
use Rattle.cdc_prog.specs.Plain.{Program, Stmt, Skip, Seq, Assign, If, Arm, Do, Doall, Call, Print, Read}
use Rattle.cdc_prog.specs.Data.{Store, zeros}
use Rattle.cdc_prog.specs.Input.{Input}
use Rattle.cdc_prog.specs.Process.{Process, Halt}
use Rattle.cdc_prog.specs.Expressions.{Surroundings}
use Rattle.cdc_prog.specs.Numbered.{calls_in, calls_numbered, units_numbered}
use Rattle.cdc_prog.specs.Statements.{Calls, stmt}
use Rattle.cdc_prog.specs.Units.{shapes_in, body_in, body_of, unit, process_of}
use Rattle.cdc_prog.specs.Bodies.{HasOnly}
use Rattle.cdc_prog.specs.Resolved.{StmtFits}
use Rattle.cdc_prog.specs.InOrder.{output, ends}
use Rattle.cdc_prog.specs.Lines.{opened}
use Rattle.cdc_prog.specs.Meaning.{Meaning, bytes_of, meaning}
use Rattle.cdc_prog.specs.Translation.{unit_of, stmts_of}
use Rattle.cdc_prog.proofs.Numbered.{as_many, body_numbered}
use Rattle.cdc_prog.specs.Answers.{IsHandedOn, answer_of}
use Rattle.cdc_prog.specs.Output as sink
use Rattle.cdc_prog.specs.declared.stop.Stop.{Stop}
use Rattle.cdc_prog.specs.declared.stop.Stop.TheVariants.{Faulted, Sink}
use Rattle.cdc_prog.proofs.Answers.{over}
use Rattle.cdc_meaning.specs.Carried.{State, meant, Comes}
use Rattle.cdc_meaning.specs.Answers.{TellsLine}

-- statements that hold no CALL fit whatever the ranks
pub without_calls : (talks doalls : Type 0) (p : Program) (ranks : ℕ → ℕ) (rank : ℕ) (shapes : List (List Dim)) (slots : ℕ) (s : Stmt) → StmtFits p ranks rank shapes slots s → HasOnly talks doalls ⊥ s → StmtFits p (λ u. 0) 0 shapes slots s
without_calls talks doalls p ranks rank shapes slots Skip f h = tt
without_calls talks doalls p ranks rank shapes slots (Seq x y) f h = (without_calls talks doalls p ranks rank shapes slots x f.0 h.0, without_calls talks doalls p ranks rank shapes slots y f.1 h.1)
without_calls talks doalls p ranks rank shapes slots (Assign line t value) f h = f
without_calls talks doalls p ranks rank shapes slots (If arms) f h = without_calls talks doalls p ranks rank shapes slots arms f h
without_calls talks doalls p ranks rank shapes slots (Arm line cond body other) f h =
    (f.0, without_calls talks doalls p ranks rank shapes slots body f.1 h.0, without_calls talks doalls p ranks rank shapes slots other f.2 h.1)
without_calls talks doalls p ranks rank shapes slots (Do k first body again bump) f h = (f.0, f.1, f.2, f.3, without_calls talks doalls p ranks rank shapes slots body f.4 h)
without_calls talks doalls p ranks rank shapes slots (Doall k number own body) f h = (f.0, f.1, f.2, f.3, without_calls ⊥ ⊥ p ranks rank shapes own body f.4 f.3)
without_calls talks doalls p ranks rank shapes slots (Call line number u actuals) f h = absurd h
without_calls talks doalls p ranks rank shapes slots (Print line items) f h = f
without_calls talks doalls p ranks rank shapes slots (Read line targets) f h = f

-- the body of a unit of the program
body_at : (units : List ProgramUnit) (k : ℕ) (d : ProgramUnit) → k < length units → stmts_of (get_or units k d).body ≡ body_in (slice_get (map unit_of units) k)
body_at [] k d lt = absurd (omega (arith, lt))
body_at (u ∷ units) zero d lt = refl
body_at (u ∷ units) (suc k) d lt = body_at units k d (omega (arith, lt))

-- statements that hold no CALL have no number to change
as_written : (talks doalls : Type 0) (p : Program) (ranks : ℕ → ℕ) (rank : ℕ) (shapes : List (List Dim)) (slots before : ℕ) (s : Stmt) →
    StmtFits p ranks rank shapes slots (calls_numbered before s) → HasOnly talks doalls ⊥ (calls_numbered before s) → calls_numbered before s ≡ s
as_written talks doalls p ranks rank shapes slots before Skip f h = refl
as_written talks doalls p ranks rank shapes slots before (Seq x y) f h =
    ap₂ Seq (as_written talks doalls p ranks rank shapes slots before x f.0 h.0) (as_written talks doalls p ranks rank shapes slots (before + calls_in x) y f.1 h.1)
as_written talks doalls p ranks rank shapes slots before (Assign line t value) f h = refl
as_written talks doalls p ranks rank shapes slots before (If arms) f h = ap If (as_written talks doalls p ranks rank shapes slots before arms f h)
as_written talks doalls p ranks rank shapes slots before (Arm line cond body other) f h =
    ap₂ (Arm line cond) (as_written talks doalls p ranks rank shapes slots before body f.1 h.0) (as_written talks doalls p ranks rank shapes slots (before + calls_in body) other f.2 h.1)
as_written talks doalls p ranks rank shapes slots before (Do k first body again bump) f h = ap (λ s. Do k first s again bump) (as_written talks doalls p ranks rank shapes slots before body f.4 h)
as_written talks doalls p ranks rank shapes slots before (Doall k number own body) f h = ap (Doall k number own) (as_written ⊥ ⊥ p ranks rank shapes own before body f.4 f.3)
as_written talks doalls p ranks rank shapes slots before (Call line number u actuals) f h = absurd h
as_written talks doalls p ranks rank shapes slots before (Print line items) f h = refl
as_written talks doalls p ranks rank shapes slots before (Read line targets) f h = refl

-- the body of a unit of a program without CALL is as it is written
pub body_is : (units : List ProgramUnit) (k : ℕ) (d : ProgramUnit) (p : Program) (ranks : ℕ → ℕ) (rank : ℕ) (shapes : List (List Dim)) → k < length units →
    StmtFits p ranks rank shapes 0 (body_in (slice_get (units_numbered 0 (map unit_of units)) k)) → HasOnly (Unit {0}) (Unit {0}) ⊥ (body_in (slice_get (units_numbered 0 (map unit_of units)) k))
    → stmts_of (get_or units k d).body ≡ body_in (slice_get (units_numbered 0 (map unit_of units)) k)
body_is units k d p ranks rank shapes lt fits calls =
    let n = body_numbered 0 (map unit_of units) k in
    let fit = subst (StmtFits p ranks rank shapes 0) n.1 fits in
    let none = subst (HasOnly (Unit {0}) (Unit {0}) ⊥) n.1 calls in
    body_at units k d lt ∙ sym (as_written (Unit {0}) (Unit {0}) p ranks rank shapes 0 n.0 (body_in (slice_get (map unit_of units) k)) fit none) ∙ sym n.1

-- a program has as many units as are written
pub units_many : (units : List ProgramUnit) → length (units_numbered 0 (map unit_of units)) ≡ length units
units_many units = as_many 0 (map unit_of units) ∙ length-map units unit_of

-- the process of a program is that of its main unit
pub process_is : (p : Program) (records : Input) (body : Stmt) → p.main < length p.units → shapes_in (slice_get p.units p.main) ≡ [] → body_of p p.main ≡ body →
    process_of p records ≡ stmt (λ number. unit p (length p.units - 1) (number ∷ [])) (record { path = []; objects = p.objects; shapes = []; bound = [] }) body (record { slots = zeros; input = records }) (λ c. Halt)
process_is p records body lt alone is =
    let some : length p.units ≡ suc (length p.units - 1) = omega arith in
    let c : Surroundings = record { slots = zeros; input = records } in
    let calls : Calls = λ number. unit p (length p.units - 1) (number ∷ []) in
    ap (λ n. unit p n [] p.main [] c (λ d. Halt)) some
    ∙ ap (λ (shapes : List (List Dim)). stmt calls (record { path = []; objects = p.objects; shapes = shapes; bound = [] }) (body_of p p.main) c (λ d. Halt)) alone
    ∙ ap (λ (b : Stmt). stmt calls (record { path = []; objects = p.objects; shapes = []; bound = [] }) b c (λ d. Halt)) is

-- a process that comes to its end comes to nothing further
module _ (texts : List (List ℕ)) (p : Process) (x y : State) where
  pub comes_over : (e : Result (Unit {0}) Stop) → Comes texts p x e Halt y → sink.Comes (meant texts p x.store) x.output.sent e over y.output.sent
  comes_over (Ok u) h = h.goes_on
  comes_over (Err (Faulted f)) h = h.goes_on
  comes_over (Err Sink) h = h

  pub tells_line : (r : Result (Unit {0}) Stop) (now : Option (List ℕ)) (risen : ℕ) (e : Result (Unit {0}) Stop) → x.output.is_open ≡ false → Comes texts p x e Halt y → IsHandedOn e y.output.sent r now risen
      → TellsLine (meant texts p x.store) (record { answer = answer_of r; is_open = y.output.is_open })
  tells_line r now risen (Ok u) shut h hands = λ sunk memory. sym h.line ∙ ap (λ o. opened o (meant texts p x.store).bytes) shut
  tells_line r now risen (Err (Faulted f)) shut h hands = λ sunk memory. sym h.line ∙ ap (λ o. opened o (meant texts p x.store).bytes) shut
  tells_line r now risen (Err Sink) shut h hands = λ sunk memory. absurd (sunk (ap answer_of hands.0))

-- the meaning of a program is that of its process on zeros
pub meaning_is : (p : Program) (records : Input) (q : Process) (s : Store) → process_of p records ≡ q → s ≡ zeros → record { bytes = bytes_of p.texts (output q s); end = ends q s } ≡ meaning p records
meaning_is p records q s is store =
    let m : Process → Store → Meaning = λ main t. record { bytes = bytes_of p.texts (output main t); end = ends main t } in
    ap₂ m (sym is) store
