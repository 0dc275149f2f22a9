-- What runs are left.
use Rattle.std.proofs.Common.{◌≡◌, ℕ, zero, suc, ℤ, List, ◌++◌, Option, None, refl, sym, ap, ap₂, ◌∙◌, append_assoc}
use Rattle.cdc_prog.specs.declared.fault.Fault.{Fault}
use Rattle.cdc_prog.specs.declared.piece.Piece.{Piece}
use Rattle.cdc_prog.specs.declared.program.FaultKind.{FaultKind}
use Rattle.cdc_prog.specs.Data.{Store}
use Rattle.cdc_prog.specs.Process.{Process, Fork, Fail}
use Rattle.cdc_prog.specs.Alone.{left, said, ending}
use Rattle.cdc_prog.specs.InOrder.{End, fault_of, choose, output, ends, Run, run}
use Rattle.cdc_prog.proofs.InOrder.{output_rest, ends_rest}
use Rattle.cdc_code.proofs.OneStep.{Leads, IsAtEnd}
use Rattle.cdc_code.proofs.InTurn.{in_turn, fork_in_turn}
use Rattle.cdc_task.specs.Running.{behind, stopped, turn, turns}

abbrev run_of : List Piece → End → Run
run_of printed end = record { printed = printed; end = end }

-- ---- an iteration
pub leads_turn : (q : Process) (s : Store) (pieces : List Piece) (p : Process) (t : Store) (rest : Run) → Leads q s pieces p t → turn q s rest ≡ behind pieces (turn p t rest)
leads_turn q s pieces p t rest l =
    ap₂ (λ (said : List Piece) (e : Process). behind said (choose (fault_of e) stopped rest)) l.said l.ending
    ∙ ap (λ printed. run_of printed (turn p t rest).end) (append_assoc pieces (said p t) (choose (fault_of (ending p t)) stopped rest).printed)

pub joins_turn : (q : Process) (s : Store) (r : Process) (rest : Run) → IsAtEnd q s r → fault_of r ≡ None → turn q s rest ≡ rest
joins_turn q s r rest e none =
    ap₂ (λ (said : List Piece) (o : Option Fault). behind said (choose o stopped rest)) e.said (ap fault_of e.ending ∙ none)

pub fails_turn : (q : Process) (s : Store) (kind : FaultKind) (line : ℕ) (rest : Run) → IsAtEnd q s (Fail kind line) → turn q s rest ≡ stopped (record { kind = kind; line = line })
fails_turn q s kind line rest e =
    ap₂ (λ (said : List Piece) (o : Option Fault). behind said (choose o stopped rest)) e.said (ap fault_of e.ending)

-- ---- a serial task
pub leads_run : (q : Process) (s : Store) (pieces : List Piece) (p : Process) (t : Store) → Leads q s pieces p t → run q s ≡ behind pieces (run p t)
leads_run q s pieces p t l =
    let outer = ap₂ (λ (e : Process) (u : Store). output e u) l.ending l.left in
    ap₂ run_of
    (output_rest q s ∙ (ap₂ (λ (a b : List Piece). a ++ b) l.said outer ∙ (append_assoc pieces (said p t) (output (ending p t) (left p t)) ∙ ap (λ l. pieces ++ l) (sym (output_rest p t)))))
    (ends_rest q s ∙ (ap₂ (λ (e : Process) (u : Store). ends e u) l.ending l.left ∙ sym (ends_rest p t)))

pub ends_run : (q : Process) (s : Store) (r : Process) → IsAtEnd q s r → run q s ≡ run r s
ends_run q s r e =
    ap₂ run_of
    (output_rest q s ∙ ap₂ (λ (a b : List Piece). a ++ b) e.said (ap₂ (λ (e : Process) (u : Store). output e u) e.ending e.left))
    (ends_rest q s ∙ ap₂ (λ (e : Process) (u : Store). ends e u) e.ending e.left)

as_turns : (m k : ℕ) (body : ℕ → Process) (next : Process) (s : Store) → in_turn m k body next s ≡ turns m k body s (run next)
as_turns zero k body next s = refl
as_turns (suc m) k body next s = ap (turn (body k) s) (as_turns m (suc k) body next (left (body k) s))

pub forks_run : (q : Process) (s : Store) (path : List ℕ) (number n : ℕ) (from by : ℤ) (body : ℕ → Process) (next : Process) → IsAtEnd q s (Fork path number n from by body next) → run q s ≡ turns n 0 body s (run next)
forks_run q s path number n from by body next e =
    ends_run q s _ e ∙ (fork_in_turn path number n from by body next s ∙ as_turns n 0 body next s)
