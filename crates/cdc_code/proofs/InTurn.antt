-- The iterations of a fork one after another, from the first on.
use Rattle.std.proofs.Common.{◌≡◌, ℕ, zero, suc, ◌+◌, ℤ, List, [], ◌++◌, Option, Some, None, refl, sym, ap, ap₂, ◌∙◌, arith, append_assoc}
use Rattle.std.proofs.lemmas.List.{append-nil}
use Rattle.cdc_prog.specs.declared.piece.Piece.{Piece}
use Rattle.cdc_prog.specs.declared.fault.Fault.{Fault}
use Rattle.cdc_prog.specs.Data.{Store}
use Rattle.cdc_prog.specs.Process.{Process, Fork}
use Rattle.cdc_prog.specs.Alone.{left, said, ending}
use Rattle.cdc_prog.specs.InOrder.{Faulted, fault_of, or_else, choose, after, first_fault, printed_below, output, ends, Run, run}

-- a run with pieces before it
abbrev pub behind : List Piece → Run → Run
behind pieces r = record { printed = pieces ++ r.printed; end = r.end }

abbrev pub stopped : Fault → Run
stopped f = record { printed = []; end = Faulted f }

-- iteration k and m - 1 more, each alone on the store that the one before it left, and then what follows; or up to the first fault
abbrev pub in_turn : (m k : ℕ) → (ℕ → Process) → (next : Process) → Store → Run
in_turn zero k body next s = run next s
in_turn (suc m) k body next s = behind (said (body k) s) (choose (fault_of (ending (body k) s)) stopped (in_turn m (suc k) body next (left (body k) s)))

module _ (body : ℕ → Process) (next : Process) (s : Store) where
  -- the run of a fork of n iterations, where this is the first fault
  abbrev ran : ℕ → Option Fault → Run
  ran n o = record { printed = printed_below n body s ++ choose o (λ f. []) (output next (after n body s)); end = choose o Faulted (ends next (after n body s)) }

  -- nothing comes after a fault
  still_faulted : (j k : ℕ) (f : Fault) → first_fault k body s ≡ Some f → first_fault (k + j) body s ≡ Some f
  still_faulted zero k f e = let z : k + 0 ≡ k = omega arith in ap (λ n. first_fault n body s) z ∙ e
  still_faulted (suc j) k f e =
      let z : k + suc j ≡ suc (k + j) = omega arith in
      ap (λ n. first_fault n body s) z ∙ ap (λ o. or_else o (fault_of (ending (body (k + j)) (after (k + j) body s)))) (still_faulted j k f e)

  still_printed : (j k : ℕ) (f : Fault) → first_fault k body s ≡ Some f → printed_below (k + j) body s ≡ printed_below k body s
  still_printed zero k f e = let z : k + 0 ≡ k = omega arith in ap (λ n. printed_below n body s) z
  still_printed (suc j) k f e =
      let z : k + suc j ≡ suc (k + j) = omega arith in
      ap (λ n. printed_below n body s) z
      ∙ (ap (λ o. printed_below (k + j) body s ++ choose o (λ f. []) (said (body (k + j)) (after (k + j) body s))) (still_faulted j k f e)
      ∙ (append-nil (printed_below (k + j) body s) ∙ still_printed j k f e))

  -- from iteration k on, where none before it faulted and what follows is known
  one_on : (m k : ℕ) (o : Option Fault) → first_fault k body s ≡ None → fault_of (ending (body k) (after k body s)) ≡ o
      → ((e : first_fault (suc k) body s ≡ None) → ran (suc k + m) (first_fault (suc k + m) body s) ≡ behind (printed_below (suc k) body s) (in_turn m (suc k) body next (after (suc k) body s)))
      → ran (k + suc m) (first_fault (k + suc m) body s) ≡ behind (printed_below k body s) (in_turn (suc m) k body next (after k body s))
  one_on m k None none_yet e on =
      let t = after k body s in
      let z : k + suc m ≡ suc k + m = omega arith in
      let first : first_fault (suc k) body s ≡ None = ap₂ or_else none_yet e in
      let rest = in_turn m (suc k) body next (after (suc k) body s) in
      let here : printed_below (suc k) body s ≡ printed_below k body s ++ said (body k) t = ap (λ o. printed_below k body s ++ choose o (λ f. []) (said (body k) t)) none_yet in
      ap (λ n. ran n (first_fault n body s)) z
      ∙ (on first
      ∙ (ap (λ l. behind l rest) here
      ∙ (ap (λ l. let r : Run = record { printed = l; end = rest.end } in r) (append_assoc (printed_below k body s) (said (body k) t) rest.printed)
      ∙ ap (λ o. behind (printed_below k body s) (behind (said (body k) t) (choose o stopped rest))) (sym e))))
  one_on m k (Some f) none_yet e on =
      let t = after k body s in
      let z : k + suc m ≡ suc k + m = omega arith in
      let first : first_fault (suc k) body s ≡ Some f = ap₂ or_else none_yet e in
      let here : printed_below (suc k) body s ≡ printed_below k body s ++ said (body k) t = ap (λ o. printed_below k body s ++ choose o (λ f. []) (said (body k) t)) none_yet in
      ap (λ n. ran n (first_fault n body s)) z
      ∙ (ap (ran (suc k + m)) (still_faulted m (suc k) f first)
      ∙ (ap (λ l. let r : Run = record { printed = l ++ []; end = Faulted f } in r) (still_printed m (suc k) f first ∙ here)
      ∙ (ap (λ l. let r : Run = record { printed = l; end = Faulted f } in r) (append_assoc (printed_below k body s) (said (body k) t) [])
      ∙ ap (λ o. behind (printed_below k body s) (behind (said (body k) t) (choose o stopped (in_turn m (suc k) body next (left (body k) t))))) (sym e))))

  -- from iteration k on, where none before it faulted
  from_on : (m k : ℕ) → first_fault k body s ≡ None → ran (k + m) (first_fault (k + m) body s) ≡ behind (printed_below k body s) (in_turn m k body next (after k body s))
  from_on zero k none_yet =
      let z : k + 0 ≡ k = omega arith in
      ap (λ n. ran n (first_fault n body s)) z ∙ ap (ran k) none_yet
  from_on (suc m) k none_yet = one_on m k (fault_of (ending (body k) (after k body s))) none_yet refl (λ e. from_on m (suc k) e)

-- a fork runs its iterations in turn, and then what follows
pub fork_in_turn : (path : List ℕ) (number n : ℕ) (from by : ℤ) (body : ℕ → Process) (next : Process) (s : Store) → run (Fork path number n from by body next) s ≡ in_turn n 0 body next s
fork_in_turn path number n from by body next s =
    let z : 0 + n ≡ n = omega arith in
    ap (λ m. ran body next s m (first_fault m body s)) (sym z) ∙ from_on body next s n 0 refl
