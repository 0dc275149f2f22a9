-- A task alone has one run, and code has one one-memory run.
use Rattle.std.proofs.Common.{◌≡◌, ℕ, zero, suc, ◌+◌, List, ◌++◌, Option, Some, None, refl, sym, ap, ap₂, ◌∙◌, subst, arith}
use Rattle.cdc_prog.specs.declared.piece.Piece.{Piece}
use Rattle.cdc_prog.specs.declared.fault.Fault.{Fault}
use Rattle.cdc_prog.specs.Data.{Store, put, zeros}
use Rattle.cdc_prog.specs.Input.{Input}
use Rattle.cdc_prog.specs.Alone.{Access, Read, Write}
use Rattle.cdc_prog.specs.InOrder.{End, Done, Faulted, Run}
use Rattle.cdc_prog.specs.Meaning.{Meaning, bytes_of}
use Rattle.cdc_code.specs.declared.code.Code.{Code}
use Rattle.cdc_code.specs.Act.{Act, Goes, Reads, Writes, Prints, Forks, Joins, Halts, Faults, Stuck}
use Rattle.cdc_code.specs.Frames.{Frame}
use Rattle.cdc_code.specs.Rows.{act, first_frame}
use Rattle.cdc_code.specs.Alone.{Ran, accessing, saying, act_on, alone, IsAlone, fault_in, Turned, Iterates, no_turn, one_turn, past_fault, IsOver, IsFork, Runs, halts, faults, faults_in, forks, RunsTo}

-- ---- a task alone
-- what one run gives the other gives too
abbrev Gives : Option Ran → Option Ran → Type 0
Gives o o' = (r : Ran) → o ≡ Some r → o' ≡ Some r

also_accesses : (a : Access) (o o' : Option Ran) → Gives o o' → Gives (accessing a o) (accessing a o')
also_accesses a None o' h r e = absurd (cc)
also_accesses a (Some r') o' h r e = ap (accessing a) (h r' refl) ∙ e

also_says : (piece : Piece) (o o' : Option Ran) → Gives o o' → Gives (saying piece o) (saying piece o')
also_says piece None o' h r e = absurd (cc)
also_says piece (Some r') o' h r e = ap (saying piece) (h r' refl) ∙ e

also_acts : (a : Act Frame) (s : Store) (go go' : Frame → Store → Option Ran) → ((f : Frame) (t : Store) → Gives (go f t) (go' f t)) → Gives (act_on a s go) (act_on a s go')
also_acts (Goes g) s go go' h = h g s
also_acts (Reads path site mark word next) s go go' h = also_accesses (Read path site word (s word)) (go (next (s word)) s) (go' (next (s word)) s) (h (next (s word)) s)
also_acts (Writes path site word v g) s go go' h = also_accesses (Write path site word v) (go g (put s word v)) (go' g (put s word v)) (h g (put s word v))
also_acts (Prints piece g) s go go' h = also_says piece (go g s) (go' g s) (h g s)
also_acts (Forks path number count from by body next) s go go' h = λ r e. e
also_acts Joins s go go' h = λ r e. e
also_acts Halts s go go' h = λ r e. e
also_acts (Faults kind line) s go go' h = λ r e. e
also_acts Stuck s go go' h = λ r e. e

module _ (code : Code) where
  -- more instructions change nothing
  longer : (n k : ℕ) (f : Frame) (s : Store) → Gives (alone code n f s) (alone code (n + k) f s)
  longer zero k f s r e = absurd (cc)
  longer (suc n) k f s r e =
      let z : suc n + k ≡ suc (n + k) = omega arith in
      ap (λ m. alone code m f s) z ∙ also_acts (act code f) s (alone code n) (alone code (n + k)) (λ g t. longer n k g t) r e

  pub same_ran : (f : Frame) (s : Store) (r r' : Ran) → IsAlone code f s r → IsAlone code f s r' → r ≡ r'
  same_ran f s r r' h h' =
      let e = longer h.0 h'.0 f s r h.1 in
      let e' = longer h'.0 h.0 f s r' h'.1 in
      let z : h'.0 + h.0 ≡ h.0 + h'.0 = omega arith in
      let both : Some r ≡ Some r' = sym e ∙ (ap (λ m. alone code m f s) (sym z) ∙ e') in
      cc

  -- ---- iterations
  same_turned : (body : ℕ → Frame) (s : Store) (k : ℕ) (i i' : Turned) → Iterates code body s k i → Iterates code body s k i' → i ≡ i'
  same_turned body s zero i i' no_turn no_turn = refl
  same_turned body s (suc k) i i' (one_turn _ j r it e al) (one_turn _ j' r' it' e' al') =
      let q = same_turned body s k j j' it it' in
      let al'' = subst (λ t. IsAlone code (body k) t r') (ap (λ (x : Turned). x.left) (sym q)) al' in
      ap₂ (λ (j : Turned) (r : Ran). let t : Turned = record { said = j.said ++ r.said; left = r.left; fault = fault_in r.ending } in t) q (same_ran (body k) j.left r r' al al'')
  same_turned body s (suc k) i i' (one_turn _ j r it e al) (past_fault _ j' fault it' e') =
      let q = same_turned body s k j j' it it' in
      let fault_of_both : None ≡ Some fault = sym e ∙ (ap (λ (x : Turned). x.fault) q ∙ e') in
      absurd (cc)
  same_turned body s (suc k) i i' (past_fault _ j fault it e) (one_turn _ j' r' it' e' al') =
      let q = same_turned body s k j j' it it' in
      let fault_of_both : None ≡ Some fault = sym e' ∙ (ap (λ (x : Turned). x.fault) (sym q) ∙ e) in
      absurd (cc)
  same_turned body s (suc k) i i' (past_fault _ j fault it e) (past_fault _ j' fault' it' e') = same_turned body s k i i' it it'

  -- ---- in order
  over_or_fault : (a : Act Frame) (fault : Fault) → IsOver a → fault_in a ≡ Some fault → ⊥
  over_or_fault (Goes g) fault o e = o
  over_or_fault (Reads path site mark word h) fault o e = o
  over_or_fault (Writes path site word v g) fault o e = o
  over_or_fault (Prints piece g) fault o e = o
  over_or_fault (Forks path number count from by body next) fault o e = o
  over_or_fault Joins fault o e = cc
  over_or_fault Halts fault o e = cc
  over_or_fault (Faults kind line) fault o e = o
  over_or_fault Stuck fault o e = o

  fork_or_over : (a : Act Frame) (count : ℕ) (body : ℕ → Frame) (next : Frame) → IsFork a count body next → IsOver a → ⊥
  fork_or_over (Goes g) count body next h o = h
  fork_or_over (Reads path site mark word k) count body next h o = h
  fork_or_over (Writes path site word v g) count body next h o = h
  fork_or_over (Prints piece g) count body next h o = h
  fork_or_over (Forks path number n from by e g) count body next h o = o
  fork_or_over Joins count body next h o = h
  fork_or_over Halts count body next h o = h
  fork_or_over (Faults kind line) count body next h o = h
  fork_or_over Stuck count body next h o = h

  fork_or_fault : (a : Act Frame) (count : ℕ) (body : ℕ → Frame) (next : Frame) (fault : Fault) → IsFork a count body next → fault_in a ≡ Some fault → ⊥
  fork_or_fault (Goes g) count body next fault h e = h
  fork_or_fault (Reads path site mark word k) count body next fault h e = h
  fork_or_fault (Writes path site word v g) count body next fault h e = h
  fork_or_fault (Prints piece g) count body next fault h e = h
  fork_or_fault (Forks path number n from by b g) count body next fault h e = cc
  fork_or_fault Joins count body next fault h e = h
  fork_or_fault Halts count body next fault h e = h
  fork_or_fault (Faults kind line) count body next fault h e = h
  fork_or_fault Stuck count body next fault h e = h

  -- two forks in one act are one
  record SameFork (count count' : ℕ) (body body' : ℕ → Frame) (next next' : Frame) : Type 0 where
    counts : count ≡ count'
    bodies : body ≡ body'
    nexts : next ≡ next'

  same_fork : (a : Act Frame) (count count' : ℕ) (body body' : ℕ → Frame) (next next' : Frame) → IsFork a count body next → IsFork a count' body' next' → SameFork count count' body body' next next'
  same_fork (Goes g) count count' body body' next next' h k = absurd h
  same_fork (Reads path site mark word g) count count' body body' next next' h k = absurd h
  same_fork (Writes path site word v g) count count' body body' next next' h k = absurd h
  same_fork (Prints piece g) count count' body body' next next' h k = absurd h
  same_fork (Forks path number n from by e g) count count' body body' next next' h k = record { counts = sym h.0 ∙ k.0; bodies = sym h.1 ∙ k.1; nexts = sym h.2 ∙ k.2 }
  same_fork Joins count count' body body' next next' h k = absurd h
  same_fork Halts count count' body body' next next' h k = absurd h
  same_fork (Faults kind line) count count' body body' next next' h k = absurd h
  same_fork Stuck count count' body body' next next' h k = absurd h

  -- the iterations of the same fork on the same store
  same_iterations : (s s' : Store) (count count' : ℕ) (body body' : ℕ → Frame) (i i' : Turned) → s ≡ s' → count ≡ count' → body ≡ body' → Iterates code body s count i → Iterates code body' s' count' i' → i ≡ i'
  same_iterations s s' count count' body body' i i' es ec eb it it' =
      let a = subst (λ t. Iterates code body' t count' i') (sym es) it' in
      let b = subst (λ n. Iterates code body' s n i') (sym ec) a in
      same_turned body s count i i' it (subst (λ (e : ℕ → Frame). Iterates code e s count i') (sym eb) b)

  pub same_run : (f : Frame) (s : Store) (x y : Run) → Runs code f s x → Runs code f s y → x ≡ y
  same_run f s x y (halts _ _ r al o) (halts _ _ r' al' o') =
      ap (λ (r : Ran). let t : Run = record { printed = r.said; end = Done } in t) (same_ran f s r r' al al')
  same_run f s x y (halts _ _ r al o) (faults _ _ r' fault al' e) =
      let q = same_ran f s r r' al al' in absurd (over_or_fault r'.ending fault (subst (λ (r : Ran). IsOver r.ending) q o) e)
  same_run f s x y (halts _ _ r al o) (faults_in _ _ r' count body next i fault al' h it e) =
      let q = same_ran f s r r' al al' in absurd (fork_or_over r'.ending count body next h (subst (λ (r : Ran). IsOver r.ending) q o))
  same_run f s x y (halts _ _ r al o) (forks _ _ r' count body next i rest al' h it e on) =
      let q = same_ran f s r r' al al' in absurd (fork_or_over r'.ending count body next h (subst (λ (r : Ran). IsOver r.ending) q o))
  same_run f s x y (faults _ _ r fault al e) (halts _ _ r' al' o) =
      let q = same_ran f s r r' al al' in absurd (over_or_fault r'.ending fault o (subst (λ (r : Ran). fault_in r.ending ≡ Some fault) q e))
  same_run f s x y (faults _ _ r fault al e) (faults _ _ r' fault' al' e') =
      let q = same_ran f s r r' al al' in
      let both : Some fault ≡ Some fault' = sym e ∙ (ap (λ (r : Ran). fault_in r.ending) q ∙ e') in
      let same : fault ≡ fault' = cc in
      ap₂ (λ (r : Ran) (f : Fault). let t : Run = record { printed = r.said; end = Faulted f } in t) q same
  same_run f s x y (faults _ _ r fault al e) (faults_in _ _ r' count body next i fault' al' h it e') =
      let q = same_ran f s r r' al al' in absurd (fork_or_fault r'.ending count body next fault h (subst (λ (r : Ran). fault_in r.ending ≡ Some fault) q e))
  same_run f s x y (faults _ _ r fault al e) (forks _ _ r' count body next i rest al' h it e' on) =
      let q = same_ran f s r r' al al' in absurd (fork_or_fault r'.ending count body next fault h (subst (λ (r : Ran). fault_in r.ending ≡ Some fault) q e))
  same_run f s x y (faults_in _ _ r count body next i fault al h it e) (halts _ _ r' al' o) =
      let q = same_ran f s r r' al al' in absurd (fork_or_over r'.ending count body next (subst (λ (r : Ran). IsFork r.ending count body next) q h) o)
  same_run f s x y (faults_in _ _ r count body next i fault al h it e) (faults _ _ r' fault' al' e') =
      let q = same_ran f s r r' al al' in absurd (fork_or_fault r'.ending count body next fault' (subst (λ (r : Ran). IsFork r.ending count body next) q h) e')
  same_run f s x y (faults_in _ _ r count body next i fault al h it e) (faults_in _ _ r' count' body' next' i' fault' al' h' it' e') =
      let q = same_ran f s r r' al al' in
      let fork = same_fork r'.ending count count' body body' next next' (subst (λ (r : Ran). IsFork r.ending count body next) q h) h' in
      let same = same_iterations r.left r'.left count count' body body' i i' (ap (λ (r : Ran). r.left) q) fork.counts fork.bodies it it' in
      let both : Some fault ≡ Some fault' = sym e ∙ (ap (λ (i : Turned). i.fault) same ∙ e') in
      let one_fault : fault ≡ fault' = cc in
      ap₂ (λ (pieces : List Piece) (f : Fault). let t : Run = record { printed = pieces; end = Faulted f } in t) (ap₂ (λ (r : Ran) (i : Turned). r.said ++ i.said) q same) one_fault
  same_run f s x y (faults_in _ _ r count body next i fault al h it e) (forks _ _ r' count' body' next' i' rest al' h' it' e' on) =
      let q = same_ran f s r r' al al' in
      let fork = same_fork r'.ending count count' body body' next next' (subst (λ (r : Ran). IsFork r.ending count body next) q h) h' in
      let same = same_iterations r.left r'.left count count' body body' i i' (ap (λ (r : Ran). r.left) q) fork.counts fork.bodies it it' in
      let both : Some fault ≡ None = sym e ∙ (ap (λ (i : Turned). i.fault) same ∙ e') in
      absurd (cc)
  same_run f s x y (forks _ _ r count body next i rest al h it e on) (halts _ _ r' al' o) =
      let q = same_ran f s r r' al al' in absurd (fork_or_over r'.ending count body next (subst (λ (r : Ran). IsFork r.ending count body next) q h) o)
  same_run f s x y (forks _ _ r count body next i rest al h it e on) (faults _ _ r' fault' al' e') =
      let q = same_ran f s r r' al al' in absurd (fork_or_fault r'.ending count body next fault' (subst (λ (r : Ran). IsFork r.ending count body next) q h) e')
  same_run f s x y (forks _ _ r count body next i rest al h it e on) (faults_in _ _ r' count' body' next' i' fault' al' h' it' e') =
      let q = same_ran f s r r' al al' in
      let fork = same_fork r'.ending count count' body body' next next' (subst (λ (r : Ran). IsFork r.ending count body next) q h) h' in
      let same = same_iterations r.left r'.left count count' body body' i i' (ap (λ (r : Ran). r.left) q) fork.counts fork.bodies it it' in
      let both : None ≡ Some fault' = sym e ∙ (ap (λ (i : Turned). i.fault) same ∙ e') in
      absurd (cc)
  same_run f s x y (forks _ _ r count body next i rest al h it e on) (forks _ _ r' count' body' next' i' rest' al' h' it' e' on') =
      let q = same_ran f s r r' al al' in
      let fork = same_fork r'.ending count count' body body' next next' (subst (λ (r : Ran). IsFork r.ending count body next) q h) h' in
      let same = same_iterations r.left r'.left count count' body body' i i' (ap (λ (r : Ran). r.left) q) fork.counts fork.bodies it it' in
      let on_same = subst (λ t. Runs code next t rest') (ap (λ (i : Turned). i.left) (sym same)) (subst (λ g. Runs code g i'.left rest') (sym fork.nexts) on') in
      let ended = same_run next i.left rest rest' on on_same in
      let pieces = ap₂ (λ (r : Ran) (i : Turned). r.said ++ (i.said ++ rest.printed)) q same in
      ap (λ (l : List Piece). let t : Run = record { printed = l; end = rest.end } in t) pieces
      ∙ ap (λ (w : Run). let t : Run = record { printed = r'.said ++ (i'.said ++ w.printed); end = w.end } in t) ended

pub one_run : (code : Code) (records : Input) (m m' : Meaning) → RunsTo code records m → RunsTo code records m' → m ≡ m'
one_run code records m m' h h' =
    let same = same_run code (first_frame code records) zeros h.0 h'.0 h.1 h'.1 in
    let bytes = h.2 ∙ (ap (λ (x : Run). bytes_of code.texts x.printed) same ∙ sym h'.2) in
    let end = h.3 ∙ (ap (λ (x : Run). x.end) same ∙ sym h'.3) in
    ap₂ (λ (b : List ℕ) (e : End). let t : Meaning = record { bytes = b; end = e } in t) bytes end
