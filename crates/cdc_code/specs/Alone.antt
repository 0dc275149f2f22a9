-- A task alone on a store, and code in order on one memory.
use Rattle.std.specs.Prelude.{◌≡◌, ℕ, zero, suc, List, [], ◌∷◌, ◌++◌, Option, Some, None}
use Rattle.cdc_prog.specs.declared.fault.Fault.{Fault}
use Rattle.cdc_prog.specs.Data.{Store, put, zeros}
use Rattle.cdc_prog.specs.Input.{Input}
use Rattle.cdc_prog.specs.declared.piece.Piece.{Piece}
use Rattle.cdc_prog.specs.Alone.{Access, Read, Write}
use Rattle.cdc_prog.specs.InOrder.{Done, Faulted, Run}
use Rattle.cdc_prog.specs.Meaning.{Meaning, bytes_of}
use Rattle.cdc_code.specs.declared.code.Code.{Code}
use Rattle.cdc_code.specs.Act.{Act, Goes, Reads, Writes, Prints, Forks, Joins, Halts, Faults, Stuck}
use Rattle.cdc_code.specs.Frames.{Frame}
use Rattle.cdc_code.specs.Rows.{act, first_frame}

-- ---- a task alone
-- what a task does alone on a store: its accesses in order, the pieces that it prints, the store that it leaves, and the fork, join, halt or fault in which it ends
pub record Ran : Type 0 where
  pub accesses : List Access
  pub said : List Piece
  pub left : Store
  pub ending : Act Frame

abbrev pub accessing : Access → Option Ran → Option Ran
accessing a None = None
accessing a (Some r) = Some (record { accesses = a ∷ r.accesses; said = r.said; left = r.left; ending = r.ending })

abbrev pub saying : Piece → Option Ran → Option Ran
saying piece None = None
saying piece (Some r) = Some (record { accesses = r.accesses; said = piece ∷ r.said; left = r.left; ending = r.ending })

-- an act on a store, and then what follows
abbrev pub act_on : Act Frame → Store → (Frame → Store → Option Ran) → Option Ran
act_on (Goes g) s next = next g s
act_on (Reads path site mark word h) s next = accessing (Read path site word (s word)) (next (h (s word)) s)
act_on (Writes path site word v g) s next = accessing (Write path site word v) (next g (put s word v))
act_on (Prints piece g) s next = saying piece (next g s)
act_on Stuck s next = None
act_on ending s next = Some (record { accesses = []; said = []; left = s; ending = ending })

-- what a task does alone, if it ends within n instructions
abbrev pub alone : Code → (n : ℕ) → Frame → Store → Option Ran
alone code zero f s = None
alone code (suc n) f s = act_on (act code f) s (alone code n)

abbrev pub IsAlone : Code → Frame → Store → Ran → Type 0
IsAlone code f s r = (n : ℕ) × (alone code n f s ≡ Some r)

-- ---- in order
abbrev pub fault_in : Act Frame → Option Fault
fault_in (Faults kind line) = Some (record { kind = kind; line = line })
fault_in a = None

-- what iterations do in order: the pieces that they print, the store that they leave, and the first fault
pub record Turned : Type 0 where
  pub said : List Piece
  pub left : Store
  pub fault : Option Fault

-- the iterations below k, each alone on the store that the one before it left, up to the first fault
pub data Iterates (code : Code) (body : ℕ → Frame) (s : Store) : ℕ → Turned → Type 0 where
  no_turn : Iterates code body s 0 (record { said = []; left = s; fault = None })
  one_turn : (k : ℕ) (i : Turned) (r : Ran) → Iterates code body s k i → i.fault ≡ None → IsAlone code (body k) i.left r →
      Iterates code body s (suc k) (record { said = i.said ++ r.said; left = r.left; fault = fault_in r.ending })
  past_fault : (k : ℕ) (i : Turned) (fault : Fault) → Iterates code body s k i → i.fault ≡ Some fault → Iterates code body s (suc k) i

-- a task is over; a serial one comes to a halt, an iteration to a join
abbrev pub IsOver : Act Frame → Type 0
IsOver Halts = Unit {0}
IsOver Joins = Unit {0}
IsOver a = ⊥

-- the task forks so many iterations, and goes on from there after them
abbrev pub IsFork : Act Frame → (count : ℕ) → (body : ℕ → Frame) → (next : Frame) → Type 0
IsFork (Forks path number n from by e h) count body next = (n ≡ count) × (e ≡ body) × (h ≡ next)
IsFork a count body next = ⊥

-- the one-memory run: a serial task alone, and where it forks the iterations, and then the serial task that goes on after them, up to the halt or the first fault
pub data Runs (code : Code) : Frame → Store → Run → Type 0 where
  halts : (f : Frame) (s : Store) (r : Ran) → IsAlone code f s r → IsOver r.ending →
      Runs code f s (record { printed = r.said; end = Done })
  faults : (f : Frame) (s : Store) (r : Ran) (fault : Fault) → IsAlone code f s r → fault_in r.ending ≡ Some fault →
      Runs code f s (record { printed = r.said; end = Faulted fault })
  faults_in : (f : Frame) (s : Store) (r : Ran) (count : ℕ) (body : ℕ → Frame) (next : Frame) (i : Turned) (fault : Fault) →
      IsAlone code f s r → IsFork r.ending count body next → Iterates code body r.left count i → i.fault ≡ Some fault →
      Runs code f s (record { printed = r.said ++ i.said; end = Faulted fault })
  forks : (f : Frame) (s : Store) (r : Ran) (count : ℕ) (body : ℕ → Frame) (next : Frame) (i : Turned) (rest : Run) →
      IsAlone code f s r → IsFork r.ending count body next → Iterates code body r.left count i → i.fault ≡ None →
      Runs code next i.left rest → Runs code f s (record { printed = r.said ++ (i.said ++ rest.printed); end = rest.end })

-- code on this input prints these bytes and has this end, on one memory of zeros
abbrev pub RunsTo : Code → Input → Meaning → Type 0
RunsTo code records m = (run : Run) × Runs code (first_frame code records) zeros run × (m.bytes ≡ bytes_of code.texts run.printed) × (m.end ≡ run.end)
