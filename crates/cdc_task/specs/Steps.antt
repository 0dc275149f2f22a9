-- What one instruction of a task owes.
use Rattle.std.specs.Prelude.{◌≡◌, ℕ, ◌+◌, ◌<◌, ◌≤◌, ℤ, pos, ◌+ℤ◌, ◌*ℤ◌, List, [], get_or, slice_get, MatchOption}
use Rattle.cdc_prog.specs.declared.program.Dim.{Dim}
use Rattle.cdc_prog.specs.declared.program.Kind.TheVariants.{Words}
use Rattle.cdc_prog.specs.Limits.{limit}
use Rattle.cdc_prog.specs.Trips.{HasIndexes}
use Rattle.cdc_prog.specs.Data.{size_of, dims_at}
use Rattle.cdc_prog.specs.declared.piece.Piece.{Piece}
use Rattle.cdc_prog.specs.Input.{Input}
use Rattle.cdc_prog.specs.Expressions.{Surroundings}
use Rattle.cdc_code.specs.declared.code.Code.{Code}
use Rattle.cdc_code.specs.declared.instr.Instr.{Instr}
use Rattle.cdc_code.specs.declared.instr.Instr.TheVariants as instr
use Rattle.cdc_code.specs.declared.room.TheConstants.{SLOTS}
use Rattle.cdc_code.specs.Act.{Act, Goes, Reads, Writes, Prints, Forks, Joins, Halts, Faults, Stuck}
use Rattle.cdc_code.specs.Frames.{Kept, Frame, stands}
use Rattle.cdc_code.specs.Rows.{binding_at, act_at, act}
use Rattle.cdc_code.specs.Room.{IsWithin}
use Rattle.cdc_task.specs.declared.port.Port.{Ghosts}
use Rattle.cdc_task.specs.declared.end.StepEnd.{StepEnd}
use Rattle.cdc_task.specs.declared.end.StepEnd.TheVariants.{Went, Printed, Forked, Joined, Halted, Faulted}
use Rattle.cdc_task.specs.Held.{Held, kept_of, around_of, StandsIn, resumed, begun}

-- ---- a task that goes on
-- an act leads to frames that keep to the room of a task, and to one of so many words; no task is stuck
abbrev pub IsFit : (words : ℕ) → Act Frame → Type 0
IsFit words (Goes g) = IsWithin g
IsFit words (Reads path site mark word next) = (word < words) × ((v : ℤ) → IsWithin (next v))
IsFit words (Writes path site word v g) = (word < words) × IsWithin g
IsFit words (Prints piece g) = IsWithin g
IsFit words (Forks path number count from by body next) = IsWithin next
IsFit words Joins = Unit {0}
IsFit words Halts = Unit {0}
IsFit words (Faults kind line) = Unit {0}
IsFit words Stuck = ⊥

-- an array has elements, and no more than memory can have words
abbrev pub IsArray : List Dim → Type 0
IsArray dims = (0 < size_of dims) × (size_of dims ≤ limit Words)

-- what an instruction of a unit names is there: a slot, and an array that is indexed
abbrev pub NamesRight : Code → (unit : ℕ) → Instr → Type 0
NamesRight code unit (instr.Local k) = k < SLOTS
NamesRight code unit (instr.Setlocal k) = k < SLOTS
NamesRight code unit (instr.Index v) = IsArray (dims_at code.objects (get_or code.shapes unit []) v)
NamesRight code unit i = Unit {0}

-- a task that stands there goes on, or ends: its instruction is not stuck, keeps to the room of a task and to the words of memory, and what it names is there
pub record GoesOn (code : Code) (f : Frame) : Type 0 where
  pub acts : IsFit code.words (act code f)
  pub names : MatchOption (slice_get code.steps f.pc) (Unit {0}) (λ i. NamesRight code f.kept.unit i.instr)

-- ---- what a step does
-- an act that touches no memory, the answer to it, and what the task holds then
abbrev pub Quiet : Input → Act Frame → StepEnd → Held → Type 0
Quiet records (Goes g) Went h = StandsIn records h g
Quiet records (Prints piece g) (Printed said) h = (said ≡ piece) × StandsIn records h g
Quiet records (Forks path number count from by body next) (Forked n k m d) h =
    (n ≡ number) × (k ≡ count) × (m ≡ from) × (d ≡ by) × StandsIn records (resumed h) next × ((j : ℕ) → begun path records h (from +ℤ (pos j *ℤ by)) ≡ body j) × HasIndexes count from by
Quiet records Joins Joined h = Unit {0}
Quiet records Halts Halted h = Unit {0}
Quiet records (Faults kind line) (Faulted k at) h = (k ≡ kind) × (at ≡ line)
Quiet records a end h = ⊥

-- an act, the port before it, the answer, what the task holds then, and the port then: the one access is a stated step of the port, or the port stays
abbrev pub Stepped : {P : Type 0} → Ghosts P → Input → Act Frame → P → StepEnd → Held → P → Type 0
Stepped port records (Reads path site mark word next) p end h q = (end ≡ Went) × (v : ℤ) × port.loads p word mark v q × StandsIn records h (next v)
Stepped port records (Writes path site word v g) p end h q = (end ≡ Went) × port.stores p word v q × StandsIn records h g
Stepped port records a p end h q = Quiet records a end h × (q ≡ p)

-- ---- one instruction
-- what an instruction at a line does to a task
abbrev pub does : Code → Instr → (line : ℕ) → (pc : ℕ) → List ℤ → Kept → Surroundings → Act Frame
does code i line pc s l c = act_at code (binding_at code l) i line pc s l c

-- under a call path, on records
abbrev pub at_held : (ℕ → List ℤ → Kept → Surroundings → Act Frame) → (path : List ℕ) → Input → Held → Act Frame
at_held go path records h = go h.pc h.stack (kept_of path h) (around_of records h)

abbrev pub FitsIn : (words : ℕ) → Input → (ℕ → List ℤ → Kept → Surroundings → Act Frame) → Held → Type 0
FitsIn words records go h = (path : List ℕ) × IsFit words (at_held go path records h)

abbrev pub EndsOn : Input → (ℕ → List ℤ → Kept → Surroundings → Act Frame) → Held → StepEnd → Held → Type 0
EndsOn records go before end after = (path : List ℕ) → Quiet records (at_held go path records before) end after

abbrev pub StepsOn : {P : Type 0} → Ghosts P → Input → (ℕ → List ℤ → Kept → Surroundings → Act Frame) → Held → P → StepEnd → Held → P → Type 0
StepsOn port records go before p end after q = (path : List ℕ) → Stepped port records (at_held go path records before) p end after q

-- whatever the code and the records are, of which this instruction asks nothing
abbrev pub FitsAt : Instr → (line : ℕ) → Held → Type 0
FitsAt i line h = (code : Code) × (words : ℕ) × (records : Input) × FitsIn words records (does code i line) h

abbrev pub EndsAt : Instr → (line : ℕ) → Held → StepEnd → Held → Type 0
EndsAt i line before end after = (code : Code) (records : Input) → EndsOn records (does code i line) before end after

-- and whatever the line is
abbrev pub Fits : Instr → Held → Type 0
Fits i h = (line : ℕ) × FitsAt i line h

abbrev pub Ends : Instr → Held → StepEnd → Held → Type 0
Ends i before end after = (line : ℕ) → EndsAt i line before end after

-- a piece is printed
abbrev pub Says : Piece → Held → StepEnd → Held → Type 0
Says piece before end after = (records : Input) → EndsOn records (λ pc s l c. Prints piece (stands (pc + 1) s l c)) before end after

-- ---- kinds of instructions
abbrev pub TouchesNothing : Instr → Type 0
TouchesNothing (instr.Load v site mark) = ⊥
TouchesNothing (instr.Loade v site mark) = ⊥
TouchesNothing (instr.Store v site) = ⊥
TouchesNothing (instr.Storee v site) = ⊥
TouchesNothing i = Unit {0}

-- the operators, and the instructions that few statements have
abbrev pub IsOperation : Instr → Type 0
IsOperation (instr.Load v site mark) = ⊥
IsOperation (instr.Loade v site mark) = ⊥
IsOperation (instr.Store v site) = ⊥
IsOperation (instr.Storee v site) = ⊥
IsOperation (instr.Const number) = ⊥
IsOperation (instr.Local k) = ⊥
IsOperation (instr.Setlocal k) = ⊥
IsOperation (instr.Index v) = ⊥
IsOperation (instr.Jump by) = ⊥
IsOperation (instr.Jumpz by) = ⊥
IsOperation (instr.Dotest by) = ⊥
IsOperation instr.Doadd = ⊥
IsOperation instr.Join = ⊥
IsOperation i = Unit {0}

abbrev pub IsRare : Instr → Type 0
IsRare instr.Neg = Unit {0}
IsRare instr.Abs = Unit {0}
IsRare instr.Not = Unit {0}
IsRare instr.Doinit = Unit {0}
IsRare instr.Take = Unit {0}
IsRare instr.RecordEnd = Unit {0}
IsRare instr.Put = Unit {0}
IsRare instr.Gap = Unit {0}
IsRare (instr.Text number) = Unit {0}
IsRare instr.Line = Unit {0}
IsRare (instr.Arg v) = Unit {0}
IsRare (instr.Call unit) = Unit {0}
IsRare instr.Return = Unit {0}
IsRare (instr.Fork number by) = Unit {0}
IsRare instr.Halt = Unit {0}
IsRare i = ⊥
