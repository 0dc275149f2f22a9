-- What code that carries out trees owes: whatever follows, the process of the tree comes to what follows.
use Rattle.std.specs.Prelude.{◌≡◌, ℕ, ℤ, List, Option, Some, None, Result, Ok, Err}
use Rattle.cdc_prog.specs.declared.program.Dim.{Dim}
use Rattle.cdc_prog.specs.declared.program.FaultKind.{FaultKind}
use Rattle.cdc_prog.specs.Plain.{Expr, Exprs, Target}
use Rattle.cdc_prog.specs.Value.{Got}
use Rattle.cdc_prog.specs.Data.{Store, Binding, element}
use Rattle.cdc_prog.specs.Input.{Input}
use Rattle.cdc_prog.specs.Process.{Process, Fail, or_fail}
use Rattle.cdc_prog.specs.Expressions as process
use Rattle.cdc_prog.specs.Expressions.{Surroundings, expr, exprs, target}
use Rattle.cdc_prog.specs.Statements.{Work}
use Rattle.cdc_prog.specs.Held.{around, Same}
use Rattle.cdc_prog.specs.declared.fault.Fault.{Fault}
use Rattle.cdc_meaning.specs.declared.cell.Cell.{Cell}
use Rattle.cdc_meaning.specs.Cells.{reached}

-- what was got, or the fault that stands in its place with this line
abbrev pub IsAt : {A : Type 0} → (line : ℕ) → Got A → Result A Fault → Type 0
IsAt line got (Ok a) = got ≡ Ok a
IsAt line got (Err f) = (got ≡ Err f.kind) × (f.line ≡ line)

-- an expression hands its value to the rest, or the fault ends the program
abbrev pub Values : Binding → (line : ℕ) → Expr → (slots : List ℤ) → Store → Result ℤ Fault → Type 0
Values b line e slots s (Ok v) = (left : Input) (rest : ℤ → Process) → Same (expr b line e (around slots left) rest) s (rest v) s
Values b line e slots s (Err f) = (left : Input) (rest : ℤ → Process) → Same (expr b line e (around slots left) rest) s (Fail f.kind f.line) s

-- so do subscripts with the number of their element
abbrev pub Numbers : Binding → (line : ℕ) → List Dim → Exprs → (slots : List ℤ) → Store → Result ℕ Fault → Type 0
Numbers b line dims subs slots s (Ok n) =
    (left : Input) (rest : ℕ → Process) → Same (exprs b line subs (around slots left) (λ vs. or_fail line (element dims vs) rest)) s (rest n) s
Numbers b line dims subs slots s (Err f) =
    (left : Input) (rest : ℕ → Process) → Same (exprs b line subs (around slots left) (λ vs. or_fail line (element dims vs) rest)) s (Fail f.kind f.line) s

-- what was got, or none, and then the kind of fault that stands in its place
abbrev pub Notes : {A : Type 0} → Got A → Option A → FaultKind → Type 0
Notes (Ok a) (Some b) kind = a ≡ b
Notes (Err f) None kind = f ≡ kind
Notes got found kind = ⊥

-- an expression hands its value to the rest, or a fault of this kind ends the program, at every line
abbrev pub Gives : Binding → Expr → (slots : List ℤ) → Store → Option ℤ → FaultKind → Type 0
Gives b e slots s (Some v) kind = (line : ℕ) → Values b line e slots s (Ok v)
Gives b e slots s None kind = (line : ℕ) → Values b line e slots s (Err (record { kind = kind; line = line }))

-- so do subscripts with the number of their element
abbrev pub GivesNumber : Binding → List Dim → Exprs → (slots : List ℤ) → Store → Option ℕ → FaultKind → Type 0
GivesNumber b dims subs slots s (Some n) kind = (line : ℕ) → Numbers b line dims subs slots s (Ok n)
GivesNumber b dims subs slots s None kind = (line : ℕ) → Numbers b line dims subs slots s (Err (record { kind = kind; line = line }))

-- the cell of a target is handed to the rest
abbrev pub Locates : Binding → (line : ℕ) → Target → (slots : List ℤ) → Store → Result Cell Fault → Type 0
Locates b line t slots s (Ok cell) = (left : Input) (rest : process.Cell → Process) → Same (target b line t (around slots left) rest) s (rest (reached b.path t.at.site cell)) s
Locates b line t slots s (Err f) = (left : Input) (rest : process.Cell → Process) → Same (target b line t (around slots left) rest) s (Fail f.kind f.line) s

-- what prints nothing leads from surroundings and a store to others, or to a fault
abbrev pub Steps : Work → Surroundings → Store → Result (Unit {0}) Fault → Surroundings → Store → Type 0
Steps runs c s (Ok u) d t = (rest : Surroundings → Process) → Same (runs c rest) s (rest d) t
Steps runs c s (Err f) d t = (rest : Surroundings → Process) → Same (runs c rest) s (Fail f.kind f.line) t

-- so do statements that leave the input alone, whatever is left of it
abbrev pub StepsAlone : Work → (slots : List ℤ) → Store → Result (Unit {0}) Fault → (after : List ℤ) → Store → Type 0
StepsAlone runs slots s result after t = (left : Input) → Steps runs (around slots left) s result (around after left) t
