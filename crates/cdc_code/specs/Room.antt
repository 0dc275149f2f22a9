-- How much room a task takes.
use Rattle.std.specs.Prelude.{ℕ, suc, ◌<◌, ◌≤◌, List, [], ◌∷◌, length}
use Rattle.std.specs.List.{All}
use Rattle.cdc_prog.specs.Plain.{Expr, Number, Scalar, Element, Un, Bin, Exprs, Empty, More, Item, Text, Value, Control, Stmt, Skip, Seq, Assign, If, Arm, Do, Doall, Call, Print, Read, Actual, Whole, Copy, Program}
use Rattle.cdc_prog.specs.Units.{body_of}
use Rattle.cdc_code.specs.declared.room.TheConstants.{STACK, NEST, DEPTH, LOOPS, ARGUMENTS, SLOTS}
use Rattle.cdc_code.specs.declared.instr.Instr.{Instr}
use Rattle.cdc_code.specs.declared.instr.Instr.TheVariants as instr
use Rattle.cdc_code.specs.declared.code.Code.{Code}
use Rattle.cdc_code.specs.Act.{Act, Prints}
use Rattle.cdc_code.specs.Frames.{Frame}
use Rattle.cdc_prog.specs.Pieces.{IsThere}

-- `stack`, `loops` and `args` say how many numbers may lie on the stack, how many DO loops of one unit may be open, and how many arguments may be gathered
module _ (stack loops args : ℕ → Type 0) where
  -- an expression has room above k numbers: its second operand stands above the first, and each subscript above those before it
  abbrev mutual
    pub ExprRoom : (k : ℕ) → Expr → Type 0
    ExprRoom k (Number n) = stack (suc k)
    ExprRoom k (Scalar at) = stack (suc k)
    ExprRoom k (Element at subs) = ExprsRoom k subs × stack (suc k)
    ExprRoom k (Un op e) = ExprRoom k e
    ExprRoom k (Bin op e f) = ExprRoom k e × ExprRoom (suc k) f

    pub ExprsRoom : (k : ℕ) → Exprs → Type 0
    ExprsRoom k Empty = Unit {0}
    ExprsRoom k (More e es) = ExprRoom k e × ExprsRoom (suc k) es

  -- above the number of an element, where there is one
  abbrev pub ValueRoom : (subs : Exprs) → (value : Expr) → Type 0
  ValueRoom Empty value = ExprRoom 0 value
  ValueRoom (More e es) value = ExprRoom 1 value

  abbrev pub ControlRoom : Control → Type 0
  ControlRoom k = ExprRoom 0 k.from × ExprRoom 1 k.to × ExprRoom 2 k.by

  abbrev pub ItemRoom : Item → Type 0
  ItemRoom (Text number) = Unit {0}
  ItemRoom (Value value) = ExprRoom 0 value

  -- behind n arguments
  abbrev pub ActualsRoom : (n : ℕ) → List Actual → Type 0
  ActualsRoom n [] = Unit {0}
  ActualsRoom n (Whole v ∷ more) = args (suc n) × ActualsRoom (suc n) more
  ActualsRoom n (Copy at value ∷ more) = ExprRoom 0 value × args (suc n) × ActualsRoom (suc n) more

  -- where n DO loops of the unit are open
  abbrev pub StmtRoom : (n : ℕ) → Stmt → Type 0
  StmtRoom n Skip = Unit {0}
  StmtRoom n (Seq x y) = StmtRoom n x × StmtRoom n y
  StmtRoom n (Assign line t value) = ExprsRoom 0 t.subs × ValueRoom t.subs value
  StmtRoom n (If arms) = StmtRoom n arms
  StmtRoom n (Arm line cond body other) = ExprRoom 0 cond × StmtRoom n body × StmtRoom n other
  StmtRoom n (Do k first body again bump) = ControlRoom k × loops (suc n) × StmtRoom (suc n) body
  StmtRoom n (Doall k number slots body) = ControlRoom k × StmtRoom n body
  StmtRoom n (Call line number unit actuals) = ActualsRoom 0 actuals
  StmtRoom n (Print line items) = All ItemRoom items
  StmtRoom n (Read line targets) = All (λ t. ExprsRoom 0 t.subs) targets

-- the iterations of each DOALL have room for their slots
abbrev pub SlotsRoom : Stmt → Type 0
SlotsRoom (Seq x y) = SlotsRoom x × SlotsRoom y
SlotsRoom (If arms) = SlotsRoom arms
SlotsRoom (Arm line cond body other) = SlotsRoom body × SlotsRoom other
SlotsRoom (Do k first body again bump) = SlotsRoom body
SlotsRoom (Doall k number slots body) = (slots ≤ SLOTS) × SlotsRoom body
SlotsRoom t = Unit {0}

-- a program keeps to the room of a task
pub record HasRoom (p : Program) : Type 0 where
  pub units : length p.units ≤ DEPTH
  pub slots : (u : ℕ) → SlotsRoom (body_of p u)
  pub bodies : (u : ℕ) → StmtRoom (λ k. k ≤ STACK) (λ k. k ≤ NEST) (λ k. k ≤ ARGUMENTS) 0 (body_of p u)

-- a task keeps to its room
pub record IsWithin (f : Frame) : Type 0 where
  pub stack : length f.stack ≤ STACK
  pub loops : length f.kept.loops ≤ LOOPS
  pub args : length f.kept.args ≤ ARGUMENTS
  pub callers : length f.kept.callers < DEPTH

-- an instruction names a slot and a text that are there
abbrev pub IsNamed : (texts : ℕ) → Instr → Type 0
IsNamed texts (instr.Local k) = k < SLOTS
IsNamed texts (instr.Setlocal k) = k < SLOTS
IsNamed texts (instr.Text number) = number < texts
IsNamed texts i = Unit {0}

-- the code names no others
abbrev pub NamesWithin : Code → Type 0
NamesWithin code = All (λ i. IsNamed (length code.texts) i.instr) code.steps

-- a piece that is printed is there
abbrev pub SaysThere : (texts : ℕ) → Act Frame → Type 0
SaysThere texts (Prints piece next) = IsThere texts piece
SaysThere texts a = Unit {0}
