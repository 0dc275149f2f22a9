-- Parts of the code of statements, in the order in which they are written.
use Rattle.std.specs.Prelude.{ℕ, ◌+◌, ◌-◌, ◌<◌, All, Bool, true, false, ◌||◌, pos, List, [], ◌∷◌, ◌++◌, length, slice_set}
use Rattle.cdc_prog.specs.declared.program.Mark.{Mark}
use Rattle.cdc_prog.specs.Plain as tree
use Rattle.cdc_prog.specs.Plain.{Item, Value, Stmt, Skip, Seq, Assign, If, Arm, Do, Doall, Print, Read}
use Rattle.cdc_code.specs.declared.instr.Instr.TheVariants.{Jump, Jumpz, Text, Put, Gap}
use Rattle.cdc_code.specs.declared.instr.Step.{Step}
use Rattle.cdc_code.specs.Template.{at_line, expr_code}
use Rattle.cdc_emit.specs.declared.conditions.Pending.{Pending}

-- the space before an item of a PRINT
abbrev pub gap_code : (line : ℕ) → (is_first : Bool) → List Step
gap_code line true = []
gap_code line false = at_line line Gap ∷ []

abbrev pub item_code : List Mark → (line : ℕ) → (is_first : Bool) → Item → List Step
item_code marks line is_first (tree.Text number) = gap_code line is_first ++ (at_line line (Text number) ∷ [])
item_code marks line is_first (Value value) = expr_code marks line value ++ (gap_code line is_first ++ (at_line line Put ∷ []))

-- whether statements have code: of an IF without arms only the other part has
abbrev pub has_code : Stmt → Bool
has_code Skip = false
has_code (Seq x y) = has_code x || has_code y
has_code (Assign line target value) = true
has_code (If arms) = has_code arms
has_code (Arm line cond body other) = true
has_code (Do control first body again bump) = true
has_code (Doall control number slots body) = true
has_code (tree.Call line number unit actuals) = true
has_code (Print line items) = true
has_code (Read line targets) = true

-- the code of an arm, which ends in a jump out of the IF where code follows it
abbrev pub arm_code : (line : ℕ) → (cond body leave : List Step) → List Step
arm_code line cond body leave = cond ++ (at_line line (Jumpz (pos (length (body ++ leave) + 1))) ∷ (body ++ leave))

-- that jump before its operand is written, and the place where it is to be written
abbrev pub pending_code : (line : ℕ) → (is_followed : Bool) → List Step
pending_code line false = []
pending_code line true = at_line line (Jump (pos 0)) ∷ []

abbrev pub pending_at : (place line : ℕ) → (is_followed : Bool) → List Pending
pending_at place line false = []
pending_at place line true = record { place = place; line = line } ∷ []

abbrev pub AreWithin : List Step → List Pending → Type 0
AreWithin steps ends = All (λ p. p.place < length steps) ends

-- the operands of jumps to an end written, the last jump first
abbrev pub written : (end : ℕ) → List Pending → List Step → List Step
written end [] steps = steps
written end (p ∷ ps) steps = slice_set (written end ps steps) p.place (at_line p.line (Jump (pos (end - p.place))))

-- code with its jumps to its end written
abbrev pub closed : List Pending → List Step → List Step
closed ends steps = written (length steps) ends steps
