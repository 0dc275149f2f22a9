-- The numbers of CALLs: from 1, in the order of the text through all units.
use Rattle.std.specs.Prelude.{ℕ, suc, ◌+◌, List, [], ◌∷◌, ◌++◌}
use Rattle.cdc_prog.specs.Plain.{Stmt, Skip, Seq, Assign, If, Arm, Do, Doall, Call, Print, Read, ProgramUnit, Program}

-- how many CALLs statements have
abbrev pub calls_in : Stmt → ℕ
calls_in Skip = 0
calls_in (Seq a b) = calls_in a + calls_in b
calls_in (Assign line target value) = 0
calls_in (If arms) = calls_in arms
calls_in (Arm line cond body other) = calls_in body + calls_in other
calls_in (Do k first body again bump) = calls_in body
calls_in (Doall k number slots body) = calls_in body
calls_in (Call line number unit actuals) = 1
calls_in (Print line items) = 0
calls_in (Read line targets) = 0

-- the statements with the numbers of their CALLs, where so many come before them
abbrev pub calls_numbered : (before : ℕ) → Stmt → Stmt
calls_numbered before Skip = Skip
calls_numbered before (Seq a b) = Seq (calls_numbered before a) (calls_numbered (before + calls_in a) b)
calls_numbered before (Assign line target value) = Assign line target value
calls_numbered before (If arms) = If (calls_numbered before arms)
calls_numbered before (Arm line cond body other) = Arm line cond (calls_numbered before body) (calls_numbered (before + calls_in body) other)
calls_numbered before (Do k first body again bump) = Do k first (calls_numbered before body) again bump
calls_numbered before (Doall k number slots body) = Doall k number slots (calls_numbered before body)
calls_numbered before (Call line number unit actuals) = Call line (suc before) unit actuals
calls_numbered before (Print line items) = Print line items
calls_numbered before (Read line targets) = Read line targets

abbrev pub units_numbered : (before : ℕ) → List ProgramUnit → List ProgramUnit
units_numbered before [] = []
units_numbered before (u ∷ us) =
    record { name = u.name; dummies = u.dummies; body = calls_numbered before u.body } ∷ units_numbered (before + calls_in u.body) us

-- the plain program with the numbers of its CALLs
abbrev pub program_numbered : Program → Program
program_numbered p = record p { units = units_numbered 0 p.units }

-- the numbers of CALLs, in the order of the text
abbrev pub call_numbers : Stmt → List ℕ
call_numbers Skip = []
call_numbers (Seq a b) = call_numbers a ++ call_numbers b
call_numbers (Assign line target value) = []
call_numbers (If arms) = call_numbers arms
call_numbers (Arm line cond body other) = call_numbers body ++ call_numbers other
call_numbers (Do k first body again bump) = call_numbers body
call_numbers (Doall k number slots body) = call_numbers body
call_numbers (Call line number unit actuals) = number ∷ []
call_numbers (Print line items) = []
call_numbers (Read line targets) = []

abbrev pub unit_call_numbers : List ProgramUnit → List ℕ
unit_call_numbers [] = []
unit_call_numbers (u ∷ us) = call_numbers u.body ++ unit_call_numbers us

abbrev pub calls_in_units : List ProgramUnit → ℕ
calls_in_units [] = 0
calls_in_units (u ∷ us) = calls_in u.body + calls_in_units us
