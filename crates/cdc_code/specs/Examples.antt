-- The code of some programs, written out.
use Rattle.std.specs.Prelude.{◌≡◌, ℕ, pos, negsuc, List, [], ◌∷◌, ◌++◌, map, Option, Some, None}
use Rattle.cdc_prog.specs.declared.expr.Var.TheVariants.{Object, Dummy}
use Rattle.cdc_prog.specs.declared.program.Mark.TheVariants.{Ordinary}
use Rattle.cdc_prog.specs.declared.program.Marks.{Marks}
use Rattle.cdc_prog.specs.Plain.{Program}
use Rattle.cdc_prog.specs.Data.{zeros}
use Rattle.cdc_prog.specs.declared.piece.Piece.TheVariants as piece
use Rattle.cdc_prog.specs.declared.piece.Piece.{Piece}
use Rattle.cdc_prog.specs.Examples.{one, largest, records, least, calls}
use Rattle.cdc_code.specs.declared.instr.Instr.{Instr}
use Rattle.cdc_code.specs.declared.instr.Instr.TheVariants.{Const, Local, Index, Load, Loade, Store, Storee, Add, Eq, Jump, Jumpz, Doinit, Dotest, Doadd, Take, RecordEnd, Put, Gap, Text, Line, Arg, Call, Return, Fork, Join, Halt}
use Rattle.cdc_code.specs.declared.instr.Step.{Step}
use Rattle.cdc_code.specs.declared.code.Code.{Code}
use Rattle.cdc_code.specs.Rows.{call_number, first_frame}
use Rattle.cdc_code.specs.Template.{at_line, HasCallNumbers, code_of}
use Rattle.cdc_code.specs.Room.{HasRoom}
use Rattle.cdc_code.specs.Alone.{Ran, alone}

-- the code of a program whose reads are all ordinary
abbrev pub unmarked : Program → Code
unmarked p = let marks : Marks = record { reads = []; entries = []; exits = [] } in code_of p marks

abbrev pub lines : ℕ → List Instr → List Step
lines line is = map (at_line line) is

-- N = 2 + 3; PRINT *, N + 1
abbrev pub one_code : List Step
one_code =
    let n = Object 0 in
    lines 2 (Const (pos 2) ∷ Const (pos 3) ∷ Add ∷ Store n 1 ∷ [])
    ++ (lines 3 (Load n 2 Ordinary ∷ Const (pos 1) ∷ Add ∷ Put ∷ Line ∷ [])
    ++ lines 0 (Halt ∷ []))

-- DO K = 9223372036854775806, 9223372036854775807; PRINT *, K; END DO
abbrev pub largest_code : List Step
largest_code =
    let k = Object 0 in
    lines 2 (Const (pos 9223372036854775806) ∷ Const (pos 9223372036854775807) ∷ Const (pos 1) ∷ Doinit ∷ Store k 1 ∷ Dotest (pos 8) ∷ [])
    ++ (lines 3 (Load k 2 Ordinary ∷ Put ∷ Line ∷ [])
    ++ (lines 2 (Load k 3 Ordinary ∷ Doadd ∷ Store k 4 ∷ Jump (negsuc 6) ∷ [])
    ++ lines 0 (Halt ∷ [])))

-- READ *, I, J; READ *, K; PRINT *, I, J, K; READ *, L
abbrev pub records_code : List Step
records_code =
    let i = Object 0 in let j = Object 1 in let k = Object 2 in let l = Object 3 in
    lines 2 (Take ∷ Store i 1 ∷ Take ∷ Store j 2 ∷ RecordEnd ∷ [])
    ++ (lines 3 (Take ∷ Store k 3 ∷ RecordEnd ∷ [])
    ++ (lines 4 (Load i 4 Ordinary ∷ Put ∷ Load j 5 Ordinary ∷ Gap ∷ Put ∷ Load k 6 Ordinary ∷ Gap ∷ Put ∷ Line ∷ [])
    ++ (lines 5 (Take ∷ Store l 7 ∷ RecordEnd ∷ [])
    ++ lines 0 (Halt ∷ []))))

-- PRINT *, 'a'; DOALL I = 1, 4; IF (I == 2) A(I + 9) = 1; IF (I == 4) A(I) = 9223372036854775807 + I; END DOALL
abbrev pub least_code : List Step
least_code =
    let a = Object 0 in
    lines 3 (Text 0 ∷ Line ∷ [])
    ++ (lines 4 (Const (pos 1) ∷ Const (pos 4) ∷ Const (pos 1) ∷ Fork 1 (pos 22) ∷ [])
    ++ (lines 5 (Local 0 ∷ Const (pos 2) ∷ Eq ∷ Jumpz (pos 7) ∷ Local 0 ∷ Const (pos 9) ∷ Add ∷ Index a ∷ Const (pos 1) ∷ Storee a 1 ∷ [])
    ++ (lines 6 (Local 0 ∷ Const (pos 4) ∷ Eq ∷ Jumpz (pos 7) ∷ Local 0 ∷ Index a ∷ Const (pos 9223372036854775807) ∷ Local 0 ∷ Add ∷ Storee a 2 ∷ [])
    ++ (lines 4 (Join ∷ [])
    ++ lines 0 (Halt ∷ [])))))

-- CALL S(A, 1 + 2); N = 7; CALL S(A, N); PRINT *, A(1), A(2), N; and SUBROUTINE S(X, K), which keeps L: L = L + 1; X(L) = K; PRINT *, L, K
abbrev pub calls_code : List Step
calls_code =
    let a = Object 0 in let n = Object 1 in let hidden = Object 2 in let l = Object 3 in let x = Dummy 0 in let k = Dummy 1 in
    lines 2 (Arg a ∷ Const (pos 1) ∷ Const (pos 2) ∷ Add ∷ Store hidden 1 ∷ Arg hidden ∷ Call 1 ∷ [])
    ++ (lines 3 (Const (pos 7) ∷ Store n 2 ∷ [])
    ++ (lines 4 (Arg a ∷ Arg n ∷ Call 1 ∷ [])
    ++ (lines 5 (Const (pos 1) ∷ Index a ∷ Loade a 3 Ordinary ∷ Put ∷ Const (pos 2) ∷ Index a ∷ Loade a 4 Ordinary ∷ Gap ∷ Put ∷ Load n 5 Ordinary ∷ Gap ∷ Put ∷ Line ∷ [])
    ++ (lines 0 (Halt ∷ [])
    ++ (lines 8 (Load l 6 Ordinary ∷ Const (pos 1) ∷ Add ∷ Store l 7 ∷ [])
    ++ (lines 9 (Load l 8 Ordinary ∷ Index x ∷ Load k 9 Ordinary ∷ Storee x 10 ∷ [])
    ++ (lines 10 (Load l 11 Ordinary ∷ Put ∷ Load k 12 Ordinary ∷ Gap ∷ Put ∷ Line ∷ [])
    ++ lines 0 (Return ∷ []))))))))

-- what a task printed, if it ended
abbrev pub said_in : Option Ran → List Piece
said_in None = []
said_in (Some r) = r.said

pub record ExamplesAreCoded : Type 0 where
  pub of_one : (unmarked one).steps ≡ one_code
  pub of_largest : (unmarked largest).steps ≡ largest_code
  pub of_records : (unmarked records).steps ≡ records_code
  pub of_least : (unmarked least).steps ≡ least_code
  pub of_calls : (unmarked calls).steps ≡ calls_code
  -- the subroutine begins at its own place, and the CALLs at places 6 and 11 are numbered
  pub starts : (unmarked calls).starts ≡ 0 ∷ 26 ∷ []
  pub first : call_number (unmarked calls) 6 ≡ 1
  pub second : call_number (unmarked calls) 11 ≡ 2
  -- the premises of the theorems are met
  pub numbered : HasCallNumbers calls
  pub calls_room : HasRoom calls
  pub least_room : HasRoom least
  -- ten instructions print 6
  pub prints : said_in (alone (unmarked one) 10 (first_frame (unmarked one) []) zeros) ≡ piece.Number (pos 6) ∷ piece.LineEnd ∷ []
