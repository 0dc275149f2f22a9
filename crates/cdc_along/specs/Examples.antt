-- Small programs: what they pass, and the sections of their sites.
use Rattle.std.specs.Prelude.{ℕ, ◌==◌, if◌then◌else◌, true, List, [], ◌∷◌, ◌++◌}
use Rattle.cdc_num.specs.declared.triplet.Triplet.{Triplet}
use Rattle.cdc_prog.specs.declared.expr.Var.TheVariants.{Object, Dummy}
use Rattle.cdc_prog.specs.declared.expr.BinOp.TheVariants.{Add}
use Rattle.cdc_prog.specs.Plain.{Bin, Whole, Do, Call, Program}
use Rattle.cdc_prog.specs.Examples.{ref, scalar, array, num, var, at, set, set_at, print, from_to, in_turn, doall, index, main_unit, program}
use Rattle.cdc_prog.specs.Alone as alone
use Rattle.cdc_prog.specs.Alone.{Access}
use Rattle.cdc_path.specs.declared.point.Point.TheVariants.{Read, Write, Entry, Exit}
use Rattle.cdc_path.specs.PathExpr.{Visit}
use Rattle.cdc_path.specs.Marks.{visit}

-- what `nested` passes under a call path of its unit T, the newest first: K = K + 1, and then the entry of the DOALL
abbrev pub up_to_entry : (path : List ℕ) → List Visit
up_to_entry path = visit path (Entry 1) ∷ visit path (Write 4) ∷ visit path (Read 3) ∷ []

-- and A(I) = A(I) + K, in one iteration
abbrev pub in_iteration : (path : List ℕ) → List Visit
in_iteration path = visit path (Write 7) ∷ visit path (Read 6) ∷ visit path (Read 5) ∷ []

-- from the beginning to the end, with an iteration of each DOALL
abbrev pub whole : List Visit
whole =
    let first = 3 ∷ 1 ∷ [] in let second = 3 ∷ 2 ∷ [] in
    visit [] (Read 2) ∷ visit [] (Read 1)
    ∷ visit second (Exit 1) ∷ (in_iteration second ++ (up_to_entry second ++ (visit first (Exit 1) ∷ (in_iteration first ++ up_to_entry first))))

-- DO K = 1, 2; DOALL I = 1, 2; A(I + K) = A(I + K) + K; END DOALL; END DO
abbrev pub looped : Program
looped =
    let k = Object 0 in let a = Object 1 in
    let sum = λ (site : ℕ). Bin Add index (var site k) in
    program (main_unit (Do (from_to 2 (num 1) (num 2)) (ref 1 k) (in_turn (
    doall 3 1 (num 1) (num 2) (set_at 4 6 a (sum 2) (Bin Add (at 4 a (sum 3)) (var 5 k)) ∷ []) ∷ [])) (ref 7 k) (ref 8 k) ∷ []) ∷ [])
    (scalar 0 ∷ array 4 1 ∷ []) []

-- I + K is 2 to 4, and so these positions of A
abbrev pub second_to_fourth : List Triplet
second_to_fourth = record { lo = 1; hi = 3; step = 1 } ∷ []

-- A(1) = 2; PRINT *, A(1)
abbrev pub printed : Program
printed = let a = Object 0 in program (main_unit (set_at 2 1 a (num 1) (num 2) ∷ print 3 (at 2 a (num 1) ∷ []) ∷ []) ∷ []) (array 2 0 ∷ []) []

-- CALL S(K); SUBROUTINE S(X): DO X = 1, 2; CALL T; A(X) = 1; END DO; and SUBROUTINE T: K = 3, where K and A are in COMMON
abbrev pub raised : Program
raised =
    let k = Object 0 in let a = Object 1 in let x = Dummy 0 in
    program (
    main_unit (Call 2 0 1 (Whole k ∷ []) ∷ [])
    ∷ record {
      name = [];
      dummies = record { name = []; dims = []; written = true } ∷ [];
      body = in_turn (Do (from_to 5 (num 1) (num 2)) (ref 1 x) (in_turn (Call 6 0 2 [] ∷ set_at 7 3 a (var 2 x) (num 1) ∷ [])) (ref 4 x) (ref 5 x) ∷ []);
    }
    ∷ main_unit (set 10 6 k (num 3) ∷ []) ∷ [])
    (scalar 0 ∷ array 4 1 ∷ []) []

-- X is 1 to 2, and so these positions of A
abbrev pub first_two : List Triplet
first_two = record { lo = 0; hi = 1; step = 1 } ∷ []

-- the words accessed at a site, in order
abbrev pub words_at : (site : ℕ) → List Access → List ℕ
words_at site [] = []
words_at site (alone.Read path at word v ∷ rest) = if at == site then word ∷ words_at site rest else words_at site rest
words_at site (alone.Write path at word v ∷ rest) = if at == site then word ∷ words_at site rest else words_at site rest
