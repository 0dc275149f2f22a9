-- What theorems on iterations and on call paths take of a program, beside that it is resolved.
use Rattle.std.specs.Prelude.{◌≢◌, ℕ, List}
use Rattle.std.specs.List.{All}
use Rattle.cdc_prog.specs.declared.expr.Var.{Var}
use Rattle.cdc_prog.specs.declared.expr.Var.TheVariants as var
use Rattle.cdc_prog.specs.Plain.{Exprs, Empty, More, Stmt, Skip, Seq, Assign, If, Arm, Do, Doall, Call, Print, Read, Program}
use Rattle.cdc_prog.specs.Units.{body_of, binding_of}
use Rattle.cdc_prog.specs.Uses.{Uses, Stores, MayStore}
use Rattle.cdc_prog.specs.Paths.{IsUnder, Denotes}

-- ---- DOALL bodies
-- what an iteration may store in: a slot of its own, or an array element
abbrev pub IsOwn : Var → Exprs → Type 0
IsOwn (var.Slot k) Empty = Unit {0}
IsOwn v Empty = ⊥
IsOwn v (More e es) = Unit {0}

abbrev pub StoresInOwn : Stmt → Type 0
StoresInOwn Skip = Unit {0}
StoresInOwn (Seq a b) = StoresInOwn a × StoresInOwn b
StoresInOwn (Assign line t value) = IsOwn t.at.var t.subs
StoresInOwn (If arms) = StoresInOwn arms
StoresInOwn (Arm line cond body other) = StoresInOwn body × StoresInOwn other
StoresInOwn (Do k first body again bump) = IsOwn first.var Empty × StoresInOwn body
StoresInOwn (Doall k number slots body) = StoresInOwn body
StoresInOwn (Call line number unit actuals) = ⊥
StoresInOwn (Print line items) = Unit {0}
StoresInOwn (Read line targets) = All (λ t. IsOwn t.at.var t.subs) targets

abbrev pub DoallsStoreAlone : Stmt → Type 0
DoallsStoreAlone (Seq a b) = DoallsStoreAlone a × DoallsStoreAlone b
DoallsStoreAlone (If arms) = DoallsStoreAlone arms
DoallsStoreAlone (Arm line cond body other) = DoallsStoreAlone body × DoallsStoreAlone other
DoallsStoreAlone (Do k first body again bump) = DoallsStoreAlone body
DoallsStoreAlone (Doall k number slots body) = StoresInOwn body
DoallsStoreAlone s = Unit {0}

-- each DOALL body stores in slots and array elements alone
abbrev pub StoresAlone : Program → Type 0
StoresAlone p = (u : ℕ) → DoallsStoreAlone (body_of p u)

-- ---- DO variables
abbrev pub DosKeepVariables : Program → Stmt → Type 0
DosKeepVariables p (Seq a b) = DosKeepVariables p a × DosKeepVariables p b
DosKeepVariables p (If arms) = DosKeepVariables p arms
DosKeepVariables p (Arm line cond body other) = DosKeepVariables p body × DosKeepVariables p other
DosKeepVariables p (Do k first body again bump) = (MayStore p first.var body → ⊥) × DosKeepVariables p body
DosKeepVariables p (Doall k number slots body) = DosKeepVariables p body
DosKeepVariables p s = Unit {0}

-- inside a DO nothing stores in its variable (ISO/IEC 1539:1991, section 8.1.4.4.2)
abbrev pub KeepsLoopVariables : Program → Type 0
KeepsLoopVariables p = (u : ℕ) → DosKeepVariables p (body_of p u)

-- ---- aliases
-- under no call path two variables that a unit refers to stand for one object, where it stores in one of them (section 12.5.2.9)
abbrev pub IsUnaliased : Program → Type 0
IsUnaliased p = (path : List ℕ) (u : ℕ) (bound : List ℕ) (v w : Var) (k : ℕ) → IsUnder p path u bound → Uses v (body_of p u) → Uses w (body_of p u) → v ≢ w
    → Stores p v (body_of p u) → Denotes (binding_of p path u bound) v k → Denotes (binding_of p path u bound) w k → ⊥
