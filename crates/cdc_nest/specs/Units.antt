-- Which lists of statements are units.
use Rattle.std.specs.Prelude.{◌≡◌, ℕ, suc, ◌+◌, ◌-◌, ◌⊎◌, ◌<◌, ◌≤◌, nat_le, true, ◌&&◌, cond, List, [], ◌∷◌, ◌++◌, map, Option, Some, None, Result, Ok, Err}
use Rattle.cdc_tree.specs.declared.unit.UnitText.{UnitText}
use Rattle.cdc_tree.specs.declared.refusal.ParseRefusal.{ParseRefusal}
use Rattle.cdc_tree.specs.declared.refusal.ParseRefusal.TheVariants.{NotAStatement, Depth, Nesting, Memory}
use Rattle.cdc_tree.specs.Forms.{PStatement}
use Rattle.cdc_tree.specs.Units.{PNode, NPlain, NIf, NElse, NLoop, PBody, Empty, More, PBranches, BNone, BMore, PUnit, unit, written_out}
use Rattle.cdc_tree.specs.Order.{Each}
use Rattle.cdc_nest.specs.declared.role.Role.{Role}
use Rattle.cdc_nest.specs.declared.role.Role.TheVariants as r
use Rattle.cdc_nest.specs.Roles.{role, ends, opens, closes}

abbrev pub Is : Role → PStatement → Type 0
Is x s = role s.form ≡ x

-- an END DO ends a DO, and an END DOALL a DOALL
abbrev pub IsLoop : Role → Role → Type 0
IsLoop head end = ((head ≡ r.Do) × (end ≡ r.EndDo)) ⊎ ((head ≡ r.Doall) × (end ≡ r.EndDoall))

abbrev mutual
  pub IsNode : PNode → Type 0
  IsNode (NPlain s) = Is r.Plain s
  IsNode (NIf bs end) = AreBranches bs × Is r.EndIf end
  IsNode (NElse bs head b end) = AreBranches bs × Is r.Else head × IsBody b × Is r.EndIf end
  IsNode (NLoop head b end) = IsLoop (role head.form) (role end.form) × IsBody b

  pub IsBody : PBody → Type 0
  IsBody Empty = Unit {0}
  IsBody (More n b) = IsNode n × IsBody b

  -- the first is headed by IF
  pub AreBranches : PBranches → Type 0
  AreBranches BNone = ⊥
  AreBranches (BMore head b more) = Is r.If head × IsBody b × AreFurther more

  -- further ones are headed by ELSE IF
  pub AreFurther : PBranches → Type 0
  AreFurther BNone = Unit {0}
  AreFurther (BMore head b more) = Is r.ElseIf head × IsBody b × AreFurther more

abbrev pub IsNone : Option PStatement → Type 0
IsNone None = Unit {0}
IsNone (Some s) = Is r.ImplicitNone s

abbrev pub AllDeclare : List PStatement → Type 0
AllDeclare [] = Unit {0}
AllDeclare (s ∷ ss) = Is r.Declaration s × AllDeclare ss

abbrev pub IsHead : Role → Type 0
IsHead x = (x ≡ r.Program) ⊎ (x ≡ r.Subroutine)

pub record IsUnit (u : PUnit) : Type 0 where
  pub head_is : IsHead (role u.head.form)
  pub none_is : IsNone u.none
  pub declarations_are : AllDeclare u.declarations
  pub body_is : IsBody u.body
  pub ends_it : ends u.head.form u.end.form ≡ true

abbrev pub AreUnits : List PUnit → Type 0
AreUnits [] = Unit {0}
AreUnits (u ∷ us) = IsUnit u × AreUnits us

abbrev pub is_main : Role → ℕ
is_main r.Program = 1
is_main x = 0

-- how many of the units are main programs
abbrev pub mains : List PUnit → ℕ
mains [] = 0
mains (u ∷ us) = is_main (role u.head.form) + mains us

-- the units are these statements, written out in order
pub record AreWritten (us : List PUnit) (items : List PStatement) : Type 0 where
  pub are_units : AreUnits us
  pub one_main : mains us ≡ 1
  pub parts : items ≡ written_out us

-- Well nested: some list of units with one main program, written out in order, is the list.
abbrev pub WellNested : List PStatement → Type 0
WellNested items = (us : List PUnit) × AreWritten us items

-- the list is a prefix of a well nested list
abbrev pub Begins : List PStatement → Type 0
Begins items = (more : List PStatement) × WellNested (items ++ more)

-- ---- depth of blocks

abbrev pub blocks_by : Role → ℕ → ℕ
blocks_by x n = cond (opens x) (suc n) (cond (closes x) (n - 1) n)

-- how many blocks are open after the statements, n being open before
abbrev pub blocks : ℕ → List PStatement → ℕ
blocks n [] = n
blocks n (s ∷ ss) = blocks (blocks_by (role s.form) n) ss

-- the line of the first statement that opens a 65th block, n being open before
abbrev pub first_deep : ℕ → List PStatement → Option ℕ
first_deep n [] = None
first_deep n (s ∷ ss) = cond (opens (role s.form) && nat_le 64 n) (Some s.place.line) (first_deep (blocks_by (role s.form) n) ss)

-- ---- what is answered

abbrev pub last_from : ℕ → List PStatement → ℕ
last_from n [] = n
last_from n (s ∷ ss) = last_from s.place.line ss

-- the line of the last statement, or 1
abbrev pub last_line : List PStatement → ℕ
last_line items = last_from 1 items

-- a statement with which the list is no prefix of a well nested list any more
pub record IsMisfit (items : List PStatement) (number : ℕ) : Type 0 where
  pub before : List PStatement
  pub misfit : PStatement
  pub after : List PStatement
  pub parts : items ≡ before ++ (misfit ∷ after)
  pub fits_before : Begins before
  pub fits_none : Begins (before ++ (misfit ∷ [])) → ⊥
  pub number_is : misfit.place.line ≡ number

-- each prefix fits, and the whole is not well nested
pub record IsCutShort (items : List PStatement) (number : ℕ) : Type 0 where
  pub fits : Begins items
  pub is_open : WellNested items → ⊥
  pub number_is : last_line items ≡ number

-- Nesting: no 65th block is opened on a lesser line.
pub record IsNestingAt (items : List PStatement) (number : ℕ) : Type 0 where
  pub found : IsMisfit items number ⊎ IsCutShort items number
  pub least : (m : ℕ) → first_deep 0 items ≡ Some m → number ≤ m

-- Depth: the statements up to this line fit, and are well nested where no others follow.
pub record IsDeepBlockAt (items : List PStatement) (number : ℕ) : Type 0 where
  pub deep : first_deep 0 items ≡ Some number
  pub before : List PStatement
  pub after : List PStatement
  pub parts : items ≡ before ++ after
  pub up_to : Each (λ s. s.place.line ≤ number) before
  pub beyond : Each (λ s. number < s.place.line) after
  pub fits : Begins before
  pub whole : after ≡ [] → WellNested items

-- What is answered for the statements. Want of memory is free.
abbrev pub AreNested : List PStatement → Result (List UnitText) ParseRefusal → Type 0
AreNested items (Ok us) = AreWritten (map unit us) items × (first_deep 0 items ≡ None)
AreNested items (Err (Nesting n)) = IsNestingAt items n
AreNested items (Err (Depth n)) = IsDeepBlockAt items n
AreNested items (Err (NotAStatement n)) = ⊥
AreNested items (Err Memory) = Unit {0}
