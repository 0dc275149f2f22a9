-- Which variables statements refer to, and which they store in.
use Rattle.std.specs.Prelude.{◌≡◌, ◌⊎◌, ℕ, true, List, [], ◌∷◌, Option, Some, None, slice_get}
use Rattle.std.specs.List.{Any}
use Rattle.cdc_prog.specs.declared.expr.Ref.{Ref}
use Rattle.cdc_prog.specs.declared.expr.Var.{Var}
use Rattle.cdc_prog.specs.declared.expr.Var.TheVariants as var
use Rattle.cdc_prog.specs.declared.program.Dummy.{Dummy}
use Rattle.cdc_prog.specs.Plain.{Expr, Number, Scalar, Element, Un, Bin, Exprs, Empty, More, Target, Item, Text, Value, Actual, Whole, Copy, Control, Stmt, Skip, Seq, Assign, If, Arm, Do, Doall, Call, Print, Read, ProgramUnit, Program}
use Rattle.cdc_prog.specs.Units.{body_of}

-- ---- references
-- some reference of an expression is such a one
abbrev mutual
  pub ExprMentions : (Ref → Type 0) → Expr → Type 0
  ExprMentions P (Number n) = ⊥
  ExprMentions P (Scalar at) = P at
  ExprMentions P (Element at subs) = P at ⊎ SubsMention P subs
  ExprMentions P (Un op a) = ExprMentions P a
  ExprMentions P (Bin op a b) = ExprMentions P a ⊎ ExprMentions P b

  pub SubsMention : (Ref → Type 0) → Exprs → Type 0
  SubsMention P Empty = ⊥
  SubsMention P (More e es) = ExprMentions P e ⊎ SubsMention P es

abbrev pub TargetMentions : (Ref → Type 0) → Target → Type 0
TargetMentions P t = P t.at ⊎ SubsMention P t.subs

abbrev pub ItemMentions : (Ref → Type 0) → Item → Type 0
ItemMentions P (Text number) = ⊥
ItemMentions P (Value value) = ExprMentions P value

abbrev pub ActualMentions : (Ref → Type 0) → (Var → Type 0) → Actual → Type 0
ActualMentions P Q (Whole v) = Q v
ActualMentions P Q (Copy at value) = P at ⊎ ExprMentions P value

abbrev pub ControlMentions : (Ref → Type 0) → Control → Type 0
ControlMentions P k = ExprMentions P k.from ⊎ (ExprMentions P k.to ⊎ ExprMentions P k.by)

-- some reference of statements is such a one, or some variable that is passed whole
abbrev pub Mentions : (Ref → Type 0) → (Var → Type 0) → Stmt → Type 0
Mentions P Q Skip = ⊥
Mentions P Q (Seq a b) = Mentions P Q a ⊎ Mentions P Q b
Mentions P Q (Assign line t value) = TargetMentions P t ⊎ ExprMentions P value
Mentions P Q (If arms) = Mentions P Q arms
Mentions P Q (Arm line cond body other) = ExprMentions P cond ⊎ (Mentions P Q body ⊎ Mentions P Q other)
Mentions P Q (Do k first body again bump) = ControlMentions P k ⊎ (P first ⊎ (Mentions P Q body ⊎ (P again ⊎ P bump)))
Mentions P Q (Doall k number slots body) = ControlMentions P k ⊎ Mentions P Q body
Mentions P Q (Call line number unit actuals) = Any (ActualMentions P Q) actuals
Mentions P Q (Print line items) = Any (ItemMentions P) items
Mentions P Q (Read line targets) = Any (TargetMentions P) targets

-- statements refer to a variable
abbrev pub Uses : Var → Stmt → Type 0
Uses v = Mentions (λ at. at.var ≡ v) (λ w. w ≡ v)

-- statements refer to a variable at a site
abbrev pub UsesAt : (site : ℕ) → Var → Stmt → Type 0
UsesAt site v = Mentions (λ at. (at.site ≡ site) × (at.var ≡ v)) (λ w. ⊥)

-- ---- stores
abbrev pub dummies_in : Option ProgramUnit → List Dummy
dummies_in None = []
dummies_in (Some u) = u.dummies

-- a CALL stores in a variable: it is a whole actual for a dummy that is written, or the hidden object of a value
abbrev pub PassesToStore : Var → List Actual → List Dummy → Type 0
PassesToStore v (Whole w ∷ actuals) (d ∷ dummies) = ((w ≡ v) × (d.written ≡ true)) ⊎ PassesToStore v actuals dummies
PassesToStore v (Copy at value ∷ actuals) (d ∷ dummies) = (at.var ≡ v) ⊎ PassesToStore v actuals dummies
PassesToStore v _ _ = ⊥

-- statements store in a variable by its name: they assign it or an element of it, read into it, count with it, or pass it whole to a dummy that is written
abbrev pub Stores : Program → Var → Stmt → Type 0
Stores p v Skip = ⊥
Stores p v (Seq a b) = Stores p v a ⊎ Stores p v b
Stores p v (Assign line t value) = t.at.var ≡ v
Stores p v (If arms) = Stores p v arms
Stores p v (Arm line cond body other) = Stores p v body ⊎ Stores p v other
Stores p v (Do k first body again bump) = (first.var ≡ v) ⊎ Stores p v body
Stores p v (Doall k number slots body) = Stores p v body
Stores p v (Call line number unit actuals) = PassesToStore v actuals (dummies_in (slice_get p.units unit))
Stores p v (Print line items) = ⊥
Stores p v (Read line targets) = Any (λ t. t.at.var ≡ v) targets

-- the dummies in which a unit stores are written
abbrev pub TellsWritten : Program → Type 0
TellsWritten p = (u k : ℕ) (d : Dummy) → slice_get (dummies_in (slice_get p.units u)) k ≡ Some d → Stores p (var.Dummy k) (body_of p u) → d.written ≡ true

-- ---- CALLs
-- statements have the CALL of this number, to this unit, with these actuals
abbrev pub HasCall : (number unit : ℕ) → List Actual → Stmt → Type 0
HasCall number unit actuals Skip = ⊥
HasCall number unit actuals (Seq a b) = HasCall number unit actuals a ⊎ HasCall number unit actuals b
HasCall number unit actuals (Assign line t value) = ⊥
HasCall number unit actuals (If arms) = HasCall number unit actuals arms
HasCall number unit actuals (Arm line cond body other) = HasCall number unit actuals body ⊎ HasCall number unit actuals other
HasCall number unit actuals (Do k first body again bump) = HasCall number unit actuals body
HasCall number unit actuals (Doall k n slots body) = HasCall number unit actuals body
HasCall number unit actuals (Call line n u others) = (n ≡ number) × (u ≡ unit) × (others ≡ actuals)
HasCall number unit actuals (Print line items) = ⊥
HasCall number unit actuals (Read line targets) = ⊥

-- statements have the DOALL of this number
abbrev pub HasDoall : (number : ℕ) → Stmt → Type 0
HasDoall number Skip = ⊥
HasDoall number (Seq a b) = HasDoall number a ⊎ HasDoall number b
HasDoall number (Assign line t value) = ⊥
HasDoall number (If arms) = HasDoall number arms
HasDoall number (Arm line cond body other) = HasDoall number body ⊎ HasDoall number other
HasDoall number (Do k first body again bump) = HasDoall number body
HasDoall number (Doall k n slots body) = (n ≡ number) ⊎ HasDoall number body
HasDoall number (Call line n unit actuals) = ⊥
HasDoall number (Print line items) = ⊥
HasDoall number (Read line targets) = ⊥

-- a unit is this one, or reached from it by CALLs
pub data ReachesUnit (p : Program) : (from to : ℕ) → Type 0 where
  Itself : (u : ℕ) → ReachesUnit p u u
  Through : (u v w number : ℕ) (actuals : List Actual) → HasCall number v actuals (body_of p u) → ReachesUnit p v w → ReachesUnit p u w

-- statements store in a variable, or, if it is an object, a unit does that they reach
abbrev pub MayStore : Program → Var → Stmt → Type 0
MayStore p v s =
    Stores p v s
    ⊎ ((k number u w : ℕ) × (actuals : List Actual) × (v ≡ var.Object k) × HasCall number u actuals s × ReachesUnit p u w × Stores p v (body_of p w))
