-- What the iterations of a DOALL can access, and that they are apart.
use Rattle.std.specs.Prelude.{◌≡◌, ◌⊎◌, ℕ, zero, suc, ◌+◌, ◌<◌, ◌≤◌, true, ◌||◌, ℤ, pos, ◌+ℤ◌, ◌*ℤ◌, ◌≤ℤ◌, List, [], ◌∷◌, length, Option, Some, None, Ok}
use Rattle.cdc_prog.specs.declared.expr.Var.{Var}
use Rattle.cdc_prog.specs.declared.expr.Var.TheVariants as var
use Rattle.cdc_prog.specs.declared.affine.Range.{Range}
use Rattle.cdc_prog.specs.declared.affine.Index.{Index}
use Rattle.cdc_prog.specs.Plain.{Expr, Number, Scalar, Element, Un, Bin, Exprs, Empty, More, Control, Stmt, Skip, Seq, Assign, If, Arm, Do, Doall, Program}
use Rattle.cdc_prog.specs.Value.{unary, binary, trips}
use Rattle.cdc_prog.specs.Data.{Store, put, Binding, object_of, base_of, dims_of, element}
use Rattle.cdc_prog.specs.Resolved.{AreLaidOut, AreBound, ExprFits, SpotFits, ControlFits, IsResolved}
use Rattle.cdc_prog.specs.Process.{Process, Load, Save, Say, Tick, Join}
use Rattle.cdc_prog.specs.Expressions.{Surroundings}
use Rattle.cdc_prog.specs.Statements.{Calls, stmt, beginning}
use Rattle.cdc_prog.specs.Units.{body_of, binding_of}
use Rattle.cdc_prog.specs.Uses.{Stores}
use Rattle.cdc_prog.specs.Paths.{IsUnder}
use Rattle.cdc_prog.specs.Premises.{StoresAlone, KeepsLoopVariables, IsUnaliased}
use Rattle.cdc_prog.specs.Apart.{AreApart}
use Rattle.cdc_prog.specs.Affine.{is_in}
use Rattle.cdc_prog.specs.Dependence.{range_in, Spot, spots, scope_of}

-- R holds of the site and the word of each read of a process alone on a store, and W of those of each write
abbrev pub Each : (R W : ℕ → ℕ → Type 0) → Process → Store → Type 0
Each R W (Load path site w next) s = R site w × Each R W (next (s w)) s
Each R W (Save path site w v next) s = W site w × Each R W next (put s w v)
Each R W (Say piece next) s = Each R W next s
Each R W (Tick next) s = Each R W next s
Each R W p s = Unit {0}

-- what a scalar holds
abbrev pub held : Binding → Surroundings → Store → Var → ℤ
held b c t (var.Slot k) = c.slots k
held b c t v = t (base_of b v)

-- the value of an expression that does not fault
abbrev mutual
  pub Value : Binding → Surroundings → Store → Expr → ℤ → Type 0
  Value b c t (Number n) v = v ≡ n
  Value b c t (Scalar at) v = v ≡ held b c t at.var
  Value b c t (Element at subs) v = (vs : List ℤ) × (n : ℕ) × Values b c t subs vs × (element (dims_of b at.var) vs ≡ Ok n) × (v ≡ t (base_of b at.var + n))
  Value b c t (Un op e) v = (x : ℤ) × Value b c t e x × (unary op x ≡ Ok v)
  Value b c t (Bin op e f) v = (x y : ℤ) × Value b c t e x × Value b c t f y × (binary op x y ≡ Ok v)

  pub Values : Binding → Surroundings → Store → Exprs → List ℤ → Type 0
  Values b c t Empty vs = vs ≡ []
  Values b c t (More e es) vs = (v : ℤ) × (ws : List ℤ) × Value b c t e v × Values b c t es ws × (vs ≡ v ∷ ws)

-- ---- ranges
pub record LiesIn (r : Range) (x : ℤ) : Type 0 where
  pub low : r.lo ≤ℤ x
  pub high : x ≤ℤ r.hi
  pub step : (j : ℕ) × (x ≡ r.lo +ℤ (pos j *ℤ r.step))

-- in the range, where there is one
abbrev pub Lies : Option Range → ℤ → Type 0
Lies None x = Unit {0}
Lies (Some r) x = LiesIn r x

-- each variable lies in the range of its index, the innermost of that variable
abbrev pub InRanges : List Index → (Var → ℤ) → Type 0
InRanges is ρ = (v : Var) (r : Range) → range_in is v ≡ Some r → LiesIn r (ρ v)

abbrev pub IsIn : {A : Type 0} → A → List A → Type 0
IsIn a [] = ⊥
IsIn a (b ∷ bs) = (a ≡ b) ⊎ IsIn a bs

-- ---- what a body keeps
abbrev pub with_slot : Surroundings → ℕ → ℤ → Surroundings
with_slot c k v = record { slots = put c.slots k v; input = c.input }

-- the slots that a statement may set
abbrev pub MaySet : Stmt → ℕ → Type 0
MaySet (Seq x y) k = MaySet x k ⊎ MaySet y k
MaySet (Assign line t value) k = t.at.var ≡ var.Slot k
MaySet (If arms) k = MaySet arms k
MaySet (Arm line cond body other) k = MaySet body k ⊎ MaySet other k
MaySet (Do control first body again bump) k = (first.var ≡ var.Slot k) ⊎ MaySet body k
MaySet s k = ⊥

abbrev pub IsSlotBelow : ℕ → Var → Type 0
IsSlotBelow slots v = (k : ℕ) × (v ≡ var.Slot k) × (k < slots)

-- a scalar that is stored is a slot
abbrev pub StoresOnlySlots : ℕ → Var → Exprs → Type 0
StoresOnlySlots slots v Empty = IsSlotBelow slots v
StoresOnlySlots slots v (More e es) = Unit {0}

-- a body: its scalars are private where it stores them, and no statement inside a DO stores its variable
abbrev pub BodyFits : Binding → (slots : ℕ) → Stmt → Type 0
BodyFits b slots Skip = Unit {0}
BodyFits b slots (Seq x y) = BodyFits b slots x × BodyFits b slots y
BodyFits b slots (Assign line t value) = SpotFits b.objects b.shapes slots t.at.var t.subs × StoresOnlySlots slots t.at.var t.subs × ExprFits b.objects b.shapes slots value
BodyFits b slots (If arms) = BodyFits b slots arms
BodyFits b slots (Arm line cond body other) = ExprFits b.objects b.shapes slots cond × BodyFits b slots body × BodyFits b slots other
BodyFits b slots (Do k first body again bump) =
    ControlFits b.objects b.shapes slots k × IsSlotBelow slots first.var × (again.var ≡ first.var) × (bump.var ≡ first.var) × ((j : ℕ) → first.var ≡ var.Slot j → MaySet body j → ⊥) × BodyFits b slots body
BodyFits b slots s = ⊥

-- a variable in memory
abbrev pub IsThere : Binding → Var → Type 0
IsThere b (var.Object k) = k < length b.objects
IsThere b (var.Dummy k) = k < length b.shapes
IsThere b (var.Slot k) = ⊥

-- a scalar that the body does not store, other than the index of the DOALL
abbrev pub IsFixed : Binding → Stmt → Var → Type 0
IsFixed b body (var.Slot zero) = ⊥
IsFixed b body (var.Slot (suc k)) = MaySet body (suc k) → ⊥
IsFixed b body v = IsThere b v × (dims_of b v ≡ [])

abbrev pub AreFixed : Binding → Stmt → (fixed : List Var) → Type 0
AreFixed b body fixed = (v : Var) → is_in fixed v ≡ true → IsFixed b body v

-- two references in memory that can write and access one object are of one variable
abbrev pub AreUnaliased : Binding → List Spot → Type 0
AreUnaliased b ps = (p q : Spot) → IsIn p ps → IsIn q ps → IsThere b p.at.var → IsThere b q.at.var → (p.writes || q.writes) ≡ true → object_of b p.at.var ≡ object_of b q.at.var → p.at.var ≡ q.at.var

-- the variables of a unit in memory, and what the body of a DOALL keeps
pub record IsBody (b : Binding) (words slots : ℕ) (k : Control) (known : List Var) (body : Stmt) : Type 0 where
  pub laid_out : AreLaidOut 0 b.objects words
  pub bound : AreBound b.objects b.shapes b.bound
  pub fits : BodyFits b slots body
  pub unset : MaySet body 0 → ⊥
  pub fixed : AreFixed b body known
  pub unaliased : AreUnaliased b (spots (scope_of k known) body)

-- ---- iterations
-- what an iteration does
abbrev pub iteration : Calls → Binding → (from by : ℤ) → Stmt → Surroundings → ℕ → Process
iteration calls b from by body c i = Tick (stmt calls b body (beginning from by i c) (λ d. Join))

-- whenever the DOALL forks, its iterations are apart on every store
abbrev pub IsParallel : Calls → Binding → Control → Stmt → Type 0
IsParallel calls b k body =
    (c : Surroundings) (t : Store) (m1 m2 m3 : ℤ) (n : ℕ) → Value b c t k.from m1 → Value b c t k.to m2 → Value b c t k.by m3 → trips m1 m2 m3 ≡ Ok n →
    (s : Store) → AreApart n (iteration calls b m1 m3 body c) s

-- ---- DOALLs of a program
-- statements have this DOALL
abbrev pub IsDoallIn : (number : ℕ) → Control → (slots : ℕ) → (body : Stmt) → Stmt → Type 0
IsDoallIn number k slots body (Seq x y) = IsDoallIn number k slots body x ⊎ IsDoallIn number k slots body y
IsDoallIn number k slots body (If arms) = IsDoallIn number k slots body arms
IsDoallIn number k slots body (Arm line cond x other) = IsDoallIn number k slots body x ⊎ IsDoallIn number k slots body other
IsDoallIn number k slots body (Do control first x again bump) = IsDoallIn number k slots body x
IsDoallIn number k slots body (Doall control n m x) = (n ≡ number) × (control ≡ k) × (m ≡ slots) × (x ≡ body)
IsDoallIn number k slots body s = ⊥

-- no DOALL stores in its index (ISO/IEC 1539:1991, section 8.1.4.4.2 of a DO variable)
abbrev pub KeepsIndexes : Program → Type 0
KeepsIndexes p = (u number slots : ℕ) (k : Control) (body : Stmt) → IsDoallIn number k slots body (body_of p u) → Stores p (var.Slot 0) body → ⊥

-- what theorems on iterations take of a program
pub record KeepsPremises (p : Program) : Type 0 where
  pub resolved : IsResolved p
  pub alone : StoresAlone p
  pub loops : KeepsLoopVariables p
  pub indexes : KeepsIndexes p
  pub unaliased : IsUnaliased p

-- under every call path the iterations of the DOALLs with this number are apart on every store, whenever they fork
abbrev pub IteratesApart : Program → (number : ℕ) → Type 0
IteratesApart p number =
    (path : List ℕ) (u : ℕ) (bound : List ℕ) (k : Control) (slots : ℕ) (body : Stmt) (calls : Calls) →
    IsUnder p path u bound → IsDoallIn number k slots body (body_of p u) → IsParallel calls (binding_of p path u bound) k body

-- each DOALL of a program has a number from 1 to the number of its DOALL loops
abbrev pub HasDoallNumbers : Program → Type 0
HasDoallNumbers p = (u number slots : ℕ) (k : Control) (body : Stmt) → IsDoallIn number k slots body (body_of p u) → (1 ≤ number) × (number ≤ p.doalls)
