-- Two references of a DOALL that can write and access one object are of one variable.
use Rattle.std.proofs.Common.{◌≡◌, ◌≢◌, ℕ, Bool, true, false, List, [], ◌∷◌, ◌++◌, ◌⊎◌, inl, inr, refl, sym, ap, subst}
use Rattle.cdc_prog.specs.declared.expr.Var.{Var}
use Rattle.cdc_prog.specs.declared.expr.Var.TheVariants as var
use Rattle.cdc_prog.specs.declared.expr.Ref.{Ref}
use Rattle.cdc_prog.specs.declared.affine.Scope.{Scope}
use Rattle.cdc_prog.specs.Plain.{Expr, Number, Scalar, Element, Un, Bin, Exprs, Empty, More, Control, Stmt, Skip, Seq, Assign, If, Arm, Do, Doall, Call, Print, Read, Program}
use Rattle.cdc_prog.specs.Data.{Binding, object_of}
use Rattle.cdc_prog.specs.Units.{body_of, binding_of}
use Rattle.cdc_prog.specs.Uses.{ExprMentions, SubsMention, Uses, Stores}
use Rattle.cdc_prog.specs.Paths.{IsUnder, Denotes}
use Rattle.cdc_prog.specs.Premises.{IsUnaliased}
use Rattle.cdc_prog.specs.Affine.{same_var}
use Rattle.cdc_prog.specs.Dependence.{Spot, spot, expr_spots, exprs_spots, target_spots, control_spots, inside, index_of, spots}
use Rattle.cdc_prog.specs.Iterations.{IsIn, IsThere, AreUnaliased, IsDoallIn}
use Rattle.cdc_num.proofs.Intervals.{or_true}
use Rattle.cdc_subtest.proofs.Apart.{same_var_of}
use Rattle.cdc_subtest.proofs.Bodies.{same_self}

-- an expression or subscripts refer to a variable
abbrev ExprUses : Var → Expr → Type 0
ExprUses v = ExprMentions (λ at. at.var ≡ v)

abbrev SubsUse : Var → Exprs → Type 0
SubsUse v = SubsMention (λ at. at.var ≡ v)

in_parts : {A : Type 0} (a : A) (xs ys : List A) → IsIn a (xs ++ ys) → IsIn a xs ⊎ IsIn a ys
in_parts a [] ys h = inr h
in_parts a (x ∷ xs) ys (inl e) = inl (inl e)
in_parts a (x ∷ xs) ys (inr h) = elim (in_parts a xs ys h) [ inl g ↦ inl (inr g) | inr g ↦ inr g ]

-- a reference of an expression reads, and its variable is used there
pub record IsReadOf (used : Type 0) (q : Spot) : Type 0 where
  pub reads : q.writes ≡ false
  pub uses : used

read_one : (used : Var → Type 0) (q : Spot) (sc : Scope) (at : Ref) (subs : Exprs) → used at.var → q ≡ spot sc false at subs → IsReadOf (used q.at.var) q
read_one used q sc at subs h e = record { reads = ap (λ (r : Spot). r.writes) e; uses = subst used (sym (ap (λ (r : Spot). r.at.var) e)) h }

wider : (A B : Type 0) (q : Spot) → (A → B) → IsReadOf A q → IsReadOf B q
wider A B q f h = record { reads = h.reads; uses = f h.uses }

only : {A : Type 0} (a b : A) → IsIn a (b ∷ []) → a ≡ b
only a b (inl e) = e
only a b (inr h) = absurd h

mutual
  expr_reads : (q : Spot) (sc : Scope) (e : Expr) → IsIn q (expr_spots sc e) → IsReadOf (ExprUses q.at.var e) q
  expr_reads q sc (Number n) h = absurd h
  expr_reads q sc (Scalar at) h = absurd h
  expr_reads q sc (Element at subs) h =
      elim (in_parts q (exprs_spots sc subs) (spot sc false at subs ∷ []) h) [
        | inl g ↦ wider (SubsUse q.at.var subs) (ExprUses q.at.var (Element at subs)) q (λ u. inr u) (exprs_read q sc subs g)
        | inr g ↦ read_one (λ v. ExprUses v (Element at subs)) q sc at subs (inl refl) (only q (spot sc false at subs) g)
      ]
  expr_reads q sc (Un op a) h = expr_reads q sc a h
  expr_reads q sc (Bin op a b) h =
      elim (in_parts q (expr_spots sc a) (expr_spots sc b) h) [
        | inl g ↦ wider (ExprUses q.at.var a) (ExprUses q.at.var (Bin op a b)) q (λ u. inl u) (expr_reads q sc a g)
        | inr g ↦ wider (ExprUses q.at.var b) (ExprUses q.at.var (Bin op a b)) q (λ u. inr u) (expr_reads q sc b g)
      ]

  exprs_read : (q : Spot) (sc : Scope) (es : Exprs) → IsIn q (exprs_spots sc es) → IsReadOf (SubsUse q.at.var es) q
  exprs_read q sc Empty h = absurd h
  exprs_read q sc (More e es) h =
      elim (in_parts q (expr_spots sc e) (exprs_spots sc es) h) [
        | inl g ↦ wider (ExprUses q.at.var e) (SubsUse q.at.var (More e es)) q (λ u. inl u) (expr_reads q sc e g)
        | inr g ↦ wider (SubsUse q.at.var es) (SubsUse q.at.var (More e es)) q (λ u. inr u) (exprs_read q sc es g)
      ]

module _ (p : Program) where
  -- the variable of a reference is used in the statements, and stored in where the reference writes
  pub record IsUse (q : Spot) (s : Stmt) : Type 0 where
    pub uses : Uses q.at.var s
    pub stores : q.writes ≡ true → Stores p q.at.var s

  read_use : (q : Spot) (s : Stmt) → IsReadOf (Uses q.at.var s) q → IsUse q s
  read_use q s h = record { uses = h.uses; stores = λ e. (let n = h.reads in cc) }

  within : (q : Spot) (x s : Stmt) → (Uses q.at.var x → Uses q.at.var s) → (Stores p q.at.var x → Stores p q.at.var s) → IsUse q x → IsUse q s
  within q x s f g h = record { uses = f h.uses; stores = λ e. g (h.stores e) }

  target_use : (q : Spot) (sc : Scope) (line : ℕ) (at : Ref) (subs : Exprs) (value : Expr) → IsIn q (target_spots sc at subs) → IsUse q (Assign line (record { at = at; subs = subs }) value)
  target_use q sc line at Empty value h = absurd h
  target_use q sc line at (More e es) value (inl same) =
      let v : at.var ≡ q.at.var = sym (ap (λ (r : Spot). r.at.var) same) in
      record { uses = inl (inl v); stores = λ w. v }
  target_use q sc line at (More e es) value (inr h) = absurd h

  pub spot_use : (q : Spot) (sc : Scope) (s : Stmt) → IsIn q (spots sc s) → IsUse q s
  spot_use q sc Skip h = absurd h
  spot_use q sc (Seq a b) h =
      elim (in_parts q (spots sc a) (spots sc b) h) [
        | inl g ↦ within q a (Seq a b) (λ u. inl u) (λ u. inl u) (spot_use q sc a g)
        | inr g ↦ within q b (Seq a b) (λ u. inr u) (λ u. inr u) (spot_use q sc b g)
      ]
  spot_use q sc (Assign line t value) h =
      elim (in_parts q (exprs_spots sc t.subs) (expr_spots sc value ++ target_spots sc t.at t.subs) h) [
        | inl g ↦ read_use q (Assign line t value) (wider (SubsUse q.at.var t.subs) (Uses q.at.var (Assign line t value)) q (λ u. inl (inr u)) (exprs_read q sc t.subs g))
        | inr g ↦ elim (in_parts q (expr_spots sc value) (target_spots sc t.at t.subs) g) [
          | inl k ↦ read_use q (Assign line t value) (wider (ExprUses q.at.var value) (Uses q.at.var (Assign line t value)) q (λ u. inr u) (expr_reads q sc value k))
          | inr k ↦ target_use q sc line t.at t.subs value k
        ]
      ]
  spot_use q sc (If arms) h = within q arms (If arms) (λ u. u) (λ u. u) (spot_use q sc arms h)
  spot_use q sc (Arm line cond body other) h =
      elim (in_parts q (expr_spots sc cond) (spots sc body ++ spots sc other) h) [
        | inl g ↦ read_use q (Arm line cond body other) (wider (ExprUses q.at.var cond) (Uses q.at.var (Arm line cond body other)) q (λ u. inl u) (expr_reads q sc cond g))
        | inr g ↦ elim (in_parts q (spots sc body) (spots sc other) g) [
          | inl k ↦ within q body (Arm line cond body other) (λ u. inr (inl u)) (λ u. inl u) (spot_use q sc body k)
          | inr k ↦ within q other (Arm line cond body other) (λ u. inr (inr u)) (λ u. inr u) (spot_use q sc other k)
        ]
      ]
  spot_use q sc (Do k first body again bump) h =
      elim (in_parts q (control_spots sc k) (spots (inside sc (index_of k first)) body) h) [
        | inl g ↦ read_use q (Do k first body again bump) (control g)
        | inr g ↦ within q body (Do k first body again bump) (λ u. inr (inr (inl u))) (λ u. inr u) (spot_use q (inside sc (index_of k first)) body g)
      ]
    where
      control : IsIn q (control_spots sc k) → IsReadOf (Uses q.at.var (Do k first body again bump)) q
      control g =
          elim (in_parts q (expr_spots sc k.from) (expr_spots sc k.to ++ expr_spots sc k.by) g) [
            | inl x ↦ wider (ExprUses q.at.var k.from) (Uses q.at.var (Do k first body again bump)) q (λ u. inl (inl u)) (expr_reads q sc k.from x)
            | inr x ↦ elim (in_parts q (expr_spots sc k.to) (expr_spots sc k.by) x) [
              | inl y ↦ wider (ExprUses q.at.var k.to) (Uses q.at.var (Do k first body again bump)) q (λ u. inl (inr (inl u))) (expr_reads q sc k.to y)
              | inr y ↦ wider (ExprUses q.at.var k.by) (Uses q.at.var (Do k first body again bump)) q (λ u. inl (inr (inr u))) (expr_reads q sc k.by y)
            ]
          ]
  spot_use q sc (Doall k n slots body) h = absurd h
  spot_use q sc (Call line n u actuals) h = absurd h
  spot_use q sc (Print line items) h = absurd h
  spot_use q sc (Read line targets) h = absurd h

  -- what the body of a DOALL uses and stores in, the statements around it do
  use_around : (q : Spot) (number : ℕ) (k : Control) (slots : ℕ) (body s : Stmt) → IsDoallIn number k slots body s → IsUse q body → IsUse q s
  use_around q number k slots body Skip h i = absurd h
  use_around q number k slots body (Seq a b) (inl h) i = within q a (Seq a b) (λ u. inl u) (λ u. inl u) (use_around q number k slots body a h i)
  use_around q number k slots body (Seq a b) (inr h) i = within q b (Seq a b) (λ u. inr u) (λ u. inr u) (use_around q number k slots body b h i)
  use_around q number k slots body (Assign line t value) h i = absurd h
  use_around q number k slots body (If arms) h i = within q arms (If arms) (λ u. u) (λ u. u) (use_around q number k slots body arms h i)
  use_around q number k slots body (Arm line cond x other) (inl h) i = within q x (Arm line cond x other) (λ u. inr (inl u)) (λ u. inl u) (use_around q number k slots body x h i)
  use_around q number k slots body (Arm line cond x other) (inr h) i = within q other (Arm line cond x other) (λ u. inr (inr u)) (λ u. inr u) (use_around q number k slots body other h i)
  use_around q number k slots body (Do control first x again bump) h i = within q x (Do control first x again bump) (λ u. inr (inr (inl u))) (λ u. inr u) (use_around q number k slots body x h i)
  use_around q number k slots body (Doall control n m x) h i = within q x (Doall control n m x) (λ u. inr u) (λ u. u) (subst (IsUse q) (sym h.3) i)
  use_around q number k slots body (Call line n u actuals) h i = absurd h
  use_around q number k slots body (Print line items) h i = absurd h
  use_around q number k slots body (Read line targets) h i = absurd h

  denotes : (b : Binding) (v : Var) → IsThere b v → Denotes b v (object_of b v)
  denotes b (var.Object k) h = refl
  denotes b (var.Dummy k) h = refl
  denotes b (var.Slot k) h = absurd h

  denotes_too : (b : Binding) (v : Var) (k : ℕ) → IsThere b v → object_of b v ≡ k → Denotes b v k
  denotes_too b (var.Object j) k h e = e
  denotes_too b (var.Dummy j) k h e = e
  denotes_too b (var.Slot j) k h e = absurd h

  pub are_unaliased : IsUnaliased p → (path : List ℕ) (u : ℕ) (bound : List ℕ) → IsUnder p path u bound → (number : ℕ) (k : Control) (slots : ℕ) (body : Stmt) → IsDoallIn number k slots body (body_of p u) → (sc : Scope) → AreUnaliased (binding_of p path u bound) (spots sc body)
  are_unaliased is path u bound under number k slots body has sc q r iq ir hq hr writes same = decided (same_var q.at.var r.at.var) refl
    where
      use_q : IsUse q (body_of p u)
      use_q = use_around q number k slots body (body_of p u) has (spot_use q sc body iq)

      use_r : IsUse r (body_of p u)
      use_r = use_around r number k slots body (body_of p u) has (spot_use r sc body ir)

      apart : (q.writes ≡ true) ⊎ (r.writes ≡ true) → q.at.var ≢ r.at.var → ⊥
      apart (inl w) d = is path u bound q.at.var r.at.var (object_of (binding_of p path u bound) q.at.var) under use_q.uses use_r.uses d (use_q.stores w) (denotes (binding_of p path u bound) q.at.var hq) (denotes_too (binding_of p path u bound) r.at.var (object_of (binding_of p path u bound) q.at.var) hr (sym same))
      apart (inr w) d = is path u bound r.at.var q.at.var (object_of (binding_of p path u bound) q.at.var) under use_r.uses use_q.uses (λ e. d (sym e)) (use_r.stores w) (denotes_too (binding_of p path u bound) r.at.var (object_of (binding_of p path u bound) q.at.var) hr (sym same)) (denotes (binding_of p path u bound) q.at.var hq)

      decided : (test : Bool) → same_var q.at.var r.at.var ≡ test → q.at.var ≡ r.at.var
      decided true e = same_var_of q.at.var r.at.var e
      decided false e = absurd (apart (or_true q.writes r.writes writes) (λ v. (let s = subst (λ x. same_var q.at.var x ≡ true) v (same_self q.at.var) in cc)))
