-- Affine forms of expressions.
use Rattle.std.specs.Prelude.{◌≡◌, ℕ, ◌^◌, nat_lt, nat_eq, Bool, true, false, ◌&&◌, ◌||◌, if◌then◌else◌, ℤ, pos, negsuc, ◌+ℤ◌, ◌*ℤ◌, nat_abs, List, [], ◌∷◌, Option, Some, None, Ok, Err}
use Rattle.std.specs.declared.cmp.Ordering.{Ordering}
use Rattle.std.specs.declared.cmp.Ordering.TheVariants.{Less, Equal, Greater}
use Rattle.cdc_prog.specs.declared.expr.Var.{Var}
use Rattle.cdc_prog.specs.declared.expr.Var.TheVariants as var
use Rattle.cdc_prog.specs.declared.expr.UnOp.{UnOp}
use Rattle.cdc_prog.specs.declared.expr.UnOp.TheVariants.{Neg}
use Rattle.cdc_prog.specs.declared.expr.BinOp.{BinOp}
use Rattle.cdc_prog.specs.declared.expr.BinOp.TheVariants.{Add, Sub, Mul}
use Rattle.cdc_prog.specs.Plain.{Expr, Number, Scalar, Element, Un, Bin}
use Rattle.cdc_prog.specs.Value.{Got, is_zero, unary, binary}
use Rattle.cdc_prog.specs.declared.affine.Index.{Index}
use Rattle.cdc_prog.specs.declared.affine.Scope.{Scope}
use Rattle.cdc_prog.specs.declared.affine.Term.{Term}
use Rattle.cdc_prog.specs.declared.affine.Affine.{Affine}

-- ---- variables, in the order of objects, dummies, slots and their numbers
abbrev pub order_of : ℕ → ℕ → Ordering
order_of m n = if nat_lt m n then Less else (if nat_lt n m then Greater else Equal)

abbrev pub order : Var → Var → Ordering
order (var.Object m) (var.Object n) = order_of m n
order (var.Object m) v = Less
order (var.Dummy m) (var.Object n) = Greater
order (var.Dummy m) (var.Dummy n) = order_of m n
order (var.Dummy m) (var.Slot n) = Less
order (var.Slot m) (var.Slot n) = order_of m n
order (var.Slot m) v = Greater

abbrev pub same_var : Var → Var → Bool
same_var (var.Object m) (var.Object n) = nat_eq m n
same_var (var.Dummy m) (var.Dummy n) = nat_eq m n
same_var (var.Slot m) (var.Slot n) = nat_eq m n
same_var u v = false

abbrev pub index_in : List Index → Var → Option Index
index_in [] v = None
index_in (i ∷ is) v = if same_var i.var v then Some i else index_in is v

abbrev pub is_in : List Var → Var → Bool
is_in [] v = false
is_in (u ∷ us) v = same_var u v || is_in us v

abbrev pub is_index : Scope → Var → Bool
is_index sc v = elim (index_in sc.indexes v) [ Some i ↦ true | None ↦ false ]

-- ---- sums of terms, which have the order of their variables and no coefficient 0
abbrev pub in_order : {A : Type 0} → Ordering → (less equal greater : A) → A
in_order Less a b c = a
in_order Equal a b c = b
in_order Greater a b c = c

-- a term before others, unless its coefficient is 0
abbrev pub kept : Var → ℤ → List Term → List Term
kept v z us = if is_zero z then us else (record { var = v; times = z }) ∷ us

-- a term into others, where `rest` is what the terms after it make with others
abbrev pub into : Term → (rest : List Term → List Term) → List Term → List Term
into t rest [] = t ∷ rest []
into t rest (u ∷ us) = in_order (order t.var u.var) (t ∷ rest (u ∷ us)) (kept u.var (t.times +ℤ u.times) (rest us)) (u ∷ into t rest us)

abbrev pub sum_terms : List Term → List Term → List Term
sum_terms [] us = us
sum_terms (t ∷ ts) us = into t (sum_terms ts) us

abbrev pub scaled : ℤ → List Term → List Term
scaled k [] = []
scaled k (t ∷ ts) = kept t.var (k *ℤ t.times) (scaled k ts)

-- ---- bounds: below 2^31 in absolute value
abbrev pub is_small : ℤ → Bool
is_small z = nat_lt (nat_abs z) (2 ^ 31)

abbrev pub are_small : List Term → Bool
are_small [] = true
are_small (t ∷ ts) = is_small t.times && are_small ts

abbrev pub bounded : List Term → ℤ → Option Affine
bounded ts z = if is_small z && are_small ts then Some (record { terms = ts; rest = z }) else None

-- each coefficient and the constant are below 2^31 in absolute value
pub record IsSmall (f : Affine) : Type 0 where
  pub rest : is_small f.rest ≡ true
  pub terms : are_small f.terms ≡ true

-- ---- forms
abbrev pub with_some : {A B : Type 0} → Option A → (A → Option B) → Option B
with_some None f = None
with_some (Some a) f = f a

abbrev pub got : {A : Type 0} → Got A → Option A
got (Ok a) = Some a
got (Err kind) = None

-- the value of a tree without references that does not fault
abbrev pub constant : Expr → Option ℤ
constant (Number n) = Some n
constant (Un op a) = with_some (constant a) (λ x. got (unary op x))
constant (Bin op a b) = with_some (constant a) (λ x. with_some (constant b) (λ y. got (binary op x y)))
constant e = None

abbrev pub sum_of : Affine → Affine → Option Affine
sum_of f g = bounded (sum_terms f.terms g.terms) (f.rest +ℤ g.rest)

abbrev pub multiple : ℤ → Affine → Option Affine
multiple k f = bounded (scaled k f.terms) (k *ℤ f.rest)

abbrev pub minus_one : ℤ
minus_one = negsuc 0

abbrev pub if_empty : List Term → Option Affine → Option Affine → Option Affine
if_empty [] o p = o
if_empty (t ∷ ts) o p = p

abbrev pub difference_of : Affine → Affine → Option Affine
difference_of f g = with_some (multiple minus_one g) (sum_of f)

-- one of the two is a constant only
abbrev pub product_of : Affine → Affine → Option Affine
product_of f g = if_empty f.terms (multiple f.rest g) (if_empty g.terms (multiple g.rest f) None)

-- an index or a fixed scalar once
abbrev pub alone : Scope → Var → Option Affine
alone sc v = if is_index sc v || is_in sc.fixed v then Some (record { terms = (record { var = v; times = pos 1 }) ∷ []; rest = pos 0 }) else None

abbrev pub or_form : Option ℤ → Option Affine → Option Affine
or_form (Some n) f = bounded [] n
or_form None f = f

abbrev pub form_un : UnOp → Affine → Option Affine
form_un Neg f = multiple minus_one f
form_un op f = None

abbrev pub form_bin : BinOp → Affine → Affine → Option Affine
form_bin Add f g = sum_of f g
form_bin Sub f g = difference_of f g
form_bin Mul f g = product_of f g
form_bin op f g = None

-- by cases over the tree, each part of which has a form: a part without references that does not fault is its value
abbrev pub form : Scope → Expr → Option Affine
form sc (Number n) = bounded [] n
form sc (Scalar at) = alone sc at.var
form sc (Element at subs) = None
form sc (Un op a) = with_some (form sc a) (λ f. or_form (constant (Un op a)) (form_un op f))
form sc (Bin op a b) = with_some (form sc a) (λ f. with_some (form sc b) (λ g. or_form (constant (Bin op a b)) (form_bin op f g)))

-- ---- values, where ρ gives those of the variables
abbrev pub total : (Var → ℤ) → List Term → ℤ
total ρ [] = pos 0
total ρ (t ∷ ts) = t.times *ℤ ρ t.var +ℤ total ρ ts

abbrev pub worth : (Var → ℤ) → Affine → ℤ
worth ρ f = total ρ f.terms +ℤ f.rest

-- each variable of the terms is an index or a fixed scalar
abbrev pub Speaks : Scope → List Term → Type 0
Speaks sc [] = Unit {0}
Speaks sc (t ∷ ts) = ((is_index sc t.var || is_in sc.fixed t.var) ≡ true) × Speaks sc ts
