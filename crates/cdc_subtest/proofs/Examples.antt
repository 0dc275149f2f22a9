-- Each rule on both sides of its border, and bodies that the test lets through or refuses.
use Rattle.std.proofs.Common.{◌≡◌, ℕ, List, [], ◌∷◌, pos, Option, Some, None, Bool, true, false, refl}
use Rattle.cdc_num.specs.Divisors.{gcd}
use Rattle.cdc_prog.specs.declared.expr.Var.{Var}
use Rattle.cdc_prog.specs.declared.expr.Var.TheVariants as var
use Rattle.cdc_prog.specs.declared.expr.Ref.{Ref}
use Rattle.cdc_prog.specs.declared.expr.BinOp.TheVariants.{Add, Sub, Mul, Div}
use Rattle.cdc_prog.specs.declared.affine.Scope.{Scope}
use Rattle.cdc_prog.specs.Plain.{Expr, Number, Scalar, Element, Bin, Empty, More, Control, Stmt, Assign}
use Rattle.cdc_prog.specs.Affine.{form}
use Rattle.cdc_prog.specs.Dependence.{range_of, inside, index_of, scope_of, one_told_apart, tested}

abbrev ref : ℕ → Var → Ref
ref site v = record { var = v; site = site; place = record { line = 1; column = site } }

abbrev array : Var
array = var.Object 0

-- the index of the DOALL, a private scalar that counts a DO, and a scalar that is not stored
abbrev I : Expr
I = Scalar (ref 0 (var.Slot 0))

abbrev J : Expr
J = Scalar (ref 0 (var.Slot 1))

abbrev N : Expr
N = Scalar (ref 9 (var.Object 1))

abbrev number : ℕ → Expr
number n = Number (pos n)

abbrev plus : Expr → Expr → Expr
plus e f = Bin Add e f

abbrev times : ℕ → Expr → Expr
times n e = Bin Mul (number n) e

abbrev counts : ℕ → ℕ → ℕ → Control
counts m1 m2 m3 = record { line = 1; from = number m1; to = number m2; by = number m3 }

abbrev fixed : List Var
fixed = var.Object 1 ∷ []

-- inside DOALL I = 1, 9, and inside DO J = 0, n there
abbrev doall : Scope
doall = scope_of (counts 1 9 1) fixed

abbrev inner : ℕ → Scope
inner n = inside doall (index_of (counts 0 n 1) (ref 0 (var.Slot 1)))

-- whether a subscript is told from another in two iterations with this step
abbrev apart : ℕ → Scope → Expr → Expr → Bool
apart step sc e f = one_told_apart (Some (pos step)) sc sc e f

IsSome : {A : Type 0} → Option A → Bool
IsSome None = false
IsSome (Some a) = true

-- ---- constant
constants : apart 1 doall (number 1) (number 2) ≡ true
unfolding gcd
constants = refl

equal_constants : apart 1 doall (number 1) (number 1) ≡ false
unfolding gcd
equal_constants = refl

fixed_scalars : apart 1 doall (plus N (number 1)) (plus N (number 2)) ≡ true
unfolding gcd
fixed_scalars = refl

unequal_scalars : apart 1 doall (plus N (number 1)) (plus (times 2 N) (number 2)) ≡ false
unfolding gcd
unequal_scalars = refl

-- ---- gcd
even_odd : apart 1 doall (times 2 I) (plus (times 2 I) (number 1)) ≡ true
unfolding gcd
even_odd = refl

even_even : apart 1 doall (times 2 I) (plus (times 2 I) (number 2)) ≡ false
unfolding gcd
even_even = refl

double : apart 1 doall (times 2 I) (plus I (number 1)) ≡ false
unfolding gcd
double = refl

-- ---- range
beyond : apart 1 doall I (plus I (number 9)) ≡ true
unfolding gcd
beyond = refl

last : apart 1 doall I (plus I (number 8)) ≡ false
unfolding gcd
last = refl

-- ---- stride
between_steps : apart 2 (scope_of (counts 1 9 2) fixed) I (plus I (number 1)) ≡ true
unfolding gcd
between_steps = refl

one_step : apart 2 (scope_of (counts 1 9 2) fixed) I (plus I (number 2)) ≡ false
unfolding gcd
one_step = refl

blocks : apart 1 (inner 3) (plus (times 4 I) J) (plus (times 4 I) J) ≡ true
unfolding gcd
blocks = refl

overlapping_blocks : apart 1 (inner 4) (plus (times 4 I) J) (plus (times 4 I) J) ≡ false
unfolding gcd
overlapping_blocks = refl

-- ---- forms and ranges
zero_coefficient : form doall (Bin Mul (Bin Sub I I) N) ≡ Some (record { terms = []; rest = pos 0 })
zero_coefficient = refl

large_part : form doall (Bin Mul (Bin Div (Number (pos 2147483648)) (Number (pos 2147483648))) I) ≡ None
large_part = refl

faulting_part : form doall (Bin Mul (number 0) (Bin Div (number 1) (number 0))) ≡ None
faulting_part = refl

no_turns : range_of (counts 5 1 2) ≡ Some (record { lo = pos 5; hi = pos 5; step = pos 2 })
no_turns = refl

-- ---- bodies
-- A(e) = A(f)
abbrev moves : Expr → Expr → Stmt
moves e f = Assign 1 (record { at = ref 2 array; subs = More e Empty }) (Element (ref 1 array) (More f Empty))

shifted : tested (counts 1 9 1) fixed (moves (plus I N) (plus I N)) ≡ None
unfolding gcd
shifted = refl

one_place : IsSome (tested (counts 1 1 1) fixed (moves (number 1) (number 2))) ≡ true
unfolding gcd IsSome
one_place = refl
