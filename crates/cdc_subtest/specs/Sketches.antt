-- What the rules ask of one form, so that two forms are compared without a walk over their terms.
use Rattle.std.specs.Prelude.{ℕ, Bool, false, not, ◌&&◌, ◌||◌, nat_abs, ℤ, ◌-ℤ◌, ◌*ℤ◌, List, [], ◌∷◌, Option, Some, None}
use Rattle.cdc_num.specs.declared.interval.Interval.{Interval}
use Rattle.cdc_num.specs.Divisors.{gcd, divides}
use Rattle.cdc_num.specs.Intervals.{minus, leaves_out_zero, lies_within}
use Rattle.cdc_prog.specs.declared.affine.Scope.{Scope}
use Rattle.cdc_prog.specs.declared.affine.Term.{Term}
use Rattle.cdc_prog.specs.declared.affine.Affine.{Affine}
use Rattle.cdc_prog.specs.Plain.{Expr, Exprs, Empty, More}
use Rattle.cdc_prog.specs.Value.{is_zero}
use Rattle.cdc_prog.specs.Affine.{with_some, form}
use Rattle.cdc_prog.specs.Dependence.{moving, still, same_number, same_terms, common, span, holds, is_empty, own_times, others}
use Rattle.cdc_subtest.specs.declared.sketch.Sketch.{Sketch}

-- the terms of fixed scalars; whether no index has a coefficient; the common divisor and the interval of the terms of indexes; the coefficient of the DOALL's index, and the interval without it; the constant
pub record Glance : Type 0 where
  pub still : List Term
  pub steady : Bool
  pub common : ℕ
  pub whole : Option Interval
  pub own : ℤ
  pub others : Option Interval
  pub rest : ℤ

abbrev pub glance_at : Scope → Affine → (moving : List Term) → Glance
glance_at sc f ts = record { still = still sc f.terms; steady = is_empty ts; common = common ts; whole = span sc.indexes ts; own = own_times ts; others = span sc.indexes (others ts); rest = f.rest }

abbrev pub glance : Scope → Affine → Glance
glance sc f = glance_at sc f (moving sc f.terms)

-- of the form of a subscript, where it has one
abbrev pub glimpse : Scope → Expr → Option Glance
glimpse sc e = with_some (form sc e) (λ f. Some (glance sc f))

abbrev pub glimpses : Scope → Exprs → List (Option Glance)
glimpses sc Empty = []
glimpses sc (More e es) = glimpse sc e ∷ glimpses sc es

-- a sketch as a glance
abbrev pub glance_of : Sketch → Glance
glance_of s = record { still = s.still; steady = s.steady; common = s.common; whole = s.whole; own = s.own; others = s.others; rest = s.rest }

abbrev pub glance_in : Option Sketch → Option Glance
glance_in None = None
glance_in (Some s) = Some (glance_of s)

-- ---- the rules
abbrev pub steps_apart : (m3 : ℤ) → Glance → Glance → Bool
steps_apart m3 x y = holds x.others (λ i. holds y.others (λ j. lies_within (nat_abs (x.own *ℤ m3)) (minus i j (x.rest -ℤ y.rest))))

abbrev pub constants_apart : Glance → Glance → Bool
constants_apart x y = x.steady && y.steady && not (is_zero (x.rest -ℤ y.rest))

abbrev pub divisors_apart : Glance → Glance → Bool
divisors_apart x y = not (divides (gcd x.common y.common) (nat_abs (x.rest -ℤ y.rest)))

abbrev pub ranges_apart : Glance → Glance → Bool
ranges_apart x y = holds x.whole (λ i. holds y.whole (λ j. leaves_out_zero (minus i j (x.rest -ℤ y.rest))))

abbrev pub strides_apart : (step : Option ℤ) → Glance → Glance → Bool
strides_apart step x y = holds step (λ m3. not (is_zero m3) && not (is_zero x.own) && same_number x.own y.own && steps_apart m3 x y)

abbrev pub glances_apart : (step : Option ℤ) → Glance → Glance → Bool
glances_apart step x y = same_terms x.still y.still && (constants_apart x y || divisors_apart x y || ranges_apart x y || strides_apart step x y)

abbrev pub one_apart : (step : Option ℤ) → Option Glance → Option Glance → Bool
one_apart step x y = holds x (λ a. holds y (λ b. glances_apart step a b))

-- in some dimension
abbrev pub some_apart : (step : Option ℤ) → List (Option Glance) → List (Option Glance) → Bool
some_apart step (x ∷ xs) (y ∷ ys) = one_apart step x y || some_apart step xs ys
some_apart step xs ys = false
