-- Equality of trees but for sites and places.
use Rattle.std.specs.Prelude.{◌≡◌}
use Rattle.cdc_prog.specs.declared.expr.Ref.{Ref}
use Rattle.cdc_prog.specs.Alone.{Access, Read, Write}
use Rattle.cdc_prog.specs.Plain.{Expr, Number, Scalar, Element, Un, Bin, Exprs, Empty, More}

-- the reference of a variable without its site and its place
abbrev pub unsited_ref : Ref → Ref
unsited_ref at = record { var = at.var; site = 0; place = record { line = 0; column = 0 } }

-- a tree without sites and places
abbrev mutual
  pub unsited : Expr → Expr
  unsited (Number n) = Number n
  unsited (Scalar at) = Scalar (unsited_ref at)
  unsited (Element at subs) = Element (unsited_ref at) (unsited_subs subs)
  unsited (Un op a) = Un op (unsited a)
  unsited (Bin op a b) = Bin op (unsited a) (unsited b)

  pub unsited_subs : Exprs → Exprs
  unsited_subs Empty = Empty
  unsited_subs (More e es) = More (unsited e) (unsited_subs es)

-- two trees are equal but for sites and places
abbrev pub AreSame : Expr → Expr → Type 0
AreSame a b = unsited a ≡ unsited b

abbrev pub SubsAreSame : Exprs → Exprs → Type 0
SubsAreSame a b = unsited_subs a ≡ unsited_subs b

abbrev pub unsited_access : Access → Access
unsited_access (Read path site word v) = Read path 0 word v
unsited_access (Write path site word v) = Write path 0 word v
