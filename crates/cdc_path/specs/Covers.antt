-- Covers: a read of what the same run of statements has accessed just before.
use Rattle.std.specs.Prelude.{◌≡◌, ◌⊎◌, ℕ, true, false, List, [], ◌∷◌, ◌++◌}
use Rattle.std.specs.List.{All}
use Rattle.cdc_prog.specs.Plain.{Expr, Number, Scalar, Element, Un, Bin, Exprs, Empty, More, Stmt, Seq, Assign, If, Arm, Do, Doall, Print, Read, Program}
use Rattle.cdc_prog.specs.Units.{body_of}
use Rattle.cdc_prog.specs.Sameness.{SubsAreSame}
use Rattle.cdc_prog.specs.Dependence.{Spot}
use Rattle.cdc_prog.specs.Uses.{SubsMention}
use Rattle.cdc_path.specs.References.{refs, outside}

-- no element of an array stands in a tree
abbrev mutual
  pub ExprIsPlain : Expr → Type 0
  ExprIsPlain (Number n) = Unit {0}
  ExprIsPlain (Scalar r) = Unit {0}
  ExprIsPlain (Element r subs) = ⊥
  ExprIsPlain (Un op a) = ExprIsPlain a
  ExprIsPlain (Bin op a b) = ExprIsPlain a × ExprIsPlain b

  pub ArePlain : Exprs → Type 0
  ArePlain Empty = Unit {0}
  ArePlain (More e es) = ExprIsPlain e × ArePlain es

-- a reference does not write a scalar of these subscripts
abbrev pub Keeps : Exprs → Spot → Type 0
Keeps subs q = q.writes ≡ true → SubsMention (λ r. r.var ≡ q.at.var) subs → ⊥

-- of references in the order of the accesses, an earlier one covers the read at a site: it is of the same variable, with equal subscripts without array elements, and nothing between writes a scalar of these
pub record Covers (site : ℕ) (rs : List Spot) : Type 0 where
  pub before : List Spot
  pub cover : Spot
  pub between : List Spot
  pub read : Spot
  pub after : List Spot
  pub in_order : rs ≡ before ++ (cover ∷ (between ++ (read ∷ after)))
  pub reads : read.writes ≡ false
  pub site_is : read.at.site ≡ site
  pub variable : cover.at.var ≡ read.at.var
  pub same : SubsAreSame cover.subs read.subs
  pub plain : ArePlain read.subs
  pub kept : All (Keeps read.subs) between

-- the references of the assignments, PRINTs and READs with which a list of statements begins
abbrev pub straight : Stmt → List Spot
straight (Seq (Assign line t value) rest) = refs outside (Assign line t value) ++ straight rest
straight (Seq (Print line items) rest) = refs outside (Print line items) ++ straight rest
straight (Seq (Read line targets) rest) = refs outside (Read line targets) ++ straight rest
straight s = []

-- somewhere in statements a list of statements goes on so
abbrev pub HasRun : (List Spot → Type 0) → Stmt → Type 0
HasRun P (Seq a b) = P (straight (Seq a b)) ⊎ (HasRun P a ⊎ HasRun P b)
HasRun P (If arms) = HasRun P arms
HasRun P (Arm line cond body other) = HasRun P body ⊎ HasRun P other
HasRun P (Do k first body again bump) = HasRun P body
HasRun P (Doall k number slots body) = HasRun P body
HasRun P s = ⊥

-- the read at a site has a cover
abbrev pub HasCover : Program → (site : ℕ) → Type 0
HasCover p site = (u : ℕ) × HasRun (Covers site) (body_of p u)
