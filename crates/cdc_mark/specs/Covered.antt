-- Covers, reference by reference and statement by statement.
use Rattle.std.specs.Prelude.{◌≡◌, ◌⊎◌, ℕ, false, List, [], ◌∷◌, ◌++◌}
use Rattle.std.specs.List.{All}
use Rattle.cdc_prog.specs.declared.expr.Var.{Var}
use Rattle.cdc_prog.specs.Plain.{Expr, Scalar, Stmt, Assign, Print, Read}
use Rattle.cdc_prog.specs.Dependence.{Spot, spot}
use Rattle.cdc_prog.specs.Sameness.{SubsAreSame}
use Rattle.cdc_prog.specs.declared.program.Unit.{Unit as ProgramUnit}
use Rattle.cdc_prog.specs.Translation.{exprs_of, stmts_of}
use Rattle.cdc_path.specs.References.{refs, outside}
use Rattle.cdc_mark.specs.declared.covers.Mention.{Mention}
use Rattle.cdc_path.specs.Covers.{ArePlain, Keeps, Covers, straight, HasRun}

-- a scalar without its site and its place
abbrev pub scalar_of : Var → Expr
scalar_of v = Scalar (record { var = v; site = 0; place = record { line = 0; column = 0 } })

-- a reference outside all loops, as code holds it
abbrev pub spot_of : Mention → Spot
spot_of m = spot outside m.writes m.at (exprs_of m.subs.now)

-- two references of one variable, with equal subscripts
abbrev pub IsAt : Spot → Spot → Type 0
IsAt m q = (m.at.var ≡ q.at.var) × SubsAreSame m.subs q.subs

-- one of earlier references is at the place of a read, and none after it writes a scalar of its subscripts
pub record HasEarlier (bs : List Spot) (q : Spot) : Type 0 where
  pub before : List Spot
  pub cover : Spot
  pub between : List Spot
  pub in_order : bs ≡ before ++ (cover ∷ between)
  pub same : IsAt cover q
  pub kept : All (Keeps q.subs) between

-- a reference is a read at a site, and earlier ones cover it
abbrev pub IsCovered : (site : ℕ) → List Spot → Spot → Type 0
IsCovered site bs q = (q.writes ≡ false) × (q.at.site ≡ site) × ArePlain q.subs × HasEarlier bs q

-- a reference that does not cover a read, nor writes a scalar of its subscripts
abbrev pub IsPassed : Spot → Spot → Type 0
IsPassed q m = Keeps q.subs m × (IsAt m q → ⊥)

-- the run that a statement leaves: it goes on, or another begins
abbrev pub run_after : Stmt → List Spot → List Spot
run_after (Assign line t value) bs = bs ++ refs outside (Assign line t value)
run_after (Print line items) bs = bs ++ refs outside (Print line items)
run_after (Read line targets) bs = bs ++ refs outside (Read line targets)
run_after s bs = []

-- a run that a statement ends covers a read, or one inside the statement does
abbrev pub EndsRun : (site : ℕ) → Stmt → List Spot → Type 0
EndsRun site (Assign line t value) bs = ⊥
EndsRun site (Print line items) bs = ⊥
EndsRun site (Read line targets) bs = ⊥
EndsRun site s bs = Covers site bs ⊎ HasRun (Covers site) s

-- some unit has a run that covers a read
abbrev pub HasRunIn : (site : ℕ) → List ProgramUnit → Type 0
HasRunIn site [] = ⊥
HasRunIn site (u ∷ us) = HasRun (Covers site) (stmts_of u.body) ⊎ HasRunIn site us

-- a run that goes on covers a read, or one later on does
abbrev pub IsOpen : (site : ℕ) → List Spot → Stmt → Type 0
IsOpen site bs rest = Covers site (bs ++ straight rest) ⊎ HasRun (Covers site) rest
