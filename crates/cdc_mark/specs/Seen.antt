-- References of the main unit as the search lists them.
use Rattle.std.specs.Prelude.{◌≡◌, ℕ, List, [], map, Option, Some, None}
use Rattle.cdc_prog.specs.declared.expr.Var.{Var}
use Rattle.cdc_prog.specs.declared.expr.Var.TheVariants as var
use Rattle.cdc_prog.specs.declared.program.Object.{Object}
use Rattle.cdc_prog.specs.Data.{Binding, dims_of}
use Rattle.cdc_prog.specs.Dependence.{Spot}
use Rattle.cdc_prog.specs.Sections.{section, Overlap}
use Rattle.cdc_prog.specs.Plain.{Program}
use Rattle.cdc_prog.specs.Units.{body_of}
use Rattle.cdc_path.specs.PathExpr.{PathExpr}
use Rattle.cdc_path.specs.Courses.{unit_course}
use Rattle.cdc_path.specs.References.{refs, outside}
use Rattle.cdc_mark.specs.declared.references.Reference.{Reference}

-- a unit without dummies
abbrev pub unbound : List Object → Binding
unbound objects = record { path = []; objects = objects; shapes = []; bound = [] }

-- the object of a variable; a slot has none
abbrev pub object_in : Var → Option ℕ
object_in (var.Object k) = Some k
object_in (var.Dummy k) = Some 0
object_in (var.Slot k) = None

abbrev pub seen : Binding → Spot → Reference
seen b p = record { site = p.at.site; writes = p.writes; object = object_in p.at.var; section = section p.scope p.subs (dims_of b p.at.var) }

-- two references have one object
abbrev pub SameObject : Option ℕ → Option ℕ → Type 0
SameObject (Some a) (Some b) = a ≡ b
SameObject _ _ = ⊥

-- a write and a read touch one object, in sections that overlap
abbrev pub Meets : (read write : Reference) → Type 0
Meets p q = SameObject q.object p.object × Overlap q.section p.section

-- ---- the main unit, where no CALL is
abbrev pub main_course : Program → PathExpr
main_course p = unit_course [] (body_of p p.main)

abbrev pub main_refs : Program → List Reference
main_refs p = map (seen (unbound p.objects)) (refs outside (body_of p p.main))
