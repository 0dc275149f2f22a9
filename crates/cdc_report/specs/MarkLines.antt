-- The lines on marks: one for each access of memory, and for each DOALL two with what is written before its boundaries.
use Rattle.std.specs.Prelude.{ℕ, ◌-◌, Bool, true, false, List, [], ◌∷◌, ◌++◌, codes, flat_map, Option, Some, None, slice_get, get_or}
use Rattle.cdc_prog.specs.declared.expr.Ref.{Ref}
use Rattle.cdc_prog.specs.declared.expr.Var.{Var}
use Rattle.cdc_prog.specs.declared.expr.Var.TheVariants.{Object as AnObject, Dummy as ADummy, Slot}
use Rattle.cdc_prog.specs.declared.program.Dummy.{Dummy}
use Rattle.cdc_prog.specs.declared.program.Mark.{Mark}
use Rattle.cdc_prog.specs.declared.program.Marks.{Marks}
use Rattle.cdc_prog.specs.declared.program.Object.{Object}
use Rattle.cdc_prog.specs.Dependence.{Spot}
use Rattle.cdc_prog.specs.Marked.{mark_of}
use Rattle.cdc_prog.specs.Plain.{Stmt, Seq, If, Arm, Do, Doall, ProgramUnit, Program}
use Rattle.cdc_path.specs.References.{refs, outside}
use Rattle.cdc_report.specs.declared.boundaries.Loop.{Loop}
use Rattle.cdc_text.specs.Texts.{number, joined}
use Rattle.cdc_report.specs.Listing.{Named, named_by, site, mark, spaced, variable}

-- ---- accesses
-- what the lines on the accesses of a unit tell of: the objects, the dummies of the unit, and the marks
pub record Sites : Type 0 where
  pub objects : List Object
  pub dummies : List Dummy
  pub reads : List Mark

abbrev pub object_name : Option Object → List ℕ
object_name None = []
object_name (Some o) = o.name

abbrev pub dummy_name : Option Dummy → List ℕ
dummy_name None = []
dummy_name (Some d) = d.name

-- the name in the source; a hidden object is named by its number in its unit
abbrev pub name_at : Sites → Var → List ℕ
name_at s (AnObject k) = object_name (slice_get s.objects k)
name_at s (ADummy k) = dummy_name (slice_get s.dummies k)
name_at s (Slot k) = []

abbrev pub kind : (writes : Bool) → List ℕ
kind true = codes " write "
kind false = codes " read "

-- a read has its mark at the end of its line
abbrev pub line_end : Sites → (writes : Bool) → (number : ℕ) → List ℕ
line_end s true number = codes "\n"
line_end s false number = spaced (mark (mark_of s.reads number) ∷ []) ++ codes "\n"

abbrev pub line_head : Sites → (writes : Bool) → Ref → List ℕ
line_head s writes at = joined (site at.site ∷ kind writes ∷ name_at s at.var ∷ codes " at " ∷ number at.place.line ∷ codes ":" ∷ number at.place.column ∷ [])

-- a slot lies in no memory and has no line
abbrev pub line_of : Sites → (writes : Bool) → Ref → Var → List ℕ
line_of s writes at (Slot k) = []
line_of s writes at v = line_head s writes at ++ line_end s writes at.site

abbrev pub access_line : Sites → Spot → List ℕ
access_line s q = line_of s q.writes q.at q.at.var

abbrev pub access_lines : Sites → List Spot → List ℕ
access_lines s qs = flat_map (access_line s) qs

abbrev pub sites_in : Program → Marks → ProgramUnit → Sites
sites_in p m u = record { objects = p.objects; dummies = u.dummies; reads = m.reads }

-- the lines on a unit, in the order of its accesses, which is that of their sites
abbrev pub unit_lines : Program → Marks → ProgramUnit → List ℕ
unit_lines p m u = access_lines (sites_in p m u) (refs outside u.body)

-- ---- boundaries
-- the DOALLs of statements in the order of the text
abbrev pub loops : Stmt → List Loop
loops (Seq a b) = loops a ++ loops b
loops (If arms) = loops arms
loops (Arm line cond body other) = loops body ++ loops other
loops (Do control first body again bump) = loops body
loops (Doall control number slots body) = record { number = number; line = control.line } ∷ []
loops s = []

abbrev pub object_text : Named → (object : ℕ) → List ℕ
object_text n object = spaced (variable n (AnObject object) ∷ [])

-- the objects of a list by their units and names, with a space before each
abbrev pub list_text : Named → List ℕ → List ℕ
list_text n [] = codes " none"
list_text n (object ∷ objects) = flat_map (object_text n) (object ∷ objects)

abbrev pub boundary_line : Named → Loop → (boundary : List ℕ) → (written : List ℕ) → List ℕ
boundary_line n loop boundary written = joined (codes "doall " ∷ number loop.number ∷ codes " line " ∷ number loop.line ∷ boundary ∷ []) ++ (list_text n written ++ codes "\n")

-- what is named, and the written lists, one for each DOALL
pub record Lists : Type 0 where
  pub named : Named
  pub entries : List (List ℕ)
  pub exits : List (List ℕ)

abbrev pub lists_of : Program → Marks → Lists
lists_of p m = record { named = named_by p; entries = m.entries; exits = m.exits }

abbrev pub written_at : List (List ℕ) → (number : ℕ) → List ℕ
written_at lists number = get_or lists (number - 1) []

abbrev pub loop_lines : Lists → Loop → List ℕ
loop_lines l loop =
    boundary_line l.named loop (codes " entry writes") (written_at l.entries loop.number) ++ boundary_line l.named loop (codes " exit writes") (written_at l.exits loop.number)

abbrev pub unit_loops : Lists → ProgramUnit → List ℕ
unit_loops l u = flat_map (loop_lines l) (loops u.body)

-- ---- all lines, units in the order of the file
abbrev pub marks_text : Program → Marks → List ℕ
marks_text p m = flat_map (unit_lines p m) p.units ++ flat_map (unit_loops (lists_of p m)) p.units
