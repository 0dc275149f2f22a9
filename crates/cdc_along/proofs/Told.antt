-- Marks and written lists tell of the writes that tasks have passed.
use Rattle.std.proofs.Common.{◌≡◌, ℕ, suc, ◌≤◌, true, false, List, ◌∷◌, ◌++◌, Some, inl, inr}
use Rattle.std.specs.Prelude.{slice_get}
use Rattle.cdc_prog.specs.declared.program.Mark.{Mark}
use Rattle.cdc_prog.specs.declared.program.Mark.TheVariants.{Ordinary, Time}
use Rattle.cdc_prog.specs.declared.program.Marks.{Marks}
use Rattle.cdc_prog.specs.Plain.{Program}
use Rattle.cdc_prog.specs.Marked.{mark_of}
use Rattle.cdc_prog.specs.Resolved.{IsResolved}
use Rattle.cdc_prog.specs.Iterations.{IsIn}
use Rattle.cdc_path.specs.declared.point.Point.{Point}
use Rattle.cdc_path.specs.declared.point.Point.TheVariants.{Read, Write, Entry, Exit}
use Rattle.cdc_path.specs.PathExpr.{Visit, boundaries}
use Rattle.cdc_path.specs.Courses.{IsPath}
use Rattle.cdc_path.specs.Marks.{visit, Counts, IsMark, AreWrittenLists, AreMarks}
use Rattle.cdc_along.specs.Along.{Begins}
use Rattle.cdc_along.specs.Sections.{LiesInSection}
use Rattle.cdc_along.specs.Laws.{Tells}
use Rattle.cdc_along.proofs.Counts.{counts, leads}
use Rattle.cdc_along.proofs.Meet.{meet}

tells : (p : Program) (site k : ℕ) (mark : Mark) → IsMark p site mark → Counts p site k → Tells p site k mark
tells p site k Ordinary (inl covered) c = covered
tells p site k Ordinary (inr none) c = absurd (none k c)
tells p site k (Time d) h c = h.1 k c

pub mark_tells : (p : Program) (m : Marks) (before between : List Visit) (write_path path : List ℕ) (write_site site word : ℕ) → IsResolved p → AreMarks p m → 1 ≤ site → site ≤ p.sites
    → LiesInSection p true write_path write_site word → LiesInSection p false path site word
    → Begins (IsPath p) (visit path (Read site) ∷ (between ++ (visit write_path (Write write_site) ∷ before))) → 1 ≤ boundaries before → 1 ≤ boundaries between
    → Tells p site (boundaries between) (mark_of m.reads site)
mark_tells p m before between write_path path write_site site word r marks low high written read begun later apart =
    let (object, s, t, writes, reads, overlap) = meet p true false write_path path write_site site word r written read in
    tells p site (boundaries between) (mark_of m.reads site) (marks.reads site low high) (counts p before between write_path path write_site site object s t begun later apart writes reads overlap)

-- a write that leads to a boundary is in the list of the boundary
pub list_tells : (p : Program) (at : ℕ → Point) (lists : List (List ℕ)) → AreWrittenLists p at lists → (before between : List Visit) (write_path path : List ℕ) (write_site word k : ℕ) (objects : List ℕ) → slice_get lists k ≡ Some objects
    → (lies : LiesInSection p true write_path write_site word) → Begins (IsPath p) (visit path (at (suc k)) ∷ (between ++ (visit write_path (Write write_site) ∷ before))) → boundaries between ≡ 0 → IsIn lies.object objects
list_tells p at lists are before between write_path path write_site word k objects is lies begun near =
    ((are.each k objects is).written lies.object).1 (leads p (at (suc k)) before between write_path path write_site lies.object lies.section begun near lies.touches)

pub entry_tells : (p : Program) (m : Marks) (before between : List Visit) (write_path path : List ℕ) (write_site word k : ℕ) (objects : List ℕ) → AreMarks p m → slice_get m.entries k ≡ Some objects
    → (lies : LiesInSection p true write_path write_site word) → Begins (IsPath p) (visit path (Entry (suc k)) ∷ (between ++ (visit write_path (Write write_site) ∷ before))) → boundaries between ≡ 0 → IsIn lies.object objects
entry_tells p m before between write_path path write_site word k objects marks is lies begun near = list_tells p Entry m.entries marks.entries before between write_path path write_site word k objects is lies begun near

pub exit_tells : (p : Program) (m : Marks) (before between : List Visit) (write_path path : List ℕ) (write_site word k : ℕ) (objects : List ℕ) → AreMarks p m → slice_get m.exits k ≡ Some objects
    → (lies : LiesInSection p true write_path write_site word) → Begins (IsPath p) (visit path (Exit (suc k)) ∷ (between ++ (visit write_path (Write write_site) ∷ before))) → boundaries between ≡ 0 → IsIn lies.object objects
exit_tells p m before between write_path path write_site word k objects marks is lies begun near = list_tells p Exit m.exits marks.exits before between write_path path write_site word k objects is lies begun near
