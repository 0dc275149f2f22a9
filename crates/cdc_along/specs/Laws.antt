-- What holds of programs, of what their tasks have passed, and of their marks.
use Rattle.std.specs.Prelude.{◌≡◌, ℕ, suc, ◌≤◌, min, slice_get, Some, Bool, true, false, List, ◌∷◌, ◌++◌}
use Rattle.cdc_num.specs.declared.triplet.Triplet.{Triplet}
use Rattle.cdc_prog.specs.declared.program.Mark.{Mark}
use Rattle.cdc_prog.specs.declared.program.Mark.TheVariants.{Ordinary, Time}
use Rattle.cdc_prog.specs.declared.program.Marks.{Marks}
use Rattle.cdc_prog.specs.Plain.{Program}
use Rattle.cdc_prog.specs.Marked.{mark_of}
use Rattle.cdc_prog.specs.Data.{Store}
use Rattle.cdc_prog.specs.Process.{Process}
use Rattle.cdc_prog.specs.Resolved.{IsResolved, HasNoCall}
use Rattle.cdc_prog.specs.Premises.{KeepsLoopVariables}
use Rattle.cdc_prog.specs.Iterations.{IsIn, KeepsIndexes}
use Rattle.cdc_prog.specs.Sections.{Overlap}
use Rattle.cdc_path.specs.declared.point.Point.{Point}
use Rattle.cdc_path.specs.declared.point.Point.TheVariants.{Read, Write, Entry, Exit}
use Rattle.cdc_path.specs.PathExpr.{Visit, boundaries}
use Rattle.cdc_path.specs.Courses.{IsPath}
use Rattle.cdc_path.specs.References.{Touches}
use Rattle.cdc_path.specs.Covers.{HasCover}
use Rattle.cdc_path.specs.Marks.{visit, Counts, LeadsTo, AreMarks}
use Rattle.cdc_along.specs.Along.{Begins, Along}
use Rattle.cdc_along.specs.Sites.{SitesStandOnce}
use Rattle.cdc_along.specs.Sections.{LiesInSection}
use Rattle.cdc_along.specs.Programs.{GoesAlong, HasTasksAlong, KeepsSections, KeepsCovers}

-- a resolved program goes along its own paths
abbrev pub ProgramsGoAlong : Type 0
ProgramsGoAlong = (p : Program) → IsResolved p → GoesAlong p

-- and so do its reached tasks
abbrev pub TasksLieAlong : Type 0
TasksLieAlong = (p : Program) → IsResolved p → HasTasksAlong p

-- from the exit of its DOALL, behind the points that an iteration has passed, what follows goes along paths on every store
abbrev pub Leaves : Program → (path : List ℕ) → (number : ℕ) → (next : Process) → List Visit → Type 0
Leaves p path number next u = (r : Store) → Along (IsPath p) (visit path (Exit number) ∷ u) next r

-- the points that a task has passed, serial or in an iteration, are the first ones of a path. So a write among them counts for a read that is the last of them, over the boundaries between, and leads to a boundary that is the last of them
pub record PassedIsOnPath : Type 0 where
  pub serial : (p : Program) (t : List Visit) (task : Process) (s : Store) → Along (IsPath p) t task s → Begins (IsPath p) t
  pub iteration : (p : Program) (path : List ℕ) (number : ℕ) (next : Process) (t : List Visit) (task : Process) (s : Store) → Along (Leaves p path number next) t task s → Begins (IsPath p) t
  pub counts : (p : Program) (before between : List Visit) (write_path path : List ℕ) (write_site site object : ℕ) (written read : List Triplet)
      → Begins (IsPath p) (visit path (Read site) ∷ (between ++ (visit write_path (Write write_site) ∷ before))) → 1 ≤ boundaries before → 1 ≤ boundaries between
      → Touches p true write_path write_site object written → Touches p false path site object read → Overlap written read → Counts p site (boundaries between)
  pub leads : (p : Program) (b : Point) (before between : List Visit) (write_path path : List ℕ) (write_site object : ℕ) (section : List Triplet)
      → Begins (IsPath p) (visit path b ∷ (between ++ (visit write_path (Write write_site) ∷ before))) → boundaries between ≡ 0
      → Touches p true write_path write_site object section → LeadsTo p b object

-- each access of a program without CALL lies in the section of its site, where no DO stores in its variable and no DOALL in its index
abbrev pub SectionsHold : Type 0
SectionsHold = (p : Program) → IsResolved p → HasNoCall p → KeepsLoopVariables p → KeepsIndexes p → KeepsSections p

-- two accesses of one word touch one object, in sections that overlap
abbrev pub SectionsOverlap : Type 0
SectionsOverlap = (p : Program) (writes also : Bool) (path other : List ℕ) (site far word : ℕ) → IsResolved p → LiesInSection p writes path site word → LiesInSection p also other far word
    → (object : ℕ) × (s : List Triplet) × (t : List Triplet) × Touches p writes path site object s × Touches p also other far object t × Overlap s t

-- a read of a program without CALL that has a cover is of a word that its task has accessed before, where no two references have one site
abbrev pub CoversAreAccessed : Type 0
CoversAreAccessed = (p : Program) → IsResolved p → HasNoCall p → SitesStandOnce p → KeepsCovers p

-- what the mark of a read says of a write over k boundaries: the read has a cover where it is ordinary, and else the mark is at most k, cut at 255
abbrev pub Tells : Program → (site k : ℕ) → Mark → Type 0
Tells p site k Ordinary = HasCover p site
Tells p site k (Time d) = d ≤ min k 255

-- the marks and written lists of a program tell of each write that its tasks have passed. Of a write before a read of the same word, with a boundary before it and one between, tells the mark of the read; of a write before a boundary, with none between, the list of the boundary
pub record WritesAreTold : Type 0 where
  pub marks : (p : Program) (m : Marks) (before between : List Visit) (write_path path : List ℕ) (write_site site word : ℕ) → IsResolved p → AreMarks p m → 1 ≤ site → site ≤ p.sites
      → LiesInSection p true write_path write_site word → LiesInSection p false path site word
      → Begins (IsPath p) (visit path (Read site) ∷ (between ++ (visit write_path (Write write_site) ∷ before))) → 1 ≤ boundaries before → 1 ≤ boundaries between
      → Tells p site (boundaries between) (mark_of m.reads site)
  pub entries : (p : Program) (m : Marks) (before between : List Visit) (write_path path : List ℕ) (write_site word k : ℕ) (objects : List ℕ) → AreMarks p m
      → slice_get m.entries k ≡ Some objects → (lies : LiesInSection p true write_path write_site word)
      → Begins (IsPath p) (visit path (Entry (suc k)) ∷ (between ++ (visit write_path (Write write_site) ∷ before))) → boundaries between ≡ 0 → IsIn lies.object objects
  pub exits : (p : Program) (m : Marks) (before between : List Visit) (write_path path : List ℕ) (write_site word k : ℕ) (objects : List ℕ) → AreMarks p m
      → slice_get m.exits k ≡ Some objects → (lies : LiesInSection p true write_path write_site word)
      → Begins (IsPath p) (visit path (Exit (suc k)) ∷ (between ++ (visit write_path (Write write_site) ∷ before))) → boundaries between ≡ 0 → IsIn lies.object objects
