-- Marks of reads, and written lists of boundaries.
use Rattle.std.specs.Prelude.{◌≡◌, ◌↔◌, ◌⊎◌, ℕ, suc, ◌≤◌, ◌<◌, min, true, false, List, [], ◌∷◌, ◌++◌, length, slice_get, Some}
use Rattle.cdc_num.specs.declared.triplet.Triplet.{Triplet}
use Rattle.cdc_prog.specs.declared.program.Mark.{Mark}
use Rattle.cdc_prog.specs.declared.program.Mark.TheVariants.{Ordinary, Time}
use Rattle.cdc_prog.specs.declared.program.Marks.{Marks}
use Rattle.cdc_prog.specs.Plain.{Program}
use Rattle.cdc_prog.specs.Iterations.{IsIn}
use Rattle.cdc_prog.specs.Marked.{mark_of}
use Rattle.cdc_prog.specs.Sections.{Overlap}
use Rattle.cdc_path.specs.declared.point.Point.{Point}
use Rattle.cdc_path.specs.declared.point.Point.TheVariants.{Read, Write, Entry, Exit}
use Rattle.cdc_path.specs.PathExpr.{Visit, boundaries}
use Rattle.cdc_path.specs.Courses.{IsPath}
use Rattle.cdc_path.specs.References.{Touches}
use Rattle.cdc_path.specs.Covers.{HasCover}

abbrev pub visit : (path : List ℕ) → Point → Visit
visit path p = record { path = path; point = p }

-- ---- marks
-- a write counts for the read at a site over k boundaries: on some path a boundary comes before the write, and the write comes before the read with k boundaries between, at least one; both touch one object, in sections that overlap
pub record Counts (p : Program) (site k : ℕ) : Type 0 where
  pub write_path : List ℕ
  pub write_site : ℕ
  pub read_path : List ℕ
  pub before : List Visit
  pub between : List Visit
  pub after : List Visit
  pub on_path : IsPath p (after ++ (visit read_path (Read site) ∷ (between ++ (visit write_path (Write write_site) ∷ before))))
  pub later : 1 ≤ boundaries before
  pub count : boundaries between ≡ k
  pub apart : 1 ≤ k
  pub object : ℕ
  pub written : List Triplet
  pub read : List Triplet
  pub writes : Touches p true write_path write_site object written
  pub reads : Touches p false read_path site object read
  pub overlap : Overlap written read

-- the mark of a read: ordinary where it has a cover or no write counts for it, and else the least number of boundaries over which a write counts, cut at 255
abbrev pub IsMark : Program → (site : ℕ) → Mark → Type 0
IsMark p site Ordinary = HasCover p site ⊎ ((k : ℕ) → Counts p site k → ⊥)
IsMark p site (Time d) = (HasCover p site → ⊥) × ((k : ℕ) → Counts p site k → d ≤ min k 255) × ((k : ℕ) × Counts p site k × (min k 255 ≡ d))

-- ---- written lists
-- on some path a write of an object comes before a boundary, with no boundary between
pub record LeadsTo (p : Program) (b : Point) (object : ℕ) : Type 0 where
  pub write_path : List ℕ
  pub write_site : ℕ
  pub path : List ℕ
  pub before : List Visit
  pub between : List Visit
  pub after : List Visit
  pub on_path : IsPath p (after ++ (visit path b ∷ (between ++ (visit write_path (Write write_site) ∷ before))))
  pub near : boundaries between ≡ 0
  pub section : List Triplet
  pub writes : Touches p true write_path write_site object section

abbrev pub IsAscending : List ℕ → Type 0
IsAscending [] = Unit {0}
IsAscending (a ∷ []) = Unit {0}
IsAscending (a ∷ (b ∷ bs)) = (a < b) × IsAscending (b ∷ bs)

-- the objects that are written before a boundary, ascending
pub record IsWrittenList (p : Program) (b : Point) (objects : List ℕ) : Type 0 where
  pub ascending : IsAscending objects
  pub written : (object : ℕ) → IsIn object objects ↔ LeadsTo p b object

-- a list for each DOALL in order, which are numbered from 1
pub record AreWrittenLists (p : Program) (at : ℕ → Point) (lists : List (List ℕ)) : Type 0 where
  pub count : length lists ≡ p.doalls
  pub each : (k : ℕ) (objects : List ℕ) → slice_get lists k ≡ Some objects → IsWrittenList p (at (suc k)) objects

-- ---- the marks of a program, whose sites are numbered from 1
pub record AreMarks (p : Program) (m : Marks) : Type 0 where
  pub count : length m.reads ≡ p.sites
  pub reads : (site : ℕ) → 1 ≤ site → site ≤ p.sites → IsMark p site (mark_of m.reads site)
  pub entries : AreWrittenLists p Entry m.entries
  pub exits : AreWrittenLists p Exit m.exits
