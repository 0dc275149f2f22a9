-- What is on a path counts for what comes later on it.
use Rattle.std.proofs.Common.{◌≡◌, ℕ, ◌≤◌, true, false, List, ◌∷◌, ◌++◌, refl, append_assoc}
use Rattle.cdc_num.specs.declared.triplet.Triplet.{Triplet}
use Rattle.cdc_prog.specs.Plain.{Program}
use Rattle.cdc_prog.specs.Data.{Store, zeros}
use Rattle.cdc_prog.specs.Process.{Process}
use Rattle.cdc_prog.specs.Sections.{Overlap}
use Rattle.cdc_path.specs.declared.point.Point.{Point}
use Rattle.cdc_path.specs.declared.point.Point.TheVariants.{Read, Write, Exit}
use Rattle.cdc_path.specs.PathExpr.{Visit, boundaries}
use Rattle.cdc_path.specs.Courses.{IsPath}
use Rattle.cdc_path.specs.References.{Touches}
use Rattle.cdc_path.specs.Marks.{visit, Counts, LeadsTo}
use Rattle.cdc_along.specs.Along.{Begins, Along}
use Rattle.cdc_along.proofs.Along.{earlier, begins}

-- what goes along paths in an iteration whose fork goes on so has passed the first points of one
pub begins_inside : (Ends : List Visit → Type 0) (path : List ℕ) (number : ℕ) (next : Process) (t : List Visit) (task : Process) (s : Store)
    → Along (λ u. (r : Store) → Along Ends (visit path (Exit number) ∷ u) next r) t task s → Begins Ends t
begins_inside Ends path number next t task s h =
    let (after, leaves) = begins (λ u. (r : Store) → Along Ends (visit path (Exit number) ∷ u) next r) t task s h in
    let (more, ends) = earlier Ends (visit path (Exit number)) (after ++ t) (begins Ends (visit path (Exit number) ∷ (after ++ t)) next zeros (leaves zeros)) in
    (more ++ after, rw append_assoc ends)

pub counts : (p : Program) (before between : List Visit) (write_path path : List ℕ) (write_site site object : ℕ) (written read : List Triplet)
    → Begins (IsPath p) (visit path (Read site) ∷ (between ++ (visit write_path (Write write_site) ∷ before))) → 1 ≤ boundaries before → 1 ≤ boundaries between
    → Touches p true write_path write_site object written → Touches p false path site object read → Overlap written read → Counts p site (boundaries between)
counts p before between write_path path write_site site object written read (after, on_path) later apart writes reads overlap =
    record {
      write_path = write_path;
      write_site = write_site;
      read_path = path;
      before = before;
      between = between;
      after = after;
      on_path = on_path;
      later = later;
      count = refl;
      apart = apart;
      object = object;
      written = written;
      read = read;
      writes = writes;
      reads = reads;
      overlap = overlap;
    }

pub leads : (p : Program) (b : Point) (before between : List Visit) (write_path path : List ℕ) (write_site object : ℕ) (section : List Triplet)
    → Begins (IsPath p) (visit path b ∷ (between ++ (visit write_path (Write write_site) ∷ before))) → boundaries between ≡ 0 → Touches p true write_path write_site object section → LeadsTo p b object
leads p b before between write_path path write_site object section (after, on_path) near writes =
    record {
      write_path = write_path;
      write_site = write_site;
      path = path;
      before = before;
      between = between;
      after = after;
      on_path = on_path;
      near = near;
      section = section;
      writes = writes;
    }
