-- The code of a program, put together of its parts. It does not depend on the numbers of CALLs.
use Rattle.std.proofs.Common.{◌≡◌, ℕ, ◌+◌, ◌==◌, List, [], ◌∷◌, ◌++◌, length, map, refl, sym, ap, ap₂, ◌∙◌}
use Rattle.cdc_prog.specs.declared.program.Dim.{Dim}
use Rattle.cdc_prog.specs.declared.program.Dummy.{Dummy}
use Rattle.cdc_prog.specs.declared.program.Object.{Object}
use Rattle.cdc_prog.specs.declared.program.Program as whole
use Rattle.cdc_prog.specs.declared.program.Unit as listed
use Rattle.cdc_prog.specs.declared.program.Mark.{Mark}
use Rattle.cdc_prog.specs.declared.program.Marks.{Marks}
use Rattle.cdc_prog.specs.Plain.{Stmt, Skip, Seq, Assign, If, Arm, Do, Doall, Call, Print, Read, ProgramUnit, Program}
use Rattle.cdc_prog.specs.Numbered.{calls_in, calls_numbered, units_numbered, program_numbered}
use Rattle.cdc_prog.specs.Translation.{unit_of, program_of}
use Rattle.cdc_code.specs.declared.instr.Step.{Step}
use Rattle.cdc_code.specs.Template.{at_line, end_instr, condition_code, do_code, doall_code, stmt_code, unit_code, units_code, unit_starts, code_of}

-- ---- numbers of CALLs
module _ (marks : List Mark) where
  same_stmt : (before : ℕ) (s : Stmt) → stmt_code marks (calls_numbered before s) ≡ stmt_code marks s
  same_stmt before Skip = refl
  same_stmt before (Seq a b) = ap₂ (λ (x y : List Step). x ++ y) (same_stmt before a) (same_stmt (before + calls_in a) b)
  same_stmt before (Assign line target value) = refl
  same_stmt before (If arms) = same_stmt before arms
  same_stmt before (Arm line cond body other) = ap₂ (condition_code marks line cond) (same_stmt before body) (same_stmt (before + calls_in body) other)
  same_stmt before (Do control first body again bump) = ap (do_code marks control first again bump) (same_stmt before body)
  same_stmt before (Doall control number slots body) = ap (doall_code marks control number) (same_stmt before body)
  same_stmt before (Call line number unit actuals) = refl
  same_stmt before (Print line items) = refl
  same_stmt before (Read line targets) = refl

  same_unit : (before main number : ℕ) (body : Stmt) → unit_code marks main number (calls_numbered before body) ≡ unit_code marks main number body
  same_unit before main number body = ap (λ (l : List Step). l ++ (at_line 0 (end_instr marks (number == main)) ∷ [])) (same_stmt before body)

  same_units : (before main number : ℕ) (us : List ProgramUnit) → units_code marks main number (units_numbered before us) ≡ units_code marks main number us
  same_units before main number [] = refl
  same_units before main number (u ∷ us) =
      ap₂ (λ (x y : List Step). x ++ y) (same_unit before main number u.body) (same_units (before + calls_in u.body) main (number + 1) us)

  same_starts : (before main number : ℕ) (us : List ProgramUnit) (place : ℕ) → unit_starts marks main number (units_numbered before us) place ≡ unit_starts marks main number us place
  same_starts before main number [] place = refl
  same_starts before main number (u ∷ us) place =
      ap (λ (l : List ℕ). place ∷ l) (
      same_starts (before + calls_in u.body) main (number + 1) us (place + length (unit_code marks main number (calls_numbered before u.body)))
      ∙ ap (λ (l : List Step). unit_starts marks main (number + 1) us (place + length l)) (same_unit before main number u.body)
      )

abbrev shape_of : ProgramUnit → List (List Dim)
shape_of u = map (λ (d : Dummy). d.dims) u.dummies

same_shapes : (before : ℕ) (us : List ProgramUnit) → map shape_of (units_numbered before us) ≡ map shape_of us
same_shapes before [] = refl
same_shapes before (u ∷ us) = ap (λ (l : List (List (List Dim))). shape_of u ∷ l) (same_shapes (before + calls_in u.body) us)

same_code : (p : Program) (marks : Marks) → code_of (program_numbered p) marks ≡ code_of p marks
same_code p marks =
    let steps = same_units marks.reads 0 p.main 0 p.units in
    let starts = same_starts marks.reads 0 p.main 0 p.units 0 in
    let shapes = same_shapes 0 p.units in
    λ i. record {
      steps = steps i;
      starts = starts i;
      main = p.main;
      shapes = shapes i;
      objects = p.objects;
      texts = p.texts;
      entries = marks.entries;
      exits = marks.exits;
      words = p.words;
    }

-- ---- the whole
-- the dimensions of the dummies of units
abbrev pub shapes_of : List listed.Unit → List (List (List Dim))
shapes_of us = map (λ (u : listed.Unit). map (λ (d : Dummy). d.dims) u.dummies) us

plain_shapes : (us : List listed.Unit) → shapes_of us ≡ map shape_of (map unit_of us)
plain_shapes [] = refl
plain_shapes (u ∷ us) = ap (λ (l : List (List (List Dim))). map (λ (d : Dummy). d.dims) u.dummies ∷ l) (plain_shapes us)

-- what is emitted of units and copied of the rest is the code
pub assembled : (p : whole.Program) (marks : Marks) (us : List listed.Unit) (reads : List Mark) (none steps : List Step) (starts : List ℕ) (shapes : List (List (List Dim))) (objects : List Object) (texts : List (List ℕ)) (entries exits : List (List ℕ)) →
    us ≡ p.units → reads ≡ marks.reads → none ≡ [] → steps ≡ none ++ units_code reads p.main 0 (map unit_of us) → starts ≡ unit_starts reads p.main 0 (map unit_of us) (length none) → shapes ≡ shapes_of us →
    objects ≡ p.objects → texts ≡ p.texts → entries ≡ marks.entries → exits ≡ marks.exits →
    record { steps = steps; starts = starts; main = p.main; shapes = shapes; objects = objects; texts = texts; entries = entries; exits = exits; words = p.words } ≡ code_of (program_of p) marks
assembled p marks us reads none steps starts shapes objects texts entries exits eu er en es et eh eo ex ee ei =
    let q : Program = record { units = map unit_of p.units; main = p.main; objects = p.objects; texts = p.texts; sites = p.sites; doalls = p.doalls; words = p.words } in
    let s : steps ≡ units_code marks.reads p.main 0 (map unit_of p.units) =
    es ∙ ap (λ (l : List Step). l ++ units_code reads p.main 0 (map unit_of us)) en ∙ ap₂ (λ (r : List Mark) (l : List listed.Unit). units_code r p.main 0 (map unit_of l)) er eu in
    let t : starts ≡ unit_starts marks.reads p.main 0 (map unit_of p.units) 0 =
    et ∙ ap (λ (l : List Step). unit_starts reads p.main 0 (map unit_of us) (length l)) en ∙ ap₂ (λ (r : List Mark) (l : List listed.Unit). unit_starts r p.main 0 (map unit_of l) 0) er eu in
    let h : shapes ≡ map shape_of (map unit_of p.units) = eh ∙ ap shapes_of eu ∙ plain_shapes p.units in
    let parts : record { steps = steps; starts = starts; main = p.main; shapes = shapes; objects = objects; texts = texts; entries = entries; exits = exits; words = p.words } ≡ code_of q marks = λ i. record {
      steps = s i;
      starts = t i;
      main = p.main;
      shapes = h i;
      objects = eo i;
      texts = ex i;
      entries = ee i;
      exits = ei i;
      words = p.words;
    } in
    parts ∙ sym (same_code q marks)
