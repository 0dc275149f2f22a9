-- What is answered for a source: its resolved program, or the first of its refusals in the order of the stages.
use Rattle.std.specs.Prelude.{◌≡◌, ℕ, ◌<◌, ◌≤◌, ◌⊎◌, List, length, Result, Ok, Err, Some, None}
use Rattle.cdc_base.specs.declared.place.Place.{Place}
use Rattle.cdc_token.specs.Lines.{Line}
use Rattle.cdc_token.specs.declared.token.LexRefusal.{LexRefusal}
use Rattle.cdc_token.specs.declared.token.LexRefusal.TheVariants as l
use Rattle.cdc_token.specs.Logical.{AreLogicalLines}
use Rattle.cdc_token.specs.Refusals.{IsRefused}
use Rattle.cdc_tree.specs.declared.refusal.ParseRefusal.{ParseRefusal}
use Rattle.cdc_tree.specs.declared.refusal.ParseRefusal.TheVariants as p
use Rattle.cdc_tree.specs.Forms.{PStatement}
use Rattle.cdc_tree.specs.Units.{PUnit}
use Rattle.cdc_parse.specs.Lines.{StandAll, AreStatements}
use Rattle.cdc_nest.specs.Units.{AreWritten, first_deep, AreNested}
use Rattle.cdc_prog.specs.declared.program.Kind.TheVariants as k
use Rattle.cdc_prog.specs.Limits.{limit}
use Rattle.cdc_prog.specs.Plain as plain
use Rattle.cdc_check.specs.declared.refusal.CheckRefusal.{CheckRefusal}
use Rattle.cdc_check.specs.declared.refusal.CheckRefusal.TheVariants as c
use Rattle.cdc_check.specs.Built.{AllBuilt}
use Rattle.cdc_check.specs.Check.{checked}
use Rattle.cdc_compile.specs.declared.refusal.Refusal.{Refusal}
use Rattle.cdc_compile.specs.declared.refusal.Refusal.TheVariants.{Lex, Parse, Check, Conflict, Memory}
use Rattle.cdc_subtest.specs.Conflicts.{conflict_in}
use Rattle.cdc_compile.specs.Unbuilt.{IsLeastUnbuilt}

-- ---- a source that no stage so far refuses

-- the source is within its limit, and these are its logical lines
pub record HasLines (source : List ℕ) (lines : List Line) : Type 0 where
  pub within : length source ≤ limit k.Source
  pub are_lines : AreLogicalLines source lines

-- these are the statements of its lines
pub record HasStatements (source : List ℕ) (statements : List PStatement) : Type 0 where
  pub lines : List Line
  pub has_lines : HasLines source lines
  pub are_statements : StandAll statements lines

-- these are the units of its statements
pub record HasUnits (source : List ℕ) (statements : List PStatement) (units : List PUnit) : Type 0 where
  pub has_statements : HasStatements source statements
  pub are_units : AreWritten units statements
  pub shallow : first_deep 0 statements ≡ None

-- these are its units, and each of their statements is built
pub record HasBuiltUnits (source : List ℕ) (units : List PUnit) : Type 0 where
  pub statements : List PStatement
  pub has_units : HasUnits source statements units
  pub all_built : AllBuilt statements

-- the check accepts its units as this program
pub record IsChecked (source : List ℕ) (program : plain.Program) : Type 0 where
  pub units : List PUnit
  pub has_units : HasBuiltUnits source units
  pub accepted : checked units ≡ Ok program

-- ---- why one is refused

-- its lines are no statements
pub record LinesRefused (source : List ℕ) (refusal : ParseRefusal) : Type 0 where
  pub lines : List Line
  pub has_lines : HasLines source lines
  pub refused : AreStatements lines (Err refusal)

-- its statements are no units
pub record StatementsRefused (source : List ℕ) (refusal : ParseRefusal) : Type 0 where
  pub statements : List PStatement
  pub has_statements : HasStatements source statements
  pub refused : AreNested statements (Err refusal)

-- a statement of its units is not built
pub record UnitsRefused (source : List ℕ) (number : ℕ) : Type 0 where
  pub statements : List PStatement
  pub units : List PUnit
  pub has_units : HasUnits source statements units
  pub least : IsLeastUnbuilt statements number

abbrev pub IsLexRefused : List ℕ → LexRefusal → Type 0
IsLexRefused source l.Memory = ⊥
IsLexRefused source refusal = (length source ≤ limit k.Source) × IsRefused source refusal

abbrev pub IsParseRefused : List ℕ → ParseRefusal → Type 0
IsParseRefused source (p.NotAStatement n) = LinesRefused source (p.NotAStatement n) ⊎ UnitsRefused source n
IsParseRefused source (p.Depth n) = LinesRefused source (p.Depth n) ⊎ StatementsRefused source (p.Depth n)
IsParseRefused source (p.Nesting n) = StatementsRefused source (p.Nesting n)
IsParseRefused source p.Memory = ⊥

-- a source over its limit, or units that the check refuses
abbrev pub IsCheckRefused : List ℕ → CheckRefusal → Type 0
IsCheckRefused source (c.TooMany k.Source) = limit k.Source < length source
IsCheckRefused source c.Memory = ⊥
IsCheckRefused source refusal = (units : List PUnit) × HasBuiltUnits source units × (checked units ≡ Err refusal)

-- its program has a DOALL with references that nothing tells apart
abbrev pub IsConflicting : List ℕ → (first second : Place) → Type 0
IsConflicting source first second = (program : plain.Program) × IsChecked source program × (conflict_in program ≡ Some (first, second))

-- What is answered for the source: of a program that the check accepts each DOALL is tested. Want of memory is free, and has one answer.
abbrev pub IsProgramOf : List ℕ → Result plain.Program Refusal → Type 0
IsProgramOf source (Ok program) = IsChecked source program × (conflict_in program ≡ None)
IsProgramOf source (Err (Lex refusal)) = IsLexRefused source refusal
IsProgramOf source (Err (Parse refusal)) = IsParseRefused source refusal
IsProgramOf source (Err (Check refusal)) = IsCheckRefused source refusal
IsProgramOf source (Err (Conflict first second)) = IsConflicting source first second
IsProgramOf source (Err Memory) = Unit {0}
