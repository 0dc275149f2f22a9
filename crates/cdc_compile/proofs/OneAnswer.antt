-- A source has one answer: each stage answers it in one way, or goes on in one way.
use Rattle.std.proofs.Common.{◌≡◌, ℕ, ◌<◌, ◌≤◌, ◌⊎◌, List, length, Option, Some, None, Result, Ok, Err, refl, sym, ap, subst, ◌∙◌, arith, inl, inr}
use Rattle.std.specs.Prelude.{◌≢◌}
use Rattle.cdc_base.specs.declared.place.Place.{Place}
use Rattle.cdc_token.specs.Lines.{Line}
use Rattle.cdc_token.specs.declared.token.LexRefusal.{LexRefusal}
use Rattle.cdc_token.specs.declared.token.LexRefusal.TheVariants as l
use Rattle.cdc_token.specs.Logical.{AreLogicalLines}
use Rattle.cdc_token.specs.Refusals.{IsRefused}
use Rattle.cdc_tree.specs.declared.refusal.ParseRefusal.{ParseRefusal}
use Rattle.cdc_tree.specs.declared.refusal.ParseRefusal.TheVariants as p
use Rattle.cdc_tree.specs.Forms.{PStatement}
use Rattle.cdc_tree.specs.Order.{Each}
use Rattle.cdc_tree.specs.Units.{PUnit}
use Rattle.cdc_parse.specs.Lines.{StandAll, AreStatements}
use Rattle.cdc_nest.specs.Units.{AreWritten, first_deep, AreNested}
use Rattle.cdc_prog.specs.declared.program.Kind.TheVariants as k
use Rattle.cdc_prog.specs.Limits.{limit}
use Rattle.cdc_prog.specs.Plain as plain
use Rattle.cdc_check.specs.declared.refusal.CheckRefusal.{CheckRefusal}
use Rattle.cdc_check.specs.declared.refusal.CheckRefusal.TheVariants as c
use Rattle.cdc_check.specs.Built.{IsUnbuilt, AllBuilt}
use Rattle.cdc_check.specs.Check.{checked}
use Rattle.cdc_compile.specs.declared.refusal.Refusal.{Refusal}
use Rattle.cdc_compile.specs.declared.refusal.Refusal.TheVariants.{Lex, Parse, Check, Conflict, Memory}
use Rattle.cdc_compile.specs.Unbuilt.{IsLeastUnbuilt}
use Rattle.cdc_compile.specs.Source.{HasLines, HasStatements, HasUnits, HasBuiltUnits, IsLexRefused, IsParseRefused, IsCheckRefused, IsProgramOf}
use Rattle.cdc_subtest.specs.Conflicts.{conflict_in}
use Rattle.cdc_compile.specs.Laws.{HasOneAnswer}
use Rattle.cdc_compile.proofs.OneLines.{lines_one, lex_one, lines_or_refusal, statements_one, statements_or_refusal, lines_one_refusal}
use Rattle.cdc_compile.proofs.OneUnits.{each_at, units_one, units_or_refusal, units_one_refusal}

abbrev Answer : Type 0
Answer = Result plain.Program Refusal

-- ---- what is not built

built_all : (a : List PStatement) (n : ℕ) → AllBuilt a → IsLeastUnbuilt a n → ⊥
built_all a n all f = each_at (λ s. IsUnbuilt s → ⊥) f.before f.unbuilt f.after (subst AllBuilt f.parts all) f.is_unbuilt

unbuilt_least : (a : List PStatement) (n m : ℕ) → IsLeastUnbuilt a n → IsLeastUnbuilt a m → n ≤ m
unbuilt_least a n m f g =
    let le = each_at (λ s. IsUnbuilt s → n ≤ s.place.line) g.before g.unbuilt g.after (subst (Each (λ s. IsUnbuilt s → n ≤ s.place.line)) g.parts f.least) g.is_unbuilt in
    omega (arith, le, g.number_is)

unbuilt_one : (a : List PStatement) (n m : ℕ) → IsLeastUnbuilt a n → IsLeastUnbuilt a m → n ≡ m
unbuilt_one a n m f g = let low = unbuilt_least a n m f g in (let high = unbuilt_least a m n g f in omega (arith, low, high))

-- ---- how an answer came about, stage by stage

-- of the test of DOALLs
abbrev tested : plain.Program → Option (Place × Place) → Answer
tested program None = Ok program
tested program (Some pair) = Err (Conflict pair.0 pair.1)

-- of the check
abbrev answer_of : Result plain.Program CheckRefusal → Answer
answer_of (Ok program) = tested program (conflict_in program)
answer_of (Err refusal) = Err (Check refusal)

record ByCheck (ss : List PStatement) (us : List PUnit) (a : Answer) : Type 0 where
  all_built : AllBuilt ss
  answer : a ≡ answer_of (checked us)

record ByUnbuilt (ss : List PStatement) (a : Answer) : Type 0 where
  number : ℕ
  least : IsLeastUnbuilt ss number
  answer : a ≡ Err (Parse (p.NotAStatement number))

record ByNesting (ss : List PStatement) (a : Answer) : Type 0 where
  refusal : ParseRefusal
  other : refusal ≢ p.Memory
  refused : AreNested ss (Err refusal)
  answer : a ≡ Err (Parse refusal)

record WithUnits (ss : List PStatement) (a : Answer) : Type 0 where
  units : List PUnit
  are_units : AreWritten units ss
  shallow : first_deep 0 ss ≡ None
  next : ByUnbuilt ss a ⊎ ByCheck ss units a

record ByLines (lines : List Line) (a : Answer) : Type 0 where
  refusal : ParseRefusal
  other : refusal ≢ p.Memory
  refused : AreStatements lines (Err refusal)
  answer : a ≡ Err (Parse refusal)

record WithStatements (lines : List Line) (a : Answer) : Type 0 where
  statements : List PStatement
  are_statements : StandAll statements lines
  next : ByNesting statements a ⊎ WithUnits statements a

record ByTokens (source : List ℕ) (a : Answer) : Type 0 where
  refusal : LexRefusal
  other : refusal ≢ l.Memory
  refused : IsRefused source refusal
  answer : a ≡ Err (Lex refusal)

record WithLines (source : List ℕ) (a : Answer) : Type 0 where
  lines : List Line
  are_lines : AreLogicalLines source lines
  next : ByLines lines a ⊎ WithStatements lines a

record TooLong (source : List ℕ) (a : Answer) : Type 0 where
  long : limit k.Source < length source
  answer : a ≡ Err (Check (c.TooMany k.Source))

record ShortEnough (source : List ℕ) (a : Answer) : Type 0 where
  within : length source ≤ limit k.Source
  next : ByTokens source a ⊎ WithLines source a

abbrev Way : List ℕ → Answer → Type 0
Way source a = TooLong source a ⊎ ShortEnough source a

-- ---- each answer came about so

with_tokens : (source : List ℕ) (r : LexRefusal) → length source ≤ limit k.Source → IsRefused source r → r ≢ l.Memory → Way source (Err (Lex r))
with_tokens source r within is other = inr (record { within = within; next = inl (record { refusal = r; other = other; refused = is; answer = refl }) })

with_lines : (source : List ℕ) (a : Answer) (lines : List Line) → HasLines source lines → ByLines lines a ⊎ WithStatements lines a → Way source a
with_lines source a lines has next = inr (record { within = has.within; next = inr (record { lines = lines; are_lines = has.are_lines; next = next }) })

with_statements : (source : List ℕ) (a : Answer) (ss : List PStatement) → HasStatements source ss → ByNesting ss a ⊎ WithUnits ss a → Way source a
with_statements source a ss has next = with_lines source a has.lines has.has_lines (inr (record { statements = ss; are_statements = has.are_statements; next = next }))

with_units : (source : List ℕ) (a : Answer) (ss : List PStatement) (us : List PUnit) → HasUnits source ss us → ByUnbuilt ss a ⊎ ByCheck ss us a → Way source a
with_units source a ss us has next = with_statements source a ss has.has_statements (inr (record { units = us; are_units = has.are_units; shallow = has.shallow; next = next }))

with_built : (source : List ℕ) (a : Answer) (us : List PUnit) → HasBuiltUnits source us → a ≡ answer_of (checked us) → Way source a
with_built source a us has answer = with_units source a has.statements us has.has_units (inr (record { all_built = has.all_built; answer = answer }))

lex_way : (source : List ℕ) (r : LexRefusal) → IsLexRefused source r → Way source (Err (Lex r))
lex_way source (l.BadByte at) is = with_tokens source (l.BadByte at) is.0 is.1 (λ e. cc)
lex_way source (l.OpenText at) is = with_tokens source (l.OpenText at) is.0 is.1 (λ e. cc)
lex_way source (l.NameLong at) is = with_tokens source (l.NameLong at) is.0 is.1 (λ e. cc)
lex_way source (l.NumberWide at) is = with_tokens source (l.NumberWide at) is.0 is.1 (λ e. cc)
lex_way source (l.LineLong at) is = with_tokens source (l.LineLong at) is.0 is.1 (λ e. cc)
lex_way source l.Memory is = absurd is

parse_way : (source : List ℕ) (r : ParseRefusal) → IsParseRefused source r → Way source (Err (Parse r))
parse_way source (p.NotAStatement n) is =
    elim is [
      | inl f ↦ with_lines source (Err (Parse (p.NotAStatement n))) f.lines f.has_lines (inl (record { refusal = p.NotAStatement n; other = λ e. cc; refused = f.refused; answer = refl }))
      | inr f ↦ with_units source (Err (Parse (p.NotAStatement n))) f.statements f.units f.has_units (inl (record { number = n; least = f.least; answer = refl }))
    ]
parse_way source (p.Depth n) is =
    elim is [
      | inl f ↦ with_lines source (Err (Parse (p.Depth n))) f.lines f.has_lines (inl (record { refusal = p.Depth n; other = λ e. cc; refused = f.refused; answer = refl }))
      | inr f ↦ with_statements source (Err (Parse (p.Depth n))) f.statements f.has_statements (inl (record { refusal = p.Depth n; other = λ e. cc; refused = f.refused; answer = refl }))
    ]
parse_way source (p.Nesting n) is =
    with_statements source (Err (Parse (p.Nesting n))) is.statements is.has_statements (inl (record { refusal = p.Nesting n; other = λ e. cc; refused = is.refused; answer = refl }))
parse_way source p.Memory is = absurd is

checked_way : (source : List ℕ) (r : CheckRefusal) → (units : List PUnit) × HasBuiltUnits source units × (checked units ≡ Err r) → Way source (Err (Check r))
checked_way source r is = with_built source (Err (Check r)) is.0 is.1 (ap answer_of (sym is.2))

check_way : (source : List ℕ) (r : CheckRefusal) → IsCheckRefused source r → Way source (Err (Check r))
check_way source (c.Undeclared at) is = checked_way source (c.Undeclared at) is
check_way source (c.Duplicate at other) is = checked_way source (c.Duplicate at other) is
check_way source (c.NotConstant at) is = checked_way source (c.NotConstant at) is
check_way source (c.Shape at) is = checked_way source (c.Shape at) is
check_way source (c.DoVariable at) is = checked_way source (c.DoVariable at) is
check_way source (c.DoallBody at) is = checked_way source (c.DoallBody at) is
check_way source (c.NotPrivate at) is = checked_way source (c.NotPrivate at) is
check_way source (c.NoUnit at) is = checked_way source (c.NoUnit at) is
check_way source (c.Arguments at) is = checked_way source (c.Arguments at) is
check_way source (c.ActualNotVariable at) is = checked_way source (c.ActualNotVariable at) is
check_way source (c.Recursive at) is = checked_way source (c.Recursive at) is
check_way source (c.Aliased at other) is = checked_way source (c.Aliased at other) is
check_way source (c.TooMany k.Source) is = inl (record { long = is; answer = refl })
check_way source (c.TooMany k.Units) is = checked_way source (c.TooMany k.Units) is
check_way source (c.TooMany k.Dummies) is = checked_way source (c.TooMany k.Dummies) is
check_way source (c.TooMany k.Privates) is = checked_way source (c.TooMany k.Privates) is
check_way source (c.TooMany k.Objects) is = checked_way source (c.TooMany k.Objects) is
check_way source (c.TooMany k.Words) is = checked_way source (c.TooMany k.Words) is
check_way source (c.TooMany k.Sites) is = checked_way source (c.TooMany k.Sites) is
check_way source (c.TooMany k.Paths) is = checked_way source (c.TooMany k.Paths) is
check_way source c.Memory is = absurd is

way : (source : List ℕ) (a : Answer) → IsProgramOf source a → a ≢ Err Memory → Way source a
way source (Ok program) is other = with_built source (Ok program) is.0.units is.0.has_units (sym (ap answer_of is.0.accepted ∙ ap (tested program) is.1))
way source (Err (Lex r)) is other = lex_way source r is
way source (Err (Parse r)) is other = parse_way source r is
way source (Err (Check r)) is other = check_way source r is
way source (Err (Conflict first second)) is other =
    with_built source (Err (Conflict first second)) is.1.units is.1.has_units (sym (ap answer_of is.1.accepted ∙ ap (tested is.0) is.2))
way source (Err Memory) is other = absurd (other refl)

-- ---- one way

built_one : (ss : List PStatement) (us : List PUnit) (a b : Answer) → ByUnbuilt ss a ⊎ ByCheck ss us a → ByUnbuilt ss b ⊎ ByCheck ss us b → a ≡ b
built_one ss us a b (inl x) (inl y) = x.answer ∙ ap (λ n. Err (Parse (p.NotAStatement n))) (unbuilt_one ss x.number y.number x.least y.least) ∙ sym y.answer
built_one ss us a b (inl x) (inr y) = absurd (built_all ss x.number y.all_built x.least)
built_one ss us a b (inr x) (inl y) = absurd (built_all ss y.number x.all_built y.least)
built_one ss us a b (inr x) (inr y) = x.answer ∙ sym y.answer

nested_one : (ss : List PStatement) (a b : Answer) → ByNesting ss a ⊎ WithUnits ss a → ByNesting ss b ⊎ WithUnits ss b → a ≡ b
nested_one ss a b (inl x) (inl y) = x.answer ∙ ap (λ r. Err (Parse r)) (units_one_refusal ss x.refusal y.refusal x.refused y.refused x.other y.other) ∙ sym y.answer
nested_one ss a b (inl x) (inr y) = absurd (units_or_refusal ss y.units x.refusal y.are_units y.shallow x.refused x.other)
nested_one ss a b (inr x) (inl y) = absurd (units_or_refusal ss x.units y.refusal x.are_units x.shallow y.refused y.other)
nested_one ss a b (inr x) (inr y) =
    let same = units_one ss x.units y.units x.are_units y.are_units in
    built_one ss y.units a b (subst (λ (us : List PUnit). ByUnbuilt ss a ⊎ ByCheck ss us a) same x.next) y.next

stated_one : (lines : List Line) (a b : Answer) → ByLines lines a ⊎ WithStatements lines a → ByLines lines b ⊎ WithStatements lines b → a ≡ b
stated_one lines a b (inl x) (inl y) = x.answer ∙ ap (λ r. Err (Parse r)) (lines_one_refusal lines x.refusal y.refusal x.refused y.refused x.other y.other) ∙ sym y.answer
stated_one lines a b (inl x) (inr y) = absurd (statements_or_refusal lines y.statements x.refusal y.are_statements x.refused x.other)
stated_one lines a b (inr x) (inl y) = absurd (statements_or_refusal lines x.statements y.refusal x.are_statements y.refused y.other)
stated_one lines a b (inr x) (inr y) =
    let same = statements_one lines x.statements y.statements x.are_statements y.are_statements in
    nested_one y.statements a b (subst (λ (ss : List PStatement). ByNesting ss a ⊎ WithUnits ss a) same x.next) y.next

read_one : (source : List ℕ) (a b : Answer) → ByTokens source a ⊎ WithLines source a → ByTokens source b ⊎ WithLines source b → a ≡ b
read_one source a b (inl x) (inl y) = x.answer ∙ ap (λ r. Err (Lex r)) (lex_one source x.refusal y.refusal x.refused y.refused x.other y.other) ∙ sym y.answer
read_one source a b (inl x) (inr y) = absurd (lines_or_refusal source y.lines x.refusal y.are_lines x.refused x.other)
read_one source a b (inr x) (inl y) = absurd (lines_or_refusal source x.lines y.refusal x.are_lines y.refused y.other)
read_one source a b (inr x) (inr y) =
    let equal = lines_one source x.lines y.lines x.are_lines y.are_lines in
    stated_one y.lines a b (subst (λ (z : List Line). ByLines z a ⊎ WithStatements z a) equal x.next) y.next

way_one : (source : List ℕ) (a b : Answer) → Way source a → Way source b → a ≡ b
way_one source a b (inl x) (inl y) = x.answer ∙ sym y.answer
way_one source a b (inl x) (inr y) = absurd (omega (arith, x.long, y.within))
way_one source a b (inr x) (inl y) = absurd (omega (arith, x.within, y.long))
way_one source a b (inr x) (inr y) = read_one source a b x.next y.next

pub one_answer : HasOneAnswer
one_answer source a b f g other_a other_b = way_one source a b (way source a f other_a) (way source b g other_b)
