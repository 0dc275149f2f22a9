-- A source has one list of logical lines or one refusal, and its lines one list of statements, their pointers aside, or one refusal.
use Rattle.std.proofs.Common.{◌≡◌, ℕ, ◌<◌, false, List, [], ◌∷◌, ◌++◌, Err, refl, sym, ap, subst, ◌∙◌, arith, inl, inr}
use Rattle.std.specs.Prelude.{◌≢◌}
use Rattle.std.specs.List.{AllZip}
use Rattle.std.specs.Str.Lines as text
use Rattle.cdc_base.specs.declared.place.Place.{Place}
use Rattle.cdc_token.specs.declared.fault.Fault.{Fault}
use Rattle.cdc_token.specs.declared.fault.Fault.TheVariants.{BadByte, OpenText, NameLong, NumberWide, LineLong}
use Rattle.cdc_token.specs.declared.token.Lexed.{Lexed}
use Rattle.cdc_token.specs.Lines.{Line}
use Rattle.cdc_token.specs.declared.token.LexRefusal.{LexRefusal}
use Rattle.cdc_token.specs.declared.token.LexRefusal.TheVariants as l
use Rattle.cdc_token.specs.Pieces.{Piece, Leads}
use Rattle.cdc_token.specs.Refusals.{IsFirst, IsRefused}
use Rattle.cdc_token.specs.Taking.{refusal}
use Rattle.cdc_token.specs.Logical.{items, gather, AreLogicalLines}
use Rattle.cdc_token.proofs.Laws.{one_reading, one_fault}
use Rattle.cdc_tree.specs.declared.refusal.ParseRefusal.{ParseRefusal}
use Rattle.cdc_tree.specs.declared.refusal.ParseRefusal.TheVariants.{NotAStatement, Depth, Nesting, Memory}
use Rattle.cdc_parse.specs.Depth.{IsDeep}
use Rattle.cdc_tree.specs.Forms.{PStatement}
use Rattle.cdc_tree.specs.Order.{Each}
use Rattle.cdc_parse.specs.Lines.{IsWithin, HasNone, IsGood, StandAll, SomeLine, IsDeepAt, IsNoStatementAt, AreStatements}
use Rattle.cdc_parse.proofs.LineLaws.{one_statement}

-- ---- the logical lines of a source

pieces_one : (xs ys : List (List Piece)) (zs : List (List ℕ)) → AllZip (λ ps z. Leads ps z []) xs zs → AllZip (λ ps z. Leads ps z []) ys zs → xs ≡ ys
pieces_one [] [] zs f g = refl
pieces_one [] (y ∷ ys) [] f g = absurd g
pieces_one [] (y ∷ ys) (z ∷ zs) f g = absurd f
pieces_one (x ∷ xs) ys [] f g = absurd f
pieces_one (x ∷ xs) [] (z ∷ zs) f g = absurd g
pieces_one (x ∷ xs) (y ∷ ys) (z ∷ zs) f g = let first = one_reading x y z f.0 g.0 in (let more = pieces_one xs ys zs f.1 g.1 in λ i. first i ∷ more i)

pub lines_one : (source : List ℕ) (a b : List Line) → AreLogicalLines source a → AreLogicalLines source b → a ≡ b
lines_one source a b f g =
    f.gathered ∙ ap (λ (ps : List (List Piece)). gather [] (items 1 false ps)) (pieces_one f.pieces g.pieces (text.lines source) f.cut g.cut) ∙ sym g.gathered

-- ---- the refusal of a source

-- the fault that a refusal names, and its place
record Named (source : List ℕ) (r : LexRefusal) : Type 0 where
  fault : Fault
  place : Place
  named : r ≡ refusal fault place
  first : IsFirst source fault place

named : (source : List ℕ) (r : LexRefusal) → IsRefused source r → r ≢ l.Memory → Named source r
named source (l.BadByte at) is other = record { fault = BadByte; place = at; named = refl; first = is }
named source (l.OpenText at) is other = record { fault = OpenText; place = at; named = refl; first = is }
named source (l.NameLong at) is other = record { fault = NameLong; place = at; named = refl; first = is }
named source (l.NumberWide at) is other = record { fault = NumberWide; place = at; named = refl; first = is }
named source (l.LineLong at) is other = record { fault = LineLong; place = at; named = refl; first = is }
named source l.Memory is other = absurd (other refl)

pub lex_one : (source : List ℕ) (r q : LexRefusal) → IsRefused source r → IsRefused source q → r ≢ l.Memory → q ≢ l.Memory → r ≡ q
lex_one source r q f g nr nq =
    let x = named source r f nr in
    let y = named source q g nq in
    let same = one_fault source x.fault y.fault x.place y.place x.first y.first in
    let fault : x.fault ≡ y.fault = same.fault in
    let line : x.place.line ≡ y.place.line = same.line in
    let column : x.place.column ≡ y.place.column = same.column in
    let both : refusal x.fault x.place ≡ refusal y.fault y.place = λ i. refusal (fault i) (record { line = line i; column = column i }) in
    x.named ∙ both ∙ sym y.named

pub lines_or_refusal : (source : List ℕ) (a : List Line) (r : LexRefusal) → AreLogicalLines source a → IsRefused source r → r ≢ l.Memory → ⊥
lines_or_refusal source a r f g other = let x = named source r g other in f.sound x.fault x.place.line x.place.column x.first.holds

-- ---- the statements of lines

stand_one : (ss ts : List PStatement) (ls : List Line) → StandAll ss ls → StandAll ts ls → ss ≡ ts
stand_one [] [] ls f g = refl
stand_one [] (t ∷ ts) [] f g = absurd g
stand_one [] (t ∷ ts) (x ∷ ls) f g = absurd f
stand_one (s ∷ ss) ts [] f g = absurd f
stand_one (s ∷ ss) [] (x ∷ ls) f g = absurd g
stand_one (s ∷ ss) (t ∷ ts) (x ∷ ls) f g =
    let first : s ≡ t = one_statement x.tokens s t f.0.parentheses f.1 g.1 in (let more = stand_one ss ts ls f.2 g.2 in λ i. first i ∷ more i)

pub statements_one : (lines : List Line) (a b : List PStatement) → StandAll a lines → StandAll b lines → a ≡ b
statements_one lines a b f g = stand_one a b lines f g

-- ---- why lines have none

stand_at : (ss : List PStatement) (before : List Line) (line : Line) (after : List Line) → StandAll ss (before ++ (line ∷ after)) → IsGood line
stand_at [] [] line after h = absurd h
stand_at [] (x ∷ before) line after h = absurd h
stand_at (s ∷ ss) [] line after h = record { within = h.0; statement = s; stands = h.1 }
stand_at (s ∷ ss) (x ∷ before) line after h = stand_at ss before line after h.2

each_at : (P : Line → Type 0) (before : List Line) (line : Line) (after : List Line) → Each P (before ++ (line ∷ after)) → P line
each_at P [] line after h = h.0
each_at P (x ∷ before) line after h = each_at P before line after h.1

-- no good line has it
abbrev Clashes : (List Lexed → Type 0) → Type 0
Clashes Q = (line : Line) → IsGood line → Q line.tokens → ⊥

within_shallow : (ts : List Lexed) → IsWithin ts → IsDeep ts → ⊥
within_shallow ts w deep = elim deep [ inl x ↦ omega (arith, w.parentheses, x) | inr x ↦ omega (arith, w.tokens_few, x) ]

good_shallow : Clashes IsDeep
good_shallow line good deep = within_shallow line.tokens good.within deep

good_has : Clashes HasNone
good_has line good none = none good.statement good.stands

-- among lines with statements there is none
all_good : (Q : List Lexed → Type 0) (lines : List Line) (ss : List PStatement) (n : ℕ) → Clashes Q → StandAll ss lines → SomeLine lines n Q → ⊥
all_good Q lines ss n clash h s = clash s.line (stand_at ss s.before s.line s.after (subst (StandAll ss) s.parts h)) s.holds

-- and none on a line with a lesser number
not_less : (Q : List Lexed → Type 0) (lines : List Line) (n m : ℕ) → Clashes Q → SomeLine lines n Q → Each (λ x. x.line < m → IsGood x) lines → n < m → ⊥
not_less Q lines n m clash s least lt =
    let good = each_at (λ x. x.line < m → IsGood x) s.before s.line s.after (subst (Each (λ x. x.line < m → IsGood x)) s.parts least) in
    clash s.line (good (omega (arith, s.number_is, lt))) s.holds

meet : (n m : ℕ) → (n < m → ⊥) → (m < n → ⊥) → n ≡ m
meet n m f g = omega arith

deep_or_none : (lines : List Line) (n m : ℕ) → IsNoStatementAt lines n → IsDeepAt lines m → ⊥
deep_or_none lines n m f g =
    let same = meet n m (not_less HasNone lines n m good_has f.found g.least) (not_less IsDeep lines m n good_shallow g.found f.least) in
    let s = g.found in
    let within = each_at (λ x. x.line ≡ n → IsWithin x.tokens) s.before s.line s.after (subst (Each (λ x. x.line ≡ n → IsWithin x.tokens)) s.parts f.shallow) in
    within_shallow s.line.tokens (within (s.number_is ∙ sym same)) s.holds

pub statements_or_refusal : (lines : List Line) (a : List PStatement) (r : ParseRefusal) → StandAll a lines → AreStatements lines (Err r) → r ≢ Memory → ⊥
statements_or_refusal lines a (NotAStatement n) f g other = all_good HasNone lines a n good_has f g.found
statements_or_refusal lines a (Depth n) f g other = all_good IsDeep lines a n good_shallow f g.found
statements_or_refusal lines a (Nesting n) f g other = g
statements_or_refusal lines a Memory f g other = other refl

pub lines_one_refusal : (lines : List Line) (r q : ParseRefusal) → AreStatements lines (Err r) → AreStatements lines (Err q) → r ≢ Memory → q ≢ Memory → r ≡ q
lines_one_refusal lines (NotAStatement n) (NotAStatement m) f g _ _ =
    ap NotAStatement (meet n m (not_less HasNone lines n m good_has f.found g.least) (not_less HasNone lines m n good_has g.found f.least))
lines_one_refusal lines (NotAStatement n) (Depth m) f g _ _ = absurd (deep_or_none lines n m f g)
lines_one_refusal lines (Depth n) (NotAStatement m) f g _ _ = absurd (deep_or_none lines m n g f)
lines_one_refusal lines (Depth n) (Depth m) f g _ _ =
    ap Depth (meet n m (not_less IsDeep lines n m good_shallow f.found g.least) (not_less IsDeep lines m n good_shallow g.found f.least))
lines_one_refusal lines (Nesting n) q f g _ _ = absurd f
lines_one_refusal lines Memory q f g other _ = absurd (other refl)
lines_one_refusal lines r (Nesting m) f g _ _ = absurd g
lines_one_refusal lines r Memory f g _ other = absurd (other refl)
