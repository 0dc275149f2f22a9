-- The numbers of the logical lines of a source ascend, and so do the lines of its statements.
use Rattle.std.proofs.Common.{◌≡◌, ℕ, ◌+◌, ◌≤◌, Bool, true, false, List, [], ◌∷◌, ◌++◌, length, Some, None, sym, ap, ◌∙◌, subst, refl, arith}
use Rattle.std.specs.List.{AllByRecursion}
use Rattle.cdc_base.specs.declared.place.Place.{Place}
use Rattle.cdc_token.specs.Lines.{Line}
use Rattle.cdc_token.specs.declared.token.Lexed.{Lexed}
use Rattle.cdc_token.specs.declared.meaning.Meaning.{Meaning}
use Rattle.cdc_token.specs.declared.meaning.Meaning.TheVariants.{Nothing, End, Token}
use Rattle.cdc_token.specs.Pieces.{Piece, goes_on}
use Rattle.cdc_token.specs.Tokens.{Item, meaning, items_of}
use Rattle.cdc_token.specs.Logical.{line_items, ending, items, gather, AreLogicalLines}
use Rattle.cdc_token.proofs.Laws.{HasTokens, have_tokens}
use Rattle.cdc_tree.specs.Forms.{PStatement}
use Rattle.cdc_tree.specs.Order.{Each, InOrder}
use Rattle.cdc_parse.specs.Forms.{place_at}
use Rattle.cdc_parse.specs.Stands.{StandsFor}
use Rattle.cdc_parse.specs.Lines.{Ascend, StandAll}

-- ---- items

-- the lines of the tokens ascend, from line n on
Sorted : ℕ → List Item → Type 0
Sorted n [] = Unit {0}
Sorted n (None ∷ more) = Sorted n more
Sorted n (Some t ∷ more) = (n ≤ t.place.line) × Sorted t.place.line more

-- each token is on line n
AreOn : ℕ → List Item → Type 0
AreOn n [] = Unit {0}
AreOn n (None ∷ more) = AreOn n more
AreOn n (Some t ∷ more) = (t.place.line ≡ n) × AreOn n more

sorted_from : (n m : ℕ) (its : List Item) → n ≤ m → Sorted m its → Sorted n its
unfolding Sorted
sorted_from n m [] le h = tt
sorted_from n m (None ∷ more) le h = sorted_from n m more le h
sorted_from n m (Some t ∷ more) le h = (omega (arith, le, h.0), h.1)

on_append : (n : ℕ) (its more : List Item) → AreOn n its → AreOn n more → AreOn n (its ++ more)
unfolding AreOn
on_append n [] more a b = b
on_append n (None ∷ its) more a b = on_append n its more a b
on_append n (Some t ∷ its) more a b = (a.0, on_append n its more a.1 b)

sorted_on : (n k : ℕ) (its more : List Item) → k ≤ n → AreOn n its → Sorted n more → Sorted k (its ++ more)
unfolding Sorted AreOn
sorted_on n k [] more le a b = sorted_from k n more le b
sorted_on n k (None ∷ its) more le a b = sorted_on n k its more le a b
sorted_on n k (Some t ∷ its) more le a b = (omega (arith, le, a.0), sorted_on n t.place.line its more (omega (arith, a.0)) a.1 b)

on_items_of : (place : Place) (m : Meaning) → AreOn place.line (items_of place m)
unfolding AreOn
on_items_of place Nothing = tt
on_items_of place End = tt
on_items_of place (Token t) = (refl, tt)

on_line_items : (line column : ℕ) (ps : List Piece) → AreOn line (line_items line column ps)
unfolding AreOn
on_line_items line column [] = tt
on_line_items line column (p ∷ ps) =
    on_append line (items_of (record { line = line; column = column }) (meaning p.0 p.1)) (line_items line (column + length p.1) ps)
    (on_items_of (record { line = line; column = column }) (meaning p.0 p.1)) (on_line_items line (column + length p.1) ps)

on_ending : (line : ℕ) (on : Bool) → AreOn line (ending on)
unfolding AreOn
on_ending line true = tt
on_ending line false = tt

sorted_items : (line : ℕ) (was : Bool) (zs : List (List Piece)) → Sorted line (items line was zs)
unfolding Sorted
sorted_items line was [] = tt
sorted_items line was (ps ∷ more) =
    sorted_on line line (line_items line 1 ps ++ ending (goes_on was ps)) (items (line + 1) (goes_on was ps) more) (omega arith)
    (on_append line (line_items line 1 ps) (ending (goes_on was ps)) (on_line_items line 1 ps) (on_ending line (goes_on was ps)))
    (sorted_from line (line + 1) (items (line + 1) (goes_on was ps) more) (omega arith) (sorted_items (line + 1) (goes_on was ps) more))

-- ---- lines

each_from : (n m : ℕ) (ls : List Line) → n ≤ m → Each (λ l. m ≤ l.line) ls → Each (λ l. n ≤ l.line) ls
each_from n m [] le h = tt
each_from n m (l ∷ ls) le h = (omega (arith, le, h.0), each_from n m ls le h.1)

-- the line that is begun has this number
Begun : ℕ → List Lexed → Type 0
Begun k [] = Unit {0}
Begun k (t ∷ ts) = t.place.line ≡ k

gather_ascends : (begun : List Lexed) (its : List Item) (k n : ℕ) → k ≤ n → Begun k begun → Sorted n its → Each (λ l. k ≤ l.line) (gather begun its) × Ascend (gather begun its)
unfolding Begun Sorted
gather_ascends [] [] k n le is sorted = (tt, tt)
gather_ascends (t ∷ ts) [] k n le is sorted = ((omega (arith, is), tt), (tt, tt))
gather_ascends [] (None ∷ more) k n le is sorted = gather_ascends [] more k n le tt sorted
gather_ascends (t ∷ ts) (None ∷ more) k n le is sorted =
    let later = gather_ascends [] more t.place.line n (omega (arith, le, is)) tt sorted in
    ((omega (arith, is), each_from k t.place.line (gather [] more) (omega (arith, is)) later.0), (later.0, later.1))
gather_ascends [] (Some t ∷ more) k n le is sorted =
    let later = gather_ascends (t ∷ []) more t.place.line t.place.line (omega arith) refl sorted.1 in
    (each_from k t.place.line (gather (t ∷ []) more) (omega (arith, le, sorted.0)) later.0, later.1)
gather_ascends (u ∷ us) (Some t ∷ more) k n le is sorted = gather_ascends (u ∷ (us ++ t ∷ [])) more k t.place.line (omega (arith, le, sorted.0)) is sorted.1

-- the numbers of the logical lines of a source ascend
pub lines_ascend : (source : List ℕ) (lines : List Line) → AreLogicalLines source lines → Ascend lines
unfolding Begun
lines_ascend source lines are =
    subst Ascend (sym are.gathered) (gather_ascends [] (items 1 false are.pieces) 0 1 (omega arith) tt (sorted_items 1 false are.pieces)).1

-- ---- statements

-- a statement is on the line that it stands for
same_line : (s : PStatement) (l : Line) → HasTokens l → StandsFor s l.tokens → s.place.line ≡ l.line
same_line s l has stands =
    let first : Some s.place ≡ Some has.first.place = sym stands.1 ∙ ap place_at has.tokens in
    let place : s.place ≡ has.first.place = cc in
    ap (λ (p : Place). p.line) place ∙ sym has.number

each_statement : (n : ℕ) (ss : List PStatement) (ls : List Line) → StandAll ss ls → AllByRecursion HasTokens ls → Each (λ l. n ≤ l.line) ls → Each (λ s. n ≤ s.place.line) ss
each_statement n [] [] stand has le = tt
each_statement n [] (l ∷ ls) stand has le = tt
each_statement n (s ∷ ss) [] stand has le = absurd stand
each_statement n (s ∷ ss) (l ∷ ls) stand has le =
    let same = same_line s l has.0 stand.1 in
    (omega (arith, same, le.0), each_statement n ss ls stand.2 has.1 le.1)

in_order : (ss : List PStatement) (ls : List Line) → StandAll ss ls → AllByRecursion HasTokens ls → Ascend ls → InOrder ss
in_order [] [] stand has ascend = tt
in_order [] (l ∷ ls) stand has ascend = tt
in_order (s ∷ ss) [] stand has ascend = absurd stand
in_order (s ∷ ss) (l ∷ ls) stand has ascend =
    let same = same_line s l has.0 stand.1 in
    (each_statement s.place.line ss ls stand.2 has.1 (each_from s.place.line l.line ls (omega (arith, same)) ascend.0), in_order ss ls stand.2 has.1 ascend.1)

-- the lines of the statements of a source ascend
pub statements_in_order : (source : List ℕ) (lines : List Line) (ss : List PStatement) → AreLogicalLines source lines → StandAll ss lines → InOrder ss
statements_in_order source lines ss are stand = in_order ss lines stand (have_tokens source lines are) (lines_ascend source lines are)
