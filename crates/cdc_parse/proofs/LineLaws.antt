-- Lines one after another.
use Rattle.std.proofs.Common.{◌≡◌, ℕ, ◌+◌, ◌<◌, ◌≤◌, List, [], ◌∷◌, ◌++◌, length, map, drop, get_or, IfOk, Result, Ok, Err, Some, None, refl, sym, ap, subst, ◌∙◌, append_assoc, arith, drop-cons, add-one}
use Rattle.std.proofs.lemmas.List.{append-nil}
use Rattle.cdc_base.specs.declared.place.Place.{Place}
use Rattle.cdc_token.specs.declared.token.Lexed.{Lexed}
use Rattle.cdc_token.specs.Lines.{Line}
use Rattle.cdc_tree.specs.declared.form.Statement.{Statement}
use Rattle.cdc_tree.specs.declared.refusal.ParseRefusal.{ParseRefusal}
use Rattle.cdc_tree.specs.declared.refusal.ParseRefusal.TheVariants.{NotAStatement, Depth, Nesting, Memory}
use Rattle.cdc_parse.specs.Depth.{opened, deepest, IsDeep}
use Rattle.cdc_tree.specs.Forms.{statement, PStatement}
use Rattle.cdc_parse.specs.Forms.{statement_at}
use Rattle.cdc_parse.specs.Stands.{StandsFor}
use Rattle.cdc_tree.specs.Order.{Each, InOrder}
use Rattle.cdc_parse.specs.Lines.{Ascend, IsNumbered, IsWithin, HasNone, IsGood, StandAll, SomeLine, IsDeepAt, AreStatements, IsStatement, IsForemost}
use Rattle.cdc_tree.proofs.Options.{some, some_is}
use Rattle.cdc_tree.proofs.Order.{each_append, each_map, ascending_after}
use Rattle.cdc_parse.proofs.Deep.{deepest-least}
use Rattle.cdc_parse.proofs.FormSound.{statement_sound}
use Rattle.cdc_parse.proofs.FormAgain.{statement_again}

-- ---- depth of one line

-- what is open after some tokens tells of the rest of the line
pub record Tells (open_now : ℕ) (rest whole : List Lexed) : Type 0 where
  pub deep : 64 < deepest open_now rest → 64 < deepest 0 whole
  pub low : deepest open_now rest ≤ 64 → deepest 0 whole ≤ 64

at_index : (ts : List Lexed) (i : ℕ) (d : Lexed) → i < length ts → drop i ts ≡ get_or ts i d ∷ drop (i + 1) ts
at_index ts i d lt = rw (add-one, drop-cons ts i d) refl

pub tells_step : (ts : List Lexed) (i : ℕ) (t d : Lexed) (n m : ℕ) → i < length ts → get_or ts i d ≡ t → m ≡ opened t.token n → n ≤ 64 → Tells n (drop i ts) ts → Tells m (drop (i + 1) ts) ts
tells_step ts i t d n m lt here e low tells =
    let cut : drop i ts ≡ t ∷ drop (i + 1) ts = at_index ts i d lt ∙ ap (λ (x : Lexed). x ∷ drop (i + 1) ts) here in
    let whole : deepest n (drop i ts) ≡ deepest n (t ∷ drop (i + 1) ts) = ap (deepest n) cut in
    let same : deepest m (drop (i + 1) ts) ≡ deepest (opened t.token n) (drop (i + 1) ts) = ap (λ (k : ℕ). deepest k (drop (i + 1) ts)) e in
    record {
      deep = λ h. tells.deep (omega (arith, whole, same, h));
      low = λ h. tells.low (omega (arith, whole, same, h));
    }

pub tells_deep : (rest whole : List Lexed) (m : ℕ) → 64 < m → Tells m rest whole → 64 < deepest 0 whole
tells_deep rest whole m lt tells = tells.deep (omega (arith, deepest-least m rest))

-- ---- lists of lines

stand_good : (ss : List PStatement) (ls : List Line) → StandAll ss ls → Each IsGood ls
stand_good [] [] h = tt
stand_good [] (l ∷ ls) h = absurd h
stand_good (s ∷ ss) [] h = absurd h
stand_good (s ∷ ss) (l ∷ ls) h = (record { within = h.0; statement = s; stands = h.1 }, stand_good ss ls h.2)

stand_put : (ss : List PStatement) (ls : List Line) (s : PStatement) (l : Line) → StandAll ss ls → IsWithin l.tokens → StandsFor s l.tokens → StandAll (ss ++ (s ∷ [])) (ls ++ (l ∷ []))
stand_put [] [] s l h w st = (w, st, tt)
stand_put [] (x ∷ ls) s l h w st = absurd h
stand_put (y ∷ ss) [] s l h w st = absurd h
stand_put (y ∷ ss) (x ∷ ls) s l h w st = (h.0, h.1, stand_put ss ls s l h.2 w st)

-- each line with a lesser number than this one is good
least_good : (before : List Line) (line : Line) (after : List Line) (n : ℕ) → n ≡ line.line → Each IsGood before → Each (λ m. line.line ≤ m.line) after → Each (λ l. l.line < n → IsGood l) (before ++ (line ∷ after))
least_good before line after n e good later =
    each_append (λ l. l.line < n → IsGood l) before (line ∷ after)
    (each_map IsGood (λ l. l.line < n → IsGood l) (λ l g lt. g) before good)
    (λ lt. absurd (omega (arith, e, lt)), each_map (λ m. line.line ≤ m.line) (λ l. l.line < n → IsGood l) (λ l le lt. absurd (omega (arith, e, le, lt))) after later)

-- ---- the loop over the lines

pub record Read (lines rest : List Line) (found : List Statement) : Type 0 where
  pub before : List Line
  pub parts : lines ≡ before ++ rest
  pub stand : StandAll (map statement found) before

pub read_start : (lines : List Line) → Read lines lines []
read_start lines = record { before = []; parts = refl; stand = tt }

pub read_more : (lines rest after : List Line) (line : Line) (found now : List Statement) (s : Statement) → Read lines rest found → rest ≡ line ∷ after → map statement now ≡ map statement found ++ (statement s ∷ []) → IsStatement line (Ok s) → Read lines after now
read_more lines rest after line found now s r e made h = record {
  before = r.before ++ (line ∷ []);
  parts = r.parts ∙ ap (λ (z : List Line). r.before ++ z) e ∙ sym (append_assoc r.before (line ∷ []) after);
  stand = subst (λ (z : List PStatement). StandAll z (r.before ++ (line ∷ []))) (sym made) (stand_put (map statement found) r.before (statement s) line r.stand h.0 h.1);
}

pub read_all : (lines rest : List Line) (found : List Statement) → Read lines rest found → rest ≡ [] → StandAll (map statement found) lines
read_all lines rest found r e = subst (λ (z : List Line). StandAll (map statement found) z) (sym (r.parts ∙ ap (λ (z : List Line). r.before ++ z) e ∙ append-nil r.before)) r.stand

some_later : (lines before : List Line) (line : Line) (after : List Line) (n : ℕ) (P : List Lexed → Type 0) → lines ≡ before ++ (line ∷ after) → SomeLine after n P → SomeLine lines n P
some_later lines before line after n P e s = record {
  before = before ++ (line ∷ s.before);
  line = s.line;
  after = s.after;
  parts = e ∙ ap (λ (z : List Line). before ++ (line ∷ z)) s.parts ∙ sym (append_assoc before (line ∷ s.before) (s.line ∷ s.after));
  number_is = s.number_is;
  holds = s.holds;
}

pub read_refused : (lines rest after : List Line) (line : Line) (found : List Statement) (r first : ParseRefusal) → Read lines rest found → rest ≡ line ∷ after → Ascend lines → IsStatement line (Err r) → IsForemost after r first → AreStatements lines (Err first)
read_refused lines rest after line found (NotAStatement n) (NotAStatement m) read e asc h f =
    let parts : lines ≡ read.before ++ (line ∷ after) = read.parts ∙ ap (λ (z : List Line). read.before ++ z) e in
    let later = ascending_after (λ l. l.line) read.before line after (subst Ascend parts asc) in
    let good = stand_good (map statement found) read.before read.stand in
    let number : m ≡ line.line = f.0 ∙ h.0 in
    record {
      found = record { before = read.before; line = line; after = after; parts = parts; number_is = sym number; holds = h.2 };
      shallow = subst (Each (λ l. l.line ≡ m → IsWithin l.tokens)) (sym parts)
          (each_append (λ l. l.line ≡ m → IsWithin l.tokens) read.before (line ∷ after)
          (each_map IsGood (λ l. l.line ≡ m → IsWithin l.tokens) (λ l g same. g.within) read.before good)
          (λ same. h.1, each_map (λ l. l.line ≡ n → IsWithin l.tokens) (λ l. l.line ≡ m → IsWithin l.tokens) (λ l w same. w (same ∙ f.0)) after f.1));
      least = subst (Each (λ l. l.line < m → IsGood l)) (sym parts) (least_good read.before line after m number good later);
    }
read_refused lines rest after line found (NotAStatement n) (Depth m) read e asc h f =
    let parts : lines ≡ read.before ++ (line ∷ after) = read.parts ∙ ap (λ (z : List Line). read.before ++ z) e in
    let later = ascending_after (λ l. l.line) read.before line after (subst Ascend parts asc) in
    let good = stand_good (map statement found) read.before read.stand in
    record {
      found = some_later lines read.before line after m IsDeep parts (subst (λ (k : ℕ). SomeLine after k IsDeep) (sym f.0) f.1);
      least = subst (Each (λ l. l.line < m → IsGood l)) (sym parts) (least_good read.before line after m (f.0 ∙ h.0) good later);
    }
read_refused lines rest after line found (NotAStatement n) (Nesting m) read e asc h f = absurd f
read_refused lines rest after line found (NotAStatement n) Memory read e asc h f = absurd f
read_refused lines rest after line found (Depth n) first read e asc h f =
    let parts : lines ≡ read.before ++ (line ∷ after) = read.parts ∙ ap (λ (z : List Line). read.before ++ z) e in
    let later = ascending_after (λ l. l.line) read.before line after (subst Ascend parts asc) in
    let good = stand_good (map statement found) read.before read.stand in
    let made : IsDeepAt lines n = record {
      found = record { before = read.before; line = line; after = after; parts = parts; number_is = sym h.0; holds = h.1 };
      least = subst (Each (λ l. l.line < n → IsGood l)) (sym parts) (least_good read.before line after n h.0 good later);
    } in
    subst (λ (x : ParseRefusal). AreStatements lines (Err x)) (sym f) made
read_refused lines rest after line found (Nesting n) first read e asc h f = absurd h
read_refused lines rest after line found Memory first read e asc h f = subst (λ (x : ParseRefusal). AreStatements lines (Err x)) (sym f) tt

-- ---- the search for a deep line

pub record Passed (lines rest : List Line) (n : ℕ) : Type 0 where
  pub before : List Line
  pub parts : lines ≡ before ++ rest
  pub shallow : Each (λ l. l.line ≡ n → IsWithin l.tokens) before

pub passed_start : (lines : List Line) (n : ℕ) → Passed lines lines n
passed_start lines n = record { before = []; parts = refl; shallow = tt }

pub passed_more : (lines rest after : List Line) (line : Line) (n : ℕ) → Passed lines rest n → rest ≡ line ∷ after → (line.line ≡ n → IsWithin line.tokens) → Passed lines after n
passed_more lines rest after line n p e h = record {
  before = p.before ++ (line ∷ []);
  parts = p.parts ∙ ap (λ (z : List Line). p.before ++ z) e ∙ sym (append_assoc p.before (line ∷ []) after);
  shallow = each_append (λ l. l.line ≡ n → IsWithin l.tokens) p.before (line ∷ []) p.shallow (h, tt);
}

pub passed_all : (lines rest : List Line) (n : ℕ) → Passed lines rest n → rest ≡ [] → Each (λ l. l.line ≡ n → IsWithin l.tokens) lines
passed_all lines rest n p e = subst (Each (λ l. l.line ≡ n → IsWithin l.tokens)) (sym (p.parts ∙ ap (λ (z : List Line). p.before ++ z) e ∙ append-nil p.before)) p.shallow

pub passed_found : (lines rest after : List Line) (line : Line) (n : ℕ) → Passed lines rest n → rest ≡ line ∷ after → (line.line ≡ n) × IsDeep line.tokens → SomeLine lines n IsDeep
passed_found lines rest after line n p e h = record { before = p.before; line = line; after = after; parts = p.parts ∙ ap (λ (z : List Line). p.before ++ z) e; number_is = h.0; holds = h.1 }

-- ---- one line

pub none_stands : (ts : List Lexed) → IsWithin ts → statement_at ts ≡ None → HasNone ts
none_stands ts within e s h =
    let found : some s ≡ None = sym (statement_again s ts h within.parentheses) ∙ e in
    absurd cc

-- the line's tokens, as the code sees them
pub line_good : (ts : List Lexed) (s : PStatement) → IsWithin ts → statement_at ts ≡ Some s → IsWithin ts × StandsFor s ts
line_good ts s within found = (within, statement_sound ts s found)

pub line_none : (ts : List Lexed) → IsWithin ts → statement_at ts ≡ None → IsWithin ts × HasNone ts
line_none ts within none = (within, none_stands ts within none)

-- no line has two statements
pub one_statement : (ts : List Lexed) (s t : PStatement) → deepest 0 ts ≤ 64 → StandsFor s ts → StandsFor t ts → s ≡ t
one_statement ts s t low hs ht = some_is s t (sym (statement_again s ts hs low) ∙ statement_again t ts ht low)

-- ---- statements are in the order of their lines

same_line : (s : PStatement) (l : Line) → StandsFor s l.tokens → IsNumbered l → s.place.line ≡ l.line
same_line s l h n = ap (λ (p : Place). p.line) (some_is s.place n.place (sym h.1 ∙ n.first)) ∙ n.number_is

later_lines : (k : ℕ) (ss : List PStatement) (ls : List Line) → StandAll ss ls → Each IsNumbered ls → Each (λ m. k ≤ m.line) ls → Each (λ t. k ≤ t.place.line) ss
later_lines k [] ls h n e = tt
later_lines k (s ∷ ss) [] h n e = absurd h
later_lines k (s ∷ ss) (l ∷ ls) h n e = (omega (arith, e.0, same_line s l h.1 n.0), later_lines k ss ls h.2 n.1 e.1)

pub in_order : (ss : List PStatement) (ls : List Line) → StandAll ss ls → Ascend ls → Each IsNumbered ls → InOrder ss
in_order [] ls h a n = tt
in_order (s ∷ ss) [] h a n = absurd h
in_order (s ∷ ss) (l ∷ ls) h a n =
    (later_lines s.place.line ss ls h.2 n.1 (each_map (λ m. l.line ≤ m.line) (λ m. s.place.line ≤ m.line) (λ m le. omega (arith, le, same_line s l h.1 n.0)) ls a.0), in_order ss ls h.2 a.1 n.1)

pub ok_in_order : (r : Result (List Statement) ParseRefusal) (ls : List Line) → AreStatements ls r → Ascend ls → Each IsNumbered ls → IfOk r (λ ss. InOrder (map statement ss))
ok_in_order (Ok found) ls h a n = in_order (map statement found) ls h a n
ok_in_order (Err e) ls h a n = tt
