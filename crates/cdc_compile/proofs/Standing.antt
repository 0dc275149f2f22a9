-- The trees of the statements of lines within the limits of depth.
use Rattle.std.proofs.Common.{◌≡◌, ℕ, ◌≤◌, List, [], ◌∷◌, ◌++◌, Option, Some, None, inl, inr, sym, subst, ◌∙◌, arith}
use Rattle.std.proofs.lemmas.List.{append-nil}
use Rattle.cdc_token.specs.declared.token.Lexed.{Lexed}
use Rattle.cdc_token.specs.Lines.{Line}
use Rattle.cdc_token.specs.declared.token.Symbol.TheVariants as q
use Rattle.cdc_tree.specs.Order.{Each}
use Rattle.cdc_tree.specs.Plain.{Plain}
use Rattle.cdc_tree.specs.Forms.{PSpot, PLoop, PShown, PText, PValue, PStatement, PForm, FAssign, FIfThen, FElseIf, FLogicalIf, FDo, FDoall, FCall, FPrint, FRead}
use Rattle.cdc_parse.specs.declared.word.Word.TheVariants as w
use Rattle.cdc_parse.specs.Tokens.{mark, word, name}
use Rattle.cdc_parse.specs.Depth.{opened, deepest}
use Rattle.cdc_parse.specs.Written.{text, IsExpression, IsCondition}
use Rattle.cdc_parse.specs.Stands.{Writes, Commas, Separated, Subscripted, IsSpot, IsShown, IsStep, IsLoop, IsGuard, IsGuardThen, IsSimple, Stands}
use Rattle.cdc_parse.specs.Lines.{StandAll}
use Rattle.cdc_parse.proofs.Deep.{Low, deepest-least, low_later, low_shallow}
use Rattle.cdc_compile.proofs.Waiting.{IsShallow}

-- ---- the trees of a statement

abbrev pub ShownIsShallow : PShown → Type 0
ShownIsShallow (PText b) = Unit {0}
ShownIsShallow (PValue t) = IsShallow t

abbrev pub SpotIsShallow : PSpot → Type 0
SpotIsShallow s = Each IsShallow s.1

abbrev pub StepIsShallow : Option Plain → Type 0
StepIsShallow None = Unit {0}
StepIsShallow (Some t) = IsShallow t

abbrev pub LoopIsShallow : PLoop → Type 0
LoopIsShallow l = IsShallow l.1 × IsShallow l.2 × StepIsShallow l.3

-- each tree of a statement of a body
abbrev pub FormIsShallow : PForm → Type 0
FormIsShallow (FAssign spot value) = SpotIsShallow spot × IsShallow value
FormIsShallow (FIfThen c) = IsShallow c
FormIsShallow (FElseIf c) = IsShallow c
FormIsShallow (FLogicalIf c place f) = IsShallow c × FormIsShallow f
FormIsShallow (FDo l) = LoopIsShallow l
FormIsShallow (FDoall l privates) = LoopIsShallow l
FormIsShallow (FPrint items) = Each ShownIsShallow items
FormIsShallow (FRead spots) = Each SpotIsShallow spots
FormIsShallow _ = Unit {0}

abbrev pub AreShallow : List PStatement → Type 0
AreShallow ss = Each (λ (s : PStatement). FormIsShallow s.form) ss

pub shallow_left : (xs ys : List PStatement) → AreShallow (xs ++ ys) → AreShallow xs
shallow_left [] ys h = tt
shallow_left (x ∷ xs) ys h = (h.0, shallow_left xs ys h.1)

pub shallow_right : (xs ys : List PStatement) → AreShallow (xs ++ ys) → AreShallow ys
shallow_right [] ys h = h
shallow_right (x ∷ xs) ys h = shallow_right xs ys h.1

-- ---- parts of a line that is not over its limit of depth

deepest_front : (us vs : List Lexed) (n : ℕ) → deepest n us ≤ deepest n (us ++ vs)
deepest_front [] vs n = deepest-least n vs
deepest_front (t ∷ us) vs n = omega (arith, deepest_front us vs (opened t.token n))

low_front : (us vs : List Lexed) → Low (us ++ vs) → Low us
low_front us vs low = omega (arith, deepest_front us vs 0)

low_tail : (t : Lexed) (us ts : List Lexed) → ts ≡ t ∷ us → Low ts → Low us
low_tail t us ts e low = low_later (t ∷ []) us (subst Low e low)

expression_shallow : (t : Plain) (us : List Lexed) → IsExpression t us → Low us → IsShallow t
expression_shallow t us h low = record {
  as_written = h.as_written;
  fits = h.fits;
  meant_is = h.meant_is;
  shallow = low_shallow h.as_written [] (subst Low (h.tokens_are ∙ sym (append-nil (text h.as_written))) low);
}

condition_shallow : (t : Plain) (us : List Lexed) → IsCondition t us → Low us → IsShallow t
condition_shallow t us h low = record {
  as_written = h.as_written;
  fits = h.fits;
  meant_is = h.meant_is;
  shallow = low_shallow h.as_written [] (subst Low (h.tokens_are ∙ sym (append-nil (text h.as_written))) low);
}

-- ---- lists

-- P holds of what is written as tokens that are not over the limit
abbrev Keeps : {A : Type 0} → Writes A → (A → Type 0) → Type 0
Keeps {A} item P = (a : A) (us : List Lexed) → item a us → Low us → P a

commas_keep : {A : Type 0} (item : Writes A) (P : A → Type 0) → Keeps item P → (xs : List A) (ts : List Lexed) → Commas item xs ts → Low ts → Each P xs
commas_keep item P keeps [] ts h low = tt
commas_keep item P keeps (x ∷ xs) ts h low =
    let low1 : Low (h.1 ++ h.2) = low_tail (mark h.0 q.Comma) (h.1 ++ h.2) ts h.5 low in
    (keeps x h.1 h.3 (low_front h.1 h.2 low1), commas_keep item P keeps xs h.2 h.4 (low_later h.1 h.2 low1))

separated_keep : {A : Type 0} (item : Writes A) (P : A → Type 0) → Keeps item P → (xs : List A) (ts : List Lexed) → Separated item xs ts → Low ts → Each P xs
separated_keep item P keeps [] ts h low = tt
separated_keep item P keeps (x ∷ xs) ts h low =
    let low1 : Low (h.0 ++ h.1) = subst Low h.4 low in
    (keeps x h.0 h.2 (low_front h.0 h.1 low1), commas_keep item P keeps xs h.1 h.3 (low_later h.0 h.1 low1))

subscripted_keep : {A : Type 0} (item : Writes A) (P : A → Type 0) → Keeps item P → (xs : List A) (ts : List Lexed) → Subscripted item xs ts → Low ts → Each P xs
subscripted_keep item P keeps [] ts h low = tt
subscripted_keep item P keeps (x ∷ xs) ts h low =
    let close : List Lexed = mark h.1 q.RightParen ∷ [] in
    separated_keep item P keeps (x ∷ xs) h.2 h.3 (low_front h.2 close (low_tail (mark h.0 q.LeftParen) (h.2 ++ close) ts h.4 low))

-- ---- parts

spot_shallow : Keeps IsSpot SpotIsShallow
spot_shallow (n, subs) ts h low = subscripted_keep IsExpression IsShallow expression_shallow subs h.0 h.2 (low_tail (name n) h.0 ts h.3 low)

shown_shallow : Keeps IsShown ShownIsShallow
shown_shallow (PText b) ts h low = tt
shown_shallow (PValue t) ts h low = expression_shallow t ts h low

step_shallow : (by : Option Plain) (ts : List Lexed) → IsStep by ts → Low ts → StepIsShallow by
step_shallow None ts h low = tt
step_shallow (Some t) ts h low = expression_shallow t h.1 h.2 (low_tail (mark h.0 q.Comma) h.1 ts h.3 low)

loop_shallow : (l : PLoop) (ts : List Lexed) → IsLoop l ts → Low ts → LoopIsShallow l
loop_shallow (n, from, to, by) ts h low =
    let p = h.0 in
    let us = h.1 in
    let r = h.2 in
    let vs = h.3 in
    let xs = h.4 in
    let two : List Lexed = mark r q.Comma ∷ (vs ++ xs) in
    let low1 : Low (us ++ two) = low_later (name n ∷ (mark p q.Assign ∷ [])) (us ++ two) (subst Low h.9 low) in
    let low2 : Low (vs ++ xs) = low_later (mark r q.Comma ∷ []) (vs ++ xs) (low_later us two low1) in (
      expression_shallow from us h.6 (low_front us two low1),
      expression_shallow to vs h.7 (low_front vs xs low2),
      step_shallow by xs h.8 (low_later vs xs low2),
    )

guard_shallow : (c : Plain) (ts : List Lexed) → IsGuard c ts → Low ts → IsShallow c
guard_shallow c ts h low =
    let close : List Lexed = mark h.2 q.RightParen ∷ [] in
    condition_shallow c h.1 h.3 (low_front h.1 close (low_tail (mark h.0 q.LeftParen) (h.1 ++ close) ts h.4 low))

guard_then_shallow : (c : Plain) (ts : List Lexed) → IsGuardThen c ts → Low ts → IsShallow c
guard_then_shallow c ts h low = guard_shallow c h.0 h.2 (low_front h.0 (word h.1 w.Then ∷ []) (subst Low h.3 low))

-- ---- statements

simple_shallow : (f : PForm) (ts : List Lexed) → IsSimple f ts → Low ts → FormIsShallow f
simple_shallow (FAssign target value) ts h low =
    let rest : List Lexed = mark h.1 q.Assign ∷ h.2 in
    let low1 : Low (h.0 ++ rest) = subst Low h.5 low in
    (spot_shallow target h.0 h.3 (low_front h.0 rest low1), expression_shallow value h.2 h.4 (low_later (mark h.1 q.Assign ∷ []) h.2 (low_later h.0 rest low1)))
simple_shallow (FCall n actuals) ts h low = tt
simple_shallow (FPrint items) ts h low = commas_keep IsShown ShownIsShallow shown_shallow items h.2 h.3 (low_later (word h.0 w.Print ∷ (mark h.1 q.Star ∷ [])) h.2 (subst Low h.4 low))
simple_shallow (FRead targets) ts h low = commas_keep IsSpot SpotIsShallow spot_shallow targets h.2 h.3 (low_later (word h.0 w.Read ∷ (mark h.1 q.Star ∷ [])) h.2 (subst Low h.4 low))
simple_shallow _ ts h low = absurd h

form_shallow : (f : PForm) (ts : List Lexed) → Stands f ts → Low ts → FormIsShallow f
form_shallow (FAssign target value) ts h low = simple_shallow (FAssign target value) ts h low
form_shallow (FIfThen c) ts h low = guard_then_shallow c h.1 h.2 (low_tail (word h.0 w.If) h.1 ts h.3 low)
form_shallow (FElseIf c) ts h low =
    elim h.3 [
      | inl e ↦ guard_then_shallow c h.1 h.2 (low_tail (word h.0 w.ElseIf) h.1 ts e low)
      | inr e ↦ guard_then_shallow c h.1 h.2 (low_later (word h.0 w.Else ∷ (word e.0 w.If ∷ [])) h.1 (subst Low e.1 low))
    ]
form_shallow (FLogicalIf c place f) ts h low =
    let low1 : Low (h.1 ++ h.2) = low_tail (word h.0 w.If) (h.1 ++ h.2) ts h.6 low in
    (guard_shallow c h.1 h.3 (low_front h.1 h.2 low1), simple_shallow f h.2 h.4 (low_later h.1 h.2 low1))
form_shallow (FDo l) ts h low = loop_shallow l h.1 h.2 (low_tail (word h.0 w.Do) h.1 ts h.3 low)
form_shallow (FDoall l privates) ts h low = loop_shallow l h.1 h.3 (low_front h.1 h.2 (low_tail (word h.0 w.Doall) (h.1 ++ h.2) ts h.5 low))
form_shallow (FPrint items) ts h low = simple_shallow (FPrint items) ts h low
form_shallow (FRead targets) ts h low = simple_shallow (FRead targets) ts h low
form_shallow _ ts h low = tt

-- the statements of lines
pub lines_shallow : (ss : List PStatement) (ls : List Line) → StandAll ss ls → AreShallow ss
lines_shallow [] [] h = tt
lines_shallow [] (l ∷ ls) h = absurd h
lines_shallow (s ∷ ss) [] h = absurd h
lines_shallow (s ∷ ss) (l ∷ ls) h = (form_shallow s.form l.tokens h.1.0 h.0.parentheses, lines_shallow ss ls h.2)
