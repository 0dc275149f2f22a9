-- A line that a statement is written as is read as that statement.
use Rattle.std.proofs.Common.{◌≡◌, List, [], ◌∷◌, ◌++◌, length, Option, Some, None, refl, sym, ap, subst, ◌∙◌, append_assoc, arith, inl, inr}
use Rattle.std.proofs.lemmas.List.{append-nil}
use Rattle.cdc_base.specs.declared.place.Place.{Place}
use Rattle.cdc_token.specs.declared.token.Lexed.{Lexed}
use Rattle.cdc_token.specs.declared.token.Symbol.TheVariants as q
use Rattle.cdc_tree.specs.declared.tree.Named.{Named}
use Rattle.cdc_tree.specs.declared.form.Ending.{Ending}
use Rattle.cdc_tree.specs.declared.form.Ending.TheVariants as e
use Rattle.cdc_parse.specs.declared.kind.Kind.{Kind}
use Rattle.cdc_parse.specs.declared.kind.Kind.TheVariants as k
use Rattle.cdc_parse.specs.declared.word.Word.{Word}
use Rattle.cdc_parse.specs.declared.word.Word.TheVariants as w
use Rattle.cdc_tree.specs.Options.{◌>>=◌, maybe}
use Rattle.cdc_parse.specs.Tokens.{mark, word, name, IsName, same, after, word_at, after_word, name_at, finished}
use Rattle.cdc_tree.specs.Plain.{Plain}
use Rattle.cdc_parse.specs.Kinds.{kind}
use Rattle.cdc_parse.specs.Reading.{Gets, more, separated, closed}
use Rattle.cdc_parse.specs.Written.{Written, WNumber, WName, WApply, WKnown, WParen, WUnary, WBinary, text, meant, Fits, IsExpression, IsCondition}
use Rattle.cdc_tree.specs.Forms.{PBound, PDeclared, PDefine, PSpot, PLoop, PShown, PText, PValue, PForm, FProgram, FSubroutine, FEnd, FImplicitNone, FInteger, FParameter, FAssign, FIfThen, FElseIf, FElse, FEndIf, FLogicalIf, FDo, FEndDo, FDoall, FEndDoall, FCall, FPrint, FRead, PStatement}
use Rattle.cdc_parse.specs.Forms.{of_kind, whole, number_at, condition_at, in_parens, subscripted, without, last_name, end_by, end_at, bound_at, declared_at, define_at, spot_at, parameter_at, items_at, integer_at, assign_at, guard_at, step_at, loop_at, privates_at, call_at, valued, shown_at, print_at, read_at, simple_by, simple_at, logical, if_at, else_if_at, form_by, form_at, statement_at}
use Rattle.cdc_parse.specs.Stands.{Writes, Commas, Separated, Bracketed, Subscripted, InParens, IsNamed, LastName, IsBound, IsDeclared, IsDefine, IsSpot, IsShown, IsStep, IsLoop, Privates, IsGuard, IsGuardThen, IsEnding, IsEnd, IsSimple, Stands, StandsFor}
use Rattle.cdc_parse.specs.Words.{same_word}
use Rattle.cdc_parse.specs.Operators.{sign_symbol, symbol}
use Rattle.cdc_parse.specs.declared.operator.Sign.{Sign}
use Rattle.cdc_parse.specs.declared.operator.Sign.TheVariants as g
use Rattle.cdc_tree.proofs.Options.{some}
use Rattle.cdc_parse.proofs.Begins.{after_mark, word_at_word, word_at_name, after_word_word, after_word_other, after_word_name, name_at_name}
use Rattle.cdc_parse.proofs.Lists.{IsAgain, more_again, separated_again, closed_again}
use Rattle.cdc_parse.proofs.Deep.{Low, low_later, low_shallow}
use Rattle.cdc_parse.proofs.Again.{Stops, stops_close, stops_comma, stops_colon, stops_assign, stops_end, stops_word, comma_close, read_again}
use Rattle.cdc_parse.proofs.FormSound.{placed}

-- ---- what may follow an item

pub record Ends (ts : List Lexed) : Type 0 where
  pub stops : Stops 6 ts
  pub no_colon : after q.Colon ts ≡ None

ends_comma : (p : Place) (ts : List Lexed) → Ends (mark p q.Comma ∷ ts)
unfolding same
ends_comma p ts = record { stops = stops_comma 6 p ts; no_colon = refl }

ends_close : (p : Place) (ts : List Lexed) → Ends (mark p q.RightParen ∷ ts)
unfolding same
ends_close p ts = record { stops = stops_close 6 p ts; no_colon = refl }

ends_assign : (p : Place) (ts : List Lexed) → Ends (mark p q.Assign ∷ ts)
unfolding same
ends_assign p ts = record { stops = stops_assign 6 p ts; no_colon = refl }

ends_nil : Ends []
ends_nil = record { stops = stops_end 6; no_colon = refl }

-- ---- expressions and conditions

number_as : (c : Kind) (x : Plain × List Lexed) → c ≡ k.Number → of_kind k.Number x c ≡ Some x
number_as c x e = ap (λ (d : Kind). of_kind k.Number x d) e

truth_as : (c : Kind) (x : Plain × List Lexed) → c ≡ k.Truth → of_kind k.Truth x c ≡ Some x
truth_as c x e = ap (λ (d : Kind). of_kind k.Truth x d) e

whole_again : (t : Written) (rest : List Lexed) → Fits 6 t → Low (text t ++ rest) → Stops 6 rest → whole (text t ++ rest) ≡ Some (meant t, rest)
unfolding whole
whole_again t rest f low s = read_again t 64 (low_shallow t rest low) f rest s

pub number_again : IsAgain Low (Stops 6) IsExpression number_at
unfolding number_at
number_again a us rest w low s =
    let t = w.as_written in
    let one : whole (us ++ rest) ≡ Some (a, rest) =
    ap (λ (z : List Lexed). whole (z ++ rest)) w.tokens_are ∙ whole_again t rest w.fits (subst (λ (z : List Lexed). Low (z ++ rest)) w.tokens_are low) s ∙ ap (λ (m : Plain). some (m, rest)) w.meant_is in
    ap (λ (o : Option (Plain × List Lexed)). o >>= λ x. of_kind k.Number x (kind x.0)) one ∙ number_as (kind a) (a, rest) w.is_number

condition_again : IsAgain Low (Stops 6) IsCondition condition_at
unfolding condition_at
condition_again a us rest w low s =
    let t = w.as_written in
    let one : whole (us ++ rest) ≡ Some (a, rest) =
    ap (λ (z : List Lexed). whole (z ++ rest)) w.tokens_are ∙ whole_again t rest w.fits (subst (λ (z : List Lexed). Low (z ++ rest)) w.tokens_are low) s ∙ ap (λ (m : Plain). some (m, rest)) w.meant_is in
    ap (λ (o : Option (Plain × List Lexed)). o >>= λ x. of_kind k.Truth x (kind x.0)) one ∙ truth_as (kind a) (a, rest) w.is_truth

number_item : IsAgain Low Ends IsExpression number_at
number_item a us rest w low s = number_again a us rest w low s.stops

name_item : IsAgain Low Ends IsNamed name_at
name_item n us rest w low s = ap (λ (z : List Lexed). name_at (z ++ rest)) w.1 ∙ name_at_name n rest w.0

-- ---- lists

list_again : {A : Type 0} (item : Writes A) (get : Gets A) → IsAgain Low Ends item get → (all : List A) (us rest : List Lexed) → Separated item all us → Low (us ++ rest) → Ends rest → after q.Comma rest ≡ None → separated get (us ++ rest) ≡ Some (all, rest)
list_again item get again = separated_again Low Ends item get low_later ends_comma again

bracket_again : {A : Type 0} (item : Writes A) (get : Gets A) → IsAgain Low Ends item get → (all : List A) (xs : List Lexed) (r : Place) (rest : List Lexed) → Separated item all xs → Low ((xs ++ (mark r q.RightParen ∷ [])) ++ rest)
    → closed (separated get) ((xs ++ (mark r q.RightParen ∷ [])) ++ rest) ≡ Some (all, rest)
bracket_again item get again all xs r rest w low =
    closed_again (Separated item) (separated get) all (xs ++ (mark r q.RightParen ∷ [])) rest
    (λ vs c h e. list_again item get again all vs (mark c q.RightParen ∷ rest) h
    (subst Low (ap (λ (z : List Lexed). z ++ rest) e ∙ append_assoc vs (mark c q.RightParen ∷ []) rest) low) (ends_close c rest) (comma_close c rest))
    (r, xs, w, refl)

opened_again : {A : Type 0} (item : Writes A) (get : Gets A) → IsAgain Low Ends item get → (all : List A) (us rest : List Lexed) → Bracketed item all us → Low (us ++ rest) → subscripted get (us ++ rest) ≡ Some (all, rest)
opened_again item get again all us rest w low =
    let inner : List Lexed = (w.2 ++ (mark w.1 q.RightParen ∷ [])) ++ rest in
    let e : us ++ rest ≡ mark w.0 q.LeftParen ∷ inner = ap (λ (z : List Lexed). z ++ rest) w.4 in
    ap (subscripted get) e
    ∙ ap (λ (o : Option (List Lexed)). maybe o (closed (separated get)) (some ([], mark w.0 q.LeftParen ∷ inner))) (after_mark q.LeftParen w.0 inner)
    ∙ bracket_again item get again all w.2 w.1 rest w.3 (low_later (mark w.0 q.LeftParen ∷ []) inner (subst Low e low))

subscripted_again : {A : Type 0} (item : Writes A) (get : Gets A) → IsAgain Low Ends item get → IsAgain Low Ends (Subscripted item) (subscripted get)
subscripted_again item get again [] us rest w low s =
    ap (λ (z : List Lexed). subscripted get (z ++ rest)) w ∙ ap (λ (o : Option (List Lexed)). maybe o (closed (separated get)) (some ([], rest))) s.stops.opens_none
subscripted_again item get again (a ∷ all) us rest w low s = opened_again item get again (a ∷ all) us rest w low

-- no item begins with a closing parenthesis
abbrev OpensNone : {A : Type 0} → Writes A → Type 0
OpensNone {A} item = (a : A) (us rest : List Lexed) → item a us → after q.RightParen (us ++ rest) ≡ None

sign_closes_none : (x : Sign) (p : Place) (ts : List Lexed) → after q.RightParen (mark p (sign_symbol x) ∷ ts) ≡ None
unfolding same
sign_closes_none g.Plus p ts = refl
sign_closes_none g.Minus p ts = refl
sign_closes_none g.Not p ts = refl

tree_closes_none : (t : Written) (rest : List Lexed) → after q.RightParen (text t ++ rest) ≡ None
unfolding same
tree_closes_none (WNumber p z) rest = refl
tree_closes_none (WName n) rest = refl
tree_closes_none (WApply n p a m r) rest = refl
tree_closes_none (WKnown s f p a m r) rest = refl
tree_closes_none (WParen p a r) rest = refl
tree_closes_none (WUnary x p a) rest = sign_closes_none x p (text a ++ rest)
tree_closes_none (WBinary op a p b) rest = ap (after q.RightParen) (append_assoc (text a) (mark p (symbol op) ∷ text b) rest) ∙ tree_closes_none a (mark p (symbol op) ∷ (text b ++ rest))

number_closes_none : OpensNone IsExpression
number_closes_none a us rest w = ap (λ (z : List Lexed). after q.RightParen (z ++ rest)) w.tokens_are ∙ tree_closes_none w.as_written rest

name_closes_none : OpensNone IsNamed
name_closes_none n us rest w = ap (λ (z : List Lexed). after q.RightParen (z ++ rest)) w.1

list_closes_none : {A : Type 0} (item : Writes A) → OpensNone item → (all : List A) (us rest : List Lexed) → Separated item all us → after q.RightParen (us ++ rest) ≡ None
list_closes_none item none [] us rest w = absurd w
list_closes_none item none (a ∷ all) us rest w = ap (after q.RightParen) (ap (λ (z : List Lexed). z ++ rest) w.4 ∙ append_assoc w.0 w.1 rest) ∙ none a w.0 (w.1 ++ rest) w.2

abbrev in_open : {A : Type 0} → Gets A → List Lexed → Option (List A × List Lexed)
in_open get us = maybe (after q.RightParen us) (λ vs. some ([], vs)) (closed (separated get) us)

in_parens_full : {A : Type 0} (item : Writes A) (get : Gets A) → OpensNone item → IsAgain Low Ends item get → (all : List A) (us rest : List Lexed) → Bracketed item all us → Low (us ++ rest) → in_parens get (us ++ rest) ≡ Some (all, rest)
in_parens_full item get none again all us rest w low =
    let inner : List Lexed = (w.2 ++ (mark w.1 q.RightParen ∷ [])) ++ rest in
    let e : us ++ rest ≡ mark w.0 q.LeftParen ∷ inner = ap (λ (z : List Lexed). z ++ rest) w.4 in
    let opens : after q.RightParen inner ≡ None = ap (after q.RightParen) (append_assoc w.2 (mark w.1 q.RightParen ∷ []) rest) ∙ list_closes_none item none all w.2 (mark w.1 q.RightParen ∷ rest) w.3 in
    ap (in_parens get) e
    ∙ ap (λ (o : Option (List Lexed)). maybe o (in_open get) (some ([], mark w.0 q.LeftParen ∷ inner))) (after_mark q.LeftParen w.0 inner)
    ∙ ap (λ (o : Option (List Lexed)). maybe o (λ vs. some ([], vs)) (closed (separated get) inner)) opens
    ∙ bracket_again item get again all w.2 w.1 rest w.3 (low_later (mark w.0 q.LeftParen ∷ []) inner (subst Low e low))

in_parens_again : {A : Type 0} (item : Writes A) (get : Gets A) → OpensNone item → IsAgain Low Ends item get → IsAgain Low Ends (InParens item) (in_parens get)
in_parens_again item get none again [] us rest w low s =
    elim w [
      | inl empty ↦ ap (λ (z : List Lexed). in_parens get (z ++ rest)) empty ∙ ap (λ (o : Option (List Lexed)). maybe o (in_open get) (some ([], rest))) s.stops.opens_none
      | inr both ↦
          let p = both.0 in
          let r = both.1 in
          ap (λ (z : List Lexed). in_parens get (z ++ rest)) both.2
          ∙ ap (λ (o : Option (List Lexed)). maybe o (in_open get) (some ([], mark p q.LeftParen ∷ (mark r q.RightParen ∷ rest)))) (after_mark q.LeftParen p (mark r q.RightParen ∷ rest))
          ∙ ap (λ (o : Option (List Lexed)). maybe o (λ vs. some ([], vs)) (closed (separated get) (mark r q.RightParen ∷ rest))) (after_mark q.RightParen r rest)
    ]
in_parens_again item get none again (a ∷ all) us rest w low s = in_parens_full item get none again (a ∷ all) us rest w low

-- ---- parts

abbrev bound_tail : Plain × List Lexed → Option (PBound × List Lexed)
bound_tail x = maybe (after q.Colon x.1) (λ us. number_at us >>= λ y. some ((Some x.0, y.0), y.1)) (some ((None, x.0), x.1))

bound_again : IsAgain Low Ends IsBound bound_at
bound_again (None, high) us rest w low s =
    ap (λ (o : Option (Plain × List Lexed)). o >>= bound_tail) (number_again high us rest w low s.stops)
    ∙ ap (λ (o : Option (List Lexed)). maybe o (λ us. number_at us >>= λ y. some ((Some high, y.0), y.1)) (some ((None, high), rest))) s.no_colon
bound_again (Some low_bound, high) us rest w low s =
    let xs = w.0 in
    let p = w.1 in
    let ys = w.2 in
    let e : us ++ rest ≡ xs ++ (mark p q.Colon ∷ (ys ++ rest)) = ap (λ (z : List Lexed). z ++ rest) w.5 ∙ append_assoc xs (mark p q.Colon ∷ ys) rest in
    let low2 : Low (xs ++ (mark p q.Colon ∷ (ys ++ rest))) = subst Low e low in
    let low3 : Low (ys ++ rest) = low_later (mark p q.Colon ∷ []) (ys ++ rest) (low_later xs (mark p q.Colon ∷ (ys ++ rest)) low2) in
    ap bound_at e
    ∙ ap (λ (o : Option (Plain × List Lexed)). o >>= bound_tail) (number_again low_bound xs (mark p q.Colon ∷ (ys ++ rest)) w.3 low2 (stops_colon 6 p (ys ++ rest)))
    ∙ ap (λ (o : Option (List Lexed)). maybe o (λ us. number_at us >>= λ y. some ((Some low_bound, y.0), y.1)) (some ((None, low_bound), mark p q.Colon ∷ (ys ++ rest)))) (after_mark q.Colon p (ys ++ rest))
    ∙ ap (λ (o : Option (Plain × List Lexed)). o >>= λ y. some ((Some low_bound, y.0), y.1)) (number_again high ys rest w.4 low3 s.stops)

declared_again : IsAgain Low Ends IsDeclared declared_at
declared_again (n, bounds) us rest w low s =
    let e : us ++ rest ≡ name n ∷ (w.0 ++ rest) = ap (λ (z : List Lexed). z ++ rest) w.3 in
    ap declared_at e
    ∙ ap (λ (o : Option (Named × List Lexed)). o >>= λ n. subscripted bound_at n.1 >>= λ b. some ((n.0, b.0), b.1)) (name_at_name n (w.0 ++ rest) w.1)
    ∙ ap (λ (o : Option (List PBound × List Lexed)). o >>= λ b. some ((n, b.0), b.1)) (subscripted_again IsBound bound_at bound_again bounds w.0 rest w.2 (low_later (name n ∷ []) (w.0 ++ rest) (subst Low e low)) s)

spot_again : IsAgain Low Ends IsSpot spot_at
spot_again (n, subs) us rest w low s =
    let e : us ++ rest ≡ name n ∷ (w.0 ++ rest) = ap (λ (z : List Lexed). z ++ rest) w.3 in
    ap spot_at e
    ∙ ap (λ (o : Option (Named × List Lexed)). o >>= λ n. subscripted number_at n.1 >>= λ b. some ((n.0, b.0), b.1)) (name_at_name n (w.0 ++ rest) w.1)
    ∙ ap (λ (o : Option (List Plain × List Lexed)). o >>= λ b. some ((n, b.0), b.1)) (subscripted_again IsExpression number_at number_item subs w.0 rest w.2 (low_later (name n ∷ []) (w.0 ++ rest) (subst Low e low)) s)

define_again : IsAgain Low Ends IsDefine define_at
define_again (n, value) us rest w low s =
    let inner : List Lexed = mark w.0 q.Assign ∷ (w.1 ++ rest) in
    let e : us ++ rest ≡ name n ∷ inner = ap (λ (z : List Lexed). z ++ rest) w.4 in
    let low2 : Low (w.1 ++ rest) = low_later (name n ∷ (mark w.0 q.Assign ∷ [])) (w.1 ++ rest) (subst Low e low) in
    ap define_at e
    ∙ ap (λ (o : Option (Named × List Lexed)). o >>= λ n. after q.Assign n.1 >>= λ us. number_at us >>= λ v. some ((n.0, v.0), v.1)) (name_at_name n inner w.2)
    ∙ ap (λ (o : Option (List Lexed)). o >>= λ us. number_at us >>= λ v. some ((n, v.0), v.1)) (after_mark q.Assign w.0 (w.1 ++ rest))
    ∙ ap (λ (o : Option (Plain × List Lexed)). o >>= λ v. some ((n, v.0), v.1)) (number_again value w.1 rest w.3 low2 s.stops)

-- an expression does not begin with a text
tree_shown : (t : Written) (rest : List Lexed) → shown_at (text t ++ rest) ≡ valued (text t ++ rest)
tree_shown (WNumber p z) rest = refl
tree_shown (WName n) rest = refl
tree_shown (WApply n p a m r) rest = refl
tree_shown (WKnown s f p a m r) rest = refl
tree_shown (WParen p a r) rest = refl
tree_shown (WUnary x p a) rest = refl
tree_shown (WBinary op a p b) rest =
    let regrouped : text (WBinary op a p b) ++ rest ≡ text a ++ (mark p (symbol op) ∷ (text b ++ rest)) = append_assoc (text a) (mark p (symbol op) ∷ text b) rest in
    ap shown_at regrouped ∙ tree_shown a (mark p (symbol op) ∷ (text b ++ rest)) ∙ sym (ap valued regrouped)

shown_again : IsAgain Low Ends IsShown shown_at
shown_again (PText b) us rest w low s = ap (λ (z : List Lexed). shown_at (z ++ rest)) w.1
shown_again (PValue t) us rest w low s =
    ap (λ (z : List Lexed). shown_at (z ++ rest)) w.tokens_are ∙ tree_shown w.as_written rest ∙ sym (ap (λ (z : List Lexed). valued (z ++ rest)) w.tokens_are)
    ∙ ap (λ (o : Option (Plain × List Lexed)). o >>= λ x. some (PValue x.0, x.1)) (number_again t us rest w low s.stops)

guard_again : (c : Plain) (us rest : List Lexed) → IsGuard c us → Low (us ++ rest) → guard_at (us ++ rest) ≡ Some (c, rest)
guard_again c us rest w low =
    let inner : List Lexed = (w.1 ++ (mark w.2 q.RightParen ∷ [])) ++ rest in
    let e : us ++ rest ≡ mark w.0 q.LeftParen ∷ inner = ap (λ (z : List Lexed). z ++ rest) w.4 in
    let low2 : Low inner = low_later (mark w.0 q.LeftParen ∷ []) inner (subst Low e low) in
    ap guard_at e
    ∙ ap (λ (o : Option (List Lexed)). o >>= λ us. closed condition_at us) (after_mark q.LeftParen w.0 inner)
    ∙ closed_again IsCondition condition_at c (w.1 ++ (mark w.2 q.RightParen ∷ [])) rest
    (λ vs r h e2. condition_again c vs (mark r q.RightParen ∷ rest) h (subst Low (ap (λ (z : List Lexed). z ++ rest) e2 ∙ append_assoc vs (mark r q.RightParen ∷ []) rest) low2) (stops_close 6 r rest))
    (w.2, w.1, w.3, refl)

-- what may follow the controls of a loop
record LoopEnds (ts : List Lexed) : Type 0 where
  stops : Stops 6 ts
  no_comma : after q.Comma ts ≡ None

step_again : IsAgain Low LoopEnds IsStep step_at
step_again None us rest w low s =
    ap (λ (z : List Lexed). step_at (z ++ rest)) w ∙ ap (λ (o : Option (List Lexed)). maybe o (λ us. number_at us >>= λ c. some (Some c.0, c.1)) (some (None, rest))) s.no_comma
step_again (Some by) us rest w low s =
    let e : us ++ rest ≡ mark w.0 q.Comma ∷ (w.1 ++ rest) = ap (λ (z : List Lexed). z ++ rest) w.3 in
    ap step_at e
    ∙ ap (λ (o : Option (List Lexed)). maybe o (λ us. number_at us >>= λ c. some (Some c.0, c.1)) (some (None, mark w.0 q.Comma ∷ (w.1 ++ rest)))) (after_mark q.Comma w.0 (w.1 ++ rest))
    ∙ ap (λ (o : Option (Plain × List Lexed)). o >>= λ c. some (Some c.0, c.1)) (number_again by w.1 rest w.2 (low_later (mark w.0 q.Comma ∷ []) (w.1 ++ rest) (subst Low e low)) s.stops)

step_stops : (by : Option Plain) (xs rest : List Lexed) → IsStep by xs → Stops 6 rest → Stops 6 (xs ++ rest)
step_stops None xs rest w s = subst (λ (z : List Lexed). Stops 6 (z ++ rest)) (sym w) s
step_stops (Some by) xs rest w s = subst (λ (z : List Lexed). Stops 6 (z ++ rest)) (sym w.3) (stops_comma 6 w.0 (w.1 ++ rest))

loop_again : IsAgain Low LoopEnds IsLoop loop_at
loop_again (n, from, to, by) ts rest w low s =
    let p = w.0 in
    let us = w.1 in
    let r = w.2 in
    let vs = w.3 in
    let xs = w.4 in
    let three : List Lexed = xs ++ rest in
    let two : List Lexed = vs ++ three in
    let one : List Lexed = us ++ (mark r q.Comma ∷ two) in
    let e : ts ++ rest ≡ name n ∷ (mark p q.Assign ∷ one) =
    ap (λ (z : List Lexed). z ++ rest) w.9 ∙ ap (λ (z : List Lexed). name n ∷ (mark p q.Assign ∷ z)) (append_assoc us (mark r q.Comma ∷ (vs ++ xs)) rest ∙ ap (λ (z : List Lexed). us ++ (mark r q.Comma ∷ z)) (append_assoc vs xs rest)) in
    let low1 : Low one = low_later (name n ∷ (mark p q.Assign ∷ [])) one (subst Low e low) in
    let low2 : Low two = low_later (mark r q.Comma ∷ []) two (low_later us (mark r q.Comma ∷ two) low1) in
    let low3 : Low three = low_later vs three low2 in
    ap loop_at e
    ∙ ap (λ (o : Option (Named × List Lexed)). o >>= λ n. after q.Assign n.1 >>= λ us. number_at us >>= λ a. after q.Comma a.1 >>= λ vs. number_at vs >>= λ b. step_at b.1 >>= λ c. some ((n.0, a.0, b.0, c.0), c.1)) (name_at_name n (mark p q.Assign ∷ one) w.5)
    ∙ ap (λ (o : Option (List Lexed)). o >>= λ us. number_at us >>= λ a. after q.Comma a.1 >>= λ vs. number_at vs >>= λ b. step_at b.1 >>= λ c. some ((n, a.0, b.0, c.0), c.1)) (after_mark q.Assign p one)
    ∙ ap (λ (o : Option (Plain × List Lexed)). o >>= λ a. after q.Comma a.1 >>= λ vs. number_at vs >>= λ b. step_at b.1 >>= λ c. some ((n, a.0, b.0, c.0), c.1)) (number_again from us (mark r q.Comma ∷ two) w.6 low1 (stops_comma 6 r two))
    ∙ ap (λ (o : Option (List Lexed)). o >>= λ vs. number_at vs >>= λ b. step_at b.1 >>= λ c. some ((n, from, b.0, c.0), c.1)) (after_mark q.Comma r two)
    ∙ ap (λ (o : Option (Plain × List Lexed)). o >>= λ b. step_at b.1 >>= λ c. some ((n, from, b.0, c.0), c.1)) (number_again to vs three w.7 low2 (step_stops by xs rest w.8 s.stops))
    ∙ ap (λ (o : Option (Option Plain × List Lexed)). o >>= λ c. some ((n, from, to, c.0), c.1)) (step_again by xs rest w.8 low3 s)

-- ---- statements

by_word : (x : Word) (p : Place) (ts : List Lexed) → form_at (word p x ∷ ts) ≡ form_by x ts (word p x ∷ ts)
unfolding form_at
by_word x p ts = ap (λ (o : Option (Word × List Lexed)). maybe o (λ y. form_by y.0 y.1 (word p x ∷ ts)) (simple_at (word p x ∷ ts))) (word_at_word x p ts)

headed : (x : Word) (p : Place) (us ts : List Lexed) (f : PForm) → ts ≡ word p x ∷ us → form_by x us (word p x ∷ us) ≡ Some f → form_at ts ≡ Some f
headed x p us ts f e h = ap form_at e ∙ by_word x p us ∙ h

-- an item is the rest of the line
alone_again : {A : Type 0} (Stop : List Lexed → Type 0) (item : Writes A) (get : Gets A) → IsAgain Low Stop item get → (a : A) (us : List Lexed) → item a us → Low us → Stop [] → get us ≡ Some (a, [])
alone_again Stop item get again a us w low s =
    let e : us ≡ us ++ [] = sym (append-nil us) in
    ap get e ∙ again a us [] w (subst Low e low) s

tail_low : (t : Lexed) (us ts : List Lexed) → ts ≡ t ∷ us → Low ts → Low us
tail_low t us ts e low = low_later (t ∷ []) us (subst Low e low)

abbrev finish : {A : Type 0} → (A → PForm) → Option (A × List Lexed) → Option PForm
finish f o = o >>= λ x. finished x.1 >>= λ _. some (f x.0)

program_again : (n : Named) (ts : List Lexed) → Stands (FProgram n) ts → Low ts → form_at ts ≡ Some (FProgram n)
program_again n ts h low = headed w.Program h.0 (name n ∷ []) ts (FProgram n) h.2 (ap (finish FProgram) (name_at_name n [] h.1))

subroutine_again : (n : Named) (ds : List Named) (ts : List Lexed) → Stands (FSubroutine n ds) ts → Low ts → form_at ts ≡ Some (FSubroutine n ds)
subroutine_again n ds ts h low =
    let low2 : Low h.1 = low_later (word h.0 w.Subroutine ∷ (name n ∷ [])) h.1 (subst Low h.4 low) in
    headed w.Subroutine h.0 (name n ∷ h.1) ts (FSubroutine n ds) h.4
    (ap (λ (o : Option (Named × List Lexed)). o >>= λ n. in_parens name_at n.1 >>= λ d. finished d.1 >>= λ _. some (FSubroutine n.0 d.0)) (name_at_name n h.1 h.2)
    ∙ ap (finish (FSubroutine n)) (alone_again Ends (InParens IsNamed) (in_parens name_at) (in_parens_again IsNamed name_at name_closes_none name_item) ds h.1 h.3 low2 ends_nil))

last_again : (n : Option Named) (ts : List Lexed) → LastName n ts → last_name ts ≡ Some n
last_again None ts h = ap last_name h
last_again (Some n) ts h = ap last_name h.1 ∙ ap (λ (o : Option (Named × List Lexed)). o >>= λ n. finished n.1 >>= λ _. some (some n.0)) (name_at_name n [] h.0)

end_with : (x : Word) (p : Place) (us : List Lexed) → end_at (word p x ∷ us) ≡ end_by x us
end_with x p us = ap (λ (o : Option (Word × List Lexed)). maybe o (λ y. end_by y.0 y.1) (finished (word p x ∷ us) >>= λ _. some (FEnd e.Plain))) (word_at_word x p us)

end_again : (x : Ending) (ts : List Lexed) → IsEnding x ts → end_at ts ≡ Some (FEnd x)
end_again e.Plain ts h = ap end_at h
end_again (e.Program n) ts h = ap end_at h.3 ∙ end_with w.Program h.0 h.1 ∙ ap (λ (o : Option (Option Named)). o >>= λ n. some (FEnd (e.Program n))) (last_again n h.1 h.2)
end_again (e.Subroutine n) ts h = ap end_at h.3 ∙ end_with w.Subroutine h.0 h.1 ∙ ap (λ (o : Option (Option Named)). o >>= λ n. some (FEnd (e.Subroutine n))) (last_again n h.1 h.2)

two_again : (second joined : Word) (f : PForm) (ts : List Lexed) → ((us : List Lexed) → end_by second [] ≡ Some f) → ((p : Place) → form_by joined [] (word p joined ∷ []) ≡ Some f) → IsEnd second joined ts → form_at ts ≡ Some f
two_again second joined f ts by_two by_one h =
    elim h [
      | inl two ↦ headed w.End two.0 (word two.1 second ∷ []) ts f two.2 (end_with second two.1 [] ∙ by_two [])
      | inr one ↦ headed joined one.0 [] ts f one.1 (by_one one.0)
    ]

implicit_again : (ts : List Lexed) → Stands FImplicitNone ts → form_at ts ≡ Some FImplicitNone
implicit_again ts h = headed w.Implicit h.0 (word h.1 w.Nothing ∷ []) ts FImplicitNone h.2 (ap (λ (o : Option (List Lexed)). o >>= λ us. finished us >>= λ _. some FImplicitNone) (after_word_word w.Nothing h.1 []))

-- the first token of declared names is a name
items_begin : (items : List PDeclared) (us : List Lexed) → Separated IsDeclared items us → (n : Named) × (vs : List Lexed) × (us ≡ name n ∷ vs)
items_begin [] us h = absurd h
items_begin (i ∷ items) us h = (i.0, h.2.0 ++ h.1, h.4 ∙ ap (λ (z : List Lexed). z ++ h.1) h.2.3)

items_again : (items : List PDeclared) (us : List Lexed) → Separated IsDeclared items us → Low us → items_at us ≡ Some (FInteger items)
items_again items us h low =
    let e : us ≡ us ++ [] = sym (append-nil us) in
    ap (finish FInteger) (ap (separated declared_at) e ∙ list_again IsDeclared declared_at declared_again items us [] h (subst Low e low) ends_nil refl)

no_colons : (us : List Lexed) (n : Named) (vs : List Lexed) → us ≡ name n ∷ vs → integer_at us ≡ items_at us
no_colons us n vs e = ap integer_at e ∙ sym (ap items_at e)

with_colons : (p : Place) (us : List Lexed) → integer_at (mark p q.DoubleColon ∷ us) ≡ items_at us
unfolding same
with_colons p us = refl

integer_again : (items : List PDeclared) (ts : List Lexed) → Stands (FInteger items) ts → Low ts → form_at ts ≡ Some (FInteger items)
integer_again items ts h low =
    elim h.3 [
      | inl plain_items ↦
          let b = items_begin items h.1 h.2 in
          headed w.Integer h.0 h.1 ts (FInteger items) plain_items
          (no_colons h.1 b.0 b.1 b.2 ∙ items_again items h.1 h.2 (tail_low (word h.0 w.Integer) h.1 ts plain_items low))
      | inr colons ↦
          let us = mark colons.0 q.DoubleColon ∷ h.1 in
          headed w.Integer h.0 us ts (FInteger items) colons.1
          (with_colons colons.0 h.1 ∙ items_again items h.1 h.2 (low_later (mark colons.0 q.DoubleColon ∷ []) h.1 (tail_low (word h.0 w.Integer) us ts colons.1 low)))
    ]

parameter_again : (items : List PDefine) (ts : List Lexed) → Stands (FParameter items) ts → Low ts → form_at ts ≡ Some (FParameter items)
parameter_again items ts h low =
    let three : List Lexed = mark h.3 q.DoubleColon ∷ h.4 in
    let two : List Lexed = word h.2 w.Parameter ∷ three in
    let one : List Lexed = mark h.1 q.Comma ∷ two in
    let low2 : Low h.4 = low_later (word h.0 w.Integer ∷ (mark h.1 q.Comma ∷ (word h.2 w.Parameter ∷ (mark h.3 q.DoubleColon ∷ [])))) h.4 (subst Low h.6 low) in
    let e : h.4 ≡ h.4 ++ [] = sym (append-nil h.4) in
    headed w.Integer h.0 one ts (FParameter items) h.6
    (ap (λ (o : Option (List Lexed)). maybe o parameter_at (items_at (without q.DoubleColon one))) (after_mark q.Comma h.1 two)
    ∙ ap (λ (o : Option (List Lexed)). o >>= λ us. after q.DoubleColon us >>= λ vs. finish FParameter (separated define_at vs)) (after_word_word w.Parameter h.2 three)
    ∙ ap (λ (o : Option (List Lexed)). o >>= λ vs. finish FParameter (separated define_at vs)) (after_mark q.DoubleColon h.3 h.4)
    ∙ ap (finish FParameter) (ap (separated define_at) e ∙ list_again IsDefine define_at define_again items h.4 [] h.5 (subst Low e low2) ends_nil refl))

-- ---- simple statements

simple_word : (x : Word) (p : Place) (us : List Lexed) → simple_at (word p x ∷ us) ≡ simple_by x us
unfolding simple_at
simple_word x p us = ap (λ (o : Option (Word × List Lexed)). maybe o (λ y. simple_by y.0 y.1) (assign_at (word p x ∷ us))) (word_at_word x p us)

simple_name : (n : Named) (us : List Lexed) → IsName n → simple_at (name n ∷ us) ≡ assign_at (name n ∷ us)
unfolding simple_at
simple_name n us h = ap (λ (o : Option (Word × List Lexed)). maybe o (λ y. simple_by y.0 y.1) (assign_at (name n ∷ us))) (word_at_name n us h)

assign_again : (target : PSpot) (value : Plain) (ts : List Lexed) → IsSimple (FAssign target value) ts → Low ts → assign_at ts ≡ Some (FAssign target value)
assign_again target value ts h low =
    let after_target : List Lexed = mark h.1 q.Assign ∷ h.2 in
    let low1 : Low (h.0 ++ after_target) = subst Low h.5 low in
    let low2 : Low h.2 = low_later (mark h.1 q.Assign ∷ []) h.2 (low_later h.0 after_target low1) in
    ap assign_at h.5
    ∙ ap (λ (o : Option (PSpot × List Lexed)). o >>= λ s. after q.Assign s.1 >>= λ us. finish (FAssign s.0) (number_at us)) (spot_again target h.0 after_target h.3 low1 (ends_assign h.1 h.2))
    ∙ ap (λ (o : Option (List Lexed)). o >>= λ us. finish (FAssign target) (number_at us)) (after_mark q.Assign h.1 h.2)
    ∙ ap (finish (FAssign target)) (alone_again (Stops 6) IsExpression number_at number_again value h.2 h.4 low2 (stops_end 6))

assign_begins : (target : PSpot) (value : Plain) (ts : List Lexed) → IsSimple (FAssign target value) ts → (n : Named) × (us : List Lexed) × IsName n × (ts ≡ name n ∷ us)
assign_begins (n, subs) value ts h = (n, h.3.0 ++ (mark h.1 q.Assign ∷ h.2), h.3.1, h.5 ∙ ap (λ (z : List Lexed). z ++ (mark h.1 q.Assign ∷ h.2)) h.3.3)

call_again : (n : Named) (actuals : List Plain) (p : Place) (us : List Lexed) → IsName n → InParens IsExpression actuals us → Low us → call_at (name n ∷ us) ≡ Some (FCall n actuals)
call_again n actuals p us named_so h low =
    ap (λ (o : Option (Named × List Lexed)). o >>= λ n. finish (FCall n.0) (in_parens number_at n.1)) (name_at_name n us named_so)
    ∙ ap (finish (FCall n)) (alone_again Ends (InParens IsExpression) (in_parens number_at) (in_parens_again IsExpression number_at number_closes_none number_item) actuals us h low ends_nil)

each_again : {A : Type 0} (item : Writes A) (get : Gets A) → IsAgain Low Ends item get → (all : List A) (us : List Lexed) → Commas item all us → Low us → more get (length us) [] us ≡ Some (all, [])
each_again item get again all us w low =
    let e : us ≡ us ++ [] = sym (append-nil us) in
    ap (more get (length us) []) e ∙ more_again Low Ends item get low_later ends_comma again all us [] [] (length us) w (subst Low e low) ends_nil refl (omega (arith, ap length e))

print_again : (items : List PShown) (r : Place) (us : List Lexed) → Commas IsShown items us → Low us → print_at (mark r q.Star ∷ us) ≡ Some (FPrint items)
print_again items r us h low =
    ap (λ (o : Option (List Lexed)). o >>= λ us. finish FPrint (more shown_at (length us) [] us)) (after_mark q.Star r us)
    ∙ ap (finish FPrint) (each_again IsShown shown_at shown_again items us h low)

read_back : (targets : List PSpot) (r : Place) (us : List Lexed) → Commas IsSpot targets us → Low us → read_at (mark r q.Star ∷ us) ≡ Some (FRead targets)
read_back targets r us h low =
    ap (λ (o : Option (List Lexed)). o >>= λ us. finish FRead (more spot_at (length us) [] us)) (after_mark q.Star r us)
    ∙ ap (finish FRead) (each_again IsSpot spot_at spot_again targets us h low)

pub simple_again : (f : PForm) (ts : List Lexed) → IsSimple f ts → Low ts → simple_at ts ≡ Some f
simple_again (FAssign target value) ts h low =
    let b = assign_begins target value ts h in
    ap simple_at b.3 ∙ simple_name b.0 b.1 b.2 ∙ sym (ap assign_at b.3) ∙ assign_again target value ts h low
simple_again (FCall n actuals) ts h low =
    ap simple_at h.4 ∙ simple_word w.Call h.0 (name n ∷ h.1) ∙ call_again n actuals h.0 h.1 h.2 h.3 (low_later (word h.0 w.Call ∷ (name n ∷ [])) h.1 (subst Low h.4 low))
simple_again (FPrint items) ts h low =
    ap simple_at h.4 ∙ simple_word w.Print h.0 (mark h.1 q.Star ∷ h.2) ∙ print_again items h.1 h.2 h.3 (low_later (word h.0 w.Print ∷ (mark h.1 q.Star ∷ [])) h.2 (subst Low h.4 low))
simple_again (FRead targets) ts h low =
    ap simple_at h.4 ∙ simple_word w.Read h.0 (mark h.1 q.Star ∷ h.2) ∙ read_back targets h.1 h.2 h.3 (low_later (word h.0 w.Read ∷ (mark h.1 q.Star ∷ [])) h.2 (subst Low h.4 low))
simple_again x ts h low = absurd h

-- no simple statement begins with THEN
simple_then : (f : PForm) (ts : List Lexed) → IsSimple f ts → after_word w.Then ts ≡ None
unfolding same_word
simple_then (FAssign target value) ts h =
    let b = assign_begins target value ts h in
    ap (after_word w.Then) b.3 ∙ after_word_name w.Then b.0 b.1 b.2
simple_then (FCall n actuals) ts h = ap (after_word w.Then) h.4 ∙ after_word_other w.Call w.Then h.0 (name n ∷ h.1) refl
simple_then (FPrint items) ts h = ap (after_word w.Then) h.4 ∙ after_word_other w.Print w.Then h.0 (mark h.1 q.Star ∷ h.2) refl
simple_then (FRead targets) ts h = ap (after_word w.Then) h.4 ∙ after_word_other w.Read w.Then h.0 (mark h.1 q.Star ∷ h.2) refl
simple_then x ts h = absurd h

-- a simple statement is read as itself where a whole line may stand
simple_form : (f : PForm) (ts : List Lexed) → IsSimple f ts → form_at ts ≡ simple_at ts
unfolding form_at
simple_form (FAssign target value) ts h =
    let b = assign_begins target value ts h in
    ap (λ (o : Option (Word × List Lexed)). maybe o (λ y. form_by y.0 y.1 ts) (simple_at ts)) (ap word_at b.3 ∙ word_at_name b.0 b.1 b.2)
simple_form (FCall n actuals) ts h = ap (λ (o : Option (Word × List Lexed)). maybe o (λ y. form_by y.0 y.1 ts) (simple_at ts)) (ap word_at h.4 ∙ word_at_word w.Call h.0 (name n ∷ h.1))
simple_form (FPrint items) ts h = ap (λ (o : Option (Word × List Lexed)). maybe o (λ y. form_by y.0 y.1 ts) (simple_at ts)) (ap word_at h.4 ∙ word_at_word w.Print h.0 (mark h.1 q.Star ∷ h.2))
simple_form (FRead targets) ts h = ap (λ (o : Option (Word × List Lexed)). maybe o (λ y. form_by y.0 y.1 ts) (simple_at ts)) (ap word_at h.4 ∙ word_at_word w.Read h.0 (mark h.1 q.Star ∷ h.2))
simple_form x ts h = absurd h

-- ---- conditions

abbrev if_tail : Plain × List Lexed → Option PForm
if_tail c = maybe (after_word w.Then c.1) (λ us. finished us >>= λ _. some (FIfThen c.0)) (logical c.0 c.1)

if_then_again : (c : Plain) (us : List Lexed) → IsGuardThen c us → Low us → if_at us ≡ Some (FIfThen c)
if_then_again c us h low =
    ap if_at h.3
    ∙ ap (λ (o : Option (Plain × List Lexed)). o >>= if_tail) (guard_again c h.0 (word h.1 w.Then ∷ []) h.2 (subst Low h.3 low))
    ∙ ap (λ (o : Option (List Lexed)). maybe o (λ us. finished us >>= λ _. some (FIfThen c)) (logical c (word h.1 w.Then ∷ []))) (after_word_word w.Then h.1 [])

else_if_again : (c : Plain) (us : List Lexed) → IsGuardThen c us → Low us → else_if_at us ≡ Some (FElseIf c)
else_if_again c us h low =
    ap else_if_at h.3
    ∙ ap (λ (o : Option (Plain × List Lexed)). o >>= λ c. after_word w.Then c.1 >>= λ us. finished us >>= λ _. some (FElseIf c.0)) (guard_again c h.0 (word h.1 w.Then ∷ []) h.2 (subst Low h.3 low))
    ∙ ap (λ (o : Option (List Lexed)). o >>= λ us. finished us >>= λ _. some (FElseIf c)) (after_word_word w.Then h.1 [])

logical_again : (c : Plain) (place : Place) (f : PForm) (ts : List Lexed) → Stands (FLogicalIf c place f) ts → Low ts → form_at ts ≡ Some (FLogicalIf c place f)
logical_again c place f ts h low =
    let us = h.1 in
    let vs = h.2 in
    let low1 : Low (us ++ vs) = low_later (word h.0 w.If ∷ []) (us ++ vs) (subst Low h.6 low) in
    let low2 : Low vs = low_later us vs low1 in
    headed w.If h.0 (us ++ vs) ts (FLogicalIf c place f) h.6
    (ap (λ (o : Option (Plain × List Lexed)). o >>= if_tail) (guard_again c us vs h.3 low1)
    ∙ ap (λ (o : Option (List Lexed)). maybe o (λ us. finished us >>= λ _. some (FIfThen c)) (logical c vs)) (simple_then f vs h.4)
    ∙ ap (λ (o : Option Place). o >>= λ p. simple_at vs >>= λ f. some (FLogicalIf c p f)) h.5
    ∙ ap (λ (o : Option PForm). o >>= λ f. some (FLogicalIf c place f)) (simple_again f vs h.4 low2))

elsif_again : (c : Plain) (ts : List Lexed) → Stands (FElseIf c) ts → Low ts → form_at ts ≡ Some (FElseIf c)
elsif_again c ts h low =
    elim h.3 [
      | inl one ↦ headed w.ElseIf h.0 h.1 ts (FElseIf c) one (else_if_again c h.1 h.2 (tail_low (word h.0 w.ElseIf) h.1 ts one low))
      | inr two ↦
          let us = word two.0 w.If ∷ h.1 in
          headed w.Else h.0 us ts (FElseIf c) two.1
          (ap (λ (o : Option (List Lexed)). maybe o else_if_at (finished us >>= λ _. some FElse)) (after_word_word w.If two.0 h.1)
          ∙ else_if_again c h.1 h.2 (low_later (word two.0 w.If ∷ []) h.1 (tail_low (word h.0 w.Else) us ts two.1 low)))
    ]

-- ---- loops

loop_nil : LoopEnds []
loop_nil = record { stops = stops_end 6; no_comma = refl }

do_again : (l : PLoop) (ts : List Lexed) → Stands (FDo l) ts → Low ts → form_at ts ≡ Some (FDo l)
do_again l ts h low =
    headed w.Do h.0 h.1 ts (FDo l) h.3 (ap (finish FDo) (alone_again LoopEnds IsLoop loop_at loop_again l h.1 h.2 (tail_low (word h.0 w.Do) h.1 ts h.3 low) loop_nil))

privates_end : (names : List Named) (vs : List Lexed) → Privates names vs → LoopEnds vs
privates_end [] vs h = subst LoopEnds (sym h) loop_nil
privates_end (n ∷ names) vs h = subst LoopEnds (sym h.3) (record { stops = stops_word 6 h.0 w.Private h.1; no_comma = refl })

abbrev privates_in : List Lexed → Option (List Named)
privates_in us = after q.LeftParen us >>= λ vs. closed (separated name_at) vs >>= λ x. finished x.1 >>= λ _. some x.0

privates_again : (names : List Named) (vs : List Lexed) → Privates names vs → Low vs → privates_at vs ≡ Some names
privates_again [] vs h low = ap privates_at h
privates_again (n ∷ names) vs h low =
    let b = h.2 in
    let inner : List Lexed = b.2 ++ (mark b.1 q.RightParen ∷ []) in
    let e : h.1 ≡ mark b.0 q.LeftParen ∷ inner = b.4 in
    let low2 : Low inner = low_later (mark b.0 q.LeftParen ∷ []) inner (subst Low e (tail_low (word h.0 w.Private) h.1 vs h.3 low)) in
    let n2 : inner ≡ inner ++ [] = sym (append-nil inner) in
    ap privates_at h.3
    ∙ ap (λ (o : Option (List Lexed)). maybe o privates_in (finished (word h.0 w.Private ∷ h.1) >>= λ _. some [])) (after_word_word w.Private h.0 h.1)
    ∙ ap privates_in e
    ∙ ap (λ (o : Option (List Lexed)). o >>= λ vs. closed (separated name_at) vs >>= λ x. finished x.1 >>= λ _. some x.0) (after_mark q.LeftParen b.0 inner)
    ∙ ap (λ (o : Option (List Named × List Lexed)). o >>= λ x. finished x.1 >>= λ _. some x.0) (ap (closed (separated name_at)) n2 ∙ bracket_again IsNamed name_at name_item (n ∷ names) b.2 b.1 [] b.3 (subst Low n2 low2))

doall_again : (l : PLoop) (names : List Named) (ts : List Lexed) → Stands (FDoall l names) ts → Low ts → form_at ts ≡ Some (FDoall l names)
doall_again l names ts h low =
    let us = h.1 in
    let vs = h.2 in
    let low1 : Low (us ++ vs) = low_later (word h.0 w.Doall ∷ []) (us ++ vs) (subst Low h.5 low) in
    headed w.Doall h.0 (us ++ vs) ts (FDoall l names) h.5
    (ap (λ (o : Option (PLoop × List Lexed)). o >>= λ l. privates_at l.1 >>= λ p. some (FDoall l.0 p)) (loop_again l us vs h.3 low1 (privates_end names vs h.4))
    ∙ ap (λ (o : Option (List Named)). o >>= λ p. some (FDoall l p)) (privates_again names vs h.4 (low_later us vs low1)))

pub form_again : (f : PForm) (ts : List Lexed) → Stands f ts → Low ts → form_at ts ≡ Some f
form_again (FProgram n) ts h low = program_again n ts h low
form_again (FSubroutine n ds) ts h low = subroutine_again n ds ts h low
form_again (FEnd x) ts h low = headed w.End h.0 h.1 ts (FEnd x) h.3 (end_again x h.1 h.2)
form_again FImplicitNone ts h low = implicit_again ts h
form_again (FInteger items) ts h low = integer_again items ts h low
form_again (FParameter items) ts h low = parameter_again items ts h low
form_again (FIfThen c) ts h low = headed w.If h.0 h.1 ts (FIfThen c) h.3 (if_then_again c h.1 h.2 (tail_low (word h.0 w.If) h.1 ts h.3 low))
form_again (FElseIf c) ts h low = elsif_again c ts h low
form_again FElse ts h low = headed w.Else h.0 [] ts FElse h.1 refl
form_again FEndIf ts h low = two_again w.If w.EndIf FEndIf ts (λ us. refl) (λ p. refl) h
form_again (FLogicalIf c place f) ts h low = logical_again c place f ts h low
form_again (FDo l) ts h low = do_again l ts h low
form_again FEndDo ts h low = two_again w.Do w.EndDo FEndDo ts (λ us. refl) (λ p. refl) h
form_again (FDoall l names) ts h low = doall_again l names ts h low
form_again FEndDoall ts h low = two_again w.Doall w.EndDoall FEndDoall ts (λ us. refl) (λ p. refl) h
form_again (FAssign s v) ts h low = simple_form (FAssign s v) ts h ∙ simple_again (FAssign s v) ts h low
form_again (FCall n a) ts h low = simple_form (FCall n a) ts h ∙ simple_again (FCall n a) ts h low
form_again (FPrint i) ts h low = simple_form (FPrint i) ts h ∙ simple_again (FPrint i) ts h low
form_again (FRead i) ts h low = simple_form (FRead i) ts h ∙ simple_again (FRead i) ts h low

-- the statement that stands for the tokens is read
pub statement_again : (s : PStatement) (ts : List Lexed) → StandsFor s ts → Low ts → statement_at ts ≡ Some s
statement_again s ts h low =
    ap (λ (o : Option Place). o >>= λ p. form_at ts >>= λ f. some (placed p f)) h.1 ∙ ap (λ (o : Option PForm). o >>= λ f. some (placed s.place f)) (form_again s.form ts h.0 low)
