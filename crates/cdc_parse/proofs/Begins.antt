-- What a list of tokens begins with, both ways.
use Rattle.std.proofs.Common.{◌≡◌, ℕ, ◌<◌, Bool, true, false, cond, eqb, List, [], ◌∷◌, Option, Some, None, refl, sym, ap, subst, ◌∙◌, arith, bytes_eq}
use Rattle.std.specs.List.{find}
use Rattle.std.proofs.lemmas.Bool.{eqb-true, eq-eqb, ne_eqb}
use Rattle.std.proofs.lemmas.Slice.Eq.{bytes_eq-Decides}
use denote.Enum.Bare.{same_true, true_same}
use Rattle.cdc_base.specs.declared.place.Place.{Place}
use Rattle.cdc_prog.specs.declared.expr.BinOp.{BinOp}
use Rattle.cdc_prog.specs.declared.expr.BinOp.TheVariants as b
use Rattle.cdc_token.specs.declared.token.Lexed.{Lexed}
use Rattle.cdc_token.specs.declared.token.Token.{Token}
use Rattle.cdc_token.specs.declared.token.Token.TheVariants.{Name, Symbol}
use Rattle.cdc_token.specs.declared.token.Symbol.{Symbol as Mark}
use Rattle.cdc_token.specs.declared.token.Symbol.TheVariants as q
use Rattle.cdc_token.specs.contracts.token.Symbol.{the_type as mark_type}
use Rattle.cdc_parse.specs.contracts.word.Word.{the_type as word_type}
use Rattle.cdc_tree.specs.declared.tree.Named.{Named}
use Rattle.cdc_tree.specs.declared.tree.Intrinsic.{Intrinsic}
use Rattle.cdc_parse.specs.declared.operator.Sign.{Sign}
use Rattle.cdc_parse.specs.declared.operator.Sign.TheVariants as g
use Rattle.cdc_parse.specs.declared.word.Word.{Word}
use Rattle.cdc_parse.specs.declared.word.Word.TheVariants as w
use Rattle.cdc_tree.proofs.Options.{some, some_is, bind_some, if_some}
use Rattle.cdc_parse.specs.Words.{spelling, words, word_named, same_word}
use Rattle.cdc_tree.specs.Options.{◌>>=◌}
use Rattle.cdc_parse.specs.Tokens.{at, mark, word, name, IsName, same, after_token, after, word_of, word_at, after_word, unreserved, name_token, name_at, finished}
use Rattle.cdc_parse.specs.Operators.{sign_of, sign_symbol, sign_rank, operator_of, symbol, rank, sign_in, sign_at, operator_in, operator_at}
use Rattle.cdc_parse.specs.Reading.{intrinsic_of}
use Rattle.cdc_parse.specs.Written.{intrinsic_word}

-- ---- symbols

pub same_is : (s t : Mark) → same s t ≡ true → s ≡ t
unfolding same
same_is s t e = same_true mark_type tt s t e

pub same_self : (s : Mark) → same s s ≡ true
unfolding same
same_self s = true_same mark_type s s refl

after_as : (s : Mark) (k : Token) (p : Place) (ts us : List Lexed) → after_token s k ts ≡ Some us → at p k ∷ ts ≡ mark p s ∷ us
after_as s (Symbol m) p ts us e =
    let h = if_some (same m s) ts us e in
    ap (λ (x : Mark). mark p x ∷ ts) (same_is m s h.0) ∙ ap (λ (z : List Lexed). mark p s ∷ z) h.1
after_as s x p ts us e = absurd cc

pub after_is : (s : Mark) (ts us : List Lexed) → after s ts ≡ Some us → (p : Place) × (ts ≡ mark p s ∷ us)
after_is s [] us e = absurd cc
after_is s (t ∷ ts) us e = (t.place, after_as s t.token t.place ts us e)

pub after_mark : (s : Mark) (p : Place) (us : List Lexed) → after s (mark p s ∷ us) ≡ Some us
after_mark s p us = ap (λ (t : Bool). cond t (some us) None) (same_self s)

-- ---- reserved words and names

pub word_named_self : (x : Word) → word_named (spelling x) ≡ Some x
unfolding word_named
word_named_self w.Program = refl
word_named_self w.Subroutine = refl
word_named_self w.End = refl
word_named_self w.EndDo = refl
word_named_self w.EndIf = refl
word_named_self w.EndDoall = refl
word_named_self w.Integer = refl
word_named_self w.Parameter = refl
word_named_self w.Implicit = refl
word_named_self w.Nothing = refl
word_named_self w.Do = refl
word_named_self w.Doall = refl
word_named_self w.Private = refl
word_named_self w.If = refl
word_named_self w.Then = refl
word_named_self w.Else = refl
word_named_self w.ElseIf = refl
word_named_self w.Call = refl
word_named_self w.Read = refl
word_named_self w.Print = refl
word_named_self w.Abs = refl
word_named_self w.Min = refl
word_named_self w.Max = refl
word_named_self w.Mod = refl
word_named_self w.Common = refl

find_is : {A : Type 0} (p : A → Bool) (xs : List A) (x : A) → find p xs ≡ Some x → p x ≡ true
find_is p [] x e = absurd cc
find_is p (y ∷ ys) x e = go (p y) refl (find_is p ys x) e
  where
    go : (t : Bool) → p y ≡ t → (find p ys ≡ Some x → p x ≡ true) → cond t (some y) (find p ys) ≡ Some x → p x ≡ true
    go true h f e2 = subst (λ (z : _). p z ≡ true) (some_is y x e2) h
    go false h f e2 = f e2

pub word_named_is : (n : List ℕ) (x : Word) → word_named n ≡ Some x → n ≡ spelling x
unfolding word_named
word_named_is n x e = sym ((bytes_eq-Decides (spelling x) n).0 (find_is (λ (v : Word). bytes_eq (spelling v) n) words x e))

word_of_is : (k : Token) (x : Word) → word_of k ≡ Some x → k ≡ Name (spelling x)
word_of_is (Name n) x e = ap (λ (z : List ℕ). Name z) (word_named_is n x e)
word_of_is y x e = absurd cc

pub word_at_is : (ts us : List Lexed) (x : Word) → word_at ts ≡ Some (x, us) → (p : Place) × (ts ≡ word p x ∷ us)
word_at_is [] us x e = absurd cc
word_at_is (t ∷ ts) us x e =
    let h = bind_some (word_of t.token) (λ (v : Word). Some (v, ts)) (x, us) e in
    let same_pair : (h.0, ts) ≡ (x, us) = some_is (h.0, ts) (x, us) h.2 in
    (t.place, ap (λ (k : Token). at t.place k ∷ ts) (word_of_is t.token h.0 h.1) ∙ ap (λ (y : Word × List Lexed). word t.place y.0 ∷ y.1) same_pair)

pub word_at_word : (x : Word) (p : Place) (us : List Lexed) → word_at (word p x ∷ us) ≡ Some (x, us)
word_at_word x p us = ap (λ (o : Option Word). o >>= λ v. Some (v, us)) (word_named_self x)

same_word_is : (s t : Word) → same_word s t ≡ true → s ≡ t
unfolding same_word
same_word_is s t e = same_true word_type tt s t e

same_word_self : (s : Word) → same_word s s ≡ true
unfolding same_word
same_word_self s = true_same word_type s s refl

pub after_word_is : (x : Word) (ts us : List Lexed) → after_word x ts ≡ Some us → (p : Place) × (ts ≡ word p x ∷ us)
after_word_is x ts us e =
    let h = bind_some (word_at ts) (λ (y : Word × List Lexed). cond (same_word y.0 x) (Some y.1) None) us e in
    let c = if_some (same_word h.0.0 x) h.0.1 us h.2 in
    let a = word_at_is ts h.0.1 h.0.0 h.1 in
    (a.0, a.1 ∙ ap (λ (y : Word). word a.0 y ∷ h.0.1) (same_word_is h.0.0 x c.0) ∙ ap (λ (z : List Lexed). word a.0 x ∷ z) c.1)

pub after_word_word : (x : Word) (p : Place) (us : List Lexed) → after_word x (word p x ∷ us) ≡ Some us
after_word_word x p us =
    ap (λ (o : Option (Word × List Lexed)). o >>= λ y. cond (same_word y.0 x) (some y.1) None) (word_at_word x p us) ∙ ap (λ (t : Bool). cond t (some us) None) (same_word_self x)

pub after_word_other : (x y : Word) (p : Place) (us : List Lexed) → same_word x y ≡ false → after_word y (word p x ∷ us) ≡ None
after_word_other x y p us e =
    ap (λ (o : Option (Word × List Lexed)). o >>= λ z. cond (same_word z.0 y) (some z.1) None) (word_at_word x p us) ∙ ap (λ (t : Bool). cond t (some us) None) e

name_as : (n : List ℕ) (p : Place) (ts us : List Lexed) (x : Named) (o : Option Word) → word_named n ≡ o → unreserved n p ts o ≡ Some (x, us) → IsName x × (at p (Name n) ∷ ts ≡ name x ∷ us)
name_as n p ts us x (Some v) h e = absurd cc
name_as n p ts us x None h e =
    let made : Named = record { name = n; place = p } in
    let same_pair : (made, ts) ≡ (x, us) = some_is (made, ts) (x, us) e in
    (subst (λ (y : Named × List Lexed). IsName y.0) same_pair h, ap (λ (y : Named × List Lexed). name y.0 ∷ y.1) same_pair)

name_in : (k : Token) (p : Place) (ts us : List Lexed) (x : Named) → name_token p k ts ≡ Some (x, us) → IsName x × (at p k ∷ ts ≡ name x ∷ us)
name_in (Name n) p ts us x e = name_as n p ts us x (word_named n) refl e
name_in y p ts us x e = absurd cc

pub name_at_is : (ts us : List Lexed) (x : Named) → name_at ts ≡ Some (x, us) → IsName x × (ts ≡ name x ∷ us)
name_at_is [] us x e = absurd cc
name_at_is (t ∷ ts) us x e = name_in t.token t.place ts us x e

pub name_at_name : (n : Named) (us : List Lexed) → IsName n → name_at (name n ∷ us) ≡ Some (n, us)
name_at_name n us h = ap (λ (o : Option Word). unreserved n.name n.place us o) h

pub word_at_name : (n : Named) (us : List Lexed) → IsName n → word_at (name n ∷ us) ≡ None
word_at_name n us h = ap (λ (o : Option Word). o >>= λ v. some (v, us)) h

pub after_word_name : (x : Word) (n : Named) (us : List Lexed) → IsName n → after_word x (name n ∷ us) ≡ None
after_word_name x n us h = ap (λ (o : Option (Word × List Lexed)). o >>= λ z. cond (same_word z.0 x) (some z.1) None) (word_at_name n us h)

pub finished_is : (ts : List Lexed) (x : Unit {0}) → finished ts ≡ Some x → ts ≡ []
finished_is [] x e = refl
finished_is (t ∷ ts) x e = absurd cc

pub intrinsic_is : (x : Word) (f : Intrinsic) → intrinsic_of x ≡ Some f → x ≡ intrinsic_word f
intrinsic_is w.Abs f e = ap intrinsic_word (some_is _ f e)
intrinsic_is w.Min f e = ap intrinsic_word (some_is _ f e)
intrinsic_is w.Max f e = ap intrinsic_word (some_is _ f e)
intrinsic_is w.Mod f e = ap intrinsic_word (some_is _ f e)
intrinsic_is x f e = absurd cc

-- ---- signs and operators

sign_of_is : (s : Mark) (x : Sign) → sign_of s ≡ Some x → s ≡ sign_symbol x
sign_of_is q.Plus x e = ap sign_symbol (some_is _ x e)
sign_of_is q.Minus x e = ap sign_symbol (some_is _ x e)
sign_of_is q.Not x e = ap sign_symbol (some_is _ x e)
sign_of_is y x e = absurd cc

pub sign_self : (x : Sign) → sign_of (sign_symbol x) ≡ Some x
sign_self g.Plus = refl
sign_self g.Minus = refl
sign_self g.Not = refl

operator_of_is : (s : Mark) (x : BinOp) → operator_of s ≡ Some x → s ≡ symbol x
operator_of_is q.LeftParen x e = absurd cc
operator_of_is q.RightParen x e = absurd cc
operator_of_is q.Comma x e = absurd cc
operator_of_is q.Colon x e = absurd cc
operator_of_is q.DoubleColon x e = absurd cc
operator_of_is q.Assign x e = absurd cc
operator_of_is q.Not x e = absurd cc
operator_of_is y x e = ap symbol (some_is _ x e)

pub operator_self : (x : BinOp) → rank x < 9 → operator_of (symbol x) ≡ Some x
operator_self b.Add lt = refl
operator_self b.Sub lt = refl
operator_self b.Mul lt = refl
operator_self b.Div lt = refl
operator_self b.Eq lt = refl
operator_self b.Ne lt = refl
operator_self b.Lt lt = refl
operator_self b.Le lt = refl
operator_self b.Gt lt = refl
operator_self b.Ge lt = refl
operator_self b.And lt = refl
operator_self b.Or lt = refl
operator_self b.Mod lt = absurd (omega arith)
operator_self b.Min lt = absurd (omega arith)
operator_self b.Max lt = absurd (omega arith)

sign_in_is : (r : ℕ) (k : Token) (x : Sign) → sign_in r k ≡ Some x → (k ≡ Symbol (sign_symbol x)) × (sign_rank x ≡ r)
sign_in_is r (Symbol s) x e =
    let h = bind_some (sign_of s) (λ (y : Sign). cond (eqb (sign_rank y) r) (Some y) None) x e in
    let c = if_some (eqb (sign_rank h.0) r) h.0 x h.2 in
    (ap (λ (m : Mark). Symbol m) (sign_of_is s x (h.1 ∙ ap (λ (y : Sign). some y) c.1)), ap sign_rank (sym c.1) ∙ eqb-true (sign_rank h.0) r c.0)
sign_in_is r y x e = absurd cc

pub record SignAt (r : ℕ) (ts : List Lexed) (s : Sign × Place × List Lexed) : Type 0 where
  pub parts : ts ≡ mark s.1 (sign_symbol s.0) ∷ s.2
  pub rank_is : sign_rank s.0 ≡ r

pub sign_at_is : (r : ℕ) (ts : List Lexed) (s : Sign × Place × List Lexed) → sign_at r ts ≡ Some s → SignAt r ts s
sign_at_is r [] s e = absurd cc
sign_at_is r (t ∷ ts) s e =
    let h = bind_some (sign_in r t.token) (λ (y : Sign). Some (y, t.place, ts)) s e in
    let i = sign_in_is r t.token h.0 h.1 in
    let made : SignAt r (t ∷ ts) (h.0, t.place, ts) = record { parts = ap (λ (k : Token). at t.place k ∷ ts) i.0; rank_is = i.1 } in
    subst (λ (y : Sign × Place × List Lexed). SignAt r (t ∷ ts) y) (some_is (h.0, t.place, ts) s h.2) made

operator_in_is : (r : ℕ) (k : Token) (x : BinOp) → operator_in r k ≡ Some x → (k ≡ Symbol (symbol x)) × (rank x ≡ r)
operator_in_is r (Symbol s) x e =
    let h = bind_some (operator_of s) (λ (y : BinOp). cond (eqb (rank y) r) (Some y) None) x e in
    let c = if_some (eqb (rank h.0) r) h.0 x h.2 in
    (ap (λ (m : Mark). Symbol m) (operator_of_is s x (h.1 ∙ ap (λ (y : BinOp). some y) c.1)), ap rank (sym c.1) ∙ eqb-true (rank h.0) r c.0)
operator_in_is r y x e = absurd cc

pub record OperatorAt (r : ℕ) (ts : List Lexed) (o : BinOp × List Lexed) : Type 0 where
  pub place : Place
  pub parts : ts ≡ mark place (symbol o.0) ∷ o.1
  pub rank_is : rank o.0 ≡ r

pub operator_at_is : (r : ℕ) (ts : List Lexed) (o : BinOp × List Lexed) → operator_at r ts ≡ Some o → OperatorAt r ts o
operator_at_is r [] o e = absurd cc
operator_at_is r (t ∷ ts) o e =
    let h = bind_some (operator_in r t.token) (λ (y : BinOp). Some (y, ts)) o e in
    let i = operator_in_is r t.token h.0 h.1 in
    let made : OperatorAt r (t ∷ ts) (h.0, ts) = record { place = t.place; parts = ap (λ (k : Token). at t.place k ∷ ts) i.0; rank_is = i.1 } in
    subst (λ (y : BinOp × List Lexed). OperatorAt r (t ∷ ts) y) (some_is (h.0, ts) o h.2) made

abbrev picked : BinOp → Bool → List Lexed → Option (BinOp × List Lexed)
picked x t us = cond t (some x) None >>= λ y. Some (y, us)

operator_at_picked : (x : BinOp) (r : ℕ) (t : Bool) (p : Place) (us : List Lexed) → rank x < 9 → eqb (rank x) r ≡ t → operator_at r (mark p (symbol x) ∷ us) ≡ picked x t us
operator_at_picked x r t p us lt e =
    ap (λ (o : Option BinOp). (o >>= λ y. cond (eqb (rank y) r) (some y) None) >>= λ y. some (y, us)) (operator_self x lt) ∙ ap (λ (v : Bool). picked x v us) e

pub operator_at_self : (x : BinOp) (p : Place) (us : List Lexed) → rank x < 9 → operator_at (rank x) (mark p (symbol x) ∷ us) ≡ Some (x, us)
operator_at_self x p us lt = operator_at_picked x (rank x) true p us lt (eq-eqb (rank x) (rank x) refl)

pub operator_at_other : (x : BinOp) (r : ℕ) (p : Place) (us : List Lexed) → rank x < 9 → (rank x ≡ r → ⊥) → operator_at r (mark p (symbol x) ∷ us) ≡ None
operator_at_other x r p us lt ne = operator_at_picked x r false p us lt (ne_eqb (rank x) r ne)

abbrev signed_by : Sign → Bool → Place → List Lexed → Option (Sign × Place × List Lexed)
signed_by x t p us = cond t (some x) None >>= λ y. Some (y, p, us)

sign_at_picked : (x : Sign) (r : ℕ) (t : Bool) (p : Place) (us : List Lexed) → eqb (sign_rank x) r ≡ t → sign_at r (mark p (sign_symbol x) ∷ us) ≡ signed_by x t p us
sign_at_picked x r t p us e =
    ap (λ (o : Option Sign). (o >>= λ y. cond (eqb (sign_rank y) r) (some y) None) >>= λ y. some (y, p, us)) (sign_self x) ∙ ap (λ (v : Bool). signed_by x v p us) e

pub sign_at_self : (x : Sign) (p : Place) (us : List Lexed) → sign_at (sign_rank x) (mark p (sign_symbol x) ∷ us) ≡ Some (x, p, us)
sign_at_self x p us = sign_at_picked x (sign_rank x) true p us (eq-eqb (sign_rank x) (sign_rank x) refl)

pub sign_at_other : (x : Sign) (r : ℕ) (p : Place) (us : List Lexed) → (sign_rank x ≡ r → ⊥) → sign_at r (mark p (sign_symbol x) ∷ us) ≡ None
sign_at_other x r p us ne = sign_at_picked x r false p us (ne_eqb (sign_rank x) r ne)

-- no operator opens a parenthesis
pub operator_opens_none : (x : BinOp) (p : Place) (us : List Lexed) → after q.LeftParen (mark p (symbol x) ∷ us) ≡ None
unfolding same
operator_opens_none b.Add p us = refl
operator_opens_none b.Sub p us = refl
operator_opens_none b.Mul p us = refl
operator_opens_none b.Div p us = refl
operator_opens_none b.Eq p us = refl
operator_opens_none b.Ne p us = refl
operator_opens_none b.Lt p us = refl
operator_opens_none b.Le p us = refl
operator_opens_none b.Gt p us = refl
operator_opens_none b.Ge p us = refl
operator_opens_none b.And p us = refl
operator_opens_none b.Or p us = refl
operator_opens_none b.Mod p us = refl
operator_opens_none b.Min p us = refl
operator_opens_none b.Max p us = refl
