-- Where no more than so many parentheses are open in a text, no more are open in its trees.
use Rattle.std.proofs.Common.{◌≡◌, ℕ, zero, suc, ◌+◌, ◌-◌, ◌≤◌, List, [], ◌∷◌, ◌++◌, refl, sym, ap, subst, ◌∙◌, append_assoc, arith}
use Rattle.cdc_base.specs.declared.place.Place.{Place}
use Rattle.cdc_prog.specs.declared.expr.BinOp.{BinOp}
use Rattle.cdc_prog.specs.declared.expr.BinOp.TheVariants as b
use Rattle.cdc_token.specs.declared.token.Lexed.{Lexed}
use Rattle.cdc_token.specs.declared.token.Token.{Token}
use Rattle.cdc_token.specs.declared.token.Token.TheVariants.{Name, Number, Text, Symbol}
use Rattle.cdc_token.specs.declared.token.Symbol.{Symbol as Mark}
use Rattle.cdc_token.specs.declared.token.Symbol.TheVariants as q
use Rattle.cdc_parse.specs.declared.operator.Sign.{Sign}
use Rattle.cdc_parse.specs.declared.operator.Sign.TheVariants as g
use Rattle.cdc_parse.specs.Tokens.{mark, word, name}
use Rattle.cdc_parse.specs.Operators.{sign_symbol, symbol}
use Rattle.cdc_parse.specs.Depth.{opened_by, opened, deepest}
use Rattle.cdc_parse.specs.Written.{Written, WNumber, WName, WApply, WKnown, WParen, WUnary, WBinary, Rest, REnd, RMore, text, texts, intrinsic_word}

-- no more than depth parentheses are open at once in a tree
abbrev mutual
  pub Shallow : ℕ → Written → Type 0
  Shallow depth (WNumber p z) = Unit {0}
  Shallow depth (WName n) = Unit {0}
  Shallow depth (WApply n p a more r) = (d : ℕ) × (depth ≡ suc d) × Shallow d a × ShallowAll d more
  Shallow depth (WKnown s f p a more r) = (d : ℕ) × (depth ≡ suc d) × Shallow d a × ShallowAll d more
  Shallow depth (WParen p a r) = (d : ℕ) × (depth ≡ suc d) × Shallow d a
  Shallow depth (WUnary g p a) = Shallow depth a
  Shallow depth (WBinary op a p c) = Shallow depth a × Shallow depth c

  pub ShallowAll : ℕ → Rest → Type 0
  ShallowAll depth REnd = Unit {0}
  ShallowAll depth (RMore p a more) = Shallow depth a × ShallowAll depth more

pub deepest-least : (n : ℕ) (ts : List Lexed) → n ≤ deepest n ts
deepest-least n [] = omega arith
deepest-least n (t ∷ ts) = omega arith

opened_by-le : (s : Mark) (m n : ℕ) → m ≤ n → opened_by s m ≤ opened_by s n
opened_by-le q.LeftParen m n le = omega arith
opened_by-le q.RightParen m n le = omega arith
opened_by-le q.Comma m n le = omega arith
opened_by-le q.Colon m n le = omega arith
opened_by-le q.DoubleColon m n le = omega arith
opened_by-le q.Assign m n le = omega arith
opened_by-le q.Plus m n le = omega arith
opened_by-le q.Minus m n le = omega arith
opened_by-le q.Star m n le = omega arith
opened_by-le q.Slash m n le = omega arith
opened_by-le q.Eq m n le = omega arith
opened_by-le q.Ne m n le = omega arith
opened_by-le q.Lt m n le = omega arith
opened_by-le q.Le m n le = omega arith
opened_by-le q.Gt m n le = omega arith
opened_by-le q.Ge m n le = omega arith
opened_by-le q.Not m n le = omega arith
opened_by-le q.And m n le = omega arith
opened_by-le q.Or m n le = omega arith

opened-le : (k : Token) (m n : ℕ) → m ≤ n → opened k m ≤ opened k n
opened-le (Symbol s) m n le = opened_by-le s m n le
opened-le (Name x) m n le = le
opened-le (Number x) m n le = le
opened-le (Text x) m n le = le

deepest-le : (ts : List Lexed) (m n : ℕ) → m ≤ n → deepest m ts ≤ deepest n ts
deepest-le [] m n le = le
deepest-le (t ∷ ts) m n le = omega (arith, deepest-le ts (opened t.token m) (opened t.token n) (opened-le t.token m n le))

-- what is left of a text is no deeper than the whole
pub deepest_later : (us vs : List Lexed) (n : ℕ) → deepest 0 vs ≤ deepest n (us ++ vs)
deepest_later [] vs n = deepest-le vs 0 n (omega arith)
deepest_later (t ∷ us) vs n = omega (arith, deepest_later us vs (opened t.token n))

sign_opens_none : (x : Sign) (n : ℕ) → opened_by (sign_symbol x) n ≡ n
sign_opens_none g.Plus n = refl
sign_opens_none g.Minus n = refl
sign_opens_none g.Not n = refl

operator_opens_none : (x : BinOp) (n : ℕ) → opened_by (symbol x) n ≡ n
operator_opens_none b.Add n = refl
operator_opens_none b.Sub n = refl
operator_opens_none b.Mul n = refl
operator_opens_none b.Div n = refl
operator_opens_none b.Eq n = refl
operator_opens_none b.Ne n = refl
operator_opens_none b.Lt n = refl
operator_opens_none b.Le n = refl
operator_opens_none b.Gt n = refl
operator_opens_none b.Ge n = refl
operator_opens_none b.And n = refl
operator_opens_none b.Or n = refl
operator_opens_none b.Mod n = refl
operator_opens_none b.Min n = refl
operator_opens_none b.Max n = refl

-- a symbol after which m parentheses are open
past : (s : Mark) (p : Place) (n m : ℕ) (ts : List Lexed) → opened_by s n ≡ m → deepest m ts ≤ deepest n (mark p s ∷ ts)
past s p n m ts e = omega (arith, ap (λ (k : ℕ). deepest k ts) e)

closes : (n : ℕ) → suc n - 1 ≡ n
closes n = omega arith

-- a tree at the front of a text: it is shallow, and what follows is no deeper than the whole
pub record Level (n d : ℕ) (w : Written) (rest whole : List Lexed) : Type 0 where
  pub shallow : Shallow d w
  pub later : deepest n rest ≤ deepest n whole

pub record Levels (n d : ℕ) (m : Rest) (rest whole : List Lexed) : Type 0 where
  pub shallow : ShallowAll d m
  pub later : deepest n rest ≤ deepest n whole

-- one level down, where another parenthesis may be opened
below : (n d : ℕ) (ts : List Lexed) (top : ℕ) → deepest (suc n) ts ≤ top → top ≤ n + d → (k : ℕ) × (d ≡ suc k) × (top ≤ suc n + k)
below n zero ts top le low = absurd (omega (arith, deepest-least (suc n) ts))
below n (suc k) ts top le low = (k, refl, omega arith)

regroup : (us vs : List Lexed) (r : Place) (rest : List Lexed) → (us ++ (vs ++ (mark r q.RightParen ∷ []))) ++ rest ≡ us ++ (vs ++ (mark r q.RightParen ∷ rest))
regroup us vs r rest = append_assoc us (vs ++ (mark r q.RightParen ∷ [])) rest ∙ ap (λ (z : List Lexed). us ++ z) (append_assoc vs (mark r q.RightParen ∷ []) rest)

mutual
  pub level : (w : Written) (n d : ℕ) (rest whole : List Lexed) → whole ≡ text w ++ rest → deepest n whole ≤ n + d → Level n d w rest whole
  level (WNumber p z) n d rest whole e low = record { shallow = tt; later = omega (arith, ap (deepest n) e) }
  level (WName x) n d rest whole e low = record { shallow = tt; later = omega (arith, ap (deepest n) e) }
  level (WParen p a r) n d rest whole e low =
      let inner : List Lexed = text a ++ (mark r q.RightParen ∷ rest) in
      let e2 : whole ≡ mark p q.LeftParen ∷ inner = e ∙ ap (λ (z : List Lexed). mark p q.LeftParen ∷ z) (append_assoc (text a) (mark r q.RightParen ∷ []) rest) in
      let up : deepest (suc n) inner ≤ deepest n whole = omega (arith, ap (deepest n) e2) in
      let k = below n d inner (deepest n whole) up low in
      let in_a = level a (suc n) k.0 (mark r q.RightParen ∷ rest) inner refl (omega (arith, k.2, up)) in
      let after_close : deepest n rest ≤ deepest (suc n) (mark r q.RightParen ∷ rest) = past q.RightParen r (suc n) n rest (closes n) in
      record { shallow = (k.0, k.1, in_a.shallow); later = omega (arith, in_a.later, after_close, up) }
  level (WApply x p a more r) n d rest whole e low =
      let tail : List Lexed = texts more ++ (mark r q.RightParen ∷ rest) in
      let inner : List Lexed = text a ++ tail in
      let e2 : whole ≡ name x ∷ (mark p q.LeftParen ∷ inner) = e ∙ ap (λ (z : List Lexed). name x ∷ (mark p q.LeftParen ∷ z)) (regroup (text a) (texts more) r rest) in
      let up : deepest (suc n) inner ≤ deepest n whole = omega (arith, ap (deepest n) e2) in
      let k = below n d inner (deepest n whole) up low in
      let in_a = level a (suc n) k.0 tail inner refl (omega (arith, k.2, up)) in
      let in_more = levels more (suc n) k.0 (mark r q.RightParen ∷ rest) tail refl (omega (arith, k.2, up, in_a.later)) in
      let after_close : deepest n rest ≤ deepest (suc n) (mark r q.RightParen ∷ rest) = past q.RightParen r (suc n) n rest (closes n) in
      record { shallow = (k.0, k.1, in_a.shallow, in_more.shallow); later = omega (arith, in_a.later, in_more.later, after_close, up) }
  level (WKnown s f p a more r) n d rest whole e low =
      let tail : List Lexed = texts more ++ (mark r q.RightParen ∷ rest) in
      let inner : List Lexed = text a ++ tail in
      let e2 : whole ≡ word s (intrinsic_word f) ∷ (mark p q.LeftParen ∷ inner) = e ∙ ap (λ (z : List Lexed). word s (intrinsic_word f) ∷ (mark p q.LeftParen ∷ z)) (regroup (text a) (texts more) r rest) in
      let up : deepest (suc n) inner ≤ deepest n whole = omega (arith, ap (deepest n) e2) in
      let k = below n d inner (deepest n whole) up low in
      let in_a = level a (suc n) k.0 tail inner refl (omega (arith, k.2, up)) in
      let in_more = levels more (suc n) k.0 (mark r q.RightParen ∷ rest) tail refl (omega (arith, k.2, up, in_a.later)) in
      let after_close : deepest n rest ≤ deepest (suc n) (mark r q.RightParen ∷ rest) = past q.RightParen r (suc n) n rest (closes n) in
      record { shallow = (k.0, k.1, in_a.shallow, in_more.shallow); later = omega (arith, in_a.later, in_more.later, after_close, up) }
  level (WUnary x p a) n d rest whole e low =
      let up : deepest n (text a ++ rest) ≤ deepest n whole = subst (λ (z : List Lexed). deepest n (text a ++ rest) ≤ deepest n z) (sym e) (past (sign_symbol x) p n n (text a ++ rest) (sign_opens_none x n)) in
      let in_a = level a n d rest (text a ++ rest) refl (omega (arith, up)) in
      record { shallow = in_a.shallow; later = omega (arith, in_a.later, up) }
  level (WBinary op a p c) n d rest whole e low =
      let tail : List Lexed = mark p (symbol op) ∷ (text c ++ rest) in
      let in_a = level a n d tail whole (e ∙ append_assoc (text a) (mark p (symbol op) ∷ text c) rest) low in
      let up : deepest n (text c ++ rest) ≤ deepest n tail = past (symbol op) p n n (text c ++ rest) (operator_opens_none op n) in
      let in_c = level c n d rest (text c ++ rest) refl (omega (arith, up, in_a.later)) in
      record { shallow = (in_a.shallow, in_c.shallow); later = omega (arith, in_a.later, in_c.later, up) }

  pub levels : (m : Rest) (n d : ℕ) (rest whole : List Lexed) → whole ≡ texts m ++ rest → deepest n whole ≤ n + d → Levels n d m rest whole
  levels REnd n d rest whole e low = record { shallow = tt; later = omega (arith, ap (deepest n) e) }
  levels (RMore p a more) n d rest whole e low =
      let tail : List Lexed = texts more ++ rest in
      let e2 : whole ≡ mark p q.Comma ∷ (text a ++ tail) = e ∙ ap (λ (z : List Lexed). mark p q.Comma ∷ z) (append_assoc (text a) (texts more) rest) in
      let up : deepest n (text a ++ tail) ≤ deepest n whole = omega (arith, ap (deepest n) e2) in
      let in_a = level a n d tail (text a ++ tail) refl (omega (arith, up)) in
      let in_more = levels more n d rest tail refl (omega (arith, up, in_a.later)) in
      record { shallow = (in_a.shallow, in_more.shallow); later = omega (arith, in_a.later, in_more.later, up) }

-- the line is not over its limit of depth
abbrev pub Low : List Lexed → Type 0
Low ts = deepest 0 ts ≤ 64

pub low_later : (us vs : List Lexed) → Low (us ++ vs) → Low vs
low_later us vs low = omega (arith, deepest_later us vs 0)

pub low_shallow : (w : Written) (rest : List Lexed) → Low (text w ++ rest) → Shallow 64 w
low_shallow w rest low = (level w 0 64 rest (text w ++ rest) refl (omega arith)).shallow
