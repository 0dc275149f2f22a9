-- A tree that is read is written so, and fits.
use Rattle.std.proofs.Common.{◌≡◌, ℕ, zero, suc, ◌≤◌, List, [], ◌∷◌, ◌++◌, length, Option, Some, None, refl, sym, ap, subst, ◌∙◌, append_assoc, arith, inl, inr}
use Rattle.cdc_base.specs.declared.place.Place.{Place}
use Rattle.cdc_token.specs.declared.token.Lexed.{Lexed}
use Rattle.cdc_token.specs.declared.token.Token.{Token}
use Rattle.cdc_token.specs.declared.token.Token.TheVariants.{Name, Number, Text, Symbol}
use Rattle.cdc_token.specs.declared.token.Symbol.TheVariants as q
use Rattle.cdc_tree.specs.declared.tree.Named.{Named}
use Rattle.cdc_parse.specs.declared.word.Word.{Word}
use Rattle.cdc_parse.specs.Words.{word_named}
use Rattle.cdc_tree.specs.Options.{◌>>=◌}
use Rattle.cdc_parse.specs.Tokens.{at, mark, word, name, IsName, after}
use Rattle.cdc_parse.specs.Operators.{sign_symbol, sign_rank, symbol, rank, sign_at, operator_at}
use Rattle.cdc_tree.specs.Plain.{Plain, PNumber, PName, PApply, PParen, PBin, PKnown, PMore, plains}
use Rattle.cdc_parse.specs.Reading.{Gets, separated, closed, signed, chain, first, tier, tiers, intrinsic_of, reference, known, named, paren, factor_of, factor_in, inside, read}
use Rattle.cdc_parse.specs.Forms.{place_at}
use Rattle.cdc_parse.specs.Written.{Written, WNumber, WName, WApply, WKnown, WParen, WUnary, WBinary, Rest, REnd, RMore, text, texts, meant, meants, Fits, FitsAll, intrinsic_word}
use Rattle.cdc_parse.specs.Stands.{Commas, Separated}
use Rattle.cdc_tree.proofs.Options.{some, some_is, bind_some, maybe_is}
use Rattle.cdc_parse.proofs.Begins.{after_is, sign_at_is, operator_at_is, intrinsic_is, word_named_is}
use Rattle.cdc_parse.proofs.Lists.{IsSound, closed_sound, separated_sound}

-- the tokens are a tree of this height
pub record IsTree (h : ℕ) (t : Plain) (ts : List Lexed) : Type 0 where
  pub as_written : Written
  pub meant_is : meant as_written ≡ t
  pub parts : ts ≡ text as_written
  pub fits : Fits h as_written

-- what a reader takes from the front of the tokens
pub record Takes (h : ℕ) (ts : List Lexed) (x : Plain × List Lexed) : Type 0 where
  pub as_written : Written
  pub meant_is : meant as_written ≡ x.0
  pub parts : ts ≡ text as_written ++ x.1
  pub fits : Fits h as_written

abbrev pub TakesAll : ℕ → Gets Plain → Type 0
TakesAll h get = (ts : List Lexed) (x : Plain × List Lexed) → get ts ≡ Some x → Takes h ts x

pub tree_sound : (h : ℕ) (get : Gets Plain) → TakesAll h get → IsSound (IsTree h) get
tree_sound h get sound ts x e =
    let t = sound ts x e in
    record { tokens = text t.as_written; wrote = record { as_written = t.as_written; meant_is = t.meant_is; parts = refl; fits = t.fits }; parts = t.parts }

-- a tree that fits fits a greater height
pub Fits-more : (h k : ℕ) (t : Written) → h ≤ k → Fits h t → Fits k t
Fits-more h k (WNumber p z) le f = tt
Fits-more h k (WName n) le f = f
Fits-more h k (WApply n p a m r) le f = f
Fits-more h k (WKnown s i p a m r) le f = f
Fits-more h k (WParen p a r) le f = f
Fits-more h k (WUnary g p a) le f = (omega (arith, f.0), f.1)
Fits-more h k (WBinary op a p b) le f = (omega (arith, f.0), f.1, f.2)

-- ---- chains

pub record Runs (r : ℕ) (before : Written) (ts : List Lexed) (x : Plain × List Lexed) : Type 0 where
  pub as_written : Written
  pub meant_is : meant as_written ≡ x.0
  pub parts : text before ++ ts ≡ text as_written ++ x.1
  pub fits : Fits (suc r) as_written

runs_none : (r : ℕ) (before : Written) (ts : List Lexed) (x : Plain × List Lexed) → Fits (suc r) before → some (meant before, ts) ≡ Some x → Runs r before ts x
runs_none r before ts x f e = subst (λ (y : Plain × List Lexed). Runs r before ts y) (some_is (meant before, ts) x e) (record { as_written = before; meant_is = refl; parts = refl; fits = f })

chain_sound : (operand : Gets Plain) (r : ℕ) → TakesAll r operand → (n : ℕ) (before : Written) (ts : List Lexed) (x : Plain × List Lexed) → Fits (suc r) before → chain operand r n (meant before) ts ≡ Some x → Runs r before ts x
chain_sound operand r sound zero before ts x f e = runs_none r before ts x f e
chain_sound operand r sound (suc n) before ts x f e =
    elim (maybe_is (operator_at r ts) (λ o. operand o.1 >>= λ y. chain operand r n (PBin o.0 (meant before) y.0) y.1) (some (meant before, ts)) (Some x) e) [
      | inl over ↦ runs_none r before ts x f over.1
      | inr hit ↦
          let o = hit.0 in
          let a = operator_at_is r ts o hit.1 in
          let b = bind_some (operand o.1) (λ y. chain operand r n (PBin o.0 (meant before) y.0) y.1) x hit.2 in
          let got = sound o.1 b.0 b.1 in
          let both : Written = WBinary o.0 before a.place got.as_written in
          let fa : Fits (suc (rank o.0)) before = subst (λ (k : ℕ). Fits (suc k) before) (sym a.rank_is) f in
          let fb : Fits (rank o.0) got.as_written = subst (λ (k : ℕ). Fits k got.as_written) (sym a.rank_is) got.fits in
          let e2 : chain operand r n (meant both) b.0.1 ≡ Some x = ap (λ (t : Plain). chain operand r n (PBin o.0 (meant before) t) b.0.1) got.meant_is ∙ b.2 in
          let next = chain_sound operand r sound n both b.0.1 x (omega (arith, a.rank_is), fa, fb) e2 in
          let here : text before ++ ts ≡ text both ++ b.0.1 =
          ap (λ (z : List Lexed). text before ++ z) (a.parts ∙ ap (λ (z : List Lexed). mark a.place (symbol o.0) ∷ z) got.parts)
          ∙ sym (append_assoc (text before) (mark a.place (symbol o.0) ∷ text got.as_written) b.0.1) in
          record { as_written = next.as_written; meant_is = next.meant_is; parts = here ∙ next.parts; fits = next.fits }
    ]

first_sound : (operand : Gets Plain) (r : ℕ) → TakesAll r operand → TakesAll (suc r) (first operand r)
first_sound operand r sound ts x e =
    elim (maybe_is (sign_at r ts) (λ s. operand s.2 >>= λ y. Some (signed s.0 s.1 y.0, y.1)) (operand ts) (Some x) e) [
      | inl over ↦
          let got = sound ts x over.1 in
          record { as_written = got.as_written; meant_is = got.meant_is; parts = got.parts; fits = Fits-more r (suc r) got.as_written (omega arith) got.fits }
      | inr hit ↦
          let s = hit.0 in
          let a = sign_at_is r ts s hit.1 in
          let b = bind_some (operand s.2) (λ y. Some (signed s.0 s.1 y.0, y.1)) x hit.2 in
          let got = sound s.2 b.0 b.1 in
          let fb : Fits (sign_rank s.0) got.as_written = subst (λ (k : ℕ). Fits k got.as_written) (sym a.rank_is) got.fits in
          let made : Takes (suc r) ts (signed s.0 s.1 b.0.0, b.0.1) = record {
            as_written = WUnary s.0 s.1 got.as_written;
            meant_is = ap (λ (t : Plain). signed s.0 s.1 t) got.meant_is;
            parts = a.parts ∙ ap (λ (z : List Lexed). mark s.1 (sign_symbol s.0) ∷ z) got.parts;
            fits = (omega (arith, a.rank_is), fb);
          } in
          subst (λ (y : Plain × List Lexed). Takes (suc r) ts y) (some_is (signed s.0 s.1 b.0.0, b.0.1) x b.2) made
    ]

tier_sound : (operand : Gets Plain) (r : ℕ) → TakesAll r operand → TakesAll (suc r) (tier operand r)
tier_sound operand r sound ts x e =
    let b = bind_some (first operand r ts) (λ y. chain operand r (length y.1) y.0 y.1) x e in
    let f = first_sound operand r sound ts b.0 b.1 in
    let e2 : chain operand r (length b.0.1) (meant f.as_written) b.0.1 ≡ Some x = ap (λ (t : Plain). chain operand r (length b.0.1) t b.0.1) f.meant_is ∙ b.2 in
    let g = chain_sound operand r sound (length b.0.1) f.as_written b.0.1 x f.fits e2 in
    record { as_written = g.as_written; meant_is = g.meant_is; parts = f.parts ∙ g.parts; fits = g.fits }

tiers_sound : (f : Gets Plain) → TakesAll 0 f → (h : ℕ) → TakesAll h (tiers f h)
tiers_sound f sound zero = sound
tiers_sound f sound (suc r) = tier_sound (tiers f r) r (tiers_sound f sound r)

-- ---- arguments

pub record AreRest (all : List Plain) (ts : List Lexed) : Type 0 where
  pub as_written : Rest
  pub fits : FitsAll as_written
  pub parts : ts ≡ texts as_written
  pub meant_is : meants as_written ≡ plains all

rest_of : (all : List Plain) (ts : List Lexed) → Commas (IsTree 6) all ts → AreRest all ts
rest_of [] ts w = record { as_written = REnd; fits = tt; parts = w; meant_is = refl }
rest_of (a ∷ all) ts w =
    let one = w.3 in
    let m = rest_of all w.2 w.4 in
    record {
      as_written = RMore w.0 one.as_written m.as_written;
      fits = (one.fits, m.fits);
      parts = w.5 ∙ ap (λ (z : List Lexed). mark w.0 q.Comma ∷ (z ++ w.2)) one.parts ∙ ap (λ (z : List Lexed). mark w.0 q.Comma ∷ (text one.as_written ++ z)) m.parts;
      meant_is = ap (λ (t : Plain). PMore t (meants m.as_written)) one.meant_is ∙ ap (PMore a) m.meant_is;
    }

pub record AreArguments (all : List Plain) (ts : List Lexed) : Type 0 where
  pub head : Written
  pub rest : Rest
  pub fits : Fits 6 head
  pub fits_all : FitsAll rest
  pub parts : ts ≡ text head ++ texts rest
  pub meant_is : PMore (meant head) (meants rest) ≡ plains all

arguments_of : (all : List Plain) (ts : List Lexed) → Separated (IsTree 6) all ts → AreArguments all ts
arguments_of [] ts w = absurd w
arguments_of (a ∷ all) ts w =
    let one = w.2 in
    let m = rest_of all w.1 w.3 in
    record {
      head = one.as_written;
      rest = m.as_written;
      fits = one.fits;
      fits_all = m.fits;
      parts = w.4 ∙ ap (λ (z : List Lexed). z ++ w.1) one.parts ∙ ap (λ (z : List Lexed). text one.as_written ++ z) m.parts;
      meant_is = ap (λ (t : Plain). PMore t (meants m.as_written)) one.meant_is ∙ ap (PMore a) m.meant_is;
    }

-- arguments up to the parenthesis that closes them
pub record Called (all : List Plain) (ts rest : List Lexed) : Type 0 where
  pub head : Written
  pub more_of : Rest
  pub close : Place
  pub fits : Fits 6 head
  pub fits_all : FitsAll more_of
  pub parts : ts ≡ (text head ++ (texts more_of ++ (mark close q.RightParen ∷ []))) ++ rest
  pub meant_is : PMore (meant head) (meants more_of) ≡ plains all

called_sound : (inner : Gets Plain) → TakesAll 6 inner → (ts : List Lexed) (x : List Plain × List Lexed) → closed (separated inner) ts ≡ Some x → Called x.0 ts x.1
called_sound inner sound ts x e =
    let c = closed_sound (Separated (IsTree 6)) (separated inner) (separated_sound (IsTree 6) inner (tree_sound 6 inner sound)) ts x e in
    let w = c.wrote in
    let a = arguments_of x.0 w.1 w.2 in
    record {
      head = a.head;
      more_of = a.rest;
      close = w.0;
      fits = a.fits;
      fits_all = a.fits_all;
      parts = c.parts ∙ ap (λ (z : List Lexed). z ++ x.1) (w.3 ∙ ap (λ (z : List Lexed). z ++ (mark w.0 q.RightParen ∷ [])) a.parts ∙ append_assoc (text a.head) (texts a.rest) (mark w.0 q.RightParen ∷ []));
      meant_is = a.meant_is;
    }

-- ---- factors

takes_now : (h : ℕ) (t : Plain) (us ts : List Lexed) (x : Plain × List Lexed) → Takes h ts (t, us) → some (t, us) ≡ Some x → Takes h ts x
takes_now h t us ts x made e = subst (λ (y : Plain × List Lexed). Takes h ts y) (some_is (t, us) x e) made

reference_sound : (inner : Gets Plain) → TakesAll 6 inner → (n : Named) (ts : List Lexed) (x : Plain × List Lexed) → IsName n → reference inner n ts ≡ Some x → Takes 0 (name n ∷ ts) x
reference_sound inner sound n ts x named_so e =
    elim (maybe_is (after q.LeftParen ts) (λ us. closed (separated inner) us >>= λ y. Some (PApply n (plains y.0), y.1)) (some (PName n, ts)) (Some x) e) [
      | inl over ↦ takes_now 0 (PName n) ts (name n ∷ ts) x (record { as_written = WName n; meant_is = refl; parts = refl; fits = named_so }) over.1
      | inr hit ↦
          let p = after_is q.LeftParen ts hit.0 hit.1 in
          let b = bind_some (closed (separated inner) hit.0) (λ y. Some (PApply n (plains y.0), y.1)) x hit.2 in
          let c = called_sound inner sound hit.0 b.0 b.1 in
          takes_now 0 (PApply n (plains b.0.0)) b.0.1 (name n ∷ ts) x (record {
            as_written = WApply n p.0 c.head c.more_of c.close;
            meant_is = ap (PApply n) c.meant_is;
            parts = ap (λ (z : List Lexed). name n ∷ z) (p.1 ∙ ap (λ (z : List Lexed). mark p.0 q.LeftParen ∷ z) c.parts);
            fits = (named_so, c.fits, c.fits_all);
          }) b.2
    ]

known_sound : (inner : Gets Plain) → TakesAll 6 inner → (s : Place) (w : Word) (ts : List Lexed) (x : Plain × List Lexed) → known inner s w ts ≡ Some x → Takes 0 (word s w ∷ ts) x
known_sound inner sound s w ts x e =
    let f = bind_some (intrinsic_of w) (λ f. after q.LeftParen ts >>= λ us. closed (separated inner) us >>= λ y. Some (PKnown s f (plains y.0), y.1)) x e in
    let u = bind_some (after q.LeftParen ts) (λ us. closed (separated inner) us >>= λ y. Some (PKnown s f.0 (plains y.0), y.1)) x f.2 in
    let p = after_is q.LeftParen ts u.0 u.1 in
    let b = bind_some (closed (separated inner) u.0) (λ y. Some (PKnown s f.0 (plains y.0), y.1)) x u.2 in
    let c = called_sound inner sound u.0 b.0 b.1 in
    takes_now 0 (PKnown s f.0 (plains b.0.0)) b.0.1 (word s w ∷ ts) x (record {
      as_written = WKnown s f.0 p.0 c.head c.more_of c.close;
      meant_is = ap (PKnown s f.0) c.meant_is;
      parts = ap (λ (v : Word). word s v ∷ ts) (intrinsic_is w f.0 f.1) ∙ ap (λ (z : List Lexed). word s (intrinsic_word f.0) ∷ z) (p.1 ∙ ap (λ (z : List Lexed). mark p.0 q.LeftParen ∷ z) c.parts);
      fits = (c.fits, c.fits_all);
    }) b.2

named_sound : (inner : Gets Plain) → TakesAll 6 inner → (n : List ℕ) (p : Place) (o : Option Word) (ts : List Lexed) (x : Plain × List Lexed) → word_named n ≡ o → named inner n p o ts ≡ Some x → Takes 0 (at p (Name n) ∷ ts) x
named_sound inner sound n p (Some w) ts x h e = subst (λ (z : List ℕ). Takes 0 (at p (Name z) ∷ ts) x) (sym (word_named_is n w h)) (known_sound inner sound p w ts x e)
named_sound inner sound n p None ts x h e = reference_sound inner sound (record { name = n; place = p }) ts x h e

paren_sound : (inner : Gets Plain) → TakesAll 6 inner → (k : Token) (p : Place) (ts : List Lexed) (x : Plain × List Lexed) → paren inner p (at p k ∷ ts) ≡ Some x → Takes 0 (at p k ∷ ts) x
paren_sound inner sound k p ts x e =
    let u = bind_some (after q.LeftParen (at p k ∷ ts)) (λ us. closed inner us >>= λ y. Some (PParen p y.0, y.1)) x e in
    let o = after_is q.LeftParen (at p k ∷ ts) u.0 u.1 in
    let b = bind_some (closed inner u.0) (λ y. Some (PParen p y.0, y.1)) x u.2 in
    let c = closed_sound (IsTree 6) inner (tree_sound 6 inner sound) u.0 b.0 b.1 in
    let w = c.wrote in
    let t = w.2 in
    let here : p ≡ o.0 = some_is p o.0 (ap place_at o.1) in
    takes_now 0 (PParen p b.0.0) b.0.1 (at p k ∷ ts) x (record {
      as_written = WParen p t.as_written w.0;
      meant_is = ap (PParen p) t.meant_is;
      parts = o.1 ∙ ap (λ (r : Place). mark r q.LeftParen ∷ u.0) (sym here) ∙ ap (λ (z : List Lexed). mark p q.LeftParen ∷ z) (c.parts ∙ ap (λ (z : List Lexed). z ++ b.0.1) (w.3 ∙ ap (λ (z : List Lexed). z ++ (mark w.0 q.RightParen ∷ [])) t.parts));
      fits = t.fits;
    }) b.2

factor_sound : (inner : Gets Plain) → TakesAll 6 inner → TakesAll 0 (factor_in inner)
factor_sound inner sound [] x e = absurd cc
factor_sound inner sound (t ∷ ts) x e = by_token t.token t.place ts x e
  where
    by_token : (k : Token) (p : Place) (ts : List Lexed) (x : Plain × List Lexed) → factor_of inner p k ts ≡ Some x → Takes 0 (at p k ∷ ts) x
    by_token (Number z) p ts x e = takes_now 0 (PNumber p z) ts (at p (Number z) ∷ ts) x (record { as_written = WNumber p z; meant_is = refl; parts = refl; fits = tt }) e
    by_token (Name n) p ts x e = named_sound inner sound n p (word_named n) ts x refl e
    by_token (Text b) p ts x e = absurd cc
    by_token (Symbol s) p ts x e = paren_sound inner sound (Symbol s) p ts x e

pub inside_sound : (d : ℕ) → TakesAll 6 (inside d)
inside_sound zero ts x e = absurd cc
inside_sound (suc d) ts x e = tiers_sound (factor_in (inside d)) (factor_sound (inside d) (inside_sound d)) 6 ts x e

pub read_sound : (d h : ℕ) → TakesAll h (read d h)
read_sound d h = tiers_sound (factor_in (inside d)) (factor_sound (inside d) (inside_sound d)) h
