-- Lists with commas, both ways.
use Rattle.std.proofs.Common.{◌≡◌, ℕ, zero, suc, ◌≤◌, List, [], ◌∷◌, ◌++◌, length, Option, Some, None, refl, sym, ap, subst, ◌∙◌, append_assoc, arith, inl, inr, length-append}
use Rattle.std.proofs.lemmas.List.{append-nil}
use Rattle.cdc_base.specs.declared.place.Place.{Place}
use Rattle.cdc_token.specs.declared.token.Lexed.{Lexed}
use Rattle.cdc_token.specs.declared.token.Symbol.TheVariants as q
use Rattle.cdc_tree.specs.Options.{◌>>=◌, maybe}
use Rattle.cdc_parse.specs.Tokens.{mark, after}
use Rattle.cdc_parse.specs.Reading.{Gets, more, separated, closed}
use Rattle.cdc_parse.specs.Stands.{Writes, Commas, Separated}
use Rattle.cdc_tree.proofs.Options.{some, some_is, bind_some, maybe_is}
use Rattle.cdc_parse.proofs.Begins.{after_is, after_mark}

-- what is got from the front of the tokens is written so
pub record Front {A : Type 0} (item : Writes A) (ts : List Lexed) (x : A × List Lexed) : Type 0 where
  pub tokens : List Lexed
  pub wrote : item x.0 tokens
  pub parts : ts ≡ tokens ++ x.1

abbrev pub IsSound : {A : Type 0} → Writes A → Gets A → Type 0
IsSound {A} item get = (ts : List Lexed) (x : A × List Lexed) → get ts ≡ Some x → Front item ts x

pub record FrontMore {A : Type 0} (item : Writes A) (before : List A) (ts : List Lexed) (x : List A × List Lexed) : Type 0 where
  pub items : List A
  pub tokens : List Lexed
  pub wrote : Commas item items tokens
  pub items_are : before ++ items ≡ x.0
  pub parts : ts ≡ tokens ++ x.1

pub more_sound : {A : Type 0} (item : Writes A) (get : Gets A) → IsSound item get → (n : ℕ) (before : List A) (ts : List Lexed) (x : List A × List Lexed) → more get n before ts ≡ Some x → FrontMore item before ts x
more_sound item get sound zero before ts x e =
    let same : (before, ts) ≡ x = some_is (before, ts) x e in
    subst (λ (y : List _ × List Lexed). FrontMore item before ts y) same (record { items = []; tokens = []; wrote = refl; items_are = append-nil before; parts = refl })
more_sound item get sound (suc n) before ts x e =
    elim (maybe_is (after q.Comma ts) (λ us. get us >>= λ y. more get n (before ++ (y.0 ∷ [])) y.1) (Some (before, ts)) (Some x) e) [
      | inl over ↦
          let same : (before, ts) ≡ x = some_is (before, ts) x over.1 in
          subst (λ (y : List _ × List Lexed). FrontMore item before ts y) same (record { items = []; tokens = []; wrote = refl; items_are = append-nil before; parts = refl })
      | inr hit ↦
          let c = after_is q.Comma ts hit.0 hit.1 in
          let b = bind_some (get hit.0) (λ y. more get n (before ++ (y.0 ∷ [])) y.1) x hit.2 in
          let one = sound hit.0 b.0 b.1 in
          let rest = more_sound item get sound n (before ++ (b.0.0 ∷ [])) b.0.1 x b.2 in
          record {
            items = b.0.0 ∷ rest.items;
            tokens = mark c.0 q.Comma ∷ (one.tokens ++ rest.tokens);
            wrote = (c.0, one.tokens, rest.tokens, one.wrote, rest.wrote, refl);
            items_are = sym (append_assoc before (b.0.0 ∷ []) rest.items) ∙ rest.items_are;
            parts = c.1 ∙ ap (λ (z : List Lexed). mark c.0 q.Comma ∷ z) (one.parts ∙ ap (λ (z : List Lexed). one.tokens ++ z) rest.parts ∙ sym (append_assoc one.tokens rest.tokens x.1));
          }
    ]

-- the first of a list, before those that follow
put_first : {A : Type 0} (item : Writes A) (a : A) (more all : List A) (us vs : List Lexed) → item a us → Commas item more vs → (a ∷ []) ++ more ≡ all → Separated item all (us ++ vs)
put_first item a more all us vs one rest e = subst (λ (z : List _). Separated item z (us ++ vs)) e (us, vs, one, rest, refl)

pub separated_sound : {A : Type 0} (item : Writes A) (get : Gets A) → IsSound item get → IsSound (Separated item) (separated get)
separated_sound item get sound ts x e =
    let b = bind_some (get ts) (λ y. more get (length y.1) (y.0 ∷ []) y.1) x e in
    let one = sound ts b.0 b.1 in
    let rest = more_sound item get sound (length b.0.1) (b.0.0 ∷ []) b.0.1 x b.2 in
    record {
      tokens = one.tokens ++ rest.tokens;
      wrote = put_first item b.0.0 rest.items x.0 one.tokens rest.tokens one.wrote rest.wrote rest.items_are;
      parts = one.parts ∙ ap (λ (z : List Lexed). one.tokens ++ z) rest.parts ∙ sym (append_assoc one.tokens rest.tokens x.1);
    }

-- up to a closing parenthesis
abbrev pub Closed : {A : Type 0} → Writes A → Writes A
Closed item a ts = (r : Place) × (us : List Lexed) × item a us × (ts ≡ us ++ (mark r q.RightParen ∷ []))

pub closed_sound : {A : Type 0} (item : Writes A) (get : Gets A) → IsSound item get → IsSound (Closed item) (closed get)
closed_sound item get sound ts x e =
    let b = bind_some (get ts) (λ y. after q.RightParen y.1 >>= λ us. Some (y.0, us)) x e in
    let c = bind_some (after q.RightParen b.0.1) (λ us. Some (b.0.0, us)) x b.2 in
    let p = after_is q.RightParen b.0.1 c.0 c.1 in
    let one = sound ts b.0 b.1 in
    let same : (b.0.0, c.0) ≡ x = some_is (b.0.0, c.0) x c.2 in
    let made : Front (Closed item) ts (b.0.0, c.0) = record {
      tokens = one.tokens ++ (mark p.0 q.RightParen ∷ []);
      wrote = (p.0, one.tokens, one.wrote, refl);
      parts = one.parts ∙ ap (λ (z : List Lexed). one.tokens ++ z) p.1 ∙ sym (append_assoc one.tokens (mark p.0 q.RightParen ∷ []) c.0);
    } in
    subst (λ (y : _ × List Lexed). Front (Closed item) ts y) same made

-- ---- what is written is got

-- what is written so is got, where Ok holds of the tokens and Ends of those that follow
abbrev pub IsAgain : {A : Type 0} → (List Lexed → Type 0) → (List Lexed → Type 0) → Writes A → Gets A → Type 0
IsAgain {A} Ok Ends item get = (a : A) (us rest : List Lexed) → item a us → Ok (us ++ rest) → Ends rest → get (us ++ rest) ≡ Some (a, rest)

abbrev pub IsLater : (List Lexed → Type 0) → Type 0
IsLater Ok = (us vs : List Lexed) → Ok (us ++ vs) → Ok vs

abbrev pub CommaEnds : (List Lexed → Type 0) → Type 0
CommaEnds Ends = (p : Place) (ts : List Lexed) → Ends (mark p q.Comma ∷ ts)

-- what follows the first of a list
pub commas_end : {A : Type 0} (Ends : List Lexed → Type 0) (item : Writes A) → CommaEnds Ends → (more_of : List A) (zs rest : List Lexed) → Commas item more_of zs → Ends rest → Ends (zs ++ rest)
commas_end Ends item comma [] zs rest w s = subst (λ (z : List Lexed). Ends (z ++ rest)) (sym w) s
commas_end Ends item comma (a ∷ more_of) zs rest w s = subst (λ (z : List Lexed). Ends (z ++ rest)) (sym w.5) (comma w.0 ((w.1 ++ w.2) ++ rest))

more_ends : {A : Type 0} (get : Gets A) (n : ℕ) (before : List A) (ts : List Lexed) → after q.Comma ts ≡ None → more get n before ts ≡ Some (before, ts)
more_ends get zero before ts h = refl
more_ends get (suc n) before ts h = rw h refl

pub more_again : {A : Type 0} (Ok Ends : List Lexed → Type 0) (item : Writes A) (get : Gets A) → IsLater Ok → CommaEnds Ends → IsAgain Ok Ends item get
    → (more_of : List A) (us rest : List Lexed) (before : List A) (n : ℕ) → Commas item more_of us → Ok (us ++ rest) → Ends rest → after q.Comma rest ≡ None → length (us ++ rest) ≤ n
    → more get n before (us ++ rest) ≡ Some (before ++ more_of, rest)
more_again Ok Ends item get later comma again [] us rest before n w ok s h le =
    ap (λ (z : List Lexed). more get n before (z ++ rest)) w ∙ more_ends get n before rest h ∙ ap (λ (z : List _). some (z, rest)) (sym (append-nil before))
more_again Ok Ends item get later comma again (a ∷ more_of) us rest before zero w ok s h le =
    let e : us ++ rest ≡ mark w.0 q.Comma ∷ ((w.1 ++ w.2) ++ rest) = ap (λ (z : List Lexed). z ++ rest) w.5 in
    absurd (omega (arith, ap length e))
more_again Ok Ends item get later comma again (a ∷ more_of) us rest before (suc n) w ok s h le =
    let ys = w.1 in
    let zs = w.2 in
    let e : us ++ rest ≡ mark w.0 q.Comma ∷ (ys ++ (zs ++ rest)) = ap (λ (z : List Lexed). z ++ rest) w.5 ∙ ap (λ (z : List Lexed). mark w.0 q.Comma ∷ z) (append_assoc ys zs rest) in
    let ok_here : Ok (ys ++ (zs ++ rest)) = later (mark w.0 q.Comma ∷ []) (ys ++ (zs ++ rest)) (subst Ok e ok) in
    let one : get (ys ++ (zs ++ rest)) ≡ Some (a, zs ++ rest) = again a ys (zs ++ rest) w.3 ok_here (commas_end Ends item comma more_of zs rest w.4 s) in
    let shorter : length (zs ++ rest) ≤ n = omega (arith, ap length e, length-append ys (zs ++ rest)) in
    let next = more_again Ok Ends item get later comma again more_of zs rest (before ++ (a ∷ [])) n w.4 (later ys (zs ++ rest) ok_here) s h shorter in
    ap (λ (z : List Lexed). more get (suc n) before z) e
    ∙ ap (λ (o : Option (List Lexed)). maybe o (λ xs. get xs >>= λ y. more get n (before ++ (y.0 ∷ [])) y.1) (some (before, mark w.0 q.Comma ∷ (ys ++ (zs ++ rest))))) (after_mark q.Comma w.0 (ys ++ (zs ++ rest)))
    ∙ ap (λ (o : Option (_ × List Lexed)). o >>= λ y. more get n (before ++ (y.0 ∷ [])) y.1) one
    ∙ next ∙ ap (λ (z : List _). some (z, rest)) (append_assoc before (a ∷ []) more_of)

pub separated_again : {A : Type 0} (Ok Ends : List Lexed → Type 0) (item : Writes A) (get : Gets A) → IsLater Ok → CommaEnds Ends → IsAgain Ok Ends item get
    → (all : List A) (us rest : List Lexed) → Separated item all us → Ok (us ++ rest) → Ends rest → after q.Comma rest ≡ None → separated get (us ++ rest) ≡ Some (all, rest)
separated_again Ok Ends item get later comma again [] us rest w ok s h = absurd w
separated_again Ok Ends item get later comma again (a ∷ more_of) us rest w ok s h =
    let ys = w.0 in
    let zs = w.1 in
    let e : us ++ rest ≡ ys ++ (zs ++ rest) = ap (λ (z : List Lexed). z ++ rest) w.4 ∙ append_assoc ys zs rest in
    let ok_here : Ok (ys ++ (zs ++ rest)) = subst Ok e ok in
    let one : get (ys ++ (zs ++ rest)) ≡ Some (a, zs ++ rest) = again a ys (zs ++ rest) w.2 ok_here (commas_end Ends item comma more_of zs rest w.3 s) in
    ap (separated get) e
    ∙ ap (λ (o : Option (_ × List Lexed)). o >>= λ y. more get (length y.1) (y.0 ∷ []) y.1) one
    ∙ more_again Ok Ends item get later comma again more_of zs rest (a ∷ []) (length (zs ++ rest)) w.3 (later ys (zs ++ rest) ok_here) s h (omega arith)

pub closed_again : {A : Type 0} (item : Writes A) (get : Gets A) (a : A) (us rest : List Lexed)
    → ((vs : List Lexed) (r : Place) → item a vs → us ≡ vs ++ (mark r q.RightParen ∷ []) → get (vs ++ (mark r q.RightParen ∷ rest)) ≡ Some (a, mark r q.RightParen ∷ rest))
    → Closed item a us → closed get (us ++ rest) ≡ Some (a, rest)
closed_again item get a us rest got w =
    let r = w.0 in
    let vs = w.1 in
    let e : us ++ rest ≡ vs ++ (mark r q.RightParen ∷ rest) = ap (λ (z : List Lexed). z ++ rest) w.3 ∙ append_assoc vs (mark r q.RightParen ∷ []) rest in
    ap (closed get) e
    ∙ ap (λ (o : Option (_ × List Lexed)). o >>= λ y. after q.RightParen y.1 >>= λ xs. some (y.0, xs)) (got vs r w.2 w.3)
    ∙ ap (λ (o : Option (List Lexed)). o >>= λ xs. some (a, xs)) (after_mark q.RightParen r rest)
