-- The cut at the front is the longest piece, and where there is none no piece begins.
use Rattle.std.proofs.Common.{◌≡◌, ℕ, zero, suc, ◌+◌, ◌≤◌, ◌<◌, Bool, true, false, eqb, List, [], ◌∷◌, ◌++◌, length, get_or, take, drop, append_assoc, append-nil, take-append-drop, length-append, Option, Some, None, sym, refl, ap, ◌∙◌, subst, arith, IfSome, IfNone}
use Rattle.std.proofs.lemmas.Grind.{common_steps}
use Rattle.std.proofs.lemmas.Bool.{eqb-true, eqb-false, ne_eqb}
use Rattle.std.specs.List.{prefix_len, AllByRecursion}
use Rattle.std.specs.Char.{is_ascii_digit, is_ascii_alphabetic}
use Rattle.std.proofs.lemmas.List.Folds.{length-prefix_len}
use Rattle.std.proofs.lemmas.List.{length-take-le}
use Rattle.std.proofs.Math.Seq.{take-append_seam, drop-append_seam}
use Rattle.cdc_token.specs.declared.piece.Kind.{Kind}
use Rattle.cdc_token.specs.declared.piece.Kind.TheVariants.{Blank, Comment, Text, Name, Number, Symbol, Mark, Semicolon}
use Rattle.cdc_token.specs.declared.token.Symbol as symbols
use Rattle.cdc_token.specs.Bytes.{is_blank, is_word, is_quote, BeginsWith}
use Rattle.cdc_token.specs.Symbols.{spellings}
use Rattle.cdc_token.specs.Pieces.{doubled, Is, MayEnd, IsPiece, NoPiece}
use Rattle.cdc_token.specs.Cutting.{kind_at, closing, first_fit, second, len, paired, cut}
use Rattle.cdc_token.proofs.Spellings.{by_test, some_same, Front, symbol_none, symbol_first, symbol_longest, front_is}

-- ---- the first byte tells the kind

digit_no_letter : (b : ℕ) → is_ascii_digit b ≡ true → is_ascii_alphabetic b ≡ false
digit_no_letter b h = grind (arith, common_steps)

pub by_first : (d : Kind) (b : ℕ) (z : List ℕ) → Is d (b ∷ z) → kind_at b ≡ d
by_first Blank b z h = grind (arith, common_steps)
by_first Comment b z h = subst (λ x. kind_at x ≡ Comment) (sym h) refl
by_first Text b z h = grind (arith, common_steps)
by_first Name b z h = rw h.0 refl
by_first Number b z h = rw (digit_no_letter b h.0, h.0) refl
by_first Symbol b z h = symbol_first b z h.0 h.1
by_first Mark b z h = subst (λ x. kind_at x ≡ Mark) (sym h.0) refl
by_first Semicolon b z h = subst (λ x. kind_at x ≡ Semicolon) (sym h.0) refl

-- ---- runs

run_is : (p : ℕ → Bool) (z : List ℕ) → AllByRecursion (λ b. p b ≡ true) (take (prefix_len p z) z)
run_is p [] = tt
run_is p (b ∷ z) =
    let one : 1 + prefix_len p z ≡ suc (prefix_len p z) = omega arith in
    by_test (p b) (λ on. rw (on, one) (on, run_is p z)) (λ off. rw off tt)

run_longest : (p : ℕ → Bool) (f r : List ℕ) → AllByRecursion (λ b. p b ≡ true) f → length f ≤ prefix_len p (f ++ r)
run_longest p [] r h = omega arith
run_longest p (b ∷ f) r h = let rec = run_longest p f r h.1 in rw h.0 (omega (arith, rec))

-- ---- texts

no_quote : (q : ℕ) (r : List ℕ) → 0 < q → (BeginsWith q r → ⊥) → eqb (get_or r 0 0) q ≡ false
no_quote q [] some h = ne_eqb 0 q (λ e. omega (arith, e, some))
no_quote q (b ∷ r) some h = ne_eqb b q h

same : (n : ℕ) → eqb n n ≡ true
same n = grind (arith, common_steps)

-- a text's end is where `closing` finds it
closing_finds : (q : ℕ) (s r : List ℕ) (at : ℕ) → 0 < q → (BeginsWith q r → ⊥) → closing q false at (doubled q s ++ q ∷ r) ≡ Some (at + length (doubled q s) + 1)
closing_finds q [] r at some h = rw (same q, no_quote q r some h) (ap Some (omega arith))
closing_finds q (b ∷ s) r at some h =
    by_test (eqb b q)
    (λ on. rw on (rw (same q) (closing_finds q s r (at + 1 + 1) some h ∙ ap Some (omega arith))))
    (λ off. rw off (rw off (closing_finds q s r (at + 1) some h ∙ ap Some (omega arith))))

abbrev Closes : ℕ → ℕ → List ℕ → ℕ → Type 0
Closes q at z n = (s r : List ℕ) × (z ≡ doubled q s ++ q ∷ r) × (BeginsWith q r → ⊥) × (n ≡ at + length (doubled q s) + 1)

closes_more : (q at b n : ℕ) (z : List ℕ) → eqb b q ≡ false → Closes q (at + 1) z n → Closes q at (b ∷ z) n
closes_more q at b n z off (s, r, e, ends, is) = (b ∷ s, r, rw off (ap (λ w. b ∷ w) e), ends, rw off (omega (arith, is)))

closes_two : (q at b c n : ℕ) (z : List ℕ) → b ≡ q → c ≡ q → Closes q (at + 1 + 1) z n → Closes q at (b ∷ c ∷ z) n
closes_two q at b c n z first second (s, r, e, ends, is) =
    (q ∷ s, r, rw (same q) (λ i. first i ∷ second i ∷ e i), ends, rw (same q) (omega (arith, is)))

closing_true : (q at : ℕ) (z : List ℕ) (n : ℕ) → closing q false at z ≡ Some n → Closes q at z n
closing_true q at [] n h = absurd (cc)
closing_true q at (b ∷ []) n h =
    by_test (eqb b q)
    (λ on. ([], [], ap (λ x. x ∷ []) (eqb-true b q on), (λ x. x), grind (arith, common_steps)))
    (λ off. absurd (grind (arith, common_steps)))
closing_true q at (b ∷ c ∷ z) n h =
    by_test (eqb b q)
    (λ on.
    by_test (eqb c q)
    (λ on2. closes_two q at b c n z (eqb-true b q on) (eqb-true c q on2) (closing_true q (at + 1 + 1) z n (rw (on, on2) at h)))
    (λ off2. ([], c ∷ z, ap (λ x. x ∷ c ∷ z) (eqb-true b q on), eqb-false c q off2, grind (arith, common_steps))))
    (λ off. closes_more q at b n (c ∷ z) off (closing_true q (at + 1) (c ∷ z) n (rw off at h)))

-- ---- a piece that begins here is no longer than the cut

abbrev AtLeast : Option ℕ → ℕ → Type 0
AtLeast o k = (n : ℕ) × (o ≡ Some n) × (k ≤ n)

quote_some : (q : ℕ) → is_quote q ≡ true → 0 < q
quote_some q h = grind (arith, common_steps)

text_least : (q : ℕ) (f s r : List ℕ) → is_quote q ≡ true → f ≡ doubled q s ++ q ∷ [] → (BeginsWith q r → ⊥) → AtLeast (closing q false 1 (f ++ r)) (1 + length f)
text_least q f s r quote e ends =
    let regrouped : f ++ r ≡ doubled q s ++ q ∷ r = ap (λ w. w ++ r) e ∙ append_assoc (doubled q s) (q ∷ []) r in
    let size : length f ≡ length (doubled q s) + 1 = ap length e ∙ length-append (doubled q s) (q ∷ []) in
    (1 + length (doubled q s) + 1, ap (closing q false 1) regrouped ∙ closing_finds q s r 1 (quote_some q quote) ends, omega (arith, size))

len_longest : (d : Kind) (b : ℕ) (f r : List ℕ) → Is d (b ∷ f) → MayEnd d (b ∷ f) r → AtLeast (len d b (f ++ r)) (1 + length f)
len_longest Blank b f r h ends = (1, refl, omega (arith, ap length h.1))
len_longest Comment b f r h ends = (1 + length (f ++ r), refl, omega (arith, length-append f r))
len_longest Text b f r h ends = text_least b f h.1 r h.0 h.2 ends
len_longest Name b f r h ends = (1 + prefix_len is_word (f ++ r), refl, omega (arith, run_longest is_word f r h.1))
len_longest Number b f r h ends = (1 + prefix_len is_ascii_digit (f ++ r), refl, omega (arith, run_longest is_ascii_digit f r h.1))
len_longest Symbol b f r h ends = let found = symbol_longest (b ∷ f) r h.0 h.1 in (found.found.1, ap second found.is, omega (arith, found.long))
len_longest Mark b f r h ends = (1, refl, omega (arith, ap length h.1))
len_longest Semicolon b f r h ends = (1, refl, omega (arith, ap length h.1))

-- ---- the cut is a piece

abbrev First : Kind → ℕ → Type 0
First Blank b = is_blank b ≡ true
First Comment b = b ≡ 33
First Text b = is_quote b ≡ true
First Name b = is_ascii_alphabetic b ≡ true
First Number b = is_ascii_digit b ≡ true
First Symbol b = Unit {0}
First Mark b = b ≡ 38
First Semicolon b = b ≡ 59

first_of_kind : (d : Kind) (b : ℕ) → kind_at b ≡ d → First d b
first_of_kind Blank b h = grind (arith, common_steps)
first_of_kind Comment b h = grind (arith, common_steps)
first_of_kind Text b h = grind (arith, common_steps)
first_of_kind Name b h = grind (arith, common_steps)
first_of_kind Number b h = grind (arith, common_steps)
first_of_kind Symbol b h = tt
first_of_kind Mark b h = grind (arith, common_steps)
first_of_kind Semicolon b h = grind (arith, common_steps)

pub record Cuts (d : Kind) (b : ℕ) (z : List ℕ) (n : ℕ) : Type 0 where
  pub front : List ℕ
  pub rest : List ℕ
  pub parts : z ≡ front ++ rest
  pub size : n ≡ 1 + length front
  pub kind : Is d (b ∷ front)
  pub ends : MayEnd d (b ∷ front) rest

run_cuts : (p : ℕ → Bool) (z : List ℕ) (n : ℕ) → Some (1 + prefix_len p z) ≡ Some n → n ≡ 1 + length (take (prefix_len p z) z)
run_cuts p z n h = rw (length-prefix_len p z) (sym (some_same _ _ h))

text_cuts : (b : ℕ) (z : List ℕ) (n : ℕ) → is_quote b ≡ true → Closes b 1 z n → Cuts Text b z n
text_cuts b z n h (s, r, e, ends, is) = record {
  front = doubled b s ++ b ∷ [];
  rest = r;
  parts = e ∙ sym (append_assoc (doubled b s) (b ∷ []) r);
  size = omega (arith, is, length-append (doubled b s) (b ∷ []));
  kind = (h, s, refl);
  ends = ends;
}

second_some : (o : Option (symbols.Symbol × ℕ)) (n : ℕ) → second o ≡ Some n → (y : symbols.Symbol) × (o ≡ Some (y, n))
second_some None n h = absurd (cc)
second_some (Some p) n h = (p.0, ap (λ m. Some (p.0, m)) (some_same p.1 n h))

symbol_cuts : (b : ℕ) (z : List ℕ) (y : symbols.Symbol) (n : ℕ) → Front spellings (b ∷ z) y n → Cuts Symbol b z n
symbol_cuts b z y zero h = absurd (let clash : None ≡ Some y = sym symbol_none ∙ h.is in cc)
symbol_cuts b z y (suc n) h = record {
  front = take n z;
  rest = drop n z;
  parts = sym (take-append-drop n z);
  size = let within = h.within in let fits : n ≤ length z = omega (arith, within) in omega (arith, length-take-le n z fits);
  kind = (y, h.is);
  ends = tt;
}

one_cuts : (d : Kind) (b : ℕ) (z : List ℕ) (n : ℕ) → Some 1 ≡ Some n → Is d (b ∷ []) → MayEnd d (b ∷ []) z → Cuts d b z n
one_cuts d b z n e kind ends = record { front = []; rest = z; parts = refl; size = sym (some_same 1 n e); kind = kind; ends = ends }

len_is : (d : Kind) (b : ℕ) (z : List ℕ) (n : ℕ) → First d b → len d b z ≡ Some n → Cuts d b z n
len_is Blank b z n h e = one_cuts Blank b z n e (h, refl) tt
len_is Comment b z n h e = record { front = z; rest = []; parts = sym (append-nil z); size = sym (some_same _ n e); kind = h; ends = tt }
len_is Text b z n h e = text_cuts b z n h (closing_true b 1 z n e)
len_is Name b z n h e =
    record { front = take (prefix_len is_word z) z; rest = drop (prefix_len is_word z) z; parts = sym (take-append-drop _ z); size = run_cuts is_word z n e; kind = (h, run_is is_word z); ends = tt }
len_is Number b z n h e =
    record { front = take (prefix_len is_ascii_digit z) z; rest = drop (prefix_len is_ascii_digit z) z; parts = sym (take-append-drop _ z); size = run_cuts is_ascii_digit z n e; kind = (h, run_is is_ascii_digit z); ends = tt }
len_is Symbol b z n h e = let found = second_some (first_fit spellings (b ∷ z)) n e in symbol_cuts b z found.0 n (front_is spellings (b ∷ z) found.0 n found.1)
len_is Mark b z n h e = one_cuts Mark b z n e (h, refl) tt
len_is Semicolon b z n h e = one_cuts Semicolon b z n e (h, refl) tt

-- ---- together

-- what begins at a cut is no longer than the cut, and of its kind
cut_bounds : (z : List ℕ) (d : Kind) (f r : List ℕ) → f ++ r ≡ z → Is d f → MayEnd d f r → (n : ℕ) × (cut z ≡ Some (d, n)) × (length f ≤ n)
cut_bounds z d [] r e is ends = absurd is
cut_bounds z d (b ∷ f) r e is ends =
    let first = by_first d b f is in
    let bound = len_longest d b f r is ends in
    (bound.0, subst (λ w. cut w ≡ Some (d, bound.0)) e (rw first (rw (bound.1) refl)), omega (arith, bound.2))

pub cut_none : (z : List ℕ) → cut z ≡ None → NoPiece z
cut_none z h d f r e is ends = let found = cut_bounds z d f r e is ends in absurd (let clash : None ≡ Some (d, found.0) = sym h ∙ found.1 in cc)

pieced : (k : Kind) (b n : ℕ) (z : List ℕ) → cut (b ∷ z) ≡ Some (k, n) → Cuts k b z n → IsPiece k (take n (b ∷ z)) (drop n (b ∷ z))
pieced k b n z h c =
    let f = c.front in
    let r = c.rest in
    let size : n ≡ length (b ∷ f) = omega (arith, c.size) in
    let e : z ≡ f ++ r = c.parts in
    let front : take n (b ∷ z) ≡ b ∷ f = (λ i. take (size i) (b ∷ e i)) ∙ take-append_seam (b ∷ f) r in
    let rest : drop n (b ∷ z) ≡ r = (λ i. drop (size i) (b ∷ e i)) ∙ drop-append_seam (b ∷ f) r in
    let piece : IsPiece k (b ∷ f) r = record {
      kind = c.kind;
      ends = c.ends;
      longest = λ d f2 r2 e2 is2 ends2.
          let bound = cut_bounds (b ∷ z) d f2 r2 (e2 ∙ ap (λ w. b ∷ w) (sym e)) is2 ends2 in
          let same : n ≡ bound.0 = ap (λ p. p.1) (some_same (k, n) (d, bound.0) (sym h ∙ bound.1)) in
          omega (arith, size, same, bound.2);
    } in
    rw (front, rest) piece

paired_some : (j : Kind) (o : Option ℕ) (k : Kind) (n : ℕ) → paired j o ≡ Some (k, n) → (j ≡ k) × (o ≡ Some n)
paired_some j None k n h = absurd (cc)
paired_some j (Some m) k n h = let same = some_same (j, m) (k, n) h in (ap (λ p. p.0) same, ap (λ p. Some p.1) same)

cut_of : (b : ℕ) (z : List ℕ) (k : Kind) (n : ℕ) → cut (b ∷ z) ≡ Some (k, n) → Cuts k b z n
cut_of b z k n h =
    let parts = paired_some (kind_at b) (len (kind_at b) b z) k n h in
    len_is k b z n (first_of_kind k b parts.0) (subst (λ x. len x b z ≡ Some n) parts.0 parts.1)

pub cut_piece : (z : List ℕ) (k : Kind) (n : ℕ) → cut z ≡ Some (k, n) → IsPiece k (take n z) (drop n z)
cut_piece [] k n h = absurd (cc)
cut_piece (b ∷ z) k n h = pieced k b n z h (cut_of b z k n h)

pub cut_within : (z : List ℕ) (k : Kind) (n : ℕ) → cut z ≡ Some (k, n) → (1 ≤ n) × (n ≤ length z)
cut_within [] k n h = absurd (cc)
cut_within (b ∷ z) k n h =
    let c = cut_of b z k n h in
    let size = c.size in
    let parts = ap length c.parts in
    (omega (arith, size), omega (arith, size, parts, length-append c.front c.rest))

pub found_of : (z : List ℕ) (o : Option (Kind × ℕ)) → o ≡ cut z → IfSome o (λ p. IsPiece p.0 (take p.1 z) (drop p.1 z))
found_of z None h = tt
found_of z (Some (k, n)) h = cut_piece z k n (sym h)

pub within_of : (z : List ℕ) (o : Option (Kind × ℕ)) → o ≡ cut z → IfSome o (λ p. (1 ≤ p.1) × (p.1 ≤ length z))
within_of z None h = tt
within_of z (Some (k, n)) h = cut_within z k n (sym h)

pub none_of : (z : List ℕ) (o : Option (Kind × ℕ)) → o ≡ cut z → IfNone o (NoPiece z)
none_of z None h = cut_none z (sym h)
none_of z (Some p) h = tt
