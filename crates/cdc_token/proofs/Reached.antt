-- The loop over a line: what is left from here is the whole from the start.
use Rattle.std.proofs.Common.{◌≡◌, ◌⊎◌, ℕ, ◌+◌, ◌≤◌, ◌<◌, Bool, true, false, List, [], ◌∷◌, ◌++◌, length, take, drop, append_assoc, length-append, sym, refl, ap, ◌∙◌, subst, inl, inr, ⊎_elim, arith}
use Rattle.std.proofs.lemmas.Bool.{false≢true}
use Rattle.std.proofs.Math.Seq.{take-append_seam, drop-append_seam}
use Rattle.cdc_token.specs.declared.piece.Kind.{Kind}
use Rattle.cdc_token.specs.declared.piece.Kind.TheVariants.{Mark}
use Rattle.cdc_token.specs.declared.fault.Fault.{Fault}
use Rattle.cdc_token.specs.declared.fault.Fault.TheVariants.{BadByte, OpenText, NameLong, NumberWide, LineLong}
use Rattle.cdc_token.specs.declared.gathered.Gathered.{Gathered}
use Rattle.cdc_token.specs.Pieces.{Is, IsPiece, NoPiece, Piece, Leads, size, says_nothing, still_first, stays_first, still_open, goes_on}
use Rattle.cdc_token.specs.Tokens.{Item, meaning, items_of}
use Rattle.cdc_token.specs.Refusals.{IsStray, Wrong, IsWrong, Here, Seen}
use Rattle.cdc_token.specs.Logical.{line_items}
use Rattle.cdc_token.specs.declared.fault.LineRefusal.{LineRefusal}
use Rattle.cdc_token.specs.declared.fault.LineRefusal.TheVariants.{At, Memory}
use Rattle.cdc_token.specs.declared.meaning.Meaning.{Meaning}
use Rattle.cdc_token.specs.Values.{FirstWrong, Rejects, NothingWrong}
use Rattle.cdc_token.specs.Taking.{whole, Takes, TakesPieces, FirstSeen, Sees, IsStop}
use Rattle.cdc_token.proofs.Longest.{by_first}

-- ---- one piece begins at a place

pub kind_once : (k d : Kind) (f g m r : List ℕ) → Is k f → Is d g → f ++ m ≡ g ++ r → k ≡ d
kind_once k d [] g m r is is2 e = absurd is
kind_once k d (b ∷ f) [] m r is is2 e = absurd is2
kind_once k d (b ∷ f) (c ∷ g) m r is is2 e = let same : b ≡ c = cc in sym (by_first k b f is) ∙ by_first d b g (subst (λ x. Is d (x ∷ g)) (sym same) is2)

pub record Same (f g m r : List ℕ) : Type 0 where
  pub front : f ≡ g
  pub rest : m ≡ r

cut_once : (f g m r : List ℕ) → length f ≡ length g → f ++ m ≡ g ++ r → Same f g m r
cut_once f g m r size e = record {
  front = sym (take-append_seam f m) ∙ (λ i. take (size i) (e i)) ∙ take-append_seam g r;
  rest = sym (drop-append_seam f m) ∙ (λ i. drop (size i) (e i)) ∙ drop-append_seam g r;
}

pub piece_once : (k d : Kind) (f g m r : List ℕ) → IsPiece k f m → IsPiece d g r → f ++ m ≡ g ++ r → Same f g m r
piece_once k d f g m r p q e =
    let up = p.longest d g r (sym e) q.kind q.ends in
    let down = q.longest k f m e p.kind p.ends in
    cut_once f g m r (omega (arith, up, down)) e

pub nonempty : (k : Kind) (f : List ℕ) → Is k f → 1 ≤ length f
nonempty k [] is = absurd is
nonempty k (b ∷ f) is = omega arith

-- ---- faults at a piece

-- what may be wrong where the piece k f begins, before m
abbrev AtPiece : Bool → Kind → List ℕ → List ℕ → Fault → ℕ → Type 0
AtPiece first k f m d i = ((d ≡ BadByte) × (i ≡ 0) × (k ≡ Mark) × (first ≡ false) × (says_nothing m ≡ false)) ⊎ Wrong k f d i

stray_at : (first : Bool) (k : Kind) (f m : List ℕ) → IsPiece k f m → IsStray first (f ++ m) → (k ≡ Mark) × (first ≡ false) × (says_nothing m ≡ false)
stray_at first k [] m piece stray = absurd piece.kind
stray_at first k (b ∷ f) m piece stray =
    let is : k ≡ Mark = kind_once k Mark (b ∷ f) (38 ∷ []) m stray.rest piece.kind (refl, refl) stray.mark in
    let parts : Is Mark (b ∷ f) = subst (λ x. Is x (b ∷ f)) is piece.kind in
    let tail : f ++ m ≡ stray.rest = let mark = stray.mark in cc in
    let rest : m ≡ stray.rest = ap (λ w. w ++ m) (sym parts.1) ∙ tail in
    (is, stray.late, ap says_nothing rest ∙ stray.early)

wrong_at : (k : Kind) (f m : List ℕ) (d : Fault) (i : ℕ) → IsPiece k f m → IsWrong (f ++ m) d i → Wrong k f d i
wrong_at k f m d i piece w =
    let same = piece_once w.kind k w.front f w.rest m w.piece piece (sym w.here) in
    let kind = kind_once w.kind k w.front f w.rest m w.piece.kind piece.kind (sym w.here) in
    subst (λ x. Wrong x f d i) kind (subst (λ g. Wrong w.kind g d i) same.front w.wrong)

here_is : (first : Bool) (k : Kind) (f m : List ℕ) (d : Fault) (i : ℕ) → IsPiece k f m → Here first (f ++ m) d i → AtPiece first k f m d i
here_is first k f m d i piece (inl (is, at, bad)) = absurd (bad.none k f m refl piece.kind piece.ends)
here_is first k f m d i piece (inr (inl (is, at, stray))) = let parts = stray_at first k f m piece stray in inl (is, at, parts.0, parts.1, parts.2)
here_is first k f m d i piece (inr (inr (inl (is, at, open_text)))) = absurd (open_text.none k f m refl piece.kind piece.ends)
here_is first k f m d i piece (inr (inr (inr wrong))) = inr (wrong_at k f m d i piece wrong)

abbrev pub MayMark : Bool → List ℕ → Type 0
MayMark first m = (first ≡ true) ⊎ (says_nothing m ≡ true)

not_stray : (first : Bool) (m : List ℕ) → MayMark first m → first ≡ false → says_nothing m ≡ false → ⊥
not_stray first m (inl on) off bad = false≢true (sym off ∙ on)
not_stray first m (inr on) off bad = false≢true (sym bad ∙ on)

here_no_more : (first : Bool) (k : Kind) (f m : List ℕ) (d : Fault) (i : ℕ) → IsPiece k f m → NothingWrong k f → (k ≡ Mark → MayMark first m) → Here first (f ++ m) d i → ⊥
here_no_more first k f m d i piece right fine here =
    ⊎_elim (λ s. not_stray first m (fine s.2) s.3 s.4) (λ w. right d i w) (here_is first k f m d i piece here)

-- ---- what is seen from a place on

seen_goes : (column : ℕ) (first : Bool) (k : Kind) (f m : List ℕ) (d : Fault) (c : ℕ) → IsPiece k f m → NothingWrong k f → (k ≡ Mark → MayMark first m) → Seen column first (f ++ m) d c → Seen (column + length f) (still_first k first) m d c
seen_goes column first k f m d c piece right fine seen = goes seen.pieces seen.rest seen.behind seen.leads seen.place seen.here
  where
    goes : (ps : List Piece) (rest : List ℕ) (i : ℕ) → Leads ps (f ++ m) rest → c ≡ column + size ps + i → Here (stays_first first ps) rest d i → Seen (column + length f) (still_first k first) m d c
    goes [] rest i e place here = absurd (here_no_more first k f m d i piece right fine (subst (λ z. Here first z d i) (sym e) here))
    goes (p ∷ ps) rest i (more, e, is, leads) place here =
        let same = piece_once k p.0 f p.1 m more piece is e in
        let kind : p.0 ≡ k = sym (kind_once k p.0 f p.1 m more piece.kind is.kind e) in
        record {
          pieces = ps;
          rest = rest;
          behind = i;
          leads = subst (λ w. Leads ps w rest) (sym same.rest) leads;
          place = omega (arith, place, ap length same.front);
          here = subst (λ x. Here (stays_first (still_first x first) ps) rest d i) kind here;
        }

seen_back : (column : ℕ) (first : Bool) (k : Kind) (f m : List ℕ) (d : Fault) (c : ℕ) → IsPiece k f m → Seen (column + length f) (still_first k first) m d c → Seen column first (f ++ m) d c
seen_back column first k f m d c piece seen = record {
  pieces = (k, f) ∷ seen.pieces;
  rest = seen.rest;
  behind = seen.behind;
  leads = (m, refl, piece, seen.leads);
  place = let place = seen.place in omega (arith, place);
  here = seen.here;
}

-- ---- which is first

-- the fault is the first that is seen from here on
pub record FirstHere (first : Bool) (z : List ℕ) (d : Fault) (i : ℕ) : Type 0 where
  pub here : Here first z d i
  pub least : (e : Fault) (j : ℕ) → Here first z e j → (i < j) ⊎ ((i ≡ j) × (d ≡ e))
  pub within : (k : Kind) (f m : List ℕ) → z ≡ f ++ m → IsPiece k f m → i < length f

first_seen : (column : ℕ) (first : Bool) (z : List ℕ) (d : Fault) (i : ℕ) → FirstHere first z d i → (e : Fault) (x : ℕ) → Seen column first z e x → (column + i < x) ⊎ ((column + i ≡ x) × (d ≡ e))
first_seen column first z d i h e x seen = cases seen.pieces seen.rest seen.behind seen.leads seen.place seen.here
  where
    cases : (ps : List Piece) (rest : List ℕ) (j : ℕ) → Leads ps z rest → x ≡ column + size ps + j → Here (stays_first first ps) rest e j → (column + i < x) ⊎ ((column + i ≡ x) × (d ≡ e))
    cases [] rest j same place here =
        ⊎_elim (λ below. inl (omega (arith, below, place))) (λ (at, is). inr (omega (arith, at, place), is)) (h.least e j (subst (λ w. Here first w e j) (sym same) here))
    cases (p ∷ ps) rest j (more, same, is, leads) place here = let inside = h.within p.0 p.1 more same is in inl (omega (arith, inside, place))

pub stop_here : (first : Bool) (z : List ℕ) (d : Fault) → NoPiece z → IsStop z d → FirstHere first z d 0
stop_here first z BadByte none bad = record { here = inl (refl, refl, bad); least = least; within = λ k f m e is. absurd (none k f m (sym e) is.kind is.ends) }
  where
    least : (e : Fault) (j : ℕ) → Here first z e j → (0 < j) ⊎ ((0 ≡ j) × (BadByte ≡ e))
    least e j (inl (is, at, other)) = inr (sym at, sym is)
    least e j (inr (inl (is, at, stray))) = inr (sym at, sym is)
    least e j (inr (inr (inl (is, at, open_text)))) = absurd (bad.other open_text.quote)
    least e j (inr (inr (inr w))) = absurd (none w.kind w.front w.rest (sym w.here) w.piece.kind w.piece.ends)
stop_here first z OpenText none text = record { here = inr (inr (inl (refl, refl, text))); least = least; within = λ k f m e is. absurd (none k f m (sym e) is.kind is.ends) }
  where
    least : (e : Fault) (j : ℕ) → Here first z e j → (0 < j) ⊎ ((0 ≡ j) × (OpenText ≡ e))
    least e j (inl (is, at, bad)) = absurd (bad.other text.quote)
    least e j (inr (inl (is, at, stray))) = absurd (none Mark (38 ∷ []) stray.rest (sym stray.mark) (refl, refl) tt)
    least e j (inr (inr (inl (is, at, other)))) = inr (sym at, sym is)
    least e j (inr (inr (inr w))) = absurd (none w.kind w.front w.rest (sym w.here) w.piece.kind w.piece.ends)
stop_here first z NameLong none h = absurd h
stop_here first z NumberWide none h = absurd h
stop_here first z LineLong none h = absurd h

within_piece : (k : Kind) (f m z : List ℕ) (i : ℕ) → z ≡ f ++ m → IsPiece k f m → i < length f → (d : Kind) (g r : List ℕ) → z ≡ g ++ r → IsPiece d g r → i < length g
within_piece k f m z i e piece inside d g r e2 other = let same = piece_once k d f g m r piece other (sym e ∙ e2) in omega (arith, inside, ap length same.front)

mark_is : (f : List ℕ) → Is Mark f → f ≡ 38 ∷ []
mark_is [] h = absurd h
mark_is (b ∷ f) h = λ i. h.0 i ∷ h.1 i

pub stray_here : (first : Bool) (k : Kind) (f m : List ℕ) → IsPiece k f m → (k ≡ Mark) × (first ≡ false) × (says_nothing m ≡ false) → FirstHere first (f ++ m) BadByte 0
stray_here first k f m piece (is, late, early) =
    let marked : IsPiece Mark f m = subst (λ x. IsPiece x f m) is piece in
    let stray : IsStray first (f ++ m) = record { rest = m; mark = ap (λ w. w ++ m) (mark_is f marked.kind); late = late; early = early } in
    record {
      here = inr (inl (refl, refl, stray));
      least = λ e j h. ⊎_elim (λ s. inr (sym s.1, sym s.0)) (λ w. absurd w) (here_is first Mark f m e j marked h);
      within = within_piece Mark f m (f ++ m) 0 refl marked (nonempty Mark f marked.kind);
    }

not_mark : (k : Kind) (f : List ℕ) (d : Fault) (i : ℕ) → Wrong k f d i → k ≡ Mark → ⊥
not_mark k f d i w is = subst (λ x. Wrong x f d i) is w

pub wrong_here : (column : ℕ) (first : Bool) (k : Kind) (f m : List ℕ) (d : Fault) (c : ℕ) (piece : IsPiece k f m) (w : FirstWrong k f column d c) → FirstHere first (f ++ m) d w.behind
wrong_here column first k f m d c piece w = record {
  here = inr (inr (inr (record { kind = k; front = f; rest = m; here = refl; piece = piece; wrong = w.wrong })));
  least = λ e j h. ⊎_elim (λ s. absurd (not_mark k f d w.behind w.wrong s.2)) (λ other. w.least e j other) (here_is first k f m e j piece h);
  within = within_piece k f m (f ++ m) w.behind refl piece w.within;
}

-- ---- no fault is left

seen_nothing : (column : ℕ) (first : Bool) (d : Fault) (c : ℕ) → Seen column first [] d c → ⊥
seen_nothing column first d c seen = cases seen.pieces seen.rest seen.behind seen.leads seen.here
  where
    short : (p : Piece) (more : List ℕ) → [] ≡ p.1 ++ more → IsPiece p.0 p.1 more → ⊥
    short p more e is = let some = nonempty p.0 p.1 is.kind in omega (arith, some, ap length e, length-append p.1 more)

    nothing : (on : Bool) (i : ℕ) → Here on [] d i → ⊥
    nothing on i (inl (is, at, bad)) = let some = bad.some in omega (arith, some)
    nothing on i (inr (inl (is, at, stray))) = omega (arith, ap length stray.mark)
    nothing on i (inr (inr (inl (is, at, open_text)))) = open_text.quote
    nothing on i (inr (inr (inr w))) = short (w.kind, w.front) w.rest w.here w.piece

    cases : (ps : List Piece) (rest : List ℕ) (i : ℕ) → Leads ps [] rest → Here (stays_first first ps) rest d i → ⊥
    cases [] rest i e here = nothing first i (subst (λ z. Here first z d i) (sym e) here)
    cases (p ∷ ps) rest i (more, e, is, leads) here = short p more e is

-- ---- the invariant

-- pieces of the line, whose items are those of the pieces of the rest from here
pub record Whole (was : Bool) (line : List ℕ) (number : ℕ) (old new : Gathered) (column : ℕ) (on : Bool) (ps : List Piece) : Type 0 where
  pub pieces : List Piece
  pub leads : Leads pieces line []
  pub open_is : goes_on was pieces ≡ goes_on on ps
  pub same : (more : List Item) → whole new (line_items number column ps ++ more) ≡ whole old (line_items number 1 pieces ++ more)

pub record Reached (was : Bool) (line : List ℕ) (number : ℕ) (old new : Gathered) (column : ℕ) (first on : Bool) (rest : List ℕ) : Type 0 where
  pub place : column + length rest ≡ 1 + length line
  pub left : (d : Fault) (c : ℕ) → Seen 1 was line d c → Seen column first rest d c
  pub back : (d : Fault) (c : ℕ) → Seen column first rest d c → Seen 1 was line d c
  pub parts : (ps : List Piece) → Leads ps rest [] → Whole was line number old new column on ps

pub reached_start : (was : Bool) (line : List ℕ) (number : ℕ) (g : Gathered) → Reached was line number g g 1 was was line
reached_start was line number g = record {
  place = refl;
  left = λ d c h. h;
  back = λ d c h. h;
  parts = λ ps leads. record { pieces = ps; leads = leads; open_is = refl; same = λ more. refl };
}

module _ {was : Bool} {line : List ℕ} {number : ℕ} {old new : Gathered} {column : ℕ} {first on : Bool} {rest : List ℕ} (reached : Reached was line number old new column first on rest) where
  pub fault_here : (d : Fault) (i : ℕ) → FirstHere first rest d i → FirstSeen was line d (column + i)
  fault_here d i h = record {
    seen = reached.back d (column + i) (record { pieces = []; rest = rest; behind = i; leads = refl; place = omega arith; here = h.here });
    least = λ e x seen. first_seen column first rest d i h e x (reached.left e x seen);
  }

  pub reached_end : rest ≡ [] → TakesPieces was line number old new on
  reached_end none =
      let w = reached.parts [] none in
      record {
        pieces = w.pieces;
        leads = w.leads;
        none = λ d c seen. seen_nothing column first d c (subst (λ z. Seen column first z d c) none (reached.left d c seen));
        open_is = sym w.open_is;
        taken = w.same;
      }

  pub reached_more : (k : Kind) (f m : List ℕ) (next : Gathered) → rest ≡ f ++ m → IsPiece k f m → NothingWrong k f → (k ≡ Mark → MayMark first m)
      → Takes new next (items_of (record { line = number; column = column }) (meaning k f))
      → Reached was line number old next (column + length f) (still_first k first) (still_open k on) m
  reached_more k f m next e piece right fine takes = record {
    place = let place = reached.place in omega (arith, place, ap length e, length-append f m);
    left = λ d c seen. seen_goes column first k f m d c piece right fine (subst (λ z. Seen column first z d c) e (reached.left d c seen));
    back = λ d c seen. reached.back d c (subst (λ z. Seen column first z d c) (sym e) (seen_back column first k f m d c piece seen));
    parts = λ ps leads.
        let w = reached.parts ((k, f) ∷ ps) (m, e, piece, leads) in
        let here = items_of (record { line = number; column = column }) (meaning k f) in
        let later = line_items number (column + length f) ps in
        record {
          pieces = w.pieces;
          leads = w.leads;
          open_is = w.open_is;
          same = λ more. takes (later ++ more) ∙ ap (whole new) (sym (append_assoc here later more)) ∙ w.same more;
        };
  }

  -- the same, from what the calls of the loop give
  pub reached_step : (k : Kind) (f m : List ℕ) (n : ℕ) (next : Gathered) (means : Meaning) (first2 on2 : Bool) → rest ≡ f ++ m → IsPiece k f m → NothingWrong k f → (k ≡ Mark → MayMark first m)
      → means ≡ meaning k f → Takes new next (items_of (record { line = number; column = column }) means)
      → length f ≡ n → first2 ≡ still_first k first → on2 ≡ still_open k on
      → Reached was line number old next (column + n) first2 on2 m
  reached_step k f m n next means first2 on2 e piece right fine is takes long is_first is_on =
      let taken : Takes new next (items_of (record { line = number; column = column }) (meaning k f)) = subst (λ w. Takes new next (items_of (record { line = number; column = column }) w)) is takes in
      let more = reached_more k f m next e piece right fine taken in
      let at : Reached was line number old next (column + n) (still_first k first) (still_open k on) m = subst (λ l. Reached was line number old next (column + l) (still_first k first) (still_open k on) m) long more in
      let front : Reached was line number old next (column + n) first2 (still_open k on) m = subst (λ b. Reached was line number old next (column + n) b (still_open k on) m) (sym is_first) at in
      subst (λ b. Reached was line number old next (column + n) first2 b m) (sym is_on) front

  pub stop_seen : (d : Fault) → NoPiece rest → IsStop rest d → FirstSeen was line d column
  stop_seen d none stop = let at : column + 0 ≡ column = omega arith in subst (FirstSeen was line d) at (fault_here d 0 (stop_here first rest d none stop))

  pub stray_seen : (k : Kind) (f m : List ℕ) → rest ≡ f ++ m → IsPiece k f m → (k ≡ Mark) × (first ≡ false) × (says_nothing m ≡ false) → FirstSeen was line BadByte column
  stray_seen k f m e piece stray =
      let at : column + 0 ≡ column = omega arith in
      let here : FirstHere first rest BadByte 0 = subst (λ z. FirstHere first z BadByte 0) (sym e) (stray_here first k f m piece stray) in
      subst (FirstSeen was line BadByte) at (fault_here BadByte 0 here)

  pub wrong_seen : (k : Kind) (f m : List ℕ) → rest ≡ f ++ m → IsPiece k f m → (refusal : LineRefusal) → Rejects k f column refusal → Sees was line refusal
  wrong_seen k f m e piece Memory rejects = tt
  wrong_seen k f m e piece (At d c) w =
      let here : FirstHere first rest d w.behind = subst (λ z. FirstHere first z d w.behind) (sym e) (wrong_here column first k f m d c piece w) in
      subst (FirstSeen was line d) (sym w.place) (fault_here d w.behind here)

pub piece_of : (k : Kind) (n : ℕ) (z f m : List ℕ) → f ≡ take n z → m ≡ drop n z → IsPiece k (take n z) (drop n z) → IsPiece k f m
piece_of k n z f m front back piece = subst (λ g. IsPiece k g m) (sym front) (subst (λ r. IsPiece k (take n z) r) (sym back) piece)
