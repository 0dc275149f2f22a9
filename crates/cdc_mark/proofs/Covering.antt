-- Covers, reference by reference and statement by statement.
use Rattle.std.proofs.Common.{◌≡◌, ◌↔◌, ◌⊎◌, ℕ, zero, suc, ◌+◌, ◌≤◌, ◌<◌, Bool, true, false, List, [], ◌∷◌, ◌++◌, length, map, get_or, take, drop, replicate, refl, sym, ap, ap₂, ◌∙◌, subst, inl, inr, slice_get, add-one, append_assoc, append-nil, take-append-drop, take-suc, Result, Ok, Err, OnOk, arith}
use Rattle.std.proofs.Math.Seq.{drop-cons}
use Rattle.std.specs.List.{All}
use Rattle.std.proofs.lemmas.List.{take_all, drop_all, length-replicate, length-map, map-append, get_or-map}
use Rattle.std.proofs.lemmas.List.Elements.{All-head, All-tail}
use Rattle.cdc_prog.specs.declared.program.Unit.{Unit as ProgramUnit}
use Rattle.cdc_prog.specs.declared.program.Program.{Program}
use Rattle.cdc_prog.specs.declared.expr.Expr.{Expr as Code}
use Rattle.cdc_prog.specs.Sameness.{SubsAreSame}
use Rattle.cdc_prog.specs.declared.stmt.Arm.{Arm}
use Rattle.cdc_prog.specs.declared.stmt.Stmt.{Stmt as Tree}
use Rattle.cdc_prog.specs.Plain.{Stmt, Skip, Seq, Assign, If, Arm as PlainArm, Do, Doall, Call, Print, Read}
use Rattle.cdc_prog.specs.Iterations as iterations
use Rattle.cdc_prog.specs.Dependence.{Spot}
use Rattle.cdc_prog.specs.Numbered.{calls_in, calls_numbered, units_numbered}
use Rattle.cdc_prog.specs.Translation.{exprs_of, stmt_of, stmts_of, arms_of, unit_of, program_of}
use Rattle.cdc_prog.specs.Units.{body_in}
use Rattle.cdc_prog.specs.Resolved.{IsResolved, HasNoCall}
use Rattle.cdc_prog.proofs.Serial.{uncalled}
use Rattle.cdc_prog.proofs.Numbered.{same_without_calls}
use Rattle.cdc_flow.proofs.Arms.{first_arm}
use Rattle.cdc_path.specs.References.{refs, outside}
use Rattle.cdc_path.specs.Covers.{Keeps, Covers, straight, HasRun}
use Rattle.cdc_mark.specs.Least.{IsIn}
use Rattle.cdc_mark.specs.Marked.{AreCovered}
use Rattle.cdc_mark.specs.declared.covers.Mention.{Mention}
use Rattle.cdc_mark.specs.Covered.{spot_of, IsAt, HasEarlier, IsCovered, IsPassed, run_after, EndsRun, HasRunIn, IsOpen}
use Rattle.cdc_mark.proofs.Lowered.{no_bit}

pub true_or_false : (b : Bool) → b ≡ true → b ≡ false → ⊥
true_or_false true e f = cc
true_or_false false e f = cc

-- ---- earlier references
pub found : (bs : List Spot) (n k : ℕ) (m q : Spot) → k ≡ n + 1 → n < length bs → m ≡ get_or bs n m → IsAt m q → All (IsPassed q) (drop k bs) → HasEarlier bs q
found bs n k m q e lt is at later = record {
  before = take n bs;
  cover = m;
  between = drop (n + 1) bs;
  in_order = sym (take-append-drop n bs) ∙ ap (λ (x : List Spot). take n bs ++ x) left;
  same = at;
  kept = λ j d below. (passed j d below).0;
}
  where
    passed : All (IsPassed q) (drop (n + 1) bs)
    passed = subst (λ j. All (IsPassed q) (drop j bs)) e later

    left : drop n bs ≡ m ∷ drop (n + 1) bs
    left = rw (add-one, drop-cons bs n m) (ap (λ (b : Spot). b ∷ drop (suc n) bs) (sym is))

all_in : (P : Spot → Type 0) (xs : List Spot) (x : Spot) → All P xs → iterations.IsIn x xs → P x
all_in P [] x all h = absurd h
all_in P (y ∷ ys) x all (inl e) = subst P (sym e) (All-head P y ys all)
all_in P (y ∷ ys) x all (inr h) = all_in P ys x (All-tail P y ys all) h

in_middle : (x : Spot) (xs ys : List Spot) → iterations.IsIn x (xs ++ (x ∷ ys))
in_middle x [] ys = inl refl
in_middle x (y ∷ xs) ys = inr (in_middle x xs ys)

-- of two members of a list one comes before the other, or they are one
first_of_two : (xs rest before between : List Spot) (m c : Spot) → xs ++ (m ∷ rest) ≡ before ++ (c ∷ between) → iterations.IsIn c rest ⊎ ((m ≡ c) ⊎ iterations.IsIn m between)
first_of_two [] rest [] between m c e = (let q : m ≡ c = cc in inr (inl q))
first_of_two [] rest (b ∷ before) between m c e = (let q : rest ≡ before ++ (c ∷ between) = cc in inl (subst (iterations.IsIn c) (sym q) (in_middle c before between)))
first_of_two (x ∷ xs) rest [] between m c e = (let q : xs ++ (m ∷ rest) ≡ between = cc in inr (inr (subst (iterations.IsIn m) q (in_middle m xs rest))))
first_of_two (x ∷ xs) rest (b ∷ before) between m c e = (let q : xs ++ (m ∷ rest) ≡ before ++ (c ∷ between) = cc in first_of_two xs rest before between m c q)

pub stopped : (bs : List Spot) (n k : ℕ) (m q : Spot) → k ≡ n + 1 → n < length bs → m ≡ get_or bs n m → (IsAt m q → ⊥) → (Keeps q.subs m → ⊥) → All (IsPassed q) (drop k bs) → HasEarlier bs q → ⊥
stopped bs n k m q e lt is not_at writes passed h = elim (first_of_two (take n bs) (drop (n + 1) bs) h.before h.between m h.cover (sym whole ∙ h.in_order)) [
  | inl later ↦ (all_in (IsPassed q) (drop (n + 1) bs) h.cover (subst (λ j. All (IsPassed q) (drop j bs)) e passed) later).1 h.same
  | inr (inl one) ↦ not_at (subst (λ (x : Spot). IsAt x q) (sym one) h.same)
  | inr (inr earlier) ↦ writes (all_in (Keeps q.subs) h.between m h.kept earlier)
]
  where
    whole : bs ≡ take n bs ++ (m ∷ drop (n + 1) bs)
    whole = sym (take-append-drop n bs) ∙ ap (λ (x : List Spot). take n bs ++ x) (rw (add-one, drop-cons bs n m) (ap (λ (b : Spot). b ∷ drop (suc n) bs) (sym is)))

pub passed_more : (bs : List Spot) (n k : ℕ) (m q : Spot) → k ≡ n + 1 → n < length bs → m ≡ get_or bs n m → (IsAt m q → ⊥) → Keeps q.subs m → All (IsPassed q) (drop k bs) → All (IsPassed q) (drop n bs)
passed_more bs n k m q e lt is not_at keeps later = subst (All (IsPassed q)) (sym left) (λ j d below. here j d below)
  where
    passed : All (IsPassed q) (drop (n + 1) bs)
    passed = subst (λ j. All (IsPassed q) (drop j bs)) e later

    left : drop n bs ≡ m ∷ drop (n + 1) bs
    left = rw (add-one, drop-cons bs n m) (ap (λ (b : Spot). b ∷ drop (suc n) bs) (sym is))

    here : (j : ℕ) (d : Spot) → j < length (m ∷ drop (n + 1) bs) → IsPassed q (get_or (m ∷ drop (n + 1) bs) j d)
    here zero d below = (keeps, not_at)
    here (suc j) d below = passed j d (omega (arith, below))

pub none_found : (bs : List Spot) (q : Spot) → All (IsPassed q) (drop 0 bs) → HasEarlier bs q → ⊥
none_found bs q passed h = (all_in (IsPassed q) bs h.cover passed (subst (iterations.IsIn h.cover) (sym h.in_order) (in_middle h.cover h.before h.between))).1 h.same

-- ---- one reference more
snoc_split : (xs ys after : List Spot) (q r : Spot) → xs ++ q ∷ [] ≡ ys ++ (r ∷ after) → ((xs ≡ ys) × (q ≡ r)) ⊎ ((rest : List Spot) × (after ≡ rest ++ q ∷ []) × (xs ≡ ys ++ (r ∷ rest)))
snoc_split [] [] after q r e = (let a : q ≡ r = cc in inl (refl, a))
snoc_split [] (y ∷ []) after q r e = cc
snoc_split [] (y ∷ (z ∷ ys)) after q r e = cc
snoc_split (x ∷ xs) [] after q r e = (let a : xs ++ q ∷ [] ≡ after = cc in let b : x ≡ r = cc in inr (xs, sym a, ap (λ (s : Spot). s ∷ xs) b))
snoc_split (x ∷ xs) (y ∷ ys) after q r e =
    let a : xs ++ q ∷ [] ≡ ys ++ (r ∷ after) = cc in
    let b : x ≡ y = cc in
    elim (snoc_split xs ys after q r a) [
      | inl h ↦ inl (ap₂ (λ (s : Spot) (t : List Spot). s ∷ t) b h.0, h.1)
      | inr h ↦ inr (h.0, h.1, ap₂ (λ (s : Spot) (t : List Spot). s ∷ t) b h.2)
    ]

pub covers_snoc : (site : ℕ) (bs : List Spot) (q : Spot) → Covers site (bs ++ q ∷ []) ↔ (Covers site bs ⊎ IsCovered site bs q)
covers_snoc site bs q = (
  λ h. elim (snoc_split bs (h.before ++ (h.cover ∷ h.between)) h.after q h.read (h.in_order ∙ sym (append_assoc h.before (h.cover ∷ h.between) (h.read ∷ h.after)))) [
    | inl x ↦
        (let at : IsCovered site bs h.read = (h.reads, h.site_is, h.plain, record { before = h.before; cover = h.cover; between = h.between; in_order = x.0; same = (h.variable, h.same); kept = h.kept }) in
        inr (subst (IsCovered site bs) (sym x.1) at))
    | inr x ↦ inl (record {
      before = h.before;
      cover = h.cover;
      between = h.between;
      read = h.read;
      after = x.0;
      in_order = x.2 ∙ append_assoc h.before (h.cover ∷ h.between) (h.read ∷ x.0);
      reads = h.reads;
      site_is = h.site_is;
      variable = h.variable;
      same = h.same;
      plain = h.plain;
      kept = h.kept;
    })
  ],
  λ x. elim x [
    | inl h ↦ record {
      before = h.before;
      cover = h.cover;
      between = h.between;
      read = h.read;
      after = h.after ++ q ∷ [];
      in_order = ap (λ (l : List Spot). l ++ q ∷ []) h.in_order ∙ (append_assoc h.before (h.cover ∷ (h.between ++ (h.read ∷ h.after))) (q ∷ []) ∙ ap (λ (l : List Spot). h.before ++ (h.cover ∷ l)) (append_assoc h.between (h.read ∷ h.after) (q ∷ [])));
      reads = h.reads;
      site_is = h.site_is;
      variable = h.variable;
      same = h.same;
      plain = h.plain;
      kept = h.kept;
    }
    | inr c ↦
        (let h = c.3 in record {
          before = h.before;
          cover = h.cover;
          between = h.between;
          read = q;
          after = [];
          in_order = ap (λ (l : List Spot). l ++ q ∷ []) h.in_order ∙ append_assoc h.before (h.cover ∷ h.between) (q ∷ []);
          reads = c.0;
          site_is = c.1;
          variable = h.same.0;
          same = h.same.1;
          plain = c.2;
          kept = h.kept;
        })
  ],
)

nothing_there : (before after : List Spot) (c : Spot) → [] ≡ before ++ (c ∷ after) → ⊥
nothing_there [] after c e = cc
nothing_there (b ∷ before) after c e = cc

pub covers_none : (site : ℕ) → Covers site [] → ⊥
covers_none site h = nothing_there h.before (h.between ++ (h.read ∷ h.after)) h.cover h.in_order

-- more references before
pub covers_after : (site : ℕ) (xs bs : List Spot) → Covers site bs → Covers site (xs ++ bs)
covers_after site xs bs h = record {
  before = xs ++ h.before;
  cover = h.cover;
  between = h.between;
  read = h.read;
  after = h.after;
  in_order = ap (λ (l : List Spot). xs ++ l) h.in_order ∙ sym (append_assoc xs h.before (h.cover ∷ (h.between ++ (h.read ∷ h.after))));
  reads = h.reads;
  site_is = h.site_is;
  variable = h.variable;
  same = h.same;
  plain = h.plain;
  kept = h.kept;
}

-- the run up to one reference more
pub run_more : (site : ℕ) (ms : List Mention) (n : ℕ) (m : Mention) (New Old First : Type 0) → n < length ms → m ≡ get_or ms n m → (New ↔ (Old ⊎ IsCovered site (map spot_of (take n ms)) (spot_of m))) →
    (Old ↔ (First ⊎ Covers site (map spot_of (take n ms)))) → New ↔ (First ⊎ Covers site (map spot_of (take (n + 1) ms)))
run_more site ms n m New Old First lt is f h =
    let bs = map spot_of (take n ms) in
    let q = spot_of m in
    let s = covers_snoc site bs q in
    let e : map spot_of (take (n + 1) ms) ≡ bs ++ q ∷ [] = ap (map spot_of) grown ∙ map-append spot_of (take n ms) (m ∷ []) in
    subst (λ (l : List Spot). New ↔ (First ⊎ Covers site l)) (sym e) (
      λ x. elim (f.0 x) [ inl o ↦ elim (h.0 o) [ inl a ↦ inl a | inr c ↦ inr (s.1 (inl c)) ] | inr c ↦ inr (s.1 (inr c)) ],
      λ x. elim x [ inl a ↦ f.1 (inl (h.1 (inl a))) | inr c ↦ elim (s.0 c) [ inl d ↦ f.1 (inl (h.1 (inr d))) | inr d ↦ f.1 (inr d) ] ],
    )
  where
    grown : take (n + 1) ms ≡ take n ms ++ m ∷ []
    grown = rw (add-one, take-suc ms n m lt) (ap (λ (b : Mention). take n ms ++ b ∷ []) (sym is))

pub run_none : (site : ℕ) (First : Type 0) → First ↔ (First ⊎ Covers site [])
run_none site First = (λ a. inl a, λ x. elim x [ inl a ↦ a | inr c ↦ absurd (covers_none site c) ])

pub run_all : (site : ℕ) (ms : List Mention) (n : ℕ) (New First : Type 0) → length ms ≤ n → (New ↔ (First ⊎ Covers site (map spot_of (take n ms)))) → New ↔ (First ⊎ Covers site (map spot_of ms))
run_all site ms n New First le h = subst (λ (l : List Mention). New ↔ (First ⊎ Covers site (map spot_of l))) (take_all n ms le) h

pub mention_added : (old new : List Mention) (m : Mention) → new ≡ old ++ m ∷ [] → map spot_of new ≡ map spot_of old ++ spot_of m ∷ []
mention_added old new m e = ap (map spot_of) e ∙ map-append spot_of old (m ∷ [])

pub mapped : (ms : List Mention) (n : ℕ) (m : Mention) → n < length ms → m ≡ get_or ms n m → (n < length (map spot_of ms)) × (spot_of m ≡ get_or (map spot_of ms) n (spot_of m))
mapped ms n m lt is = (omega (arith, lt, length-map ms spot_of), ap spot_of is ∙ sym (get_or-map spot_of ms n m (spot_of m) lt))

-- ---- statements
nil_right : (xs : List Spot) → xs ++ [] ≡ xs
nil_right [] = refl
nil_right (x ∷ xs) = ap (λ (l : List Spot). x ∷ l) (nil_right xs)

run_first : (site : ℕ) (ss : List Tree) → Covers site (straight (stmts_of ss)) → HasRun (Covers site) (stmts_of ss)
run_first site [] h = absurd (covers_none site h)
run_first site (s ∷ ss) h = inl h

goes_on : (site : ℕ) (bs r st : List Spot) (R : Type 0) → (⊥ ⊎ (Covers site ((bs ++ r) ++ st) ⊎ R)) ↔ (Covers site (bs ++ (r ++ st)) ⊎ (Covers site (r ++ st) ⊎ (⊥ ⊎ R)))
goes_on site bs r st R = (
  λ x. elim x [ inl b ↦ absurd b | inr (inl c) ↦ inl (subst (Covers site) (append_assoc bs r st) c) | inr (inr y) ↦ inr (inr (inr y)) ],
  λ x. elim x [
    | inl c ↦ inr (inl (subst (Covers site) (sym (append_assoc bs r st)) c))
    | inr (inl c) ↦ inr (inl (subst (Covers site) (sym (append_assoc bs r st)) (covers_after site bs (r ++ st) c)))
    | inr (inr (inl b)) ↦ absurd b
    | inr (inr (inr y)) ↦ inr (inr y)
  ],
)

is_ended : (site : ℕ) (bs st : List Spot) (A R : Type 0) → (Covers site st → R) → ((Covers site bs ⊎ A) ⊎ (Covers site st ⊎ R)) ↔ (Covers site (bs ++ []) ⊎ (Covers site [] ⊎ (A ⊎ R)))
is_ended site bs st A R f = (
  λ x. elim x [
    | inl (inl c) ↦ inl (subst (Covers site) (sym (nil_right bs)) c)
    | inl (inr a) ↦ inr (inr (inl a))
    | inr (inl c) ↦ inr (inr (inr (f c)))
    | inr (inr y) ↦ inr (inr (inr y))
  ],
  λ x. elim x [
    | inl c ↦ inl (inl (subst (Covers site) (nil_right bs) c))
    | inr (inl c) ↦ absurd (covers_none site c)
    | inr (inr (inl a)) ↦ inl (inr a)
    | inr (inr (inr y)) ↦ inr (inr y)
  ],
)

stmt_step : (site : ℕ) (a rest : Stmt) (bs : List Spot) → (Covers site (straight rest) → HasRun (Covers site) rest) → (EndsRun site a bs ⊎ IsOpen site (run_after a bs) rest) ↔ IsOpen site bs (Seq a rest)
stmt_step site Skip rest bs f = is_ended site bs (straight rest) ⊥ (HasRun (Covers site) rest) f
stmt_step site (Seq a b) rest bs f = is_ended site bs (straight rest) (HasRun (Covers site) (Seq a b)) (HasRun (Covers site) rest) f
stmt_step site (Assign line t value) rest bs f = goes_on site bs (refs outside (Assign line t value)) (straight rest) (HasRun (Covers site) rest)
stmt_step site (If arms) rest bs f = is_ended site bs (straight rest) (HasRun (Covers site) arms) (HasRun (Covers site) rest) f
stmt_step site (PlainArm line cond body other) rest bs f = is_ended site bs (straight rest) (HasRun (Covers site) body ⊎ HasRun (Covers site) other) (HasRun (Covers site) rest) f
stmt_step site (Do k first body again bump) rest bs f = is_ended site bs (straight rest) (HasRun (Covers site) body) (HasRun (Covers site) rest) f
stmt_step site (Doall k number slots body) rest bs f = is_ended site bs (straight rest) (HasRun (Covers site) body) (HasRun (Covers site) rest) f
stmt_step site (Call line number unit actuals) rest bs f = is_ended site bs (straight rest) ⊥ (HasRun (Covers site) rest) f
stmt_step site (Print line items) rest bs f = goes_on site bs (refs outside (Print line items)) (straight rest) (HasRun (Covers site) rest)
stmt_step site (Read line targets) rest bs f = goes_on site bs (refs outside (Read line targets)) (straight rest) (HasRun (Covers site) rest)

pub statements_none : (site : ℕ) (ss : List Tree) (First : Type 0) → (First ⊎ IsOpen site [] (stmts_of ss)) ↔ (First ⊎ HasRun (Covers site) (stmts_of ss))
statements_none site ss First = (
  λ x. elim x [ inl a ↦ inl a | inr (inl c) ↦ inr (run_first site ss c) | inr (inr h) ↦ inr h ],
  λ x. elim x [ inl a ↦ inl a | inr h ↦ inr (inr h) ],
)

pub statements_more : (site : ℕ) (ss : List Tree) (i : ℕ) (s : Tree) (bs new : List Spot) (New Old Whole : Type 0) → i < length ss → s ≡ get_or ss i s → new ≡ run_after (stmt_of s) bs → (New ↔ (Old ⊎ EndsRun site (stmt_of s) bs)) →
    ((Old ⊎ IsOpen site bs (stmts_of (drop i ss))) ↔ Whole) → (New ⊎ IsOpen site new (stmts_of (drop (i + 1) ss))) ↔ Whole
statements_more site ss i s bs new New Old Whole lt is e f h = subst (λ (l : List Spot). (New ⊎ IsOpen site l (stmts_of (drop (i + 1) ss))) ↔ Whole) (sym e) (
  λ x. elim x [
    | inl n ↦ elim (f.0 n) [ inl o ↦ g.0 (inl o) | inr c ↦ g.0 (inr (step.0 (inl c))) ]
    | inr o ↦ g.0 (inr (step.0 (inr o)))
  ],
  λ a. elim (g.1 a) [
    | inl o ↦ inl (f.1 (inl o))
    | inr c ↦ elim (step.1 c) [ inl d ↦ inl (f.1 (inr d)) | inr o ↦ inr o ]
  ],
)
  where
    left : drop i ss ≡ s ∷ drop (i + 1) ss
    left = rw (add-one, drop-cons ss i s) (ap (λ (b : Tree). b ∷ drop (suc i) ss) (sym is))

    g : (Old ⊎ IsOpen site bs (Seq (stmt_of s) (stmts_of (drop (i + 1) ss)))) ↔ Whole
    g = subst (λ (l : List Tree). (Old ⊎ IsOpen site bs (stmts_of l)) ↔ Whole) left h

    step : (EndsRun site (stmt_of s) bs ⊎ IsOpen site (run_after (stmt_of s) bs) (stmts_of (drop (i + 1) ss))) ↔ IsOpen site bs (Seq (stmt_of s) (stmts_of (drop (i + 1) ss)))
    step = stmt_step site (stmt_of s) (stmts_of (drop (i + 1) ss)) bs (run_first site (drop (i + 1) ss))

pub statements_all : (site : ℕ) (ss : List Tree) (i : ℕ) (bs : List Spot) (Final New Whole : Type 0) → length ss ≤ i → (Final ↔ (New ⊎ Covers site bs)) → ((New ⊎ IsOpen site bs (stmts_of (drop i ss))) ↔ Whole) → Final ↔ Whole
statements_all site ss i bs Final New Whole le f h = (
  λ x. elim (f.0 x) [ inl n ↦ g.0 (inl n) | inr c ↦ g.0 (inr (inl (subst (Covers site) (sym (nil_right bs)) c))) ],
  λ a. elim (g.1 a) [ inl n ↦ f.1 (inl n) | inr (inl c) ↦ f.1 (inr (subst (Covers site) (nil_right bs) c)) | inr (inr b) ↦ absurd b ],
)
  where
    g : (New ⊎ IsOpen site bs Skip) ↔ Whole
    g = subst (λ (l : List Tree). (New ⊎ IsOpen site bs (stmts_of l)) ↔ Whole) (drop_all i ss le) h

-- ---- arms, and the statements that end a run
pub arms_more : (site : ℕ) (arms : List Arm) (i : ℕ) (a : Arm) (other : Stmt) (New Old Whole : Type 0) → i < length arms → a ≡ get_or arms i a → (New ↔ (Old ⊎ HasRun (Covers site) (stmts_of a.body))) →
    ((Old ⊎ HasRun (Covers site) (arms_of (drop i arms) other)) ↔ Whole) → (New ⊎ HasRun (Covers site) (arms_of (drop (i + 1) arms) other)) ↔ Whole
arms_more site arms i a other New Old Whole lt is f h = (
  λ x. elim x [
    | inl n ↦ elim (f.0 n) [ inl o ↦ g.0 (inl o) | inr c ↦ g.0 (inr (inl c)) ]
    | inr o ↦ g.0 (inr (inr o))
  ],
  λ y. elim (g.1 y) [ inl o ↦ inl (f.1 (inl o)) | inr (inl c) ↦ inl (f.1 (inr c)) | inr (inr o) ↦ inr o ],
)
  where
    g : (Old ⊎ (HasRun (Covers site) (stmts_of a.body) ⊎ HasRun (Covers site) (arms_of (drop (i + 1) arms) other))) ↔ Whole
    g = subst (λ (s : Stmt). (Old ⊎ HasRun (Covers site) s) ↔ Whole) (first_arm arms i a other lt is) h

pub arms_all : (site : ℕ) (arms : List Arm) (i : ℕ) (other : Stmt) (New Whole : Type 0) → length arms ≤ i → ((New ⊎ HasRun (Covers site) (arms_of (drop i arms) other)) ↔ Whole) → (New ⊎ HasRun (Covers site) other) ↔ Whole
arms_all site arms i other New Whole le h = subst (λ (l : List Arm). (New ⊎ HasRun (Covers site) (arms_of l other)) ↔ Whole) (drop_all i arms le) h

pub if_ended : (C D E F B A O : Type 0) → (D ↔ (C ⊎ B)) → ((E ⊎ O) ↔ (D ⊎ A)) → (F ↔ (E ⊎ O)) → F ↔ (C ⊎ (B ⊎ A))
if_ended C D E F B A O f g h = (
  λ x. elim (g.0 (h.0 x)) [ inl d ↦ elim (f.0 d) [ inl c ↦ inl c | inr b ↦ inr (inl b) ] | inr a ↦ inr (inr a) ],
  λ x. h.1 (g.1 (elim x [ inl c ↦ inl (f.1 (inl c)) | inr (inl b) ↦ inl (f.1 (inr b)) | inr (inr a) ↦ inr a ])),
)

-- ---- units
pub units_more : (site : ℕ) (us : List ProgramUnit) (i : ℕ) (u : ProgramUnit) (New Old Whole : Type 0) → i < length us → u ≡ get_or us i u → (New ↔ (Old ⊎ HasRun (Covers site) (stmts_of u.body))) →
    ((Old ⊎ HasRunIn site (drop i us)) ↔ Whole) → (New ⊎ HasRunIn site (drop (i + 1) us)) ↔ Whole
units_more site us i u New Old Whole lt is f h = (
  λ x. elim x [
    | inl n ↦ elim (f.0 n) [ inl o ↦ g.0 (inl o) | inr c ↦ g.0 (inr (inl c)) ]
    | inr o ↦ g.0 (inr (inr o))
  ],
  λ y. elim (g.1 y) [ inl o ↦ inl (f.1 (inl o)) | inr (inl c) ↦ inl (f.1 (inr c)) | inr (inr o) ↦ inr o ],
)
  where
    left : drop i us ≡ u ∷ drop (i + 1) us
    left = rw (add-one, drop-cons us i u) (ap (λ (b : ProgramUnit). b ∷ drop (suc i) us) (sym is))

    g : (Old ⊎ (HasRun (Covers site) (stmts_of u.body) ⊎ HasRunIn site (drop (i + 1) us))) ↔ Whole
    g = subst (λ (l : List ProgramUnit). (Old ⊎ HasRunIn site l) ↔ Whole) left h

pub units_all : (site : ℕ) (us : List ProgramUnit) (i : ℕ) (New Whole : Type 0) → length us ≤ i → ((New ⊎ HasRunIn site (drop i us)) ↔ Whole) → New ↔ Whole
units_all site us i New Whole le h = (λ n. g.0 (inl n), λ a. elim (g.1 a) [ inl n ↦ n | inr b ↦ absurd b ])
  where
    g : (New ⊎ ⊥) ↔ Whole
    g = subst (λ (l : List ProgramUnit). (New ⊎ HasRunIn site l) ↔ Whole) (drop_all i us le) h

same_count : (before : ℕ) (s : Stmt) → calls_in (calls_numbered before s) ≡ calls_in s
same_count before Skip = refl
same_count before (Seq a b) = ap₂ (λ (m n : ℕ). m + n) (same_count before a) (same_count (before + calls_in a) b)
same_count before (Assign line t value) = refl
same_count before (If arms) = same_count before arms
same_count before (PlainArm line cond body other) = ap₂ (λ (m n : ℕ). m + n) (same_count before body) (same_count (before + calls_in body) other)
same_count before (Do k first body again bump) = same_count before body
same_count before (Doall k number slots body) = same_count before body
same_count before (Call line number unit actuals) = refl
same_count before (Print line items) = refl
same_count before (Read line targets) = refl

abbrev covers_in : (site before : ℕ) → List ProgramUnit → Type 0
covers_in site before us = (u : ℕ) × HasRun (Covers site) (body_in (slice_get (units_numbered before (map unit_of us)) u))

one_unit_more : (site before : ℕ) (x : ProgramUnit) (us : List ProgramUnit) → calls_numbered before (stmts_of x.body) ≡ stmts_of x.body → (HasRunIn site us ↔ covers_in site (before + calls_in (stmts_of x.body)) us) →
    HasRunIn site (x ∷ us) ↔ covers_in site before (x ∷ us)
one_unit_more site before x us same more = (
  λ h. elim h [ inl a ↦ (0, subst (HasRun (Covers site)) (sym same) a) | inr a ↦ (let y = more.0 a in (suc y.0, y.1)) ],
  λ h. back h.0 h.1,
)
  where
    back : (u : ℕ) → HasRun (Covers site) (body_in (slice_get (units_numbered before (map unit_of (x ∷ us))) u)) → HasRunIn site (x ∷ us)
    back zero h = inl (subst (HasRun (Covers site)) same h)
    back (suc u) h = inr (more.1 (u, h))

units_cover : (site before : ℕ) (us : List ProgramUnit) → ((u : ℕ) → calls_in (body_in (slice_get (units_numbered before (map unit_of us)) u)) ≡ 0) → HasRunIn site us ↔ covers_in site before us
units_cover site before [] none = (λ b. absurd b, λ h. h.1)
units_cover site before (x ∷ us) none =
    one_unit_more site before x us (same_without_calls before (stmts_of x.body) (sym (same_count before (stmts_of x.body)) ∙ none 0)) (units_cover site (before + calls_in (stmts_of x.body)) us (λ u. none (suc u)))

pub are_covered : (p : Program) (room : ℕ) (old bits : List Bool) → IsResolved (program_of p) → HasNoCall (program_of p) → old ≡ replicate room false →
    ((site : ℕ) → site < length old → IsIn bits site ↔ (IsIn old site ⊎ HasRunIn site p.units)) → AreCovered (program_of p) room bits
are_covered p room old bits r n e h site lt =
    let c = units_cover site 0 p.units (uncalled (program_of p) r n) in
    let f = h site (omega (arith, lt, ap length e ∙ length-replicate room false)) in (
      λ x. elim (f.0 x) [ inl o ↦ absurd (no_bit room site (subst (λ (b : List Bool). IsIn b site) e o)) | inr y ↦ c.0 y ],
      λ y. f.1 (inr (c.1 y)),
    )

-- a list that a slice of it was written over, as a whole
pub whole_bits : (new old : List Bool) (n : ℕ) → length new ≡ length old → length old ≡ n → take n (new ++ drop (length new) old) ≡ new
whole_bits new old n e f = rw (drop_all (length new) old (omega arith), append-nil) (take_all n new (omega arith))

pub on_ok : {A E : Type 0} (r : Result A E) (P Q : Type 0) → (P → Q) → OnOk r P → OnOk r Q
on_ok (Ok x) P Q f h = f h
on_ok (Err e) P Q f h = h

pub more_than_none : (xs ys : List Code) → length ys < 1 → 1 ≤ length xs → SubsAreSame (exprs_of xs) (exprs_of ys) → ⊥
more_than_none [] ys below above h = absurd (omega (arith, above))
more_than_none (x ∷ xs) [] below above h = cc
more_than_none (x ∷ xs) (y ∷ ys) below above h = absurd (omega (arith, below))
