-- Statements one after another, as units are read.
use Rattle.std.proofs.Common.{◌≡◌, ℕ, ◌<◌, ◌≤◌, Bool, true, false, cond, ◌&&◌, nat_le, List, [], ◌∷◌, ◌++◌, length, Result, Ok, Err, Option, Some, None, refl, sym, ap, subst, ◌∙◌, append_assoc, arith, inl, inr}
use Rattle.std.proofs.lemmas.List.{append-nil}
use Rattle.cdc_tree.specs.Forms.{PStatement}
use Rattle.cdc_tree.specs.declared.unit.UnitText.{UnitText}
use Rattle.cdc_nest.specs.declared.blocks.Blocks.{Blocks}
use Rattle.cdc_nest.specs.declared.blocks.Blocks.TheVariants as d
use Rattle.cdc_nest.specs.declared.blocks.Progress.{Progress}
use Rattle.cdc_tree.specs.declared.refusal.ParseRefusal.{ParseRefusal}
use Rattle.cdc_tree.specs.declared.refusal.ParseRefusal.TheVariants.{NotAStatement, Depth, Nesting, Memory}
use Rattle.cdc_tree.specs.Options.{◌>>=◌}
use Rattle.cdc_nest.specs.Roles.{role, opens}
use Rattle.cdc_tree.specs.Units.{PUnit}
use Rattle.cdc_tree.specs.Order.{Each, InOrder}
use Rattle.cdc_nest.specs.Units.{Begins, WellNested, AreWritten, mains, first_deep, blocks_by, last_from, last_line, IsNestingAt, IsDeepBlockAt, AreNested}
use Rattle.cdc_nest.specs.Nesting.{POpen, Between, Within, opened_so, has_main, step, run, start, IsLow, deep_from, counted, IsNotPast, Next, Advances, IsEnded, IsFinished}
use Rattle.cdc_tree.proofs.Options.{some, some_is}
use Rattle.cdc_tree.proofs.Order.{each_append, each_map, ascending_after, ascending_before}
use Rattle.cdc_nest.proofs.Grown.{run_grown, run_append, has_main_none, no_mains}
use Rattle.cdc_nest.proofs.Taken.{taken_begins, begins_taken, nested_taken, start_valid}

-- ---- lists of statements

pub nil_of : {A : Type 0} (ss : List A) → length ss ≡ 0 → ss ≡ []
nil_of [] e = refl
nil_of (s ∷ ss) e = absurd (omega (arith, e))

-- ---- the first 65th block

deep_cond : (t : Bool) (a b : Blocks) (ss : List PStatement) → deep_from (cond t a b) ss ≡ cond t (deep_from a ss) (deep_from b ss)
deep_cond true a b ss = refl
deep_cond false a b ss = refl

deep_step : (b : Blocks) (s : PStatement) (ss : List PStatement) → deep_from b (s ∷ ss) ≡ deep_from (counted b (role s.form) s.place.line) ss
deep_step (d.Open n) s ss = sym (deep_cond (opens (role s.form) && nat_le 64 n) (d.Over s.place.line) (d.Open (blocks_by (role s.form) n)) ss)
deep_step (d.Over l) s ss = refl

-- a 65th block is opened on a line of these statements
deep_line : (ss : List PStatement) (n k m : ℕ) → Each (λ t. k ≤ t.place.line) ss → first_deep n ss ≡ Some m → k ≤ m
deep_line [] n k m h e = absurd cc
deep_line (s ∷ ss) n k m h e = by_test (opens (role s.form) && nat_le 64 n) (deep_line ss (blocks_by (role s.form) n) k m h.1) e
  where
    by_test : (t : Bool) → (first_deep (blocks_by (role s.form) n) ss ≡ Some m → k ≤ m) → cond t (some s.place.line) (first_deep (blocks_by (role s.form) n) ss) ≡ Some m → k ≤ m
    by_test true f e2 = subst (λ (x : ℕ). k ≤ x) (some_is s.place.line m e2) h.0
    by_test false f e2 = f e2

-- ---- the loop

-- the statements that were read are not past the line of a 65th block
abbrev UpTo : Blocks → List PStatement → Type 0
UpTo (d.Open n) before = Unit {0}
UpTo (d.Over l) before = Each (λ t. t.place.line ≤ l) before

up_to_cond : (t : Bool) (n line : ℕ) (before : List PStatement) → Each (λ t. t.place.line ≤ line) before → UpTo (cond t (d.Over line) (d.Open n)) before
up_to_cond true n line before h = h
up_to_cond false n line before h = tt

up_to_step : (b : Blocks) (before after : List PStatement) (s : PStatement) → InOrder (before ++ (s ∷ after)) → IsNotPast b s.place.line → UpTo b before → UpTo (counted b (role s.form) s.place.line) (before ++ (s ∷ []))
up_to_step (d.Open n) before after s o p h =
    up_to_cond (opens (role s.form) && nat_le 64 n) (blocks_by (role s.form) n) s.place.line (before ++ (s ∷ []))
    (each_append (λ t. t.place.line ≤ s.place.line) before (s ∷ []) (ascending_before (λ t. t.place.line) before s after o) (omega arith, tt))
up_to_step (d.Over l) before after s o p h = each_append (λ t. t.place.line ≤ l) before (s ∷ []) h (p, tt)

pub record Goes (items rest : List PStatement) (p : Progress) : Type 0 where
  pub before : List PStatement
  pub parts : items ≡ before ++ rest
  pub ran : run start before ≡ Some (opened_so p.open)
  pub low : IsLow p.blocks
  pub deep : first_deep 0 items ≡ deep_from p.blocks rest
  pub last : last_line items ≡ last_from p.last rest
  pub up_to : UpTo p.blocks before

pub goes_start : (items : List PStatement) (p : Progress) → opened_so p.open ≡ start → p.blocks ≡ d.Open 0 → p.last ≡ 1 → Goes items items p
goes_start items p o b l = record {
  before = [];
  parts = refl;
  ran = ap some (sym o);
  low = subst IsLow (sym b) (omega arith);
  deep = ap (λ (x : Blocks). deep_from x items) (sym b);
  last = ap (λ (x : ℕ). last_from x items) (sym l);
  up_to = subst (λ (x : Blocks). UpTo x []) (sym b) tt;
}

-- the run over one statement more
run_more : (before : List PStatement) (s : PStatement) (o : POpen) → run start before ≡ Some o → run start (before ++ (s ∷ [])) ≡ (step o s >>= λ p. some p)
run_more before s o e = run_append before (s ∷ []) start ∙ ap (λ (x : Option POpen). x >>= λ p. run p (s ∷ [])) e

pub goes_on : (items rest after : List PStatement) (s : PStatement) (p next : Progress) → InOrder items → Goes items rest p → rest ≡ s ∷ after → Next p s next → Goes items after next
goes_on items rest after s p next o g e n =
    let parts : items ≡ g.before ++ (s ∷ after) = g.parts ∙ ap (λ (z : List PStatement). g.before ++ z) e in
    record {
      before = g.before ++ (s ∷ []);
      parts = parts ∙ sym (append_assoc g.before (s ∷ []) after);
      ran = run_more g.before s (opened_so p.open) g.ran ∙ ap (λ (x : Option POpen). x >>= λ q. some q) n.taken;
      low = n.low;
      deep = g.deep ∙ ap (deep_from p.blocks) e ∙ deep_step p.blocks s after ∙ ap (λ (x : Blocks). deep_from x after) (sym n.blocks_are);
      last = g.last ∙ ap (last_from p.last) e ∙ ap (λ (x : ℕ). last_from x after) (sym n.last_is);
      up_to = subst (λ (x : Blocks). UpTo x (g.before ++ (s ∷ []))) (sym n.blocks_are) (up_to_step p.blocks g.before after s (subst InOrder parts o) n.not_past g.up_to);
    }

-- no 65th block before the line of this statement
not_before : (b : Blocks) (s : PStatement) (after : List PStatement) (m : ℕ) → Each (λ t. s.place.line ≤ t.place.line) after → IsNotPast b s.place.line → deep_from b (s ∷ after) ≡ Some m → s.place.line ≤ m
not_before (d.Open n) s after m later p e = deep_line (s ∷ after) n s.place.line m (omega arith, later) e
not_before (d.Over l) s after m later p e = subst (λ (x : ℕ). s.place.line ≤ x) (some_is l m e) p

pub goes_misfit : (items rest after : List PStatement) (s : PStatement) (p : Progress) (n : ℕ) → InOrder items → Goes items rest p → rest ≡ s ∷ after → (n ≡ s.place.line) × (step (opened_so p.open) s ≡ None) × IsNotPast p.blocks s.place.line → IsNestingAt items n
goes_misfit items rest after s p n o g e h =
    let parts : items ≡ g.before ++ (s ∷ after) = g.parts ∙ ap (λ (z : List PStatement). g.before ++ z) e in
    let later = ascending_after (λ t. t.place.line) g.before s after (subst InOrder parts o) in
    let none : run start (g.before ++ (s ∷ [])) ≡ None = run_more g.before s (opened_so p.open) g.ran ∙ ap (λ (x : Option POpen). x >>= λ q. some q) h.1 in
    record {
      found = inl (record {
        before = g.before;
        misfit = s;
        after = after;
        parts = parts;
        fits_before = taken_begins g.before (opened_so p.open) g.ran;
        fits_none = λ b. not_taken (g.before ++ (s ∷ [])) b none;
        number_is = sym h.0;
      });
      least = λ m deep. subst (λ (x : ℕ). x ≤ m) (sym h.0) (not_before p.blocks s after m later h.2 (sym (g.deep ∙ ap (deep_from p.blocks) e) ∙ deep));
    }
  where
    not_taken : (ss : List PStatement) → Begins ss → run start ss ≡ None → ⊥
    not_taken ss b none = let t = begins_taken ss b in (let clash : some t.0 ≡ None = sym t.1 ∙ none in absurd cc)

over_up_to : (b : Blocks) (l : ℕ) (before : List PStatement) → b ≡ d.Over l → UpTo b before → Each (λ t. t.place.line ≤ l) before
over_up_to b l before e h = subst (λ (x : Blocks). UpTo x before) e h

pub goes_deep : (items rest after : List PStatement) (s : PStatement) (p : Progress) (l : ℕ) → InOrder items → Goes items rest p → rest ≡ s ∷ after → (p.blocks ≡ d.Over l) × (l < s.place.line) → IsDeepBlockAt items l
goes_deep items rest after s p l o g e h =
    let parts : items ≡ g.before ++ (s ∷ after) = g.parts ∙ ap (λ (z : List PStatement). g.before ++ z) e in
    let later = ascending_after (λ t. t.place.line) g.before s after (subst InOrder parts o) in
    record {
      deep = g.deep ∙ ap (λ (x : Blocks). deep_from x rest) h.0;
      before = g.before;
      after = s ∷ after;
      parts = parts;
      up_to = over_up_to p.blocks l g.before h.0 g.up_to;
      beyond = (h.1, each_map (λ t. s.place.line ≤ t.place.line) (λ t. l < t.place.line) (λ t le. omega (arith, h.1, le)) after later);
      fits = taken_begins g.before (opened_so p.open) g.ran;
      whole = λ none. absurd cc;
    }

pub goes_refused : (items rest after : List PStatement) (s : PStatement) (p : Progress) (r : ParseRefusal) → InOrder items → Goes items rest p → rest ≡ s ∷ after → Advances p s (Err r) → AreNested items (Err r)
goes_refused items rest after s p (Nesting n) o g e h = goes_misfit items rest after s p n o g e h
goes_refused items rest after s p (Depth n) o g e h = goes_deep items rest after s p n o g e h
goes_refused items rest after s p (NotAStatement n) o g e h = absurd h
goes_refused items rest after s p Memory o g e h = tt

-- ---- the end

one_main_there : (us : List PUnit) → has_main us ≡ true → mains us ≤ 1 → mains us ≡ 1
one_main_there us h few =
    let none_at : (mains us ≡ 0 → ⊥) = λ zero_is. clash (sym h ∙ no_mains us zero_is) in
    omega (arith, few, none_at)
  where
    clash : true ≡ false → ⊥
    clash e = absurd cc

written_so : (items : List PStatement) (us : List PUnit) → run start items ≡ Some (Between us) → has_main us ≡ true → AreWritten us items
written_so items us e h =
    let g = run_grown items start (Between us) e in
    let v = g.valid start_valid in
    record { are_units = v.units; one_main = one_main_there us h v.few; parts = sym g.text }

cut_short : (items : List PStatement) (o : POpen) → run start items ≡ Some o → ((us : List PUnit) → o ≡ Between us → has_main us ≡ false) → WellNested items → ⊥
cut_short items o e h w =
    let again = nested_taken items w.0 w.1 in
    let same : o ≡ Between w.0 = some_is o (Between w.0) (sym e ∙ again) in
    let none = has_main_none w.0 (h w.0 same) in
    absurd (omega (arith, none, w.1.one_main))

last_up_to : (items : List PStatement) (n l : ℕ) → Each (λ t. t.place.line ≤ l) items → n ≤ l → last_from n items ≤ l
last_up_to [] n l h le = le
last_up_to (s ∷ items) n l h le = last_up_to items s.place.line l h.1 h.0

last_deep : (items : List PStatement) (m l : ℕ) → Each (λ t. t.place.line ≤ l) items → first_deep 0 items ≡ Some m → last_line items ≤ l
last_deep [] m l h e = absurd cc
last_deep (s ∷ items) m l h e = last_up_to items s.place.line l h.1 h.0

not_over : (b : Blocks) (items : List PStatement) (m : ℕ) → UpTo b items → first_deep 0 items ≡ deep_from b [] → first_deep 0 items ≡ Some m → last_line items ≤ m
not_over (d.Open n) items m h e deep = (let clash : None ≡ some m = sym e ∙ deep in absurd cc)
not_over (d.Over l) items m h e deep = subst (λ (x : ℕ). last_line items ≤ x) (some_is l m (sym e ∙ deep)) (last_deep items m l h deep)

record Whole (items : List PStatement) (p : Progress) : Type 0 where
  ran : run start items ≡ Some (opened_so p.open)
  deep : first_deep 0 items ≡ deep_from p.blocks []
  last : last_line items ≡ p.last
  up_to : UpTo p.blocks items

whole_of : (items rest : List PStatement) (p : Progress) → Goes items rest p → rest ≡ [] → Whole items p
whole_of items rest p g e =
    let same : items ≡ g.before = g.parts ∙ ap (λ (z : List PStatement). g.before ++ z) e ∙ append-nil g.before in
    record {
      ran = ap (run start) same ∙ g.ran;
      deep = g.deep ∙ ap (deep_from p.blocks) e;
      last = g.last ∙ ap (last_from p.last) e;
      up_to = subst (UpTo p.blocks) (sym same) g.up_to;
    }

ended_early : (items : List PStatement) (p : Progress) (o : POpen) (r : Result (List UnitText) ParseRefusal) → Whole items p → opened_so p.open ≡ o → ((us : List PUnit) → o ≡ Between us → has_main us ≡ false) → r ≡ Err (Nesting p.last) → AreNested items r
ended_early items p o r w is h e =
    let made : IsNestingAt items p.last = record {
      found = inr (record { fits = taken_begins items o (w.ran ∙ ap some is); is_open = cut_short items o (w.ran ∙ ap some is) h; number_is = w.last });
      least = λ m deep. subst (λ (x : ℕ). x ≤ m) w.last (not_over p.blocks items m w.up_to w.deep deep);
    } in
    subst (AreNested items) (sym e) made

each_none : (P : PStatement → Type 0) → Each P []
each_none P = tt

ended_well : (items : List PStatement) (p : Progress) (us : List PUnit) (b : Blocks) (r : Result (List UnitText) ParseRefusal) → Whole items p → opened_so p.open ≡ Between us → has_main us ≡ true → p.blocks ≡ b → IsEnded true us b p.last r → AreNested items r
ended_well items p us (d.Open n) (Ok found) w is h b e =
    (subst (λ (z : List PUnit). AreWritten z items) (sym e) (written_so items us (w.ran ∙ ap some is) h), w.deep ∙ ap (λ (x : Blocks). deep_from x []) b)
ended_well items p us (d.Open n) (Err x) w is h b e = absurd e
ended_well items p us (d.Over l) r w is h b e =
    let made : IsDeepBlockAt items l = record {
      deep = w.deep ∙ ap (λ (x : Blocks). deep_from x []) b;
      before = items;
      after = [];
      parts = sym (append-nil items);
      up_to = over_up_to p.blocks l items b w.up_to;
      beyond = tt;
      fits = taken_begins items (Between us) (w.ran ∙ ap some is);
      whole = λ none. (us, written_so items us (w.ran ∙ ap some is) h);
    } in
    subst (AreNested items) (sym e) made

between_is : (vs us : List PUnit) → Between vs ≡ Between us → vs ≡ us
between_is vs us same = cc

ended_between : (items : List PStatement) (p : Progress) (us : List PUnit) (t : Bool) (r : Result (List UnitText) ParseRefusal) → Whole items p → opened_so p.open ≡ Between us → has_main us ≡ t → IsEnded t us p.blocks p.last r → AreNested items r
ended_between items p us true r w is main h = ended_well items p us p.blocks r w is main refl h
ended_between items p us false r w is main h = ended_early items p (Between us) r w is (λ vs same. ap has_main (between_is vs us (sym same)) ∙ main) h

ended_so : (items : List PStatement) (p : Progress) (o : POpen) (r : Result (List UnitText) ParseRefusal) → Whole items p → opened_so p.open ≡ o → IsFinished o p.blocks p.last r → AreNested items r
ended_so items p (Within us i) r w is h = ended_early items p (Within us i) r w is (λ vs same. absurd cc) h
ended_so items p (Between us) r w is h = ended_between items p us (has_main us) r w is refl h

pub goes_ended : (items rest : List PStatement) (p : Progress) (r : Result (List UnitText) ParseRefusal) → Goes items rest p → rest ≡ [] → IsFinished (opened_so p.open) p.blocks p.last r → AreNested items r
goes_ended items rest p r g e h = ended_so items p (opened_so p.open) r (whole_of items rest p g e) refl h
