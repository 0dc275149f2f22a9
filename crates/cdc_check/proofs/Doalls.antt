-- What statements resolve to has no CALL, and numbers its DOALL loops one after another.
use Rattle.std.proofs.Common.{◌≡◌, inl, inr, ℕ, ◌≤◌, List, [], ◌∷◌, refl, subst, sym, arith}
use Rattle.cdc_prog.specs.declared.expr.Var.{Var}
use Rattle.cdc_prog.specs.Plain as plain
use Rattle.cdc_prog.specs.Uses.{Stores}
use Rattle.cdc_prog.specs.Numbered.{calls_in}
use Rattle.cdc_prog.specs.Iterations.{IsDoallIn}
use Rattle.cdc_prog.specs.Translation.{chain, in_arms}
use Rattle.cdc_tree.specs.Forms.{PShown, PText, PValue, PForm, FAssign, FLogicalIf, FDo, FDoall, FPrint, FRead}
use Rattle.cdc_tree.specs.Units.{PNode, NPlain, NIf, NElse, NLoop, PBody, Empty, More, PBranches, BNone, BMore}
use Rattle.cdc_check.specs.declared.progress.Progress.{Progress}
use Rattle.cdc_check.specs.Threads.{next}
use Rattle.cdc_check.specs.Meanings.{Surroundings, surroundings, var_of, sites_after}
use Rattle.cdc_check.specs.Expressions.{resolved}
use Rattle.cdc_check.specs.Statements.{Resolves, at_site, item, items, controls, with_doall, looped, formed, condition, arm, noded, nodes_in, arms_in}

-- each DOALL of a statement has a number from 1 to this one
abbrev pub Numbers : ℕ → plain.Stmt → Type 0
Numbers last st = (number slots : ℕ) (k : plain.Control) (body : plain.Stmt) → IsDoallIn number k slots body st → (1 ≤ number) × (number ≤ last)

pub numbers_more : (a b : ℕ) (st : plain.Stmt) → a ≤ b → Numbers a st → Numbers b st
numbers_more a b st le h number slots k body is = let low : (1 ≤ number) × (number ≤ a) = h number slots k body is in (low.0, omega (arith, low.1, le))

-- what the body of a DOALL stores the statements store
pub doall_stores : (p : plain.Program) (v : Var) (st : plain.Stmt) (number slots : ℕ) (k : plain.Control) (body : plain.Stmt) → IsDoallIn number k slots body st → Stores p v body → Stores p v st
doall_stores p v (plain.Seq a b) number slots k body (inl i) h = inl (doall_stores p v a number slots k body i h)
doall_stores p v (plain.Seq a b) number slots k body (inr i) h = inr (doall_stores p v b number slots k body i h)
doall_stores p v (plain.If arms) number slots k body i h = doall_stores p v arms number slots k body i h
doall_stores p v (plain.Arm line cond x other) number slots k body (inl i) h = inl (doall_stores p v x number slots k body i h)
doall_stores p v (plain.Arm line cond x other) number slots k body (inr i) h = inr (doall_stores p v other number slots k body i h)
doall_stores p v (plain.Do control first x again bump) number slots k body i h = inr (doall_stores p v x number slots k body i h)
doall_stores p v (plain.Doall control n m x) number slots k body i h = subst (Stores p v) (sym i.3) h
doall_stores p v _ number slots k body i h = absurd i

-- from a number of DOALL loops to another
pub record Counts (from to : ℕ) (st : plain.Stmt) : Type 0 where
  pub calls : calls_in st ≡ 0
  pub more : from ≤ to
  pub numbers : Numbers to st

counts_same : (n : ℕ) (st : plain.Stmt) → calls_in st ≡ 0 → ((number slots : ℕ) (k : plain.Control) (body : plain.Stmt) → IsDoallIn number k slots body st → ⊥) → Counts n n st
counts_same n st calls none = record { calls = calls; more = omega arith; numbers = λ number slots k body is. absurd (none number slots k body is) }

pub counts_both : (a b c : ℕ) (x y : plain.Stmt) → Counts a b x → Counts b c y → Counts a c (plain.Seq x y)
counts_both a b c x y f g =
    let one : calls_in x ≡ 0 = f.calls in
    let two : calls_in y ≡ 0 = g.calls in
    let low : a ≤ b = f.more in
    let high : b ≤ c = g.more in
    record {
      calls = omega arith;
      more = omega arith;
      numbers = λ number slots k body is. elim is [ inl i ↦ numbers_more b c x high f.numbers number slots k body i | inr i ↦ g.numbers number slots k body i ];
    }

items_doalls : (s : Surroundings) (shs : List PShown) (k : Progress) → (items s shs k).1.doalls ≡ k.doalls
items_doalls s [] k = refl
items_doalls s (PText text ∷ shs) k = items_doalls s shs ((item s (PText text) k).1)
items_doalls s (PValue t ∷ shs) k = items_doalls s shs ((item s (PValue t) k).1)

form_counts : (f : PForm) (line : ℕ) (s : Surroundings) (k : Progress) → Counts k.doalls ((formed f line s k).1.doalls) ((formed f line s k).0)
form_counts (FAssign spot value) line s k = counts_same k.doalls ((formed (FAssign spot value) line s k).0) refl (λ number slots c body is. is)
form_counts (FLogicalIf cond place simple) line s k =
    let inner : Counts k.doalls ((formed simple line s (at_site ((resolved s cond k.sites).1) k)).1.doalls) ((formed simple line s (at_site ((resolved s cond k.sites).1) k)).0) = form_counts simple line s (at_site ((resolved s cond k.sites).1) k) in
    let none : calls_in ((formed simple line s (at_site ((resolved s cond k.sites).1) k)).0) ≡ 0 = inner.calls in
    record {
      calls = omega arith;
      more = inner.more;
      numbers = λ number slots c body is. elim is [ inl i ↦ elim i [ inl j ↦ inner.numbers number slots c body j | inr j ↦ absurd j ] | inr i ↦ absurd i ];
    }
form_counts (FPrint shs) line s k =
    subst (λ (n : ℕ). Counts k.doalls n ((formed (FPrint shs) line s k).0)) (sym (items_doalls s shs k)) (counts_same k.doalls ((formed (FPrint shs) line s k).0) refl (λ number slots c body is. is))
form_counts (FRead spots) line s k = counts_same k.doalls ((formed (FRead spots) line s k).0) refl (λ number slots c body is. is)
form_counts _ line s k = counts_same k.doalls (plain.If plain.Skip) refl (λ number slots c body is. is)

-- ---- constructs
next_le : (k : ℕ) → k ≤ next k
next_le k = grind arith

next_some : (k : ℕ) → 1 ≤ next k
next_some k = grind arith

abbrev Inner : Resolves → Type 0
Inner inner = (s : Surroundings) (k : Progress) → Counts k.doalls ((inner s k).1.doalls) (chain ((inner s k).0))

loop_counts : (f : PForm) (line : ℕ) (inner : Resolves) → Inner inner → (s : Surroundings) (k : Progress) → Counts k.doalls ((looped line f inner s k).1.doalls) ((looped line f inner s k).0)
loop_counts (FDo l) line inner h s k =
    let b : Counts k.doalls ((inner s (at_site (sites_after (var_of s l.0) ((controls line s l k.sites).1)) k)).1.doalls) (chain ((inner s (at_site (sites_after (var_of s l.0) ((controls line s l k.sites).1)) k)).0)) =
    h s (at_site (sites_after (var_of s l.0) ((controls line s l k.sites).1)) k) in
    record { calls = b.calls; more = b.more; numbers = b.numbers }
loop_counts (FDoall l ps) line inner h s k =
    let start : Progress = with_doall ((controls line s l k.sites).1) k in
    let now : ℕ = (inner (surroundings s.names (l.0 ∷ ps)) start).1.doalls in
    let b : Counts (next k.doalls) now (chain ((inner (surroundings s.names (l.0 ∷ ps)) start).0)) = h (surroundings s.names (l.0 ∷ ps)) start in
    let first : 1 ≤ next k.doalls = next_some k.doalls in
    let low : k.doalls ≤ next k.doalls = next_le k.doalls in
    let high : next k.doalls ≤ now = b.more in
    record {
      calls = b.calls;
      more = omega arith;
      numbers = λ number slots c body is. (subst (λ (n : ℕ). 1 ≤ n) is.0 first, subst (λ (n : ℕ). n ≤ now) is.0 high);
    }
loop_counts _ line inner h s k = counts_same k.doalls (plain.If plain.Skip) refl (λ number slots c body is. is)

-- arms before what counts so
abbrev ArmCounts : ℕ → ℕ → (plain.Stmt → plain.Stmt) → Type 0
ArmCounts from to a = (last : ℕ) (o : plain.Stmt) → Counts to last o → Counts from last (a o)

arm_counts : (a b : ℕ) (line : ℕ) (cond : plain.Expr) (body : plain.Stmt) → Counts a b body → ArmCounts a b (plain.Arm line cond body)
arm_counts a b line cond body f last o g =
    let one : calls_in body ≡ 0 = f.calls in
    let two : calls_in o ≡ 0 = g.calls in
    let low : a ≤ b = f.more in
    let high : b ≤ last = g.more in
    record {
      calls = omega arith;
      more = omega arith;
      numbers = λ number slots k inner is. elim is [ inl i ↦ numbers_more b last body high f.numbers number slots k inner i | inr i ↦ g.numbers number slots k inner i ];
    }

if_counts : (a b : ℕ) (arms : plain.Stmt) → Counts a b arms → Counts a b (plain.If arms)
if_counts a b arms h = record { calls = h.calls; more = h.more; numbers = h.numbers }

skip_counts : (n : ℕ) → Counts n n plain.Skip
skip_counts n = counts_same n plain.Skip refl (λ number slots c body is. is)

mutual
  node_counts : (n : PNode) (s : Surroundings) (k : Progress) → Counts k.doalls ((noded n s k).1.doalls) ((noded n s k).0)
  node_counts (NPlain st) s k = form_counts st.form st.place.line s k
  node_counts (NIf bs end) s k =
      let m : Progress = (arms_in bs s k).1 in
      if_counts k.doalls m.doalls (in_arms ((arms_in bs s k).0) plain.Skip) (arms_count bs s k m.doalls plain.Skip (skip_counts m.doalls))
  node_counts (NElse bs head other end) s k =
      let m : Progress = (arms_in bs s k).1 in
      let last : ℕ = (nodes_in other s m).1.doalls in
      if_counts k.doalls last (in_arms ((arms_in bs s k).0) (chain ((nodes_in other s m).0))) (arms_count bs s k last (chain ((nodes_in other s m).0)) (body_counts other s m))
  node_counts (NLoop head inner end) s k = loop_counts head.form head.place.line (nodes_in inner) (body_counts inner) s k

  pub body_counts : (b : PBody) (s : Surroundings) (k : Progress) → Counts k.doalls ((nodes_in b s k).1.doalls) (chain ((nodes_in b s k).0))
  body_counts Empty s k = skip_counts k.doalls
  body_counts (More n rest) s k =
      let m : Progress = (noded n s k).1 in
      counts_both k.doalls m.doalls ((nodes_in rest s m).1.doalls) ((noded n s k).0) (chain ((nodes_in rest s m).0)) (node_counts n s k) (body_counts rest s m)

  arms_count : (bs : PBranches) (s : Surroundings) (k : Progress) (last : ℕ) (o : plain.Stmt) → Counts ((arms_in bs s k).1.doalls) last o → Counts k.doalls last (in_arms ((arms_in bs s k).0) o)
  arms_count BNone s k last o h = h
  arms_count (BMore head inner rest) s k last o h =
      let start : Progress = at_site ((condition head.form s k.sites).1) k in
      let m : Progress = (arm head (nodes_in inner) s k).1 in
      arm_counts k.doalls m.doalls head.place.line ((condition head.form s k.sites).0) (chain ((nodes_in inner s start).0)) (body_counts inner s start) last (in_arms ((arms_in rest s m).0) o) (arms_count rest s m last o h)
