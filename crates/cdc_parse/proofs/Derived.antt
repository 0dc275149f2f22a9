-- The table of operators with its kinds, and the grammar rule by rule, have the same trees.
use Rattle.std.proofs.Common.{◌≡◌, ℕ, suc, ◌≤◌, Bool, true, false, ◌&&◌, refl, sym, ap, subst, ◌∙◌, arith}
use Rattle.std.proofs.lemmas.Bool.{eqb-true, le-leb}
use Rattle.cdc_base.specs.declared.place.Place.{Place}
use Rattle.cdc_prog.specs.declared.expr.BinOp.{BinOp}
use Rattle.cdc_prog.specs.declared.expr.BinOp.TheVariants as b
use Rattle.cdc_parse.specs.declared.operator.Sign.{Sign}
use Rattle.cdc_parse.specs.declared.operator.Sign.TheVariants as g
use Rattle.cdc_tree.specs.declared.tree.Named.{Named}
use Rattle.cdc_tree.specs.declared.tree.Intrinsic.{Intrinsic}
use Rattle.cdc_tree.specs.declared.tree.Intrinsic.TheVariants as i
use Rattle.cdc_parse.specs.declared.kind.Kind.{Kind}
use Rattle.cdc_parse.specs.declared.kind.Kind.TheVariants as k
use Rattle.cdc_parse.specs.Tokens.{IsName}
use Rattle.cdc_parse.specs.Operators.{rank, sign_rank}
use Rattle.cdc_parse.specs.Kinds.{number_if, is_number, if_number, if_truth, binary_kind, takes, count, kind, are_numbers}
use Rattle.cdc_tree.specs.Plain.{Plains, PMore}
use Rattle.cdc_parse.specs.Written.{Written, WNumber, WName, WApply, WKnown, WParen, WUnary, WBinary, Rest, REnd, RMore, meant, meants, Fits, FitsAll}
use Rattle.cdc_parse.specs.Grammar.{Factor, FNumber, FName, FApply, FParen, FAbs, FMod, FMin, FMax, Further, MEnd, MMore, Term, TOne, TMul, TDiv, Expr, EOne, EPlus, EMinus, EAdd, ESub, Atom, ACompare, AParen, Neg, NOne, NNot, Conj, JOne, JAnd, Cond, COne, COr, factor, further, term, expr, atom, neg, conj, condition}
use Rattle.cdc_parse.proofs.Sound.{Fits-more}

-- ---- kinds

number_not : k.Number ≡ k.Neither → ⊥
number_not e = absurd cc

truth_not : k.Truth ≡ k.Neither → ⊥
truth_not e = absurd cc

one_number : (x r s : Kind) → if_number x r ≡ s → (s ≡ k.Neither → ⊥) → (x ≡ k.Number) × (r ≡ s)
one_number k.Number r s e h = (refl, e)
one_number k.Truth r s e h = absurd (h (sym e))
one_number k.Neither r s e h = absurd (h (sym e))

one_truth : (x r s : Kind) → if_truth x r ≡ s → (s ≡ k.Neither → ⊥) → (x ≡ k.Truth) × (r ≡ s)
one_truth k.Truth r s e h = (refl, e)
one_truth k.Number r s e h = absurd (h (sym e))
one_truth k.Neither r s e h = absurd (h (sym e))

two_numbers : (x y r s : Kind) → if_number x (if_number y r) ≡ s → (s ≡ k.Neither → ⊥) → (x ≡ k.Number) × (y ≡ k.Number) × (r ≡ s)
two_numbers x y r s e h = let a = one_number x (if_number y r) s e h in let c = one_number y r s a.1 h in (a.0, c.0, c.1)

two_truths : (x y r s : Kind) → if_truth x (if_truth y r) ≡ s → (s ≡ k.Neither → ⊥) → (x ≡ k.Truth) × (y ≡ k.Truth) × (r ≡ s)
two_truths x y r s e h = let a = one_truth x (if_truth y r) s e h in let c = one_truth y r s a.1 h in (a.0, c.0, c.1)

if_is_number : (t : Bool) → number_if t ≡ k.Number → t ≡ true
if_is_number true e = refl
if_is_number false e = absurd cc

if_not_truth : (t : Bool) → number_if t ≡ k.Truth → ⊥
if_not_truth true e = absurd cc
if_not_truth false e = absurd cc

both : (s t : Bool) → (s && t) ≡ true → (s ≡ true) × (t ≡ true)
both true t e = (refl, e)
both false t e = absurd cc

number_is : (x : Kind) → is_number x ≡ true → x ≡ k.Number
number_is k.Number e = refl
number_is k.Truth e = absurd cc
number_is k.Neither e = absurd cc

-- ---- what the grammar derives fits, and has its kind

pub record Has (h : ℕ) (q : Kind) (t : Written) : Type 0 where
  pub fits : Fits h t
  pub kind_is : kind (meant t) ≡ q

has_more : (x h : ℕ) (q : Kind) (t : Written) → x ≤ h → Has x q t → Has h q t
has_more x h q t le a = record { fits = Fits-more x h t le a.fits; kind_is = a.kind_is }

record HaveAll (m : Rest) : Type 0 where
  fits : FitsAll m
  numbers : are_numbers (meants m) ≡ true

all_numbers : (x : Kind) (t : Bool) → x ≡ k.Number → t ≡ true → (is_number x && t) ≡ true
all_numbers x t e f = ap (λ (y : Kind). is_number y && t) e ∙ f

many_args : (f : Intrinsic) (n : ℕ) (t : Bool) → takes f n ≡ true → t ≡ true → number_if (takes f n && t) ≡ k.Number
many_args f n t e h = ap (λ (x : Bool). number_if (x && t)) e ∙ ap number_if h

mutual
  pub factor_has : (d : Factor) → Has 0 k.Number (factor d)
  factor_has (FNumber p z) = record { fits = tt; kind_is = refl }
  factor_has (FName n h) = record { fits = h; kind_is = refl }
  factor_has (FApply n h p a m r) = let x = expr_has a in let y = further_has m in record { fits = (h, Fits-more 2 6 (expr a) (omega arith) x.fits, y.fits); kind_is = ap number_if (all_numbers (kind (meant (expr a))) (are_numbers (meants (further m))) x.kind_is y.numbers) }
  factor_has (FParen p a r) = let x = expr_has a in record { fits = Fits-more 2 6 (expr a) (omega arith) x.fits; kind_is = x.kind_is }
  factor_has (FAbs s p a r) = let x = expr_has a in record { fits = (Fits-more 2 6 (expr a) (omega arith) x.fits, tt); kind_is = ap number_if (all_numbers (kind (meant (expr a))) true x.kind_is refl) }
  factor_has (FMod s p a c d r) = let x = expr_has a in let y = expr_has d in record {
    fits = (Fits-more 2 6 (expr a) (omega arith) x.fits, (Fits-more 2 6 (expr d) (omega arith) y.fits, tt));
    kind_is = ap number_if (all_numbers (kind (meant (expr a))) (is_number (kind (meant (expr d))) && true) x.kind_is (all_numbers (kind (meant (expr d))) true y.kind_is refl));
  }
  factor_has (FMin s p a c d m r) = let x = expr_has a in let y = expr_has d in let z = further_has m in record {
    fits = (Fits-more 2 6 (expr a) (omega arith) x.fits, (Fits-more 2 6 (expr d) (omega arith) y.fits, z.fits));
    kind_is = many_args i.Min (suc (suc (count (meants (further m))))) _ (le-leb 2 (suc (suc (count (meants (further m))))) (omega arith)) (all_numbers (kind (meant (expr a))) _ x.kind_is (all_numbers (kind (meant (expr d))) _ y.kind_is z.numbers));
  }
  factor_has (FMax s p a c d m r) = let x = expr_has a in let y = expr_has d in let z = further_has m in record {
    fits = (Fits-more 2 6 (expr a) (omega arith) x.fits, (Fits-more 2 6 (expr d) (omega arith) y.fits, z.fits));
    kind_is = many_args i.Max (suc (suc (count (meants (further m))))) _ (le-leb 2 (suc (suc (count (meants (further m))))) (omega arith)) (all_numbers (kind (meant (expr a))) _ x.kind_is (all_numbers (kind (meant (expr d))) _ y.kind_is z.numbers));
  }

  further_has : (m : Further) → HaveAll (further m)
  further_has MEnd = record { fits = tt; numbers = refl }
  further_has (MMore c a m) = let x = expr_has a in let y = further_has m in record { fits = (Fits-more 2 6 (expr a) (omega arith) x.fits, y.fits); numbers = all_numbers (kind (meant (expr a))) (are_numbers (meants (further m))) x.kind_is y.numbers }

  pub term_has : (d : Term) → Has 1 k.Number (term d)
  term_has (TOne f) = has_more 0 1 k.Number (factor f) (omega arith) (factor_has f)
  term_has (TMul t p f) = let x = term_has t in let y = factor_has f in record { fits = (omega arith, x.fits, y.fits); kind_is = rw (x.kind_is, y.kind_is) refl }
  term_has (TDiv t p f) = let x = term_has t in let y = factor_has f in record { fits = (omega arith, x.fits, y.fits); kind_is = rw (x.kind_is, y.kind_is) refl }

  pub expr_has : (d : Expr) → Has 2 k.Number (expr d)
  expr_has (EOne t) = has_more 1 2 k.Number (term t) (omega arith) (term_has t)
  expr_has (EPlus p t) = let x = term_has t in record { fits = (omega arith, x.fits); kind_is = rw x.kind_is refl }
  expr_has (EMinus p t) = let x = term_has t in record { fits = (omega arith, x.fits); kind_is = rw x.kind_is refl }
  expr_has (EAdd a p t) = let x = expr_has a in let y = term_has t in record { fits = (omega arith, x.fits, y.fits); kind_is = rw (x.kind_is, y.kind_is) refl }
  expr_has (ESub a p t) = let x = expr_has a in let y = term_has t in record { fits = (omega arith, x.fits, y.fits); kind_is = rw (x.kind_is, y.kind_is) refl }

relation_kind : (op : BinOp) (x y : Kind) → rank op ≡ 2 → binary_kind op x y ≡ if_number x (if_number y k.Truth)
relation_kind b.Eq x y e = refl
relation_kind b.Ne x y e = refl
relation_kind b.Lt x y e = refl
relation_kind b.Le x y e = refl
relation_kind b.Gt x y e = refl
relation_kind b.Ge x y e = refl
relation_kind b.Mul x y e = absurd (omega (arith, e))
relation_kind b.Div x y e = absurd (omega (arith, e))
relation_kind b.Add x y e = absurd (omega (arith, e))
relation_kind b.Sub x y e = absurd (omega (arith, e))
relation_kind b.And x y e = absurd (omega (arith, e))
relation_kind b.Or x y e = absurd (omega (arith, e))
relation_kind b.Mod x y e = absurd (omega (arith, e))
relation_kind b.Min x y e = absurd (omega (arith, e))
relation_kind b.Max x y e = absurd (omega (arith, e))

two_so : (x y : Kind) → x ≡ k.Number → y ≡ k.Number → if_number x (if_number y k.Truth) ≡ k.Truth
two_so x y e f = rw (e, f) refl

mutual
  pub atom_has : (d : Atom) → Has 3 k.Truth (atom d)
  atom_has (ACompare a op h p c) = let x = expr_has a in let y = expr_has c in record {
    fits = (omega (arith, h), Fits-more 2 (suc (rank op)) (expr a) (omega (arith, h)) x.fits, Fits-more 2 (rank op) (expr c) (omega (arith, h)) y.fits);
    kind_is = relation_kind op (kind (meant (expr a))) (kind (meant (expr c))) h ∙ two_so (kind (meant (expr a))) (kind (meant (expr c))) x.kind_is y.kind_is;
  }
  atom_has (AParen p c r) = let x = condition_has c in record { fits = x.fits; kind_is = x.kind_is }

  pub neg_has : (d : Neg) → Has 4 k.Truth (neg d)
  neg_has (NOne a) = has_more 3 4 k.Truth (atom a) (omega arith) (atom_has a)
  neg_has (NNot p a) = let x = atom_has a in record { fits = (omega arith, x.fits); kind_is = rw x.kind_is refl }

  pub conj_has : (d : Conj) → Has 5 k.Truth (conj d)
  conj_has (JOne n) = has_more 4 5 k.Truth (neg n) (omega arith) (neg_has n)
  conj_has (JAnd c p n) = let x = conj_has c in let y = neg_has n in record { fits = (omega arith, x.fits, y.fits); kind_is = rw (x.kind_is, y.kind_is) refl }

  pub condition_has : (d : Cond) → Has 6 k.Truth (condition d)
  condition_has (COne c) = has_more 5 6 k.Truth (conj c) (omega arith) (conj_has c)
  condition_has (COr d p c) = let x = condition_has d in let y = conj_has c in record { fits = (omega arith, x.fits, y.fits); kind_is = rw (x.kind_is, y.kind_is) refl }

-- ---- what fits and has a kind is derived

abbrev InFactor : Written → Type 0
InFactor t = (d : Factor) × (factor d ≡ t)

abbrev InTerm : Written → Type 0
InTerm t = (d : Term) × (term d ≡ t)

abbrev pub InExpr : Written → Type 0
InExpr t = (d : Expr) × (expr d ≡ t)

abbrev InAtom : Written → Type 0
InAtom t = (d : Atom) × (atom d ≡ t)

abbrev InNeg : Written → Type 0
InNeg t = (d : Neg) × (neg d ≡ t)

abbrev InConj : Written → Type 0
InConj t = (d : Conj) × (conj d ≡ t)

abbrev pub InCond : Written → Type 0
InCond t = (d : Cond) × (condition d ≡ t)

pub record IsNumeric (t : Written) : Type 0 where
  pub as_factor : Fits 0 t → InFactor t
  pub as_term : Fits 1 t → InTerm t
  pub as_expr : Fits 6 t → InExpr t

pub record IsTruthful (t : Written) : Type 0 where
  pub as_atom : Fits 3 t → InAtom t
  pub as_neg : Fits 4 t → InNeg t
  pub as_conj : Fits 5 t → InConj t
  pub as_cond : Fits 6 t → InCond t

term_of : (t : Written) → InFactor t → InTerm t
term_of t d = (TOne d.0, d.1)

expr_of : (t : Written) → InTerm t → InExpr t
expr_of t d = (EOne d.0, d.1)

neg_of : (t : Written) → InAtom t → InNeg t
neg_of t d = (NOne d.0, d.1)

conj_of : (t : Written) → InNeg t → InConj t
conj_of t d = (JOne d.0, d.1)

cond_of : (t : Written) → InConj t → InCond t
cond_of t d = (COne d.0, d.1)

-- a tree that is a factor wherever it stands
whole_factor : (t : Written) → (Fits 0 t → InFactor t) → (Fits 1 t → Fits 0 t) → (Fits 6 t → Fits 0 t) → IsNumeric t
whole_factor t f one six = record { as_factor = f; as_term = λ x. term_of t (f (one x)); as_expr = λ x. expr_of t (term_of t (f (six x))) }

known_one : (s : Place) (f : Intrinsic) (p : Place) (a : Expr) (m : Further) (r : Place) → takes f (suc (count (meants (further m)))) ≡ true → InFactor (WKnown s f p (expr a) (further m) r)
known_one s i.Abs p a MEnd r e = (FAbs s p a r, refl)
known_one s i.Abs p a (MMore c d m) r e = absurd (omega (arith, eqb-true (suc (suc (count (meants (further m))))) 1 e))
known_one s i.Mod p a MEnd r e = absurd cc
known_one s i.Mod p a (MMore c d MEnd) r e = (FMod s p a c d r, refl)
known_one s i.Mod p a (MMore c d (MMore c2 d2 m)) r e = absurd (omega (arith, eqb-true (suc (suc (suc (count (meants (further m)))))) 2 e))
known_one s i.Min p a MEnd r e = absurd cc
known_one s i.Min p a (MMore c d m) r e = (FMin s p a c d m r, refl)
known_one s i.Max p a MEnd r e = absurd cc
known_one s i.Max p a (MMore c d m) r e = (FMax s p a c d m r, refl)

known_factor : (s : Place) (f : Intrinsic) (p : Place) (a : Written) (m : Rest) (r : Place) → InExpr a → (d : Further) × (further d ≡ m) → takes f (suc (count (meants m))) ≡ true → InFactor (WKnown s f p a m r)
known_factor s f p a m r x y e =
    let k1 = known_one s f p x.0 y.0 r (ap (λ (z : Rest). takes f (suc (count (meants z)))) y.1 ∙ e) in
    (k1.0, k1.1 ∙ ap (λ (z : Written). WKnown s f p z (further y.0) r) x.1 ∙ ap (λ (z : Rest). WKnown s f p a z r) y.1)

apply_factor : (n : Named) (p : Place) (a : Written) (m : Rest) (r : Place) → IsName n → InExpr a → (d : Further) × (further d ≡ m) → InFactor (WApply n p a m r)
apply_factor n p a m r h x y = (FApply n h p x.0 y.0 r, ap (λ (z : Written). WApply n p z (further y.0) r) x.1 ∙ ap (λ (z : Rest). WApply n p a z r) y.1)

pair_of : (op : BinOp) (a c : Written) (p : Place) (x y : Written) → x ≡ a → y ≡ c → WBinary op x p y ≡ WBinary op a p c
pair_of op a c p x y e f = ap (λ (z : Written). WBinary op z p y) e ∙ ap (λ (z : Written). WBinary op a p z) f

product : (op : BinOp) (a : Written) (p : Place) (c : Written) → rank op ≡ 0 → ((t : Term) (f : Factor) → (d : Term) × (term d ≡ WBinary op (term t) p (factor f))) → (Fits 1 a → InTerm a) → (Fits 0 c → InFactor c) → IsNumeric (WBinary op a p c)
product op a p c e made left right = record {
  as_factor = λ f. absurd (omega (arith, f.0));
  as_term = λ f. build (left (Fits-more (suc (rank op)) 1 a (omega (arith, e)) f.1)) (right (Fits-more (rank op) 0 c (omega (arith, e)) f.2));
  as_expr = λ f. expr_of (WBinary op a p c) (build (left (Fits-more (suc (rank op)) 1 a (omega (arith, e)) f.1)) (right (Fits-more (rank op) 0 c (omega (arith, e)) f.2)));
}
  where
    build : InTerm a → InFactor c → InTerm (WBinary op a p c)
    build x y = let m = made x.0 y.0 in (m.0, m.1 ∙ pair_of op a c p (term x.0) (factor y.0) x.1 y.1)

sum : (op : BinOp) (a : Written) (p : Place) (c : Written) → rank op ≡ 1 → ((t : Expr) (f : Term) → (d : Expr) × (expr d ≡ WBinary op (expr t) p (term f))) → (Fits 6 a → InExpr a) → (Fits 1 c → InTerm c) → IsNumeric (WBinary op a p c)
sum op a p c e made left right = record {
  as_factor = λ f. absurd (omega (arith, f.0));
  as_term = λ f. absurd (omega (arith, f.0, e));
  as_expr = λ f. build (left (Fits-more (suc (rank op)) 6 a (omega (arith, e)) f.1)) (right (Fits-more (rank op) 1 c (omega (arith, e)) f.2));
}
  where
    build : InExpr a → InTerm c → InExpr (WBinary op a p c)
    build x y = let m = made x.0 y.0 in (m.0, m.1 ∙ pair_of op a c p (expr x.0) (term y.0) x.1 y.1)

signed_expr : (x : Sign) (p : Place) (a : Written) → sign_rank x ≡ 1 → ((t : Term) → (d : Expr) × (expr d ≡ WUnary x p (term t))) → (Fits 1 a → InTerm a) → IsNumeric (WUnary x p a)
signed_expr x p a e made operand = record {
  as_factor = λ f. absurd (omega (arith, f.0));
  as_term = λ f. absurd (omega (arith, f.0, e));
  as_expr = λ f. (let t = operand (subst (λ (n : ℕ). Fits n a) e f.1) in let m = made t.0 in (m.0, m.1 ∙ ap (λ (z : Written). WUnary x p z) t.1));
}

compared : (op : BinOp) (a : Written) (p : Place) (c : Written) → rank op ≡ 2 → (Fits 6 a → InExpr a) → (Fits 6 c → InExpr c) → IsTruthful (WBinary op a p c)
compared op a p c e left right = record {
  as_atom = λ f. build f.1 f.2;
  as_neg = λ f. neg_of (WBinary op a p c) (build f.1 f.2);
  as_conj = λ f. conj_of (WBinary op a p c) (neg_of (WBinary op a p c) (build f.1 f.2));
  as_cond = λ f. cond_of (WBinary op a p c) (conj_of (WBinary op a p c) (neg_of (WBinary op a p c) (build f.1 f.2)));
}
  where
    build : Fits (suc (rank op)) a → Fits (rank op) c → InAtom (WBinary op a p c)
    build fa fc =
        let x = left (Fits-more (suc (rank op)) 6 a (omega (arith, e)) fa) in
        let y = right (Fits-more (rank op) 6 c (omega (arith, e)) fc) in
        (ACompare x.0 op e p y.0, pair_of op a c p (expr x.0) (expr y.0) x.1 y.1)

conjunction : (a : Written) (p : Place) (c : Written) → (Fits 5 a → InConj a) → (Fits 4 c → InNeg c) → IsTruthful (WBinary b.And a p c)
conjunction a p c left right = record {
  as_atom = λ f. absurd (omega (arith, f.0));
  as_neg = λ f. absurd (omega (arith, f.0));
  as_conj = λ f. build f.1 f.2;
  as_cond = λ f. cond_of (WBinary b.And a p c) (build f.1 f.2);
}
  where
    build : Fits 5 a → Fits 4 c → InConj (WBinary b.And a p c)
    build fa fc = let x = left fa in let y = right fc in (JAnd x.0 p y.0, pair_of b.And a c p (conj x.0) (neg y.0) x.1 y.1)

disjunction : (a : Written) (p : Place) (c : Written) → (Fits 6 a → InCond a) → (Fits 5 c → InConj c) → IsTruthful (WBinary b.Or a p c)
disjunction a p c left right = record {
  as_atom = λ f. absurd (omega (arith, f.0));
  as_neg = λ f. absurd (omega (arith, f.0));
  as_conj = λ f. absurd (omega (arith, f.0));
  as_cond = λ f. (let x = left f.1 in let y = right f.2 in (COr x.0 p y.0, pair_of b.Or a c p (condition x.0) (conj y.0) x.1 y.1));
}

negation : (p : Place) (a : Written) → (Fits 3 a → InAtom a) → IsTruthful (WUnary g.Not p a)
negation p a operand = record {
  as_atom = λ f. absurd (omega (arith, f.0));
  as_neg = λ f. build f.1;
  as_conj = λ f. conj_of (WUnary g.Not p a) (build f.1);
  as_cond = λ f. cond_of (WUnary g.Not p a) (conj_of (WUnary g.Not p a) (build f.1));
}
  where
    build : Fits 3 a → InNeg (WUnary g.Not p a)
    build fa = let x = operand fa in (NNot p x.0, ap (λ (z : Written). WUnary g.Not p z) x.1)

wrong : k.Truth ≡ k.Number → ⊥
wrong e = absurd cc

abbrev meants_all : Written → Rest → Plains
meants_all a m = PMore (meant a) (meants m)

paren_atom : (p : Place) (a : Written) (r : Place) → InCond a → InAtom (WParen p a r)
paren_atom p a r x = (AParen p x.0 r, ap (λ (z : Written). WParen p z r) x.1)

mutual
  pub numeric : (t : Written) → kind (meant t) ≡ k.Number → IsNumeric t
  numeric (WNumber p z) e = whole_factor (WNumber p z) (λ f. (FNumber p z, refl)) (λ f. f) (λ f. f)
  numeric (WName n) e = whole_factor (WName n) (λ f. (FName n f, refl)) (λ f. f) (λ f. f)
  numeric (WApply n p a m r) e =
      let t = both (is_number (kind (meant a))) (are_numbers (meants m)) (if_is_number (are_numbers (meants_all a m)) e) in
      whole_factor (WApply n p a m r) (λ f. apply_factor n p a m r f.0 ((numeric a (number_is (kind (meant a)) t.0)).as_expr f.1) (all_numeric m f.2 t.1)) (λ f. f) (λ f. f)
  numeric (WKnown s x p a m r) e =
      let all = both (takes x (suc (count (meants m)))) (is_number (kind (meant a)) && are_numbers (meants m)) (if_is_number (takes x (suc (count (meants m))) && (is_number (kind (meant a)) && are_numbers (meants m))) e) in
      let t = both (is_number (kind (meant a))) (are_numbers (meants m)) all.1 in
      whole_factor (WKnown s x p a m r) (λ f. known_factor s x p a m r ((numeric a (number_is (kind (meant a)) t.0)).as_expr f.0) (all_numeric m f.1 t.1) all.0) (λ f. f) (λ f. f)
  numeric (WParen p a r) e = whole_factor (WParen p a r) (λ f. (let x = (numeric a e).as_expr f in (FParen p x.0 r, ap (λ (z : Written). WParen p z r) x.1))) (λ f. f) (λ f. f)
  numeric (WUnary g.Plus p a) e = signed_expr g.Plus p a refl (λ t. (EPlus p t, refl)) (λ f. (numeric a (one_number (kind (meant a)) k.Number k.Number e number_not).0).as_term f)
  numeric (WUnary g.Minus p a) e = signed_expr g.Minus p a refl (λ t. (EMinus p t, refl)) (λ f. (numeric a (one_number (kind (meant a)) k.Number k.Number e number_not).0).as_term f)
  numeric (WUnary g.Not p a) e = absurd (wrong (one_truth (kind (meant a)) k.Truth k.Number e number_not).1)
  numeric (WBinary b.Mul a p c) e = let t = two_numbers (kind (meant a)) (kind (meant c)) k.Number k.Number e number_not in product b.Mul a p c refl (λ x y. (TMul x p y, refl)) (λ f. (numeric a t.0).as_term f) (λ f. (numeric c t.1).as_factor f)
  numeric (WBinary b.Div a p c) e = let t = two_numbers (kind (meant a)) (kind (meant c)) k.Number k.Number e number_not in product b.Div a p c refl (λ x y. (TDiv x p y, refl)) (λ f. (numeric a t.0).as_term f) (λ f. (numeric c t.1).as_factor f)
  numeric (WBinary b.Add a p c) e = let t = two_numbers (kind (meant a)) (kind (meant c)) k.Number k.Number e number_not in sum b.Add a p c refl (λ x y. (EAdd x p y, refl)) (λ f. (numeric a t.0).as_expr f) (λ f. (numeric c t.1).as_term f)
  numeric (WBinary b.Sub a p c) e = let t = two_numbers (kind (meant a)) (kind (meant c)) k.Number k.Number e number_not in sum b.Sub a p c refl (λ x y. (ESub x p y, refl)) (λ f. (numeric a t.0).as_expr f) (λ f. (numeric c t.1).as_term f)
  numeric (WBinary b.Eq a p c) e = absurd (wrong (two_numbers (kind (meant a)) (kind (meant c)) k.Truth k.Number e number_not).2)
  numeric (WBinary b.Ne a p c) e = absurd (wrong (two_numbers (kind (meant a)) (kind (meant c)) k.Truth k.Number e number_not).2)
  numeric (WBinary b.Lt a p c) e = absurd (wrong (two_numbers (kind (meant a)) (kind (meant c)) k.Truth k.Number e number_not).2)
  numeric (WBinary b.Le a p c) e = absurd (wrong (two_numbers (kind (meant a)) (kind (meant c)) k.Truth k.Number e number_not).2)
  numeric (WBinary b.Gt a p c) e = absurd (wrong (two_numbers (kind (meant a)) (kind (meant c)) k.Truth k.Number e number_not).2)
  numeric (WBinary b.Ge a p c) e = absurd (wrong (two_numbers (kind (meant a)) (kind (meant c)) k.Truth k.Number e number_not).2)
  numeric (WBinary b.And a p c) e = absurd (wrong (two_truths (kind (meant a)) (kind (meant c)) k.Truth k.Number e number_not).2)
  numeric (WBinary b.Or a p c) e = absurd (wrong (two_truths (kind (meant a)) (kind (meant c)) k.Truth k.Number e number_not).2)
  numeric (WBinary b.Mod a p c) e = absurd (number_not (sym e))
  numeric (WBinary b.Min a p c) e = absurd (number_not (sym e))
  numeric (WBinary b.Max a p c) e = absurd (number_not (sym e))

  all_numeric : (m : Rest) → FitsAll m → are_numbers (meants m) ≡ true → (d : Further) × (further d ≡ m)
  all_numeric REnd f e = (MEnd, refl)
  all_numeric (RMore c a m) f e =
      let t = both (is_number (kind (meant a))) (are_numbers (meants m)) e in
      let x = (numeric a (number_is (kind (meant a)) t.0)).as_expr f.0 in
      let y = all_numeric m f.1 t.1 in
      (MMore c x.0 y.0, ap (λ (z : Written). RMore c z (further y.0)) x.1 ∙ ap (λ (z : Rest). RMore c a z) y.1)

relation : (op : BinOp) (a : Written) (p : Place) (c : Written) → rank op ≡ 2 → (kind (meant a) ≡ k.Number) × (kind (meant c) ≡ k.Number) × (k.Truth ≡ k.Truth) → IsTruthful (WBinary op a p c)
relation op a p c e t = compared op a p c e (λ f. (numeric a t.0).as_expr f) (λ f. (numeric c t.1).as_expr f)

pub truthful : (t : Written) → kind (meant t) ≡ k.Truth → IsTruthful t
truthful (WNumber p z) e = absurd (wrong (sym e))
truthful (WName n) e = absurd (wrong (sym e))
truthful (WApply n p a m r) e = absurd (if_not_truth (are_numbers (meants_all a m)) e)
truthful (WKnown s x p a m r) e = absurd (if_not_truth (takes x (suc (count (meants m))) && (is_number (kind (meant a)) && are_numbers (meants m))) e)
truthful (WParen p a r) e =
    record {
      as_atom = λ f. paren_atom p a r ((truthful a e).as_cond f);
      as_neg = λ f. neg_of (WParen p a r) (paren_atom p a r ((truthful a e).as_cond f));
      as_conj = λ f. conj_of (WParen p a r) (neg_of (WParen p a r) (paren_atom p a r ((truthful a e).as_cond f)));
      as_cond = λ f. cond_of (WParen p a r) (conj_of (WParen p a r) (neg_of (WParen p a r) (paren_atom p a r ((truthful a e).as_cond f))));
    }
truthful (WUnary g.Not p a) e = negation p a (λ f. (truthful a (one_truth (kind (meant a)) k.Truth k.Truth e truth_not).0).as_atom f)
truthful (WUnary g.Plus p a) e = absurd (wrong (sym (one_number (kind (meant a)) k.Number k.Truth e truth_not).1))
truthful (WUnary g.Minus p a) e = absurd (wrong (sym (one_number (kind (meant a)) k.Number k.Truth e truth_not).1))
truthful (WBinary b.Mul a p c) e = absurd (wrong (sym (two_numbers (kind (meant a)) (kind (meant c)) k.Number k.Truth e truth_not).2))
truthful (WBinary b.Div a p c) e = absurd (wrong (sym (two_numbers (kind (meant a)) (kind (meant c)) k.Number k.Truth e truth_not).2))
truthful (WBinary b.Add a p c) e = absurd (wrong (sym (two_numbers (kind (meant a)) (kind (meant c)) k.Number k.Truth e truth_not).2))
truthful (WBinary b.Sub a p c) e = absurd (wrong (sym (two_numbers (kind (meant a)) (kind (meant c)) k.Number k.Truth e truth_not).2))
truthful (WBinary b.Eq a p c) e = relation b.Eq a p c refl (two_numbers (kind (meant a)) (kind (meant c)) k.Truth k.Truth e truth_not)
truthful (WBinary b.Ne a p c) e = relation b.Ne a p c refl (two_numbers (kind (meant a)) (kind (meant c)) k.Truth k.Truth e truth_not)
truthful (WBinary b.Lt a p c) e = relation b.Lt a p c refl (two_numbers (kind (meant a)) (kind (meant c)) k.Truth k.Truth e truth_not)
truthful (WBinary b.Le a p c) e = relation b.Le a p c refl (two_numbers (kind (meant a)) (kind (meant c)) k.Truth k.Truth e truth_not)
truthful (WBinary b.Gt a p c) e = relation b.Gt a p c refl (two_numbers (kind (meant a)) (kind (meant c)) k.Truth k.Truth e truth_not)
truthful (WBinary b.Ge a p c) e = relation b.Ge a p c refl (two_numbers (kind (meant a)) (kind (meant c)) k.Truth k.Truth e truth_not)
truthful (WBinary b.And a p c) e = let t = two_truths (kind (meant a)) (kind (meant c)) k.Truth k.Truth e truth_not in conjunction a p c (λ f. (truthful a t.0).as_conj f) (λ f. (truthful c t.1).as_neg f)
truthful (WBinary b.Or a p c) e = let t = two_truths (kind (meant a)) (kind (meant c)) k.Truth k.Truth e truth_not in disjunction a p c (λ f. (truthful a t.0).as_cond f) (λ f. (truthful c t.1).as_conj f)
truthful (WBinary b.Mod a p c) e = absurd (truth_not (sym e))
truthful (WBinary b.Min a p c) e = absurd (truth_not (sym e))
truthful (WBinary b.Max a p c) e = absurd (truth_not (sym e))
