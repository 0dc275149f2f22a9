-- What is written so is read, whatever follows that does not go on with it.
use Rattle.std.proofs.Common.{◌≡◌, ℕ, zero, suc, ◌<◌, ◌≤◌, List, [], ◌∷◌, ◌++◌, length, Option, Some, None, refl, sym, ap, subst, ◌∙◌, append_assoc, arith, inl, inr, length-append}
use Rattle.std.proofs.lemmas.Bool.{cases_eq}
use Rattle.cdc_base.specs.declared.place.Place.{Place}
use Rattle.cdc_prog.specs.declared.expr.BinOp.{BinOp}
use Rattle.cdc_token.specs.declared.token.Lexed.{Lexed}
use Rattle.cdc_token.specs.declared.token.Symbol.TheVariants as q
use Rattle.cdc_parse.specs.declared.operator.Sign.{Sign}
use Rattle.cdc_tree.specs.declared.tree.Named.{Named}
use Rattle.cdc_tree.specs.declared.tree.Intrinsic.{Intrinsic}
use Rattle.cdc_tree.specs.declared.tree.Intrinsic.TheVariants as i
use Rattle.cdc_parse.specs.declared.word.Word.{Word}
use Rattle.cdc_parse.specs.Words.{spelling}
use Rattle.cdc_tree.specs.Options.{◌>>=◌, maybe}
use Rattle.cdc_parse.specs.Tokens.{mark, word, IsName, same, after}
use Rattle.cdc_parse.specs.Operators.{sign_symbol, sign_rank, symbol, rank, sign_at, operator_at}
use Rattle.cdc_tree.specs.Plain.{Plain, PName, PApply, PParen, PBin, PKnown, PMore, Plains, plains}
use Rattle.cdc_parse.specs.Reading.{Gets, separated, closed, signed, chain, first, tiers, intrinsic_of, named, factor_in, inside, read}
use Rattle.cdc_parse.specs.Written.{Written, WNumber, WName, WApply, WKnown, WParen, WUnary, WBinary, Rest, REnd, RMore, text, texts, meant, meants, Fits, FitsAll, intrinsic_word}
use Rattle.cdc_parse.specs.Stands.{Writes, Commas, Separated}
use Rattle.cdc_tree.proofs.Options.{some}
use Rattle.cdc_parse.proofs.Begins.{after_mark, operator_at_self, operator_at_other, sign_at_self, sign_at_other, operator_opens_none, word_named_self}
use Rattle.cdc_parse.proofs.Lists.{IsAgain, separated_again, closed_again}
use Rattle.cdc_parse.proofs.Deep.{Shallow, ShallowAll}
use Rattle.cdc_parse.proofs.Sound.{Fits-more}

-- ---- what may follow

-- no operator of a rank below h, and no opening parenthesis
pub record Stops (h : ℕ) (ts : List Lexed) : Type 0 where
  pub no_operator : (r : ℕ) → r < h → operator_at r ts ≡ None
  pub opens_none : after q.LeftParen ts ≡ None

pub Stops-less : (h k : ℕ) (ts : List Lexed) → h ≤ k → Stops k ts → Stops h ts
Stops-less h k ts le s = record { no_operator = λ r lt. s.no_operator r (omega arith); opens_none = s.opens_none }

pub stops_close : (h : ℕ) (p : Place) (ts : List Lexed) → Stops h (mark p q.RightParen ∷ ts)
unfolding same
stops_close h p ts = record { no_operator = λ r lt. refl; opens_none = refl }

pub stops_comma : (h : ℕ) (p : Place) (ts : List Lexed) → Stops h (mark p q.Comma ∷ ts)
unfolding same
stops_comma h p ts = record { no_operator = λ r lt. refl; opens_none = refl }

pub stops_colon : (h : ℕ) (p : Place) (ts : List Lexed) → Stops h (mark p q.Colon ∷ ts)
unfolding same
stops_colon h p ts = record { no_operator = λ r lt. refl; opens_none = refl }

pub stops_assign : (h : ℕ) (p : Place) (ts : List Lexed) → Stops h (mark p q.Assign ∷ ts)
unfolding same
stops_assign h p ts = record { no_operator = λ r lt. refl; opens_none = refl }

pub stops_end : (h : ℕ) → Stops h []
stops_end h = record { no_operator = λ r lt. refl; opens_none = refl }

pub stops_word : (h : ℕ) (p : Place) (w : Word) (ts : List Lexed) → Stops h (word p w ∷ ts)
stops_word h p w ts = record { no_operator = λ r lt. refl; opens_none = refl }

stops_operator : (op : BinOp) (p : Place) (ts : List Lexed) → rank op < 9 → Stops (rank op) (mark p (symbol op) ∷ ts)
stops_operator op p ts lt = record { no_operator = λ r below. operator_at_other op r p ts lt (λ e. omega (arith, e)); opens_none = operator_opens_none op p ts }

pub comma_close : (p : Place) (ts : List Lexed) → after q.Comma (mark p q.RightParen ∷ ts) ≡ None
unfolding same
comma_close p ts = refl

-- ---- chains

abbrev pub factors : ℕ → Gets Plain
factors d = factor_in (inside d)

abbrev pub Reads : ℕ → ℕ → Written → Type 0
Reads d h t = (rest : List Lexed) → Stops h rest → tiers (factors d) h (text t ++ rest) ≡ Some (meant t, rest)

-- as the first operand of a chain: what follows is read by the chain
abbrev pub Leads : ℕ → ℕ → Written → Type 0
Leads d r t = (rest : List Lexed) → Stops r rest → (n : ℕ) × (length rest ≤ n) × (tiers (factors d) (suc r) (text t ++ rest) ≡ chain (tiers (factors d) r) r n (meant t) rest)

chain_stops : (operand : Gets Plain) (r n : ℕ) (before : Plain) (rest : List Lexed) → Stops (suc r) rest → chain operand r n before rest ≡ Some (before, rest)
chain_stops operand r zero before rest s = refl
chain_stops operand r (suc n) before rest s =
    ap (λ (o : Option (BinOp × List Lexed)). maybe o (λ o. operand o.1 >>= λ x. chain operand r n (PBin o.0 before x.0) x.1) (some (before, rest))) (s.no_operator r (omega arith))

leads_reads : (d r : ℕ) (t : Written) → Leads d r t → Reads d (suc r) t
leads_reads d r t leads rest s =
    let l = leads rest (Stops-less r (suc r) rest (omega arith) s) in
    l.2 ∙ chain_stops (tiers (factors d) r) r l.0 (meant t) rest s

-- what fits below rank r does not begin with a sign of rank r
no_sign : (r : ℕ) (t : Written) → Fits r t → (rest : List Lexed) → sign_at r (text t ++ rest) ≡ None
no_sign r (WNumber p z) f rest = refl
no_sign r (WName n) f rest = refl
no_sign r (WApply n p a m c) f rest = refl
no_sign r (WKnown s x p a m c) f rest = refl
no_sign r (WParen p a c) f rest = refl
no_sign r (WUnary g p a) f rest = sign_at_other g r p (text a ++ rest) (λ e. omega (arith, e, f.0))
no_sign r (WBinary op a p b) f rest =
    ap (sign_at r) (append_assoc (text a) (mark p (symbol op) ∷ text b) rest) ∙ no_sign r a (Fits-more (suc (rank op)) r a (omega (arith, f.0)) f.1) (mark p (symbol op) ∷ (text b ++ rest))

begins : (operand : Gets Plain) (r : ℕ) (t : Written) → Fits r t → (rest : List Lexed) → first operand r (text t ++ rest) ≡ operand (text t ++ rest)
begins operand r t f rest =
    ap (λ (o : Option (Sign × Place × List Lexed)). maybe o (λ s. operand s.2 >>= λ x. some (signed s.0 s.1 x.0, x.1)) (operand (text t ++ rest))) (no_sign r t f rest)

abbrev onward : ℕ → ℕ → Option (Plain × List Lexed) → Option (Plain × List Lexed)
onward d r o = o >>= λ x. chain (tiers (factors d) r) r (length x.1) x.0 x.1

raise : (d r : ℕ) (t : Written) → Fits r t → Reads d r t → Leads d r t
raise d r t f reads rest s =
    let e : first (tiers (factors d) r) r (text t ++ rest) ≡ Some (meant t, rest) = begins (tiers (factors d) r) r t f rest ∙ reads rest s in
    (length rest, omega arith, ap (onward d r) e)

reads_from : (d g h : ℕ) (t : Written) → g ≤ h → Fits g t → Reads d g t → Reads d h t
reads_from d g zero t le f reads = subst (λ (k : ℕ). Reads d k t) (omega arith) reads
reads_from d g (suc h) t le f reads =
    elim (cases_eq g (suc h)) [
      | inl same_height ↦ subst (λ (k : ℕ). Reads d k t) same_height reads
      | inr other ↦
          let lower : g ≤ h = strictly g h le other in
          leads_reads d h t (raise d h t (Fits-more g h t lower f) (reads_from d g h t lower f reads))
    ]
  where
    strictly : (a b : ℕ) → a ≤ suc b → (a ≡ suc b → ⊥) → a ≤ b
    strictly a b le2 ne = omega (arith, ne)

-- a tree is read, alone and as the first operand of a chain
pub record Known (d : ℕ) (t : Written) : Type 0 where
  pub reads : (h : ℕ) → Fits h t → Reads d h t
  pub leads : (r : ℕ) → Fits (suc r) t → Leads d r t

from_atom : (d : ℕ) (t : Written) → ((h : ℕ) → Fits h t → Fits 0 t) → Reads d 0 t → Known d t
from_atom d t flat own = record {
  reads = λ h f. reads_from d 0 h t (omega arith) (flat h f) own;
  leads = λ r f. raise d r t (Fits-more 0 r t (omega arith) (flat (suc r) f)) (reads_from d 0 r t (omega arith) (flat (suc r) f) own);
}

reads_at : (d q h : ℕ) (t : Written) → q < h → Fits (suc q) t → Leads d q t → Reads d h t
reads_at d q h t lt f own = reads_from d (suc q) h t lt f (leads_reads d q t own)

leads_at : (d q r : ℕ) (t : Written) → q < suc r → Fits (suc q) t → Leads d q t → Leads d r t
leads_at d q r t lt f own =
    elim (cases_eq q r) [
      | inl same_rank ↦ subst (λ (k : ℕ). Leads d k t) same_rank own
      | inr other ↦
          let lower : q < r = strictly q r lt other in
          raise d r t (Fits-more (suc q) r t lower f) (reads_at d q r t lower f own)
    ]
  where
    strictly : (a b : ℕ) → a < suc b → (a ≡ b → ⊥) → a < b
    strictly a b le2 ne = omega (arith, ne)

-- one turn of the chain
turn : (operand : Gets Plain) (op : BinOp) (n : ℕ) (a : Plain) (b : Written) (p : Place) (rest : List Lexed) → rank op < 9 → length (mark p (symbol op) ∷ (text b ++ rest)) ≤ n → operand (text b ++ rest) ≡ Some (meant b, rest)
    → (m : ℕ) × (length rest ≤ m) × (chain operand (rank op) n a (mark p (symbol op) ∷ (text b ++ rest)) ≡ chain operand (rank op) m (PBin op a (meant b)) rest)
turn operand op zero a b p rest lt le e = absurd (omega arith)
turn operand op (suc m) a b p rest lt le e = (
  m,
  omega (arith, length-append (text b) rest),
  ap (λ (o : Option (BinOp × List Lexed)). maybe o (λ o. operand o.1 >>= λ x. chain operand (rank op) m (PBin o.0 a x.0) x.1) (some (a, mark p (symbol op) ∷ (text b ++ rest)))) (operator_at_self op p (text b ++ rest) lt)
      ∙ ap (λ (o : Option (Plain × List Lexed)). o >>= λ x. chain operand (rank op) m (PBin op a x.0) x.1) e,
)

unary_leads : (d : ℕ) (g : Sign) (p : Place) (a : Written) → Reads d (sign_rank g) a → Leads d (sign_rank g) (WUnary g p a)
unary_leads d g p a reads rest s =
    let operand : Gets Plain = tiers (factors d) (sign_rank g) in
    let e : first operand (sign_rank g) (mark p (sign_symbol g) ∷ (text a ++ rest)) ≡ Some (signed g p (meant a), rest) =
    ap (λ (o : Option (Sign × Place × List Lexed)). maybe o (λ s. operand s.2 >>= λ x. some (signed s.0 s.1 x.0, x.1)) (operand (mark p (sign_symbol g) ∷ (text a ++ rest)))) (sign_at_self g p (text a ++ rest))
    ∙ ap (λ (o : Option (Plain × List Lexed)). o >>= λ x. some (signed g p x.0, x.1)) (reads rest s) in
    (length rest, omega arith, ap (onward d (sign_rank g)) e)

binary_leads : (d : ℕ) (op : BinOp) (a : Written) (p : Place) (b : Written) → rank op < 9 → Leads d (rank op) a → Reads d (rank op) b → Leads d (rank op) (WBinary op a p b)
binary_leads d op a p b lt leads reads rest s =
    let l = leads (mark p (symbol op) ∷ (text b ++ rest)) (stops_operator op p (text b ++ rest) lt) in
    let t = turn (tiers (factors d) (rank op)) op l.0 (meant a) b p rest lt l.1 (reads rest s) in
    (t.0, t.1, ap (tiers (factors d) (suc (rank op))) (append_assoc (text a) (mark p (symbol op) ∷ text b) rest) ∙ l.2 ∙ t.2)

-- ---- parentheses

pub inside_reads : (d k : ℕ) (a : Written) (rest : List Lexed) → d ≡ suc k → Reads k 6 a → Stops 6 rest → inside d (text a ++ rest) ≡ Some (meant a, rest)
inside_reads d k a rest e reads s = ap (λ (n : ℕ). inside n (text a ++ rest)) e ∙ reads rest s

-- a tree that is read where k more parentheses may be opened
abbrev IsRead : ℕ → Writes Plain
IsRead k t us = (w : Written) × (t ≡ meant w) × (us ≡ text w) × Reads k 6 w

abbrev pub AllReads : ℕ → Rest → Type 0
AllReads k REnd = Unit {0}
AllReads k (RMore p a more_of) = Reads k 6 a × AllReads k more_of

abbrev meant_list : Rest → List Plain
meant_list REnd = []
meant_list (RMore p a more_of) = meant a ∷ meant_list more_of

plains_meant : (m : Rest) → plains (meant_list m) ≡ meants m
plains_meant REnd = refl
plains_meant (RMore p a more_of) = ap (PMore (meant a)) (plains_meant more_of)

commas_of : (k : ℕ) (m : Rest) → AllReads k m → Commas (IsRead k) (meant_list m) (texts m)
commas_of k REnd all = refl
commas_of k (RMore p a more_of) all = (p, text a, texts more_of, (a, refl, refl, all.0), commas_of k more_of all.1, refl)

is_read : (d k : ℕ) → d ≡ suc k → IsAgain (λ ts. Unit {0}) (Stops 6) (IsRead k) (inside d)
is_read d k e a us rest w ok s =
    ap (λ (z : List Lexed). inside d (z ++ rest)) w.2 ∙ inside_reads d k w.0 rest e w.3 s ∙ ap (λ (t : Plain). some (t, rest)) (sym w.1)

called : (d k : ℕ) (a : Written) (m : Rest) (r : Place) (rest : List Lexed) → d ≡ suc k → Reads k 6 a → AllReads k m
    → closed (separated (inside d)) ((text a ++ (texts m ++ (mark r q.RightParen ∷ []))) ++ rest) ≡ Some (meant a ∷ meant_list m, rest)
called d k a m r rest e reads all =
    closed_again (Separated (IsRead k)) (separated (inside d)) (meant a ∷ meant_list m) (text a ++ (texts m ++ (mark r q.RightParen ∷ []))) rest
    (λ vs c w h. separated_again (λ ts. Unit {0}) (Stops 6) (IsRead k) (inside d) (λ us vs2 ok. tt) (λ p ts. stops_comma 6 p ts) (is_read d k e) (meant a ∷ meant_list m) vs (mark c q.RightParen ∷ rest) w tt (stops_close 6 c rest) (comma_close c rest))
    (r, text a ++ texts m, (text a, texts m, (a, refl, refl, reads), commas_of k m all, refl), sym (append_assoc (text a) (texts m) (mark r q.RightParen ∷ [])))

paren_reads : (d k : ℕ) (p : Place) (a : Written) (r : Place) → d ≡ suc k → Reads k 6 a → Reads d 0 (WParen p a r)
paren_reads d k p a r e reads rest s =
    let inner : List Lexed = (text a ++ (mark r q.RightParen ∷ [])) ++ rest in
    let one : inside d (text a ++ (mark r q.RightParen ∷ rest)) ≡ Some (meant a, mark r q.RightParen ∷ rest) = inside_reads d k a (mark r q.RightParen ∷ rest) e reads (stops_close 6 r rest) in
    let two : closed (inside d) inner ≡ Some (meant a, rest) =
    ap (closed (inside d)) (append_assoc (text a) (mark r q.RightParen ∷ []) rest)
    ∙ ap (λ (o : Option (Plain × List Lexed)). o >>= λ y. after q.RightParen y.1 >>= λ xs. some (y.0, xs)) one
    ∙ ap (λ (o : Option (List Lexed)). o >>= λ xs. some (meant a, xs)) (after_mark q.RightParen r rest) in
    ap (λ (o : Option (List Lexed)). o >>= λ us. closed (inside d) us >>= λ x. some (PParen p x.0, x.1)) (after_mark q.LeftParen p inner)
    ∙ ap (λ (o : Option (Plain × List Lexed)). o >>= λ x. some (PParen p x.0, x.1)) two

name_reads : (d : ℕ) (n : Named) → IsName n → Reads d 0 (WName n)
name_reads d n named_so rest s =
    ap (λ (o : Option Word). named (inside d) n.name n.place o rest) named_so
    ∙ ap (λ (o : Option (List Lexed)). maybe o (λ us. closed (separated (inside d)) us >>= λ x. some (PApply n (plains x.0), x.1)) (some (PName n, rest))) s.opens_none

apply_reads : (d k : ℕ) (n : Named) (p : Place) (a : Written) (m : Rest) (r : Place) → IsName n → d ≡ suc k → Reads k 6 a → AllReads k m → Reads d 0 (WApply n p a m r)
apply_reads d k n p a m r named_so e reads all rest s =
    let inner : List Lexed = (text a ++ (texts m ++ (mark r q.RightParen ∷ []))) ++ rest in
    ap (λ (o : Option Word). named (inside d) n.name n.place o (mark p q.LeftParen ∷ inner)) named_so
    ∙ ap (λ (o : Option (List Lexed)). maybe o (λ us. closed (separated (inside d)) us >>= λ x. some (PApply n (plains x.0), x.1)) (some (PName n, mark p q.LeftParen ∷ inner))) (after_mark q.LeftParen p inner)
    ∙ ap (λ (o : Option (List Plain × List Lexed)). o >>= λ x. some (PApply n (plains x.0), x.1)) (called d k a m r rest e reads all)
    ∙ ap (λ (z : Plains). some (PApply n (PMore (meant a) z), rest)) (plains_meant m)

intrinsic_self : (f : Intrinsic) → intrinsic_of (intrinsic_word f) ≡ Some f
intrinsic_self i.Abs = refl
intrinsic_self i.Mod = refl
intrinsic_self i.Min = refl
intrinsic_self i.Max = refl

known_reads : (d k : ℕ) (s : Place) (f : Intrinsic) (p : Place) (a : Written) (m : Rest) (r : Place) → d ≡ suc k → Reads k 6 a → AllReads k m → Reads d 0 (WKnown s f p a m r)
known_reads d k s f p a m r e reads all rest st =
    let inner : List Lexed = (text a ++ (texts m ++ (mark r q.RightParen ∷ []))) ++ rest in
    ap (λ (o : Option Word). named (inside d) (spelling (intrinsic_word f)) s o (mark p q.LeftParen ∷ inner)) (word_named_self (intrinsic_word f))
    ∙ ap (λ (o : Option Intrinsic). o >>= λ f2. after q.LeftParen (mark p q.LeftParen ∷ inner) >>= λ us. closed (separated (inside d)) us >>= λ x. some (PKnown s f2 (plains x.0), x.1)) (intrinsic_self f)
    ∙ ap (λ (o : Option (List Lexed)). o >>= λ us. closed (separated (inside d)) us >>= λ x. some (PKnown s f (plains x.0), x.1)) (after_mark q.LeftParen p inner)
    ∙ ap (λ (o : Option (List Plain × List Lexed)). o >>= λ x. some (PKnown s f (plains x.0), x.1)) (called d k a m r rest e reads all)
    ∙ ap (λ (z : Plains). some (PKnown s f (PMore (meant a) z), rest)) (plains_meant m)

mutual
  pub tree_known : (t : Written) (d : ℕ) → Shallow d t → (h : ℕ) → h ≤ 6 → Fits h t → Known d t
  tree_known (WNumber p z) d s h le f = from_atom d (WNumber p z) (λ k g. tt) (λ rest st. refl)
  tree_known (WName n) d s h le f = from_atom d (WName n) (λ k g. g) (name_reads d n f)
  tree_known (WApply n p a m r) d s h le f =
      from_atom d (WApply n p a m r) (λ k g. g) (apply_reads d s.0 n p a m r f.0 s.1 ((tree_known a s.0 s.2 6 (omega arith) f.1).reads 6 f.1) (all_known m s.0 s.3 f.2))
  tree_known (WKnown x i p a m r) d s h le f =
      from_atom d (WKnown x i p a m r) (λ k g. g) (known_reads d s.0 x i p a m r s.1 ((tree_known a s.0 s.2 6 (omega arith) f.0).reads 6 f.0) (all_known m s.0 s.3 f.1))
  tree_known (WParen p a r) d s h le f = from_atom d (WParen p a r) (λ k g. g) (paren_reads d s.0 p a r s.1 ((tree_known a s.0 s.2 6 (omega arith) f).reads 6 f))
  tree_known (WUnary g p a) d s h le f =
      let own = unary_leads d g p a ((tree_known a d s (sign_rank g) (omega (arith, f.0)) f.1).reads (sign_rank g) f.1) in
      let flat : Fits (suc (sign_rank g)) (WUnary g p a) = (omega arith, f.1) in
      record { reads = λ k fk. reads_at d (sign_rank g) k (WUnary g p a) fk.0 flat own; leads = λ r fr. leads_at d (sign_rank g) r (WUnary g p a) fr.0 flat own }
  tree_known (WBinary op a p b) d s h le f =
      let own = binary_leads d op a p b (omega (arith, f.0)) ((tree_known a d s.0 (suc (rank op)) (omega (arith, f.0)) f.1).leads (rank op) f.1) ((tree_known b d s.1 (rank op) (omega (arith, f.0)) f.2).reads (rank op) f.2) in
      let flat : Fits (suc (rank op)) (WBinary op a p b) = (omega arith, f.1, f.2) in
      record { reads = λ k fk. reads_at d (rank op) k (WBinary op a p b) fk.0 flat own; leads = λ r fr. leads_at d (rank op) r (WBinary op a p b) fr.0 flat own }

  pub all_known : (m : Rest) (k : ℕ) → ShallowAll k m → FitsAll m → AllReads k m
  all_known REnd k s f = tt
  all_known (RMore p a m) k s f = ((tree_known a k s.0 6 (omega arith) f.0).reads 6 f.0, all_known m k s.1 f.1)

-- what is written so is read
pub read_again : (t : Written) (d : ℕ) → Shallow d t → Fits 6 t → (rest : List Lexed) → Stops 6 rest → read d 6 (text t ++ rest) ≡ Some (meant t, rest)
read_again t d s f rest st = (tree_known t d s 6 (omega arith) f).reads 6 f rest st
