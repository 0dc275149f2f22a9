-- The values of subscripts: of equal trees, and after stores elsewhere.
use Rattle.std.proofs.Common.{◌≡◌, ℕ, ◌+◌, inl, inr, ℤ, List, [], ◌∷◌, Ok, refl, sym, ap, ap₂, ◌∙◌, subst}
use Rattle.cdc_prog.specs.declared.expr.Var.{Var}
use Rattle.cdc_prog.specs.declared.program.Dim.{Dim}
use Rattle.cdc_prog.specs.Plain.{Expr, Number, Scalar, Element, Un, Bin, Exprs, Empty, More}
use Rattle.cdc_prog.specs.Value.{unary, binary}
use Rattle.cdc_prog.specs.Data.{Store, Binding, base_of, dims_of, element}
use Rattle.cdc_prog.specs.Expressions.{Surroundings}
use Rattle.cdc_prog.specs.Resolved.{IsScalar, ExprFits, SubsFit}
use Rattle.cdc_prog.specs.Uses.{ExprMentions, SubsMention}
use Rattle.cdc_prog.specs.Iterations.{held, Value, Values}
use Rattle.cdc_prog.specs.Sameness.{unsited, unsited_subs, SubsAreSame}
use Rattle.cdc_path.specs.Covers.{ExprIsPlain, ArePlain}

module _ (b : Binding) (c : Surroundings) (t : Store) where
  -- an expression has one value
  mutual
    value_one : (e : Expr) (v w : ℤ) → Value b c t e v → Value b c t e w → v ≡ w
    value_one (Number n) v w f g = f ∙ sym g
    value_one (Scalar at) v w f g = f ∙ sym g
    value_one (Element at subs) v w (vs, n, vals, found, is) (ws, m, wals, gound, also) =
        let same : vs ≡ ws = values_one subs vs ws vals wals in
        let other : element (dims_of b at.var) vs ≡ Ok m = subst (λ us. element (dims_of b at.var) us ≡ Ok m) (sym same) gound in
        let number : n ≡ m = (let e = found in cc) in
        is ∙ ap (λ k. t (base_of b at.var + k)) number ∙ sym also
    value_one (Un op a) v w (x, val, f) (y, wal, g) =
        let same : x ≡ y = value_one a x y val wal in
        let other : unary op x ≡ Ok w = subst (λ z. unary op z ≡ Ok w) (sym same) g in
        (let e = f in cc)
    value_one (Bin op a d) v w (x, y, val, wal, f) (x', y', val', wal', g) =
        let one : x ≡ x' = value_one a x x' val val' in
        let two : y ≡ y' = value_one d y y' wal wal' in
        let other : binary op x y ≡ Ok w = subst (λ z. binary op z y ≡ Ok w) (sym one) (subst (λ z. binary op x' z ≡ Ok w) (sym two) g) in
        (let e = f in cc)

    pub values_one : (es : Exprs) (vs ws : List ℤ) → Values b c t es vs → Values b c t es ws → vs ≡ ws
    values_one Empty vs ws f g = f ∙ sym g
    values_one (More e es) vs ws (v, us, val, vals, is) (w, zs, wal, wals, also) =
        is ∙ ap₂ (λ (a : ℤ) (l : List ℤ). a ∷ l) (value_one e v w val wal) (values_one es us zs vals wals) ∙ sym also

  mutual
    value_to : (e : Expr) (v : ℤ) → Value b c t e v → Value b c t (unsited e) v
    value_to (Number n) v f = f
    value_to (Scalar at) v f = f
    value_to (Element at subs) v (vs, n, vals, found, is) = (vs, n, values_to subs vs vals, found, is)
    value_to (Un op a) v (x, val, f) = (x, value_to a x val, f)
    value_to (Bin op a d) v (x, y, val, wal, f) = (x, y, value_to a x val, value_to d y wal, f)

    values_to : (es : Exprs) (vs : List ℤ) → Values b c t es vs → Values b c t (unsited_subs es) vs
    values_to Empty vs f = f
    values_to (More e es) vs (v, us, val, vals, is) = (v, us, value_to e v val, values_to es us vals, is)

  mutual
    value_from : (e : Expr) (v : ℤ) → Value b c t (unsited e) v → Value b c t e v
    value_from (Number n) v f = f
    value_from (Scalar at) v f = f
    value_from (Element at subs) v (vs, n, vals, found, is) = (vs, n, values_from subs vs vals, found, is)
    value_from (Un op a) v (x, val, f) = (x, value_from a x val, f)
    value_from (Bin op a d) v (x, y, val, wal, f) = (x, y, value_from a x val, value_from d y wal, f)

    values_from : (es : Exprs) (vs : List ℤ) → Values b c t (unsited_subs es) vs → Values b c t es vs
    values_from Empty vs f = f
    values_from (More e es) vs (v, us, val, vals, is) = (v, us, value_from e v val, values_from es us vals, is)

  -- equal subscripts have the same values
  pub values_same : (es fs : Exprs) (vs : List ℤ) → SubsAreSame es fs → Values b c t fs vs → Values b c t es vs
  values_same es fs vs same f = values_from es vs (subst (λ x. Values b c t x vs) (sym same) (values_to fs vs f))

mutual
  expr_plain_to : (e : Expr) → ExprIsPlain e → ExprIsPlain (unsited e)
  expr_plain_to (Number n) h = h
  expr_plain_to (Scalar at) h = h
  expr_plain_to (Element at subs) h = h
  expr_plain_to (Un op a) h = expr_plain_to a h
  expr_plain_to (Bin op a d) h = (expr_plain_to a h.0, expr_plain_to d h.1)

  plain_to : (es : Exprs) → ArePlain es → ArePlain (unsited_subs es)
  plain_to Empty h = h
  plain_to (More e es) h = (expr_plain_to e h.0, plain_to es h.1)

mutual
  expr_plain_from : (e : Expr) → ExprIsPlain (unsited e) → ExprIsPlain e
  expr_plain_from (Number n) h = h
  expr_plain_from (Scalar at) h = h
  expr_plain_from (Element at subs) h = h
  expr_plain_from (Un op a) h = expr_plain_from a h
  expr_plain_from (Bin op a d) h = (expr_plain_from a h.0, expr_plain_from d h.1)

  plain_from : (es : Exprs) → ArePlain (unsited_subs es) → ArePlain es
  plain_from Empty h = h
  plain_from (More e es) h = (expr_plain_from e h.0, plain_from es h.1)

pub plain_same : (es fs : Exprs) → SubsAreSame es fs → ArePlain fs → ArePlain es
plain_same es fs same h = plain_from es (subst ArePlain (sym same) (plain_to fs h))

-- a variable is mentioned
abbrev pub Mentions : Var → Exprs → Type 0
Mentions v = SubsMention (λ r. r.var ≡ v)

module _ (v : Var) where
  mutual
    expr_mention_to : (e : Expr) → ExprMentions (λ r. r.var ≡ v) e → ExprMentions (λ r. r.var ≡ v) (unsited e)
    expr_mention_to (Number n) h = h
    expr_mention_to (Scalar at) h = h
    expr_mention_to (Element at subs) (inl h) = inl h
    expr_mention_to (Element at subs) (inr h) = inr (mention_to subs h)
    expr_mention_to (Un op a) h = expr_mention_to a h
    expr_mention_to (Bin op a d) (inl h) = inl (expr_mention_to a h)
    expr_mention_to (Bin op a d) (inr h) = inr (expr_mention_to d h)

    mention_to : (es : Exprs) → Mentions v es → Mentions v (unsited_subs es)
    mention_to Empty h = h
    mention_to (More e es) (inl h) = inl (expr_mention_to e h)
    mention_to (More e es) (inr h) = inr (mention_to es h)

  mutual
    expr_mention_from : (e : Expr) → ExprMentions (λ r. r.var ≡ v) (unsited e) → ExprMentions (λ r. r.var ≡ v) e
    expr_mention_from (Number n) h = h
    expr_mention_from (Scalar at) h = h
    expr_mention_from (Element at subs) (inl h) = inl h
    expr_mention_from (Element at subs) (inr h) = inr (mention_from subs h)
    expr_mention_from (Un op a) h = expr_mention_from a h
    expr_mention_from (Bin op a d) (inl h) = inl (expr_mention_from a h)
    expr_mention_from (Bin op a d) (inr h) = inr (expr_mention_from d h)

    mention_from : (es : Exprs) → Mentions v (unsited_subs es) → Mentions v es
    mention_from Empty h = h
    mention_from (More e es) (inl h) = inl (expr_mention_from e h)
    mention_from (More e es) (inr h) = inr (mention_from es h)

  pub mention_same : (es fs : Exprs) → SubsAreSame es fs → Mentions v es → Mentions v fs
  mention_same es fs same h = mention_from fs (subst (Mentions v) same (mention_to es h))

-- ---- after stores
-- plain subscripts have the values that they had, where each scalar in them holds what it held
module _ (b : Binding) (slots : ℕ) (c d : Surroundings) (t u : Store) where
  abbrev Agrees : Var → Type 0
  Agrees v = IsScalar b.objects b.shapes slots v → held b d u v ≡ held b c t v

  mutual
    value_kept : (e : Expr) (v : ℤ) → ExprFits b.objects b.shapes slots e → ExprIsPlain e → ((w : Var) → ExprMentions (λ r. r.var ≡ w) e → Agrees w) → Value b d u e v → Value b c t e v
    value_kept (Number n) v fits plain agrees f = f
    value_kept (Scalar at) v fits plain agrees f = f ∙ agrees at.var refl fits
    value_kept (Element at subs) v fits plain agrees f = absurd plain
    value_kept (Un op a) v fits plain agrees (x, val, f) = (x, value_kept a x fits plain agrees val, f)
    value_kept (Bin op a e) v fits plain agrees (x, y, val, wal, f) =
        (x, y, value_kept a x fits.0 plain.0 (λ w h. agrees w (inl h)) val, value_kept e y fits.1 plain.1 (λ w h. agrees w (inr h)) wal, f)

    pub values_kept : (es : Exprs) (ds : List Dim) (vs : List ℤ) → SubsFit b.objects b.shapes slots ds es → ArePlain es → ((w : Var) → Mentions w es → Agrees w) → Values b d u es vs → Values b c t es vs
    values_kept Empty ds vs fits plain agrees f = f
    values_kept (More e es) [] vs fits plain agrees f = absurd fits
    values_kept (More e es) (x ∷ ds) vs fits plain agrees (v, us, val, vals, is) =
        (v, us, value_kept e v fits.0 plain.0 (λ w h. agrees w (inl h)) val, values_kept es ds us fits.1 plain.1 (λ w h. agrees w (inr h)) vals, is)
