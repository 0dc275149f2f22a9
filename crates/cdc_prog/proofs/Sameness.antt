-- Trees that are equal but for sites and places do the same.
use Rattle.std.proofs.Common.{ℕ, suc, ◌+◌, ℤ, List, [], ◌∷◌, Ok, Err, refl, sym, ap, ◌∙◌, subst}
use Rattle.cdc_prog.specs.declared.expr.Var.{Var}
use Rattle.cdc_prog.specs.declared.expr.Var.TheVariants as var
use Rattle.cdc_prog.specs.Plain.{Expr, Number, Scalar, Element, Un, Bin, Exprs, Empty, More}
use Rattle.cdc_prog.specs.Value.{Got, unary, binary}
use Rattle.cdc_prog.specs.Data.{Store, Binding, base_of, dims_of, element}
use Rattle.cdc_prog.specs.Process.{Process, Load, Tick, or_fail}
use Rattle.cdc_prog.specs.Alone.{Access, Read}
use Rattle.cdc_prog.specs.Expressions.{Surroundings, scalar_of, fetch, expr, exprs}
use Rattle.cdc_prog.specs.Sameness.{unsited, unsited_subs, AreSame}
use Rattle.cdc_prog.specs.Laws.{DoSame}

itself : (p : Process) (s : Store) → DoSame p p s
itself p s = record { accesses = refl; left = refl; said = refl; ending = refl; ticks = refl }

turned : (p q : Process) (s : Store) → DoSame p q s → DoSame q p s
turned p q s h = record { accesses = sym h.accesses; left = sym h.left; said = sym h.said; ending = sym h.ending; ticks = sym h.ticks }

joined : (p q r : Process) (s : Store) → DoSame p q s → DoSame q r s → DoSame p r s
joined p q r s h g = record {
  accesses = h.accesses ∙ g.accesses;
  left = h.left ∙ g.left;
  said = h.said ∙ g.said;
  ending = h.ending ∙ g.ending;
  ticks = h.ticks ∙ g.ticks;
}

ticked : (p q : Process) (s : Store) → DoSame p q s → DoSame (Tick p) (Tick q) s
ticked p q s h = record { accesses = h.accesses; left = h.left; said = h.said; ending = h.ending; ticks = ap suc h.ticks }

loaded : (path : List ℕ) (site other w : ℕ) (next also : ℤ → Process) (s : Store) → DoSame (next (s w)) (also (s w)) s → DoSame (Load path site w next) (Load path other w also) s
loaded path site other w next also s h = record {
  accesses = ap (λ (l : List Access). Read path 0 w (s w) ∷ l) h.accesses;
  left = h.left;
  said = h.said;
  ending = h.ending;
  ticks = h.ticks;
}

failed : {A : Type 0} (line : ℕ) (g : Got A) (rest also : A → Process) (s : Store) → ((a : A) → DoSame (rest a) (also a) s) → DoSame (or_fail line g rest) (or_fail line g also) s
failed line (Ok a) rest also s h = h a
failed line (Err kind) rest also s h = itself _ s

fetched : (b : Binding) (site other : ℕ) (v : Var) (c : Surroundings) (rest also : ℤ → Process) (s : Store) → ((v : ℤ) → DoSame (rest v) (also v) s) → DoSame (fetch (scalar_of b site v) c rest) (fetch (scalar_of b other v) c also) s
fetched b site other (var.Object k) c rest also s h = loaded b.path site other (base_of b (var.Object k)) rest also s (h _)
fetched b site other (var.Dummy k) c rest also s h = loaded b.path site other (base_of b (var.Dummy k)) rest also s (h _)
fetched b site other (var.Slot k) c rest also s h = h _

module _ (b : Binding) (line : ℕ) (c : Surroundings) (s : Store) where
  mutual
    expr_same : (e : Expr) (rest also : ℤ → Process) → ((v : ℤ) → DoSame (rest v) (also v) s) → DoSame (expr b line e c rest) (expr b line (unsited e) c also) s
    expr_same (Number n) rest also h = ticked (rest n) (also n) s (h n)
    expr_same (Scalar at) rest also h = ticked _ _ s (fetched b at.site 0 at.var c rest also s h)
    expr_same (Element at subs) rest also h =
        let found = λ (site : ℕ) (next : ℤ → Process) (vs : List ℤ). or_fail line (element (dims_of b at.var) vs) (λ n. Load b.path site (base_of b at.var + n) next) in
        ticked _ _ s (exprs_same subs (found at.site rest) (found 0 also) (λ vs.
        failed line (element (dims_of b at.var) vs) _ _ s (λ n. loaded b.path at.site 0 (base_of b at.var + n) rest also s (h _))))
    expr_same (Un op e) rest also h =
        ticked _ _ s (expr_same e (λ x. or_fail line (unary op x) rest) (λ x. or_fail line (unary op x) also) (λ x. failed line (unary op x) rest also s h))
    expr_same (Bin op e f) rest also h =
        let done = λ (next : ℤ → Process) (x y : ℤ). or_fail line (binary op x y) next in
        ticked _ _ s (expr_same e (λ x. expr b line f c (done rest x)) (λ x. expr b line (unsited f) c (done also x)) (λ x.
        expr_same f (done rest x) (done also x) (λ y. failed line (binary op x y) rest also s h)))

    exprs_same : (es : Exprs) (rest also : List ℤ → Process) → ((vs : List ℤ) → DoSame (rest vs) (also vs) s) → DoSame (exprs b line es c rest) (exprs b line (unsited_subs es) c also) s
    exprs_same Empty rest also h = h []
    exprs_same (More e es) rest also h =
        expr_same e (λ v. exprs b line es c (λ vs. rest (v ∷ vs))) (λ v. exprs b line (unsited_subs es) c (λ vs. also (v ∷ vs))) (λ v.
        exprs_same es (λ vs. rest (v ∷ vs)) (λ vs. also (v ∷ vs)) (λ vs. h (v ∷ vs)))

pub same_trees : (b : Binding) (line : ℕ) (e f : Expr) (c : Surroundings) (rest : ℤ → Process) (s : Store) → AreSame e f → DoSame (expr b line e c rest) (expr b line f c rest) s
same_trees b line e f c rest s h =
    let of_e = expr_same b line c s e rest rest (λ v. itself (rest v) s) in
    let of_f = expr_same b line c s f rest rest (λ v. itself (rest v) s) in
    let P : Expr → Type 0 = λ g. DoSame (expr b line e c rest) (expr b line g c rest) s in
    joined _ _ _ s (subst P h of_e) (turned _ _ s of_f)
