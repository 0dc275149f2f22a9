-- Rows of instructions on the stacks that code leaves.
use Rattle.std.proofs.Common.{◌≡◌, ℕ, suc, ◌+◌, ℤ, List, [], ◌∷◌, ◌++◌, length, refl, ap, ◌∙◌, arith}
use Rattle.std.proofs.lemmas.List.{append-nil}
use Rattle.cdc_prog.specs.declared.expr.UnOp.{UnOp}
use Rattle.cdc_prog.specs.declared.expr.UnOp.TheVariants as un
use Rattle.cdc_prog.specs.declared.expr.BinOp.{BinOp}
use Rattle.cdc_prog.specs.declared.expr.BinOp.TheVariants as bin
use Rattle.cdc_prog.specs.Data.{Binding}
use Rattle.cdc_prog.specs.Expressions.{Surroundings}
use Rattle.cdc_code.specs.declared.code.Code.{Code}
use Rattle.cdc_code.specs.Act.{Act}
use Rattle.cdc_code.specs.Frames.{Kept, Frame, in_order}
use Rattle.cdc_code.specs.Rows.{pops, unary_act, binary_act, act_at}
use Rattle.cdc_code.specs.Template.{unary_instr, binary_instr}

-- a stack with values pushed in order
abbrev pub onto : {X : Type 0} → List X → List X → List X
onto [] s = s
onto (v ∷ vs) s = onto vs (v ∷ s)

pops_onto : (vs taken s : List ℤ) (m : ℕ) (go : List ℤ → List ℤ → Act Frame) → pops (length vs + m) taken (onto vs s) go ≡ pops m (vs ++ taken) s go
pops_onto [] taken s m go = let e : 0 + m ≡ m = omega arith in ap (λ n. pops n taken s go) e
pops_onto (v ∷ vs) taken s m go =
    let e : length (v ∷ vs) + m ≡ length vs + suc m = omega arith in
    ap (λ n. pops n taken (onto vs (v ∷ s)) go) e ∙ pops_onto vs taken (v ∷ s) (suc m) go

-- values that were pushed in order are popped in order
pub pops_all : (vs s : List ℤ) (n : ℕ) (go : List ℤ → List ℤ → Act Frame) → length vs ≡ n → pops n [] (onto vs s) go ≡ go vs s
pops_all vs s n go e =
    let e' : n ≡ length vs + 0 = omega (arith, e) in
    ap (λ n. pops n [] (onto vs s) go) e' ∙ (pops_onto vs [] s 0 go ∙ ap (λ l. go l s) (append-nil vs))

pub unary_row : (code : Code) (b : Binding) (op : UnOp) (line pc : ℕ) (s : List ℤ) (l : Kept) (c : Surroundings) → act_at code b (unary_instr op) line pc s l c ≡ unary_act op line pc s l c
unary_row code b un.Neg line pc s l c = refl
unary_row code b un.Abs line pc s l c = refl
unary_row code b un.Not line pc s l c = refl

pub binary_row : (code : Code) (b : Binding) (op : BinOp) (line pc : ℕ) (s : List ℤ) (l : Kept) (c : Surroundings) → act_at code b (binary_instr op) line pc s l c ≡ binary_act op line pc s l c
binary_row code b bin.Add line pc s l c = refl
binary_row code b bin.Sub line pc s l c = refl
binary_row code b bin.Mul line pc s l c = refl
binary_row code b bin.Div line pc s l c = refl
binary_row code b bin.Mod line pc s l c = refl
binary_row code b bin.Min line pc s l c = refl
binary_row code b bin.Max line pc s l c = refl
binary_row code b bin.Eq line pc s l c = refl
binary_row code b bin.Ne line pc s l c = refl
binary_row code b bin.Lt line pc s l c = refl
binary_row code b bin.Le line pc s l c = refl
binary_row code b bin.Gt line pc s l c = refl
binary_row code b bin.Ge line pc s l c = refl
binary_row code b bin.And line pc s l c = refl
binary_row code b bin.Or line pc s l c = refl

ordered_onto : (ks args taken : List ℕ) → in_order (onto ks args) taken ≡ in_order args (ks ++ taken)
ordered_onto [] args taken = refl
ordered_onto (k ∷ ks) args taken = ordered_onto ks (k ∷ args) taken

-- arguments that were gathered in order are bound in order
pub ordered : (ks : List ℕ) → in_order (onto ks []) [] ≡ ks
ordered ks = ordered_onto ks [] [] ∙ append-nil ks
