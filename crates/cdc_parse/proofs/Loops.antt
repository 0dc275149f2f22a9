-- The loops over chains of operators and over lists with commas.
use Rattle.std.proofs.Common.{◌≡◌, ℕ, zero, suc, ◌+◌, ◌-◌, ◌<◌, List, [], ◌∷◌, ◌++◌, length, map, Option, Some, None, refl, sym, ap, ◌∙◌, arith}
use Rattle.std.proofs.lemmas.List.{map-append}
use Rattle.cdc_prog.specs.declared.expr.BinOp.{BinOp}
use Rattle.cdc_token.specs.declared.token.Lexed.{Lexed}
use Rattle.cdc_token.specs.declared.token.Symbol.TheVariants as q
use Rattle.cdc_tree.specs.Options.{◌>>=◌}
use Rattle.cdc_parse.specs.Tokens.{after}
use Rattle.cdc_parse.specs.Operators.{operator_at}
use Rattle.cdc_tree.specs.Plain.{Plain, PBin}
use Rattle.cdc_parse.specs.Reading.{Gets, chain, first, read, more}

pub chain_starts : (d h r : ℕ) (ts : List Lexed) (x : Plain × List Lexed) (n : ℕ) → h ≡ suc r → n ≡ length x.1 → first (read d r) r ts ≡ Some x → chain (read d r) r n x.0 x.1 ≡ read d h ts
chain_starts d h r ts x n h_is n_is e = sym (ap (λ (k : ℕ). read d k ts) h_is ∙ ap (λ (o : Option (Plain × List Lexed)). o >>= λ y. chain (read d r) r (length y.1) y.0 y.1) e ∙ ap (λ (k : ℕ). chain (read d r) r k x.0 x.1) (sym n_is))

pub chain_goes_on : (operand : Gets Plain) (r i n : ℕ) (op : BinOp) (before b : Plain) (ts us rest : List Lexed) (total : Option (Plain × List Lexed)) → i < n → operator_at r ts ≡ Some (op, us) → operand us ≡ Some (b, rest)
    → chain operand r (n - i) before ts ≡ total → chain operand r (n - (i + 1)) (PBin op before b) rest ≡ total
chain_goes_on operand r i n op before b ts us rest total lt h e so_far =
    let k : n - i ≡ suc (n - (i + 1)) = omega arith in
    let one : chain operand r (n - i) before ts ≡ chain operand r (n - (i + 1)) (PBin op before b) rest = rw (k, h, e) refl in
    sym one ∙ so_far

-- one more item
pub more_step : {A : Type 0} (item : Gets A) (i n : ℕ) (before : List A) (ts us : List Lexed) (total : Option (List A × List Lexed)) → i < n → after q.Comma ts ≡ Some us
    → more item (n - i) before ts ≡ total → total ≡ (item us >>= λ x. more item (n - (i + 1)) (before ++ (x.0 ∷ [])) x.1)
more_step item i n before ts us total lt h so_far =
    let k : n - i ≡ suc (n - (i + 1)) = omega arith in
    let one : more item (n - i) before ts ≡ (item us >>= λ x. more item (n - (i + 1)) (before ++ (x.0 ∷ [])) x.1) = rw (k, h) refl in
    sym so_far ∙ one

pub more_goes_on : {A : Type 0} (item : Gets A) (i n : ℕ) (before now : List A) (a : A) (ts us rest : List Lexed) (total : Option (List A × List Lexed)) → i < n → after q.Comma ts ≡ Some us → item us ≡ Some (a, rest) → now ≡ before ++ (a ∷ [])
    → more item (n - i) before ts ≡ total → more item (n - (i + 1)) now rest ≡ total
more_goes_on item i n before now a ts us rest total lt h e made so_far =
    let step = more_step item i n before ts us total lt h so_far in
    sym (step ∙ ap (λ (o : Option (_ × List Lexed)). o >>= λ x. more item (n - (i + 1)) (before ++ (x.0 ∷ [])) x.1) e ∙ ap (λ (w : List _). more item (n - (i + 1)) w rest) (sym made))

-- without a comma the list ends
pub more_over : {A : Type 0} (item : Gets A) (n : ℕ) (before : List A) (ts : List Lexed) (total : Option (List A × List Lexed)) → after q.Comma ts ≡ None → more item n before ts ≡ total → total ≡ Some (before, ts)
more_over item zero before ts total h so_far = sym so_far
more_over item (suc n) before ts total h so_far =
    let one : more item (suc n) before ts ≡ Some (before, ts) = rw h refl in
    sym so_far ∙ one

-- the view of a list with one more item at its end
pub map_put : {A B : Type 0} (f : A → B) (before now : List A) (a : A) → now ≡ before ++ (a ∷ []) → map f now ≡ map f before ++ (f a ∷ [])
map_put f before now a e = ap (map f) e ∙ map-append f before (a ∷ [])
