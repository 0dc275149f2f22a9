-- Subscripts folded one by one into the number of their element.
use Rattle.std.proofs.Common.{◌≡◌, ℕ, zero, suc, ◌+◌, ◌*◌, ◌^◌, ◌<◌, ◌≤◌, ℤ, pos, negsuc, Bool, true, false, List, [], ◌∷◌, length, drop, get_or, Ok, Err, refl, sym, ap, ◌∙◌, subst, arith}
use Rattle.std.specs.Prelude.{Some, None, if◌then◌else◌, nat_lt, ◌-ℤ◌, slice_index_or}
use Rattle.std.proofs.Math.Nat.{mul_comm, mul_assoc, add-mul, mul-le-mul_left, mul-le-mul_right}
use Rattle.cdc_prog.specs.declared.program.Dim.{Dim}
use Rattle.cdc_prog.specs.declared.program.FaultKind.{FaultKind}
use Rattle.cdc_prog.specs.declared.program.FaultKind.TheVariants.{Subscript}
use Rattle.cdc_prog.specs.declared.expr.Expr.{Expr}
use Rattle.cdc_prog.specs.Plain as plain
use Rattle.cdc_prog.specs.Value.{Got}
use Rattle.cdc_prog.specs.Data.{Store, Binding, below, position, with_position, element_from, element, size_of}
use Rattle.cdc_prog.specs.Input.{Input}
use Rattle.cdc_prog.specs.Process.{Process, Fail, or_fail}
use Rattle.cdc_prog.specs.Expressions.{exprs}
use Rattle.cdc_prog.specs.InOrder.{output, ends}
use Rattle.cdc_prog.specs.Translation.{expr_of, exprs_of}
use Rattle.cdc_prog.specs.Held.{Same, around}
use Rattle.std.proofs.lemmas.List.{get_or_default}
use Rattle.cdc_prog.proofs.Numbers.{below_got}
use Rattle.cdc_prog.proofs.Same.{same_after}
use Rattle.cdc_meaning.specs.declared.folded.Folded.{Folded}
use Rattle.cdc_meaning.specs.Folded.{number_behind, number_of}
use Rattle.cdc_meaning.specs.Evaluates.{Gives, GivesNumber}
use Rattle.cdc_meaning.proofs.Comes.{one_left, none_left}

pub begins : (dims : List Dim) (vs : List ℤ) → element dims vs ≡ number_behind true 0 1 dims vs
begins dims vs = go (element dims vs)
  where
    go : (r : Got ℕ) → r ≡ with_position r (λ m. Ok (0 + m))
    go (Ok n) = let e : n ≡ 0 + n = omega arith in ap Ok e
    go (Err kind) = refl

inside_step : (number stride : ℕ) (d : Dim) (ds : List Dim) (v : ℤ) (vs : List ℤ) (p : ℕ) → position d v ≡ Ok p → number_behind true number stride (d ∷ ds) (v ∷ vs) ≡ number_behind true (number + p * stride) (stride * d.extent) ds vs
inside_step number stride d ds v vs p is =
    ap (λ g. with_position (with_position g (λ n. with_position (element_from (stride * d.extent) ds vs) (λ m. Ok (n * stride + m)))) (λ m. Ok (number + m))) is
    ∙ go (element_from (stride * d.extent) ds vs)
  where
    go : (r : Got ℕ) → with_position (with_position r (λ m. Ok (p * stride + m))) (λ m. Ok (number + m)) ≡ with_position r (λ m. Ok (number + p * stride + m))
    go (Ok m) = let e : number + (p * stride + m) ≡ number + p * stride + m = omega arith in ap Ok e
    go (Err kind) = refl

below_fault : (extent : ℕ) (z : ℤ) (kind : FaultKind) → below extent z ≡ Err kind → kind ≡ Subscript
below_fault extent (pos n) kind is = go (nat_lt n extent) is
  where
    go : (b : Bool) → (if b then Ok n else Err Subscript) ≡ Err kind → kind ≡ Subscript
    go true e = cc
    go false e = cc
below_fault extent (negsuc n) kind is = cc

outside_step : (inside : Bool) (number stride : ℕ) (d : Dim) (ds : List Dim) (v : ℤ) (vs : List ℤ) (kind : FaultKind) → position d v ≡ Err kind → number_behind inside number stride (d ∷ ds) (v ∷ vs) ≡ Err Subscript
outside_step true number stride d ds v vs kind is =
    ap (λ g. with_position (with_position g (λ n. with_position (element_from (stride * d.extent) ds vs) (λ m. Ok (n * stride + m)))) (λ m. Ok (number + m))) is
    ∙ ap Err (below_fault d.extent (v -ℤ d.low) kind is)
outside_step false number stride d ds v vs kind is = refl

kept_step : (inside : Bool) (number stride : ℕ) (d : Dim) (ds : List Dim) (v : ℤ) (vs : List ℤ) (p : ℕ) → position d v ≡ Ok p → number_behind inside number stride (d ∷ ds) (v ∷ vs) ≡ number_behind inside (number + p * stride) (stride * d.extent) ds vs
kept_step true number stride d ds v vs p is = inside_step number stride d ds v vs p is
kept_step false number stride d ds v vs p is = refl

pub with_inside : (f g : Folded) (d : Dim) (v : ℤ) (p : ℕ) → position d v ≡ Ok p → g ≡ record { number = f.number + p * f.stride; stride = f.stride * d.extent; is_inside = f.is_inside } → (ds : List Dim) (vs : List ℤ) → number_of f (d ∷ ds) (v ∷ vs) ≡ number_of g ds vs
with_inside f g d v p is same ds vs = kept_step f.is_inside f.number f.stride d ds v vs p is ∙ ap (λ h. number_of h ds vs) (sym same)

pub with_outside : (f g : Folded) (d : Dim) (v : ℤ) (kind : FaultKind) → position d v ≡ Err kind → g.is_inside ≡ false → (ds : List Dim) (vs : List ℤ) → number_of f (d ∷ ds) (v ∷ vs) ≡ number_of g ds vs
with_outside f g d v kind is out ds vs = outside_step f.is_inside f.number f.stride d ds v vs kind is ∙ sym (ap (λ b. number_behind b g.number g.stride ds vs) out)

pub place_inside : (d : Dim) (v : ℤ) (p : ℕ) → position d v ≡ Ok p → p < d.extent
place_inside d v p is = (below_got d.extent (v -ℤ d.low) p is).0

-- a dimension that is read at an index
pub dim_at : (dims : List Dim) (k : ℕ) (d : Dim) → k < length dims → slice_index_or dims k d ≡ get_or dims k (slice_index_or dims k d)
dim_at dims k d lt = get_or_default dims k d (slice_index_or dims k d) lt

pub place_below : (number stride extent p : ℕ) → number < stride → p < extent → number + p * stride < stride * extent
place_below number stride extent p less inside =
    let all : suc p * stride ≤ extent * stride = mul-le-mul_right stride (omega (arith, inside)) in
    omega (arith, less, all, add-mul 1 p stride, mul_comm stride extent)

-- the stride of the dimensions that are left, and what they come to
pub record Strides (stride : ℕ) (dims : List Dim) (all : ℕ) : Type 0 where
  pub product : stride * size_of dims ≡ all
  pub some : 0 < all
  pub small : all < 2 ^ 32

factor_some : (a b : ℕ) → 0 < a * b → 0 < b
factor_some a zero h = absurd (omega (arith, h))
factor_some a (suc b) h = omega arith

pub stride_extent : (stride : ℕ) (dims : List Dim) (i : ℕ) (d : Dim) (all : ℕ) → i < length dims → d ≡ get_or dims i d → Strides stride (drop i dims) all → (0 < d.extent) × (stride * d.extent < 2 ^ 32) × Strides (stride * d.extent) (drop (i + 1) dims) all
stride_extent stride dims i d all lt item h =
    let more = size_of (drop (i + 1) dims) in
    let product : stride * (d.extent * more) ≡ all = subst (λ l. stride * size_of l ≡ all) (one_left dims i d lt item) h.product in
    let next : stride * d.extent * more ≡ all = mul_assoc stride d.extent more ∙ product in
    let some : 0 < d.extent * more = factor_some stride (d.extent * more) (omega (arith, product, h.some)) in
    let rest : 0 < more = factor_some d.extent more some in
    let first : 0 < d.extent = factor_some more d.extent (omega (arith, some, mul_comm d.extent more)) in
    let one : stride * d.extent * 1 ≤ stride * d.extent * more = mul-le-mul_left (stride * d.extent) (omega (arith, rest)) in
    (first, omega (arith, one, next, h.small), record { product = next; some = h.some; small = h.small })

pub below_all : (stride number : ℕ) (dims : List Dim) (i all : ℕ) → length dims ≤ i → Strides stride (drop i dims) all → number < stride → number < all
below_all stride number dims i all each h less =
    let e : stride * 1 ≡ all = subst (λ l. stride * size_of l ≡ all) (none_left dims i each) h.product in
    omega (arith, e, less)

module _ (b : Binding) (slots : List ℤ) (s : Store) (dims : List Dim) (subs : List Expr) where
  -- what is left of the subscripts, behind the number that those before them sum up to
  abbrev pub Left : (i : ℕ) → Folded → (line : ℕ) → Input → (ℕ → Process) → Process
  Left i f line left rest = exprs b line (exprs_of (drop i subs)) (around slots left) (λ vs. or_fail line (number_of f (drop i dims) vs) rest)

  -- all subscripts lead to what is left of them
  abbrev pub LeadsTo : (i : ℕ) → Folded → Type 0
  LeadsTo i f = (line : ℕ) (left : Input) (rest : ℕ → Process) → Same (exprs b line (exprs_of subs) (around slots left) (λ vs. or_fail line (element dims vs) rest)) s (Left i f line left rest) s

  pub leads_first : LeadsTo 0 (record { number = 0; stride = 1; is_inside = true })
  leads_first line left rest =
      let k : (λ (vs : List ℤ). or_fail line (element dims vs) rest) ≡ (λ (vs : List ℤ). or_fail line (number_behind true 0 1 dims vs) rest) = λ j vs. or_fail line (begins dims vs j) rest in
      record { output = ap (λ (r : List ℤ → Process). output (exprs b line (exprs_of subs) (around slots left) r) s) k; ends = ap (λ (r : List ℤ → Process). ends (exprs b line (exprs_of subs) (around slots left) r) s) k }

  pub leads_next : (i : ℕ) (f g : Folded) (e : Expr) (d : Dim) (v : ℤ) (kind : FaultKind) → i < length subs → e ≡ get_or subs i e → i < length dims → d ≡ get_or dims i d → Gives b (expr_of e) slots s (Some v) kind
      → ((ds : List Dim) (vs : List ℤ) → number_of f (d ∷ ds) (v ∷ vs) ≡ number_of g ds vs) → LeadsTo i f → LeadsTo (i + 1) g
  leads_next i f g e d v kind lt item below dim h same so line left rest =
      let c = around slots left in
      let es = exprs_of (drop (i + 1) subs) in
      let is = λ (vs : List ℤ). ap (λ ds. number_of f ds (v ∷ vs)) (one_left dims i d below dim) ∙ same (drop (i + 1) dims) vs in
      let k : (λ (vs : List ℤ). or_fail line (number_of f (drop i dims) (v ∷ vs)) rest) ≡ (λ (vs : List ℤ). or_fail line (number_of g (drop (i + 1) dims) vs) rest) = λ j vs. or_fail line (is vs j) rest in
      let first = h line left (λ x. exprs b line es c (λ vs. or_fail line (number_of f (drop i dims) (x ∷ vs)) rest)) in
      let here = subst (λ (r : List ℤ → Process). Same (exprs b line (plain.More (expr_of e) es) c (λ vs. or_fail line (number_of f (drop i dims) vs) rest)) s (exprs b line es c r) s) k (record { output = first.output; ends = first.ends }) in
      same_after (so line left rest) (subst (λ l. Same (exprs b line (exprs_of l) c (λ vs. or_fail line (number_of f (drop i dims) vs) rest)) s (Left (i + 1) g line left rest) s) (sym (one_left subs i e lt item)) here)

  pub leads_to_fault : (i : ℕ) (f : Folded) (e : Expr) (kind : FaultKind) → i < length subs → e ≡ get_or subs i e → Gives b (expr_of e) slots s None kind → LeadsTo i f → GivesNumber b dims (exprs_of subs) slots s None kind
  leads_to_fault i f e kind lt item h so = λ line left rest.
      let c = around slots left in
      let es = exprs_of (drop (i + 1) subs) in
      let first = h line left (λ x. exprs b line es c (λ vs. or_fail line (number_of f (drop i dims) (x ∷ vs)) rest)) in
      same_after (so line left rest) (subst (λ l. Same (exprs b line (exprs_of l) c (λ vs. or_fail line (number_of f (drop i dims) vs) rest)) s (Fail kind line) s) (sym (one_left subs i e lt item)) (record { output = first.output; ends = first.ends }))

  -- the last subscript is folded
  leads_last : (i : ℕ) (f : Folded) → length subs ≤ i → length dims ≤ i → LeadsTo i f
      → (line : ℕ) (left : Input) (rest : ℕ → Process) → Same (exprs b line (exprs_of subs) (around slots left) (λ vs. or_fail line (element dims vs) rest)) s (or_fail line (number_of f [] []) rest) s
  leads_last i f all each so line left rest =
      let p = exprs b line (exprs_of subs) (around slots left) (λ vs. or_fail line (element dims vs) rest) in
      let here = subst (λ l. Same p s (exprs b line (exprs_of l) (around slots left) (λ vs. or_fail line (number_of f (drop i dims) vs) rest)) s) (none_left subs i all) (so line left rest) in
      subst (λ ds. Same p s (or_fail line (number_of f ds []) rest) s) (none_left dims i each) (record { output = here.output; ends = here.ends })

  pub leads_to_number : (i : ℕ) (f : Folded) (kind : FaultKind) → length subs ≤ i → length dims ≤ i → f.is_inside ≡ true → LeadsTo i f → GivesNumber b dims (exprs_of subs) slots s (Some f.number) kind
  leads_to_number i f kind all each inside so = λ line left rest.
      let p = exprs b line (exprs_of subs) (around slots left) (λ vs. or_fail line (element dims vs) rest) in
      let h = subst (λ b. Same p s (or_fail line (number_behind b f.number f.stride [] []) rest) s) inside (leads_last i f all each so line left rest) in
      let is : f.number + 0 ≡ f.number = omega arith in
      subst (λ n. Same p s (rest n) s) is (record { output = h.output; ends = h.ends })

  pub leads_outside : (i : ℕ) (f : Folded) → length subs ≤ i → length dims ≤ i → f.is_inside ≡ false → LeadsTo i f → GivesNumber b dims (exprs_of subs) slots s None Subscript
  leads_outside i f all each outside so = λ line left rest.
      let p = exprs b line (exprs_of subs) (around slots left) (λ vs. or_fail line (element dims vs) rest) in
      subst (λ b. Same p s (or_fail line (number_behind b f.number f.stride [] []) rest) s) outside (leads_last i f all each so line left rest)
