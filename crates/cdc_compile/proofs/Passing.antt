-- Statements one after another, of which those passed are built.
use Rattle.std.proofs.Common.{◌≡◌, ℕ, ◌-◌, ◌≤◌, true, false, List, [], ◌∷◌, ◌++◌, length, map, take, drop, get_or, sym, ap, ◌∙◌, refl, subst, append_assoc, arith}
use Rattle.std.proofs.lemmas.List.{append-nil, take_all}
use Rattle.cdc_tree.specs.declared.form.Statement.{Statement}
use Rattle.cdc_tree.specs.Forms.{PStatement, statement}
use Rattle.cdc_tree.specs.Order.{Each, InOrder}
use Rattle.cdc_check.specs.Built.{is_unbuilt, IsUnbuilt, AllBuilt}
use Rattle.cdc_compile.specs.Unbuilt.{IsLeastUnbuilt}

-- the first statement, and the others
first_and_rest : (rest : List Statement) (s : Statement) → 1 ≤ length rest → s ≡ get_or rest 0 s → rest ≡ s ∷ take (length rest - 1) (drop 1 rest)
first_and_rest [] s le here = absurd (omega arith)
first_and_rest (x ∷ xs) s le here =
    let few : length (x ∷ xs) - 1 ≡ length xs = omega arith in
    ap (λ (y : Statement). y ∷ xs) (sym here) ∙ ap (λ (z : List Statement). s ∷ z) (sym (ap (λ (n : ℕ). take n xs) few ∙ take_all (length xs) xs (omega arith)))

pub cut : (rest : List Statement) (s : Statement) → 1 ≤ length rest → s ≡ get_or rest 0 s → map statement rest ≡ statement s ∷ map statement (take (length rest - 1) (drop 1 rest))
cut rest s le here = ap (map statement) (first_and_rest rest s le here)

each_append : (P : PStatement → Type 0) (xs ys : List PStatement) → Each P xs → Each P ys → Each P (xs ++ ys)
each_append P [] ys a b = b
each_append P (x ∷ xs) ys a b = (a.0, each_append P xs ys a.1 b)

each_map : (P Q : PStatement → Type 0) → ((s : PStatement) → P s → Q s) → (xs : List PStatement) → Each P xs → Each Q xs
each_map P Q f [] a = tt
each_map P Q f (x ∷ xs) a = (f x a.0, each_map P Q f xs a.1)

later : (before : List PStatement) (s : PStatement) (after : List PStatement) → InOrder (before ++ (s ∷ after)) → Each (λ t. s.place.line ≤ t.place.line) after
later [] s after h = h.0
later (x ∷ before) s after h = later before s after h.1

-- the statements before the rest are built
pub record Passed (all rest : List PStatement) : Type 0 where
  pub before : List PStatement
  pub parts : all ≡ before ++ rest
  pub built : AllBuilt before

pub passed_none : (all : List PStatement) → Passed all all
passed_none all = record { before = []; parts = refl; built = tt }

pub passed_more : (all rest after : List PStatement) (s : PStatement) → Passed all rest → rest ≡ s ∷ after → is_unbuilt s.form ≡ false → Passed all after
passed_more all rest after s passed cut built = record {
  before = passed.before ++ s ∷ [];
  parts = passed.parts ∙ ap (λ xs. passed.before ++ xs) cut ∙ sym (append_assoc passed.before (s ∷ []) after);
  built = each_append (λ t. IsUnbuilt t → ⊥) passed.before (s ∷ []) passed.built (λ is. cc, tt);
}

pub found_unbuilt : (all rest after : List PStatement) (s : PStatement) → InOrder all → Passed all rest → rest ≡ s ∷ after → is_unbuilt s.form ≡ true → IsLeastUnbuilt all s.place.line
found_unbuilt all rest after s order passed cut is =
    let parts : all ≡ passed.before ++ (s ∷ after) = passed.parts ∙ ap (λ xs. passed.before ++ xs) cut in
    let P : PStatement → Type 0 = λ t. IsUnbuilt t → s.place.line ≤ t.place.line in
    let least : Each P (passed.before ++ (s ∷ after)) =
    each_append P passed.before (s ∷ after) (each_map (λ t. IsUnbuilt t → ⊥) P (λ t none here. absurd (none here)) passed.before passed.built)
    (λ here. omega arith, each_map (λ t. s.place.line ≤ t.place.line) P (λ t le here. le) after (later passed.before s after (subst InOrder parts order))) in
    record {
      before = passed.before;
      unbuilt = s;
      after = after;
      parts = parts;
      is_unbuilt = is;
      number_is = refl;
      least = subst (Each P) (sym parts) least;
    }

pub all_built : (all : List PStatement) (rest : List Statement) → Passed all (map statement rest) → length rest ≤ 0 → AllBuilt all
all_built all [] passed le = subst AllBuilt (sym (append-nil passed.before) ∙ sym passed.parts) passed.built
all_built all (x ∷ xs) passed le = absurd (omega arith)
