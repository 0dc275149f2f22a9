-- The number of arguments of an intrinsic function.
use Rattle.std.proofs.Common.{◌≡◌, ℕ, suc, Bool, true, false, ◌&&◌, List, [], ◌∷◌, length, map, refl, sym, ap, ◌∙◌}
use Rattle.cdc_tree.specs.declared.tree.Intrinsic.{Intrinsic}
use Rattle.cdc_tree.specs.declared.tree.Tree.{Tree}
use Rattle.cdc_parse.specs.declared.kind.Kind.{Kind}
use Rattle.cdc_parse.specs.declared.kind.Kind.TheVariants as k
use Rattle.cdc_tree.specs.Plain.{Plains, plain, plains}
use Rattle.cdc_parse.specs.Kinds.{takes, count, are_numbers, number_if, known_kind}

pub count_view : (ts : List Tree) → count (plains (map plain ts)) ≡ length ts
count_view [] = refl
count_view (t ∷ ts) = ap (λ (n : ℕ). suc n) (count_view ts)

takes_is : (f : Intrinsic) (list : Plains) (n : ℕ) (t b : Bool) → count list ≡ n → t ≡ takes f n → t ≡ b → (takes f (count list) && are_numbers list) ≡ (b && are_numbers list)
takes_is f list n t b e h is = ap (λ (x : Bool). x && are_numbers list) (ap (takes f) e ∙ sym h ∙ is)

pub known_many : (f : Intrinsic) (list : Plains) (n : ℕ) (t a : Bool) (r : Kind) → count list ≡ n → t ≡ takes f n → t ≡ true → a ≡ are_numbers list → r ≡ number_if a → r ≡ known_kind f list
known_many f list n t a r e h is all made = made ∙ ap number_if (all ∙ sym (takes_is f list n t true e h is))

pub known_few : (f : Intrinsic) (list : Plains) (n : ℕ) (t : Bool) → count list ≡ n → t ≡ takes f n → t ≡ false → k.Neither ≡ known_kind f list
known_few f list n t e h is = ap number_if (sym (takes_is f list n t false e h is))
