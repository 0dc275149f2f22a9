use Rattle.std.proofs.Common.{◌≡◌, ℕ, ◌+◌, ◌<◌, ◌++◌, ◌∷◌, [], List, length, get_or, take, map, sym, ap, ap₂, ◌∙◌, arith}
use Rattle.std.proofs.lemmas.List.{map_more}
use Rattle.cdc_emit.proofs.copies.shapes.Goals as goal

one_more : {A B : Type 0} (f : A → B) (xs : List A) (i : ℕ) (x : A) (y : B) (old new : List B) → i < length xs → x ≡ get_or xs i x → old ≡ map f (take i xs) → y ≡ f x → new ≡ old ++ y ∷ [] → new ≡ map f (take (i + 1) xs)
one_more f xs i x y old new lt is so_far image written =
    written ∙ ap₂ (λ l z. l ++ z ∷ []) so_far (image ∙ ap f is) ∙ sym (map_more f xs i x lt)

pub loop-unit-preserved : goal.loop-unit-preserved
loop-unit-preserved c =
    one_more _ c.args.units.now c.loop-unit.unit-index c.unit-item.result c.in_ok-shape.field-0 _ _ (omega arith) c.unit-item.is c.loop-unit.invariant c.in_ok-shape.ensures c.in_ok-push.ensures.items
