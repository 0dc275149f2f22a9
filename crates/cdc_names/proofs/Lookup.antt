-- A look-up by bytes in the map's entries, and in the pairs that contracts see.
use Rattle.std.proofs.Common.{◌≡◌, ℕ, Bool, true, false, List, [], ◌∷◌, Some, refl, ap}
use Rattle.std.specs.Prelude.{if◌then◌else◌}
use Rattle.std.specs.Borrow.{Bor}
use Rattle.std.specs.Str.{bytes_eq}
use Rattle.std.specs.Map.{lookup}
use Rattle.indexmap.specs.IndexMap.{insert_entry}
use Rattle.cdc_names.specs.Entries.{named}
use Rattle.cdc_names.specs.Table.{found, placed}

pub found_in : {A : Type 0} (name : List ℕ) (es : List (Bor (List ℕ) × A)) → lookup (λ k. bytes_eq name k.now) es ≡ found name (named es)
found_in name [] = refl
found_in name (e ∷ es) = ap (λ o. if bytes_eq name e.0.now then Some e.1 else o) (found_in name es)

pub placed_in : {A : Type 0} (k : Bor (List ℕ)) (v : A) (es : List (Bor (List ℕ) × A)) → named (insert_entry (λ (a b : Bor (List ℕ)). bytes_eq a.now b.now) es k v) ≡ placed k.now v (named es)
placed_in k v [] = refl
placed_in k v (e ∷ es) = split (bytes_eq k.now e.0.now) (placed_in k v es)
  where
    split : (b : Bool) → named (insert_entry (λ (a b : Bor (List ℕ)). bytes_eq a.now b.now) es k v) ≡ placed k.now v (named es) → named (if b then (e.0, v) ∷ es else e ∷ insert_entry (λ (a b : Bor (List ℕ)). bytes_eq a.now b.now) es k v) ≡ (if b then (e.0.now, v) ∷ named es else (e.0.now, e.1) ∷ placed k.now v (named es))
    split true rest = refl
    split false rest = ap (λ l. (e.0.now, e.1) ∷ l) rest
