-- Where each name of a list stands next, as a table.
use Rattle.std.proofs.Common.{◌≡◌, ℕ, suc, ◌-◌, ◌<◌, ◌≤◌, Bool, true, false, List, [], ◌∷◌, Option, Some, refl, ap, sym, ◌∙◌, get_or, length, drop, arith}
use Rattle.std.proofs.Math.Seq.{drop-cons}
use Rattle.std.specs.Prelude.{if◌then◌else◌}
use Rattle.std.specs.Str.{bytes_eq}
use Rattle.std.proofs.lemmas.Slice.Eq.{bytes_eq-Decides}
use Rattle.cdc_base.specs.declared.place.Place.{Place}
use Rattle.cdc_tree.specs.declared.tree.Named.{Named}
use Rattle.cdc_names.specs.Duplicates.{place_in, beside, twice}
use Rattle.cdc_names.specs.Table.{found, placed}

abbrev pub nexts : List Named → List (List ℕ × Place)
nexts [] = []
nexts (n ∷ ns) = placed n.name n.place (nexts ns)

-- a table gives a name the value that was put there last
pub found_placed : {A : Type 0} (m k : List ℕ) (v : A) (es : List (List ℕ × A)) → found m (placed k v es) ≡ (if bytes_eq m k then Some v else found m es)
found_placed m k v [] = refl
found_placed {A} m k v (e ∷ es) = split (bytes_eq k e.0) refl (bytes_eq m e.0) refl (bytes_eq m k) refl (found_placed m k v es)
  where
    split : (b : Bool) → bytes_eq k e.0 ≡ b → (c : Bool) → bytes_eq m e.0 ≡ c → (d : Bool) → bytes_eq m k ≡ d
        → found m (placed k v es) ≡ (if d then Some v else found m es)
        → found m (if b then (e.0, v) ∷ es else e ∷ placed k v es) ≡ (if d then Some v else (if c then Some e.1 else found m es))
    split true p true q true r h = ap (λ (x : Bool). if x then Some v else found m es) q
    split true p false q false r h = ap (λ (x : Bool). if x then Some v else found m es) q
    split true p true q false r h = absurd (no (sym r ∙ (bytes_eq-Decides m k).1 ((bytes_eq-Decides m e.0).0 q ∙ sym ((bytes_eq-Decides k e.0).0 p))))
      where
        no : false ≡ true → ⊥
        no f = cc
    split true p false q true r h = absurd (no (sym q ∙ (bytes_eq-Decides m e.0).1 ((bytes_eq-Decides m k).0 r ∙ (bytes_eq-Decides k e.0).0 p)))
      where
        no : false ≡ true → ⊥
        no f = cc
    split false p true q true r h = absurd (no (sym p ∙ (bytes_eq-Decides k e.0).1 (sym ((bytes_eq-Decides m k).0 r) ∙ (bytes_eq-Decides m e.0).0 q)))
      where
        no : false ≡ true → ⊥
        no f = cc
    split false p true q false r h = ap (λ (x : Bool). if x then Some e.1 else found m (placed k v es)) q
    split false p false q d r h = ap (λ (x : Bool). if x then Some e.1 else found m (placed k v es)) q ∙ h

pub found_nexts : (m : List ℕ) (ns : List Named) → found m (nexts ns) ≡ place_in m ns
found_nexts m [] = refl
found_nexts m (n ∷ ns) = found_placed m n.name n.place (nexts ns) ∙ ap (λ o. if bytes_eq m n.name then Some n.place else o) (found_nexts m ns)

-- one name before the rest
pub twice_more : (n : Named) (ns : List Named) → beside n.place (found n.name (nexts ns)) (twice ns) ≡ twice (n ∷ ns)
twice_more n ns = ap (λ o. beside n.place o (twice ns)) (found_nexts n.name ns)

-- the state of a walk from the end, one name further on
pub twice_step : (names : List Named) (at : ℕ) (n : Named) (best b : Option (Place × Place)) (next t : List (List ℕ × Place))
    → n ≡ get_or names (at - 1) n → 0 < at → at ≤ length names → best ≡ twice (drop at names) → next ≡ nexts (drop at names)
    → b ≡ beside n.place (found n.name next) best → t ≡ placed n.name n.place next
    → (at - 1 ≤ length names) × (b ≡ twice (drop (at - 1) names)) × (t ≡ nexts (drop (at - 1) names))
twice_step names at n best b next t is lt le hb hn eb et =
    let below : at - 1 < length names = omega arith in
    let further : suc (at - 1) ≡ at = omega arith in
    let tail : drop (at - 1) names ≡ n ∷ drop at names =
    drop-cons names (at - 1) n below ∙ ap (λ x. x ∷ drop (suc (at - 1)) names) (sym is) ∙ ap (λ k. n ∷ drop k names) further in (
      omega arith,
      eb ∙ ap (λ z. beside n.place (found n.name z) best) hn ∙ ap (beside n.place (found n.name (nexts (drop at names)))) hb ∙ twice_more n (drop at names) ∙ sym (ap twice tail),
      et ∙ ap (placed n.name n.place) hn ∙ sym (ap nexts tail),
    )
