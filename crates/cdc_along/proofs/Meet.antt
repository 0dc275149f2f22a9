-- Accesses of one word lie in sections that overlap.
use Rattle.std.proofs.Common.{◌≡◌, ℕ, Bool, List, [], ◌∷◌, ℤ, Ok, refl, sym, ap₂, subst}
use Rattle.std.specs.Prelude.{slice_get}
use Rattle.cdc_num.specs.declared.triplet.Triplet.{Triplet}
use Rattle.cdc_prog.specs.declared.program.Dim.{Dim}
use Rattle.cdc_prog.specs.Plain.{Program}
use Rattle.cdc_prog.specs.Data.{dims_in, element}
use Rattle.cdc_prog.specs.Resolved.{IsResolved}
use Rattle.cdc_prog.specs.Sections.{IsInSection, ArePositions, Overlap}
use Rattle.cdc_prog.proofs.Numbers.{element_distinct}
use Rattle.cdc_prog.proofs.Owners.{one_owner}
use Rattle.cdc_section.proofs.Named.{shared}
use Rattle.cdc_path.specs.References.{Touches}
use Rattle.cdc_along.specs.Sections.{LiesInSection}

one_place : (ds : List Dim) (vs : List ℤ) (xs ys : List ℕ) → ArePositions ds vs xs → ArePositions ds vs ys → xs ≡ ys
one_place [] [] [] [] f g = refl
one_place [] [] [] (y ∷ ys) f g = absurd g
one_place [] [] (x ∷ xs) ys f g = absurd f
one_place [] (v ∷ vs) xs ys f g = absurd f
one_place (d ∷ ds) [] xs ys f g = absurd f
one_place (d ∷ ds) (v ∷ vs) [] ys f g = absurd f
one_place (d ∷ ds) (v ∷ vs) (x ∷ xs) [] f g = absurd g
one_place (d ∷ ds) (v ∷ vs) (x ∷ xs) (y ∷ ys) f g =
    let first : x ≡ y = (let e = f.0 in let h = g.0 in cc) in
    ap₂ (λ (z : ℕ) (zs : List ℕ). z ∷ zs) first (one_place ds vs xs ys f.1 g.1)

-- two accesses of one element of an object
same_element : (ds : List Dim) (n : ℕ) (us vs : List ℤ) (xs ys : List ℕ) → element ds us ≡ Ok n → element ds vs ≡ Ok n → ArePositions ds us xs → ArePositions ds vs ys → xs ≡ ys
same_element ds n us vs xs ys f g are also = one_place ds us xs ys are (subst (λ ws. ArePositions ds ws ys) (sym (element_distinct ds us vs n f g)) also)

pub meet : (p : Program) (writes also : Bool) (path other : List ℕ) (site far word : ℕ) → IsResolved p → LiesInSection p writes path site word → LiesInSection p also other far word
    → (object : ℕ) × (s : List Triplet) × (t : List Triplet) × Touches p writes path site object s × Touches p also other far object t × Overlap s t
meet p writes also path other site far word r a c =
    let (object, number) = one_owner p.objects p.words a.object c.object a.number c.number word r.laid_out a.is_word c.is_word in
    let dims = dims_in (slice_get p.objects a.object) in
    let named : element dims c.subs ≡ Ok a.number = subst (λ k. element (dims_in (slice_get p.objects k)) c.subs ≡ Ok a.number) (sym object) (subst (λ n. element (dims_in (slice_get p.objects c.object)) c.subs ≡ Ok n) (sym number) c.named) in
    let placed : ArePositions dims c.subs c.positions = subst (λ k. ArePositions (dims_in (slice_get p.objects k)) c.subs c.positions) (sym object) c.placed in
    let same : a.positions ≡ c.positions = same_element dims a.number a.subs c.subs a.positions c.positions a.named named a.placed placed in
    (a.object, a.section, c.section, a.touches, subst (λ k. Touches p also other far k c.section) (sym object) c.touches, shared a.section c.section a.positions a.inside (subst (λ zs. IsInSection c.section zs) (sym same) c.inside))
