-- Instructions at a place of the code.
use Rattle.std.proofs.Common.{◌≡◌, ℕ, ◌+◌, ◌<◌, List, [], ◌∷◌, ◌++◌, length, Some, ap, ◌∙◌, subst, arith, append_assoc, length-append}
use Rattle.std.specs.Prelude.{slice_get}
use Rattle.std.proofs.Math.Seq.{get_or-append_seam}
use Rattle.std.proofs.lemmas.Option.{slice_get-get_or}
use Rattle.cdc_code.specs.declared.instr.Step.{Step}

-- the instructions stand in the code at this place
abbrev pub HasAt : List Step → ℕ → List Step → Type 0
HasAt steps pc [] = Unit {0}
HasAt steps pc (i ∷ is) = (slice_get steps pc ≡ Some i) × HasAt steps (pc + 1) is

pub has_front : (steps : List Step) (pc : ℕ) (a b : List Step) → HasAt steps pc (a ++ b) → HasAt steps pc a
has_front steps pc [] b h = tt
has_front steps pc (i ∷ a) b h = (h.0, has_front steps (pc + 1) a b h.1)

pub has_back : (steps : List Step) (pc : ℕ) (a b : List Step) → HasAt steps pc (a ++ b) → HasAt steps (pc + length a) b
has_back steps pc [] b h = let e : pc ≡ pc + 0 = omega arith in subst (λ n. HasAt steps n b) e h
has_back steps pc (i ∷ a) b h =
    let e : pc + 1 + length a ≡ pc + length (i ∷ a) = omega arith in
    subst (λ n. HasAt steps n b) e (has_back steps (pc + 1) a b h.1)

has_rest : (is pre : List Step) → HasAt (pre ++ is) (length pre) is
has_rest [] pre = tt
has_rest (i ∷ is) pre =
    let within : length pre < length (pre ++ i ∷ is) = omega (arith, length-append pre (i ∷ is)) in
    let here = slice_get-get_or (pre ++ i ∷ is) (length pre) i within ∙ ap Some (get_or-append_seam pre i is i) in
    let n : length (pre ++ i ∷ []) ≡ length pre + 1 = omega (arith, length-append pre (i ∷ [])) in
    let rest = has_rest is (pre ++ i ∷ []) in
    let rest' = subst (λ l. HasAt l (length (pre ++ i ∷ [])) is) (append_assoc pre (i ∷ []) is) rest in
    (here, subst (λ m. HasAt (pre ++ i ∷ is) m is) n rest')

pub has_all : (steps : List Step) → HasAt steps 0 steps
has_all steps = has_rest steps []
