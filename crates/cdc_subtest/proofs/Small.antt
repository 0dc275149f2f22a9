-- Parts of small sums of terms are small and few.
use Rattle.std.proofs.Common.{◌≡◌, suc, ◌≤◌, Bool, true, false, if◌then◌else◌, List, [], ◌∷◌, length, refl, arith}
use Rattle.std.specs.Prelude.{◌&&◌}
use Rattle.cdc_prog.specs.declared.affine.Scope.{Scope}
use Rattle.cdc_prog.specs.declared.affine.Term.{Term}
use Rattle.cdc_prog.specs.Affine.{is_index, is_small, are_small}
use Rattle.cdc_prog.specs.Dependence.{moving, others, is_own}
use Rattle.cdc_affine.proofs.Worth.{and_true}

and_both : (p q : Bool) → p ≡ true → q ≡ true → (p && q) ≡ true
and_both true q a b = b
and_both false q a b = cc

pub moving_small : (sc : Scope) (ts : List Term) → are_small ts ≡ true → are_small (moving sc ts) ≡ true
moving_small sc [] e = refl
moving_small sc (t ∷ ts) e =
    let p = and_true (is_small t.times) (are_small ts) e in
    go (is_index sc t.var) p.0 (moving_small sc ts p.1)
  where
    go : (test : Bool) → is_small t.times ≡ true → are_small (moving sc ts) ≡ true → are_small (if test then t ∷ moving sc ts else moving sc ts) ≡ true
    go true a h = and_both (is_small t.times) (are_small (moving sc ts)) a h
    go false a h = h

pub moving_few : (sc : Scope) (ts : List Term) → length (moving sc ts) ≤ length ts
moving_few sc [] = omega arith
moving_few sc (t ∷ ts) = go (is_index sc t.var) (moving_few sc ts)
  where
    go : (test : Bool) → length (moving sc ts) ≤ length ts → length (if test then t ∷ moving sc ts else moving sc ts) ≤ suc (length ts)
    go true h = omega (arith, h)
    go false h = omega (arith, h)

pub others_small : (ts : List Term) → are_small ts ≡ true → are_small (others ts) ≡ true
others_small [] e = refl
others_small (t ∷ ts) e =
    let p = and_true (is_small t.times) (are_small ts) e in
    go (is_own t) p.0 (others_small ts p.1)
  where
    go : (test : Bool) → is_small t.times ≡ true → are_small (others ts) ≡ true → are_small (if test then others ts else t ∷ others ts) ≡ true
    go true a h = h
    go false a h = and_both (is_small t.times) (are_small (others ts)) a h

pub others_few : (ts : List Term) → length (others ts) ≤ length ts
others_few [] = omega arith
others_few (t ∷ ts) = go (is_own t) (others_few ts)
  where
    go : (test : Bool) → length (others ts) ≤ length ts → length (if test then others ts else t ∷ others ts) ≤ suc (length ts)
    go true h = omega (arith, h)
    go false h = omega (arith, h)
