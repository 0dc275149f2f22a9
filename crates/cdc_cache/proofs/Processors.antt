-- The caches of all processors, changed one after another; the objects of words.
use Rattle.std.proofs.Common.{◌≡◌, ℕ, zero, suc, ◌+◌, ◌<◌, ◌≤◌, List, [], ◌∷◌, ◌++◌, length, replicate, drop, get_or, set, refl, sym, ◌∙◌, ap, subst, arith, ⊎_elim}
use Rattle.std.specs.Prelude.{◌-◌, ◌^◌, min, All}
use Rattle.std.proofs.lemmas.List.{length-append, length-replicate}
use Rattle.std.proofs.lemmas.List.Elements.{All-nil, All-append, All-replicate}
use Rattle.cdc_prog.specs.declared.program.Object.{Object}
use Rattle.cdc_sched.specs.declared.header.Geometry.{Geometry}
use Rattle.cdc_scheme.specs.declared.scheme.Scheme.{Ghosts}
use Rattle.cdc_fabric.specs.Counting.{after_boundary}
use Rattle.cdc_fabric.specs.Made.{owners_from}
use Rattle.cdc_fabric.specs.declared.counts.Counts.{Counts}
use Rattle.cdc_cache.specs.declared.cache.Cache.{Cache}
use Rattle.cdc_cache.specs.declared.line.Line.{Line}
use Rattle.cdc_cache.specs.Cache.{IsCache, geometry_of}
use Rattle.cdc_cache.specs.Copies.{changed}
use Rattle.cdc_cache.specs.Finds.{if_yes, if_no}
use Rattle.cdc_cache.specs.Processors.{AreCaches, LieFrom}
use Rattle.cdc_cache.proofs.SetCalls.{get_put, get_push}

module _ {S W T : Type 0} (scheme : Ghosts S W T) (geometry : Geometry) where
  pub caches_put : (caches : List (Cache S W T scheme)) (lists : ℕ → List (Line W)) (p : ℕ) (new : Cache S W T scheme) (after : List (Line W)) → AreCaches scheme geometry caches lists → geometry_of new ≡ geometry → IsCache scheme new after
      → AreCaches scheme geometry (set caches p new) (changed lists p after)
  caches_put caches lists p new after are shape is = λ q cache at. ⊎_elim
      (λ same. subst (λ c. (geometry_of c ≡ geometry) × IsCache scheme c (changed lists p after q)) (sym same.1) (shape, subst (IsCache scheme new) (sym (if_yes q p after (lists q) same.0)) is))
      (λ other. ((are q cache other.1).0, subst (IsCache scheme cache) (sym (if_no q p after (lists q) other.0)) (are q cache other.1).1))
      (get_put caches p q new cache at)

  pub caches_push : (caches : List (Cache S W T scheme)) (new : Cache S W T scheme) → AreCaches scheme geometry caches (λ p. []) → geometry_of new ≡ geometry → IsCache scheme new [] → AreCaches scheme geometry (caches ++ new ∷ []) (λ p. [])
  caches_push caches new are shape is = λ q cache at. ⊎_elim
      (λ old. are q cache old)
      (λ same. subst (λ c. (geometry_of c ≡ geometry) × IsCache scheme c []) (sym same) (shape, is))
      (get_push caches new q cache at)

pub owners_next : (number i : ℕ) (objects : List Object) (d : Object) → i < length objects → owners_from number (drop i objects) ≡ replicate (get_or objects i d).words number ++ owners_from (number + 1) (drop (i + 1) objects)
owners_next number i [] d within = absurd (omega (arith, within))
owners_next number zero (o ∷ os) d within = refl
owners_next number (suc i) (o ∷ os) d within =
    let place : suc (i + 1) ≡ suc i + 1 = omega arith in
    owners_next number i os d (omega (arith, within)) ∙ ap (λ k. replicate (get_or os i d).words number ++ owners_from (number + 1) (drop k (o ∷ os))) place

pub owners_length : (from number words : ℕ) (objects : List Object) → LieFrom from objects words → from + length (owners_from number objects) ≡ words
owners_length from number words [] lie = omega (arith, lie)
owners_length from number words (o ∷ os) lie =
    omega (arith, length-append (replicate o.words number) (owners_from (number + 1) os), length-replicate o.words number, owners_length (from + o.words) (number + 1) words os lie.1)

pub owners_below : (number count : ℕ) (objects : List Object) → number + length objects ≤ count → All (λ o. o < count) (owners_from number objects)
owners_below number count [] most = All-nil (λ o. o < count)
owners_below number count (o ∷ os) most =
    All-append (λ o. o < count) (replicate o.words number) (owners_from (number + 1) os) (All-replicate (λ o. o < count) o.words number (omega (arith, most))) (owners_below (number + 1) count os (omega (arith, most)))

-- a number that stays at the last value of u64 is added as a larger one
pub invalidated_most : (n : ℕ) (c : Counts) → after_boundary (min n (2 ^ 64 - 1)) c ≡ after_boundary n c
invalidated_most n c = ap (λ k. record c { invalidated = k }) (omega arith)

pub get_same : {A : Type 0} (n x : ℕ) (a : A) → get_or (replicate n a) x a ≡ a
get_same zero x a = refl
get_same (suc n) zero a = refl
get_same (suc n) (suc x) a = get_same n x a
