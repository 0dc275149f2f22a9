-- A copy that is let through was touched by no other processor since it was made.
use Rattle.std.proofs.Common.{◌≡◌, ℕ, suc, ◌+◌, ◌-◌, ◌<◌, ◌≤◌, List, [], ◌∷◌, take, subst, arith, inl, inr}
use Rattle.std.specs.Prelude.{Contains, All}
use Rattle.std.proofs.lemmas.List.Elements.{All-head, All-tail}
use Rattle.std.proofs.lemmas.Bool.{cases_lt, cases_eq}
use Rattle.cdc_scheme.specs.TrueTime.{IsListed, Covers}
use Rattle.cdc_fabric.specs.Calls.{Call, Load, Store, Evict, Boundary, epoch, lists, stored_objects, StoredByOther, StoresAll, IsOrderly}
use Rattle.cdc_cache.specs.Good.{OtherStores}

-- a list that contains each object covers them
pub covers : (written objects : List ℕ) → All (Contains written) objects → Covers written objects
covers written [] all = tt
covers written (object ∷ objects) all = (All-head (Contains written) object objects all, covers written objects (All-tail (Contains written) object objects all))

-- a weaker fact on the epochs of the stores
pub others_weaken : (p x : ℕ) (P Q : ℕ → Type 0) (calls : List Call) → ((f : ℕ) → P f → Q f) → OtherStores p x P calls → OtherStores p x Q calls
others_weaken p x P Q [] so others = tt
others_weaken p x P Q (Load q y mark ∷ calls) so others = others_weaken p x P Q calls so others
others_weaken p x P Q (Store q y value ∷ calls) so others = (λ other same. so (epoch calls) (others.0 other same), others_weaken p x P Q calls so others.1)
others_weaken p x P Q (Evict q line ∷ calls) so others = others_weaken p x P Q calls so others
others_weaken p x P Q (Boundary written ∷ calls) so others = others_weaken p x P Q calls so others

-- what holds of all stores holds of the others', of which none is in the present epoch e
pub others_from_all : (p x e : ℕ) (P Q : ℕ → Type 0) (calls : List Call) → epoch calls ≤ e → (epoch calls ≡ e → StoredByOther p x calls → ⊥) → ((f : ℕ) → f < e → P f → Q f) → StoresAll x P calls → OtherStores p x Q calls
others_from_all p x e P Q [] le none so all = tt
others_from_all p x e P Q (Load q y mark ∷ calls) le none so all = others_from_all p x e P Q calls le none so all
others_from_all p x e P Q (Store q y value ∷ calls) le none so all = (
  λ other same. elim (cases_eq (epoch calls) e) [
    | inl now ↦ absurd (none now (inl (other, same)))
    | inr past ↦ so (epoch calls) (omega (arith, le, past)) (all.0 same)
  ],
  others_from_all p x e P Q calls le (λ now by. none now (inr by)) so all.1,
)
others_from_all p x e P Q (Evict q line ∷ calls) le none so all = others_from_all p x e P Q calls le none so all
others_from_all p x e P Q (Boundary written ∷ calls) le none so all = others_from_all p x e P Q calls (omega (arith, le)) (λ now. absurd (omega (arith, le, now))) so all

-- all stores so far were before the next epoch
pub all_before : (p x made : ℕ) (calls : List Call) → epoch calls + 1 ≤ made → OtherStores p x (λ f. f + 1 ≤ made) calls
all_before p x made [] le = tt
all_before p x made (Load q y mark ∷ calls) le = all_before p x made calls le
all_before p x made (Store q y value ∷ calls) le = (λ other same. le, all_before p x made calls le)
all_before p x made (Evict q line ∷ calls) le = all_before p x made calls le
all_before p x made (Boundary written ∷ calls) le = all_before p x made calls (omega (arith, le))

-- a list that covers the objects of an epoch holds the object of each word that was stored
pub covered : (owner : ℕ → ℕ) (p x : ℕ) (written : List ℕ) (calls : List Call) → Covers written (stored_objects owner calls) → StoredByOther p x calls → Contains written (owner x)
covered owner p x written [] covers stored = absurd stored
covered owner p x written (Load q y mark ∷ calls) covers stored = covered owner p x written calls covers stored
covered owner p x written (Store q y value ∷ calls) covers (inl now) = subst (λ z. Contains written (owner z)) now.1 covers.0
covered owner p x written (Store q y value ∷ calls) covers (inr past) = covered owner p x written calls covers.1 past
covered owner p x written (Evict q line ∷ calls) covers stored = covered owner p x written calls covers stored
covered owner p x written (Boundary w ∷ calls) covers stored = absurd stored

-- an object that stands in none of the lists since the copy was made was not stored since
pub unlisted : (owner : ℕ → ℕ) (p x made : ℕ) (calls : List Call) → IsOrderly owner calls → (IsListed (owner x) (take (epoch calls - made) (lists calls)) → ⊥) → (StoredByOther p x calls → ⊥) → OtherStores p x (λ f. f + 1 ≤ made) calls
unlisted owner p x made [] orderly none now = tt
unlisted owner p x made (Load q y mark ∷ calls) orderly none now = unlisted owner p x made calls orderly.0 none now
unlisted owner p x made (Store q y value ∷ calls) orderly none now = (λ other same. absurd (now (inl (other, same))), unlisted owner p x made calls orderly.0 none (λ by. now (inr by)))
unlisted owner p x made (Evict q line ∷ calls) orderly none now = unlisted owner p x made calls orderly.0 none now
unlisted owner p x made (Boundary written ∷ calls) orderly none now = elim (cases_lt (epoch calls) made) [
  | inl before ↦ all_before p x made calls (omega (arith, before))
  | inr since ↦
      let more : epoch calls + 1 - made ≡ suc (epoch calls - made) = omega (arith, since) in
      let none_of : (IsListed (owner x) (written ∷ take (epoch calls - made) (lists calls))) → ⊥ = subst (λ k. IsListed (owner x) (take k (written ∷ lists calls)) → ⊥) more none in
      unlisted owner p x made calls orderly.0 (λ in_some. none_of (inr in_some)) (λ stored. none_of (inl (covered owner p x written calls (covers written (stored_objects owner calls) orderly.1) stored)))
]
