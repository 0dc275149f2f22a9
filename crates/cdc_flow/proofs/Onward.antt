-- From each point of a graph that is built the end can be reached.
use Rattle.std.proofs.Common.{◌≡◌, ◌⊎◌, ℕ, zero, suc, ◌+◌, List, ◌∷◌, refl, subst, inl, inr, arith}
use Rattle.std.proofs.lemmas.Bool.{cases_lt}
use Rattle.cdc_path.specs.declared.point.Point.{Point}
use Rattle.cdc_path.specs.declared.point.Point.TheVariants.{Read, Write, Entry, Exit, Call, Plain}
use Rattle.cdc_path.specs.PathExpr.{Visit, PathExpr, Nothing, One, Then, Either, Repeat}
use Rattle.cdc_flow.specs.Flow.{pass, Reach, Reaches, Begins, Done, More}
use Rattle.cdc_flow.proofs.Sizes.{size, last}
use Rattle.cdc_flow.proofs.Flows.{Laid, step}
use Rattle.cdc_flow.proofs.Lays.{Within, points, edges, laid, into_within}

pub then_on : {Q R : List Visit → Type 0} (u : List Visit) → Begins Q u → ((t : List Visit) → Q t → Begins R t) → Begins R u
then_on u (Done t q) f = f t q
then_on u (More p t b) f = More p t (then_on (p ∷ t) b f)

split : (n a b v : ℕ) → Within n (a + b) v → Within n a v ⊎ Within (n + a) b v
split n a b v w = elim (cases_lt v (n + a)) [ inl h ↦ inl (record { low = omega arith; high = omega arith }) | inr h ↦ inr (record { low = omega arith; high = omega arith }) ]

module _ (P : ℕ → Point) (E : ℕ → ℕ → Type 0) (start : ℕ) where
  on : (p : Point) (v : ℕ) (u : List Visit) → Reaches P E start v (pass p u) → Begins (Reaches P E start v) u
  on Plain v u r = Done u r
  on (Read k) v u r = More _ u (Done _ r)
  on (Write k) v u r = More _ u (Done _ r)
  on (Entry k) v u r = More _ u (Done _ r)
  on (Exit k) v u r = More _ u (Done _ r)
  on (Call k) v u r = More _ u (Done _ r)

  abbrev Leads : ℕ → ℕ → Type 0
  Leads a v = (u : List Visit) → Reaches P E start a u → Begins (Reaches P E start v) u

  go : (a v : ℕ) (p : Point) → P v ≡ p → E a v → Leads a v
  go a v p q e u r = on p v u (step P E start a v p u q e r)

  both : (a b c : ℕ) → Leads a b → Leads b c → Leads a c
  both a b c f g u r = then_on u (f u r) g

  stay : (v w : ℕ) → v ≡ w → Leads v w
  stay v w e u r = Done u (subst (λ x. Reaches P E start x u) e r)

  -- from where a part begins and from each point in it, its end can be reached
  record Onward (c : PathExpr) (from n : ℕ) : Type 0 where
    begin : Leads from (last c from n)
    inside : (v : ℕ) → Within n (size c) v → Leads v (last c from n)

  onward : (c : PathExpr) (from n : ℕ) → Laid P E start c from n → Onward c from n
  onward Nothing from n l = record { begin = stay from from refl; inside = λ v w. absurd (omega arith) }
  onward (One x) from n l = record { begin = go from n x.point l.0 ((l.1 from).1 refl); inside = λ v w. stay v n (omega arith) }
  onward (Then a b) from n l =
      let x = onward a from n l.0 in
      let y = onward b (last a from n) (n + size a) l.1 in
      record {
        begin = both _ _ _ x.begin y.begin;
        inside = λ v w. elim (split n (size a) (size b) v w) [ inl h ↦ both _ _ _ (x.inside v h) y.begin | inr h ↦ y.inside v h ];
      }
  onward (Either a b) from n l =
      let x = onward a from n l.0 in
      let y = onward b from (n + size a) l.1 in
      let j = n + size a + size b in
      let ga = go (last a from n) j Plain l.2 ((l.3 _).1 (inl refl)) in
      let gb = go (last b from (n + size a)) j Plain l.2 ((l.3 _).1 (inr refl)) in
      record {
        begin = both _ _ _ x.begin ga;
        inside = λ v w. elim (split n (size a + size b) 1 v w) [
          | inl h ↦ elim (split n (size a) (size b) v h) [ inl i ↦ both _ _ _ (x.inside v i) ga | inr i ↦ both _ _ _ (y.inside v i) gb ]
          | inr h ↦ stay v j (omega arith)
        ];
      }
  onward (Repeat a) from n l =
      let x = onward a n (n + 1) l.1 in
      let turned = go (last a n (n + 1)) n Plain l.0.0 ((l.0.1 _).1 (inr refl)) in
      record {
        begin = go from n Plain l.0.0 ((l.0.1 from).1 (inl refl));
        inside = λ v w. elim (cases_lt v (n + 1)) [
          | inl i ↦ stay v n (omega arith)
          | inr i ↦ both _ _ _ (x.inside v (record { low = omega arith; high = omega arith })) turned
        ];
      }

-- what reaches any point of the graph is the beginning of a path to its end
pub goes_on : (c : PathExpr) (k v : ℕ) (u : List Visit) → Reach (points c) (edges c) 0 k v u → Begins (Reaches (points c) (edges c) 0 (last c 0 1)) u
goes_on c zero v u r = (onward (points c) (edges c) 0 c 0 1 (laid c)).begin u (0, (refl, r.1))
goes_on c (suc k) v u r = (onward (points c) (edges c) 0 c 0 1 (laid c)).inside v (into_within c r.0 v r.3) u (suc k, r)
