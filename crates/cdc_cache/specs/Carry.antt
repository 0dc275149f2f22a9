-- Each kind of call carries the relation.
use Rattle.std.proofs.Common.{◌≡◌, ◌≢◌, ◌⊎◌, ℕ, ◌+◌, ◌-◌, ◌≤◌, max, List, [], ◌∷◌, length, take, refl, sym, ◌∙◌, ap, subst, arith, inl, inr, ⊎_elim}
use Rattle.std.specs.Prelude.{ℤ, IsTrue, Option, Some, None, option_map}
use Rattle.std.proofs.lemmas.Bool.{cases_eq}
use Rattle.std.proofs.lemmas.Bool.Decides.{nat_tests}
use Rattle.cdc_prog.specs.declared.program.Mark.{Mark}
use Rattle.cdc_prog.specs.declared.program.Mark.TheVariants.{Ordinary, Time}
use Rattle.cdc_scheme.specs.declared.scheme.Scheme.{Ghosts}
use Rattle.cdc_scheme.specs.TrueTime.{IsListed, Covers, IsYoung, WasDated, present, beside}
use Rattle.cdc_cache.specs.declared.line.Copied.{Copied}
use Rattle.cdc_fabric.specs.Calls.{Call, Load, Store, Evict, Boundary, epoch, lists, stored_objects, Accessed, StoredByOther, StoresAll, IsOrderly, IsMarked}
use Rattle.cdc_cache.specs.Good.{Copies, IsGood, IsUntouched, Stands, IsFill, Fills, Writes, Drops, Keeps}
use Rattle.cdc_cache.specs.Marks.{covers, others_weaken, others_from_all, unlisted}

-- the laws of a scheme
pub record SchemeLaws {S W T : Type 0} (scheme : Ghosts S W T) : Type 0 where
  pub knows_write : (s : T) (ls : List (List ℕ)) (os : List ℕ) (other : ℕ) → scheme.knows s ls os → scheme.knows s ls (other ∷ os)
  pub knows_boundary : (s after : T) (ls : List (List ℕ)) (os written : List ℕ) → scheme.knows s ls os → Covers written os → scheme.closes s written after → scheme.knows after (written ∷ ls) []
  pub dates_write : (s : T) (ls : List (List ℕ)) (os : List ℕ) (other object made : ℕ) (word : W) → scheme.dates s ls os object word made → scheme.dates s ls (other ∷ os) object word made
  pub dates_target : (s : T) (ls : List (List ℕ)) (os : List ℕ) (object before : ℕ) (old : Option W) → scheme.knows s ls os → WasDated (scheme.dates s ls os object) old before → scheme.dates s ls os object (scheme.target_of s object old) (present ls)
  pub dates_neighbour : (s : T) (ls : List (List ℕ)) (os : List ℕ) (object before : ℕ) (old : Option W) → scheme.knows s ls os → WasDated (scheme.dates s ls os object) old before → scheme.dates s ls os object (scheme.neighbour_of s object old) (beside ls before)
  pub dates_wrote : (s : T) (ls : List (List ℕ)) (os : List ℕ) (object : ℕ) → scheme.knows s ls os → scheme.dates s ls (object ∷ os) object (scheme.wrote_of s object) (present ls)
  pub first : (s : T) (ls : List (List ℕ)) (os : List ℕ) (object made d : ℕ) (word : W) → scheme.knows s ls os → scheme.dates s ls os object word made → 1 ≤ d → IsTrue (scheme.admits_of s object (Time d) word) → IsYoung d ls object made
  pub second : (s after : T) (ls : List (List ℕ)) (os written : List ℕ) (object made : ℕ) (word kept : W) → scheme.knows s ls os → Covers written os → scheme.dates s ls os object word made → scheme.keeps_of s written object word ≡ Some kept → scheme.closes s written after → scheme.dates after (written ∷ ls) [] object kept made

pub length-lists : (calls : List Call) → length (lists calls) ≡ epoch calls
length-lists [] = refl
length-lists (Load p x mark ∷ calls) = length-lists calls
length-lists (Store p x value ∷ calls) = length-lists calls
length-lists (Evict p line ∷ calls) = length-lists calls
length-lists (Boundary written ∷ calls) = omega (arith, length-lists calls)

-- a young copy was touched by no other processor since it was made
pub untouched_time : (owner : ℕ → ℕ) (calls : List Call) (p x d made : ℕ) → IsOrderly owner calls → (StoredByOther p x calls → ⊥) → IsMarked p x (Time d) calls → IsYoung d (lists calls) (owner x) made → IsUntouched p x made calls
untouched_time owner calls p x d made orderly now marked young =
    ⊎_elim
    (λ age.
    let age_is : epoch calls + 1 ≤ d + made = omega (arith, age, length-lists calls) in
    others_from_all p x (epoch calls) (λ f. (f ≡ 0) ⊎ ((f ≡ epoch calls) ⊎ (f + d ≤ epoch calls))) (λ f. (f ≡ 0) ⊎ (f + 1 ≤ made)) calls (omega arith) (λ e. now)
    (λ f lt at. ⊎_elim (λ zero. inl zero) (λ later. inr (⊎_elim (λ same. absurd (omega (arith, same, lt))) (λ old. omega (arith, old, age_is)) later)) at) marked.1)
    (λ none.
    others_weaken p x (λ f. f + 1 ≤ made) (λ f. (f ≡ 0) ⊎ (f + 1 ≤ made)) calls (λ f le. inr le)
    (unlisted owner p x made calls orderly (subst (λ n. IsListed (owner x) (take (n - made) (lists calls)) → ⊥) (length-lists calls) none) now))
    young

pub untouched_ordinary : (calls : List Call) (p x made : ℕ) → (StoredByOther p x calls → ⊥) → StoresAll x (λ f. (f ≡ 0) ⊎ (f ≡ epoch calls)) calls → IsUntouched p x made calls
untouched_ordinary calls p x made now all =
    others_from_all p x (epoch calls) (λ f. (f ≡ 0) ⊎ (f ≡ epoch calls)) (λ f. (f ≡ 0) ⊎ (f + 1 ≤ made)) calls (omega arith) (λ e. now) (λ f lt at. ⊎_elim (λ zero. inl zero) (λ same. absurd (omega (arith, same, lt))) at) all

module _ {S W T : Type 0} (scheme : Ghosts S W T) (laws : SchemeLaws scheme) (owner : ℕ → ℕ) where
  -- a hit gives memory's value
  pub hit_value : (state : T) (memory : ℕ → ℤ) (copies : Copies W) (calls : List Call) (p x : ℕ) (mark : Mark) (copy : Copied W) → Stands scheme owner state memory copies calls → IsOrderly owner (Load p x mark ∷ calls)
      → copies p x ≡ Some copy → IsTrue (scheme.admits_of state (owner x) mark copy.stamp) → copy.value ≡ memory x
  hit_value state memory copies calls p x Ordinary copy stands orderly there admitted =
      let good = stands.good p x copy there in
      ⊎_elim (λ accessed. good.own accessed) (λ all. good.value (untouched_ordinary calls p x good.made orderly.1.1 all)) orderly.1.2
  hit_value state memory copies calls p x (Time d) copy stands orderly there admitted =
      let good = stands.good p x copy there in
      let young = laws.first state (lists calls) (stored_objects owner calls) (owner x) good.made d copy.stamp stands.known good.dated orderly.1.2.0 admitted in
      good.value (untouched_time owner calls p x d good.made orderly.0 orderly.1.1 orderly.1.2 young)

  -- a copy that stays over a load
  load_good : (state : T) (memory : ℕ → ℤ) (calls : List Call) (p x q y : ℕ) (mark : Mark) (copy : Copied W) → IsGood scheme state owner memory calls q y copy → (p ≡ q → x ≡ y → copy.value ≡ memory y) → IsGood scheme state owner memory (Load p x mark ∷ calls) q y copy
  load_good state memory calls p x q y mark copy good own = record {
    made = good.made;
    past = good.past;
    dated = good.dated;
    fresh = λ now. inr (good.fresh now);
    first = λ zero. inr (good.first zero);
    value = good.value;
    own = λ accessed. ⊎_elim (λ now. own now.0 now.1) good.own accessed;
  }

  pub hit_carries : (state : T) (memory : ℕ → ℤ) (copies : Copies W) (calls : List Call) (p x : ℕ) (mark : Mark) (copy : Copied W) → Stands scheme owner state memory copies calls → IsOrderly owner (Load p x mark ∷ calls)
      → copies p x ≡ Some copy → IsTrue (scheme.admits_of state (owner x) mark copy.stamp) → Stands scheme owner state memory copies (Load p x mark ∷ calls)
  hit_carries state memory copies calls p x mark copy stands orderly there admitted = record {
    known = stands.known;
    holds = stands.holds;
    good = λ q y other at. load_good state memory calls p x q y mark other (stands.good q y other at) (λ pq xy.
        let same : copy ≡ other = cc (there, at, pq, xy) in
        subst (λ z. other.value ≡ memory z) xy (subst (λ c. c.value ≡ memory x) same (hit_value state memory copies calls p x mark copy stands orderly there admitted)));
  }

  -- a copy that a miss filled
  fill_good : (state : T) (memory : ℕ → ℤ) (before : Copies W) (calls : List Call) (p x y : ℕ) (mark : Mark) (copy : Copied W) → Stands scheme owner state memory before calls → IsFill scheme state owner memory before p x y copy → IsGood scheme state owner memory (Load p x mark ∷ calls) p y copy
  fill_good state memory before calls p x y mark copy stands fill = ⊎_elim target neighbour fill.word
    where
      made_of : (old : Option (Copied W)) → before p y ≡ old → (made : ℕ) × WasDated (scheme.dates state (lists calls) (stored_objects owner calls) (owner y)) (option_map (λ c. c.stamp) old) made × (made ≤ epoch calls + 1) × (made ≡ epoch calls + 1 → Accessed p y calls)
      made_of None at = (0, refl, omega arith, λ now. absurd (omega (arith, now)))
      made_of (Some old) at = let good = stands.good p y old at in (good.made, good.dated, good.past, good.fresh)

      target : (y ≡ x) × (copy.stamp ≡ scheme.target_of state (owner y) (option_map (λ c. c.stamp) (before p y))) → IsGood scheme state owner memory (Load p x mark ∷ calls) p y copy
      target is = record {
        made = epoch calls + 1;
        past = omega arith;
        dated =
            subst (λ w. scheme.dates state (lists calls) (stored_objects owner calls) (owner y) w (epoch calls + 1)) (sym is.1)
            (subst (λ n. scheme.dates state (lists calls) (stored_objects owner calls) (owner y) (scheme.target_of state (owner y) (option_map (λ c. c.stamp) (before p y))) (n + 1)) (length-lists calls)
            (laws.dates_target state (lists calls) (stored_objects owner calls) (owner y) (made_of (before p y) refl).0 (option_map (λ c. c.stamp) (before p y)) stands.known (made_of (before p y) refl).1));
        fresh = λ now. inl (refl, sym is.0);
        first = λ zero. inl refl;
        value = λ untouched. fill.value;
        own = λ accessed. fill.value;
      }

      neighbour : (y ≢ x) × (copy.stamp ≡ scheme.neighbour_of state (owner y) (option_map (λ c. c.stamp) (before p y))) → IsGood scheme state owner memory (Load p x mark ∷ calls) p y copy
      neighbour is =
          let old = made_of (before p y) refl in
          record {
            made = max (epoch calls) old.0;
            past = omega (arith, old.2);
            dated =
                subst (λ w. scheme.dates state (lists calls) (stored_objects owner calls) (owner y) w (max (epoch calls) old.0)) (sym is.1)
                (subst (λ n. scheme.dates state (lists calls) (stored_objects owner calls) (owner y) (scheme.neighbour_of state (owner y) (option_map (λ c. c.stamp) (before p y))) (max n old.0)) (length-lists calls)
                (laws.dates_neighbour state (lists calls) (stored_objects owner calls) (owner y) old.0 (option_map (λ c. c.stamp) (before p y)) stands.known old.1));
            fresh = λ now. inr (old.3 (omega (arith, now, old.2)));
            first = λ zero. inl refl;
            value = λ untouched. fill.value;
            own = λ accessed. fill.value;
          }

  pub miss_carries : (state : T) (memory : ℕ → ℤ) (before after : Copies W) (calls : List Call) (p x : ℕ) (mark : Mark) → Stands scheme owner state memory before calls → IsOrderly owner (Load p x mark ∷ calls)
      → Fills scheme state owner memory before after p x → Stands scheme owner state memory after (Load p x mark ∷ calls)
  miss_carries state memory before after calls p x mark stands orderly fills = record {
    known = stands.known;
    holds = stands.holds;
    good = λ q y copy at. ⊎_elim
        (λ stays. load_good state memory calls p x q y mark copy (stands.good q y copy stays.0) (λ pq xy. absurd (stays.1 (sym pq, sym xy))))
        (λ filled. subst (λ r. IsGood scheme state owner memory (Load p x mark ∷ calls) r y copy) (sym filled.0) (fill_good state memory before calls p x y mark copy stands filled.1))
        (fills q y copy at);
  }

  -- a copy that stays over a store of another copy
  store_good : (state : T) (old new : ℕ → ℤ) (calls : List Call) (p x : ℕ) (v : ℤ) (q y : ℕ) (copy : Copied W) → IsOrderly owner (Store p x v ∷ calls) → ((z : ℕ) → (z ≡ x → ⊥) → new z ≡ old z) → ((q ≡ p) × (y ≡ x) → ⊥) → IsGood scheme state owner old calls q y copy → IsGood scheme state owner new (Store p x v ∷ calls) q y copy
  store_good state old new calls p x v q y copy orderly others apart good = record {
    made = good.made;
    past = good.past;
    dated = laws.dates_write state (lists calls) (stored_objects owner calls) (owner x) (owner y) good.made copy.stamp good.dated;
    fresh = λ now. inr (good.fresh now);
    first = λ zero. inr (good.first zero);
    value = λ untouched. elim (cases_eq y x) [
      | inl same ↦
          let foreign : q ≢ p = λ own. apart (own, same) in
          absurd (⊎_elim
          (λ zero. foreign (orderly.1.0 zero q (good.first zero)))
          (λ since. orderly.1.1 q foreign (subst (λ z. Accessed q z calls) same (good.fresh (omega (arith, since, good.past)))))
          (untouched.0 (λ pq. foreign (sym pq)) (sym same)))
      | inr other ↦ good.value untouched.1 ∙ sym (others y other)
    ];
    own = λ accessed. elim (cases_eq y x) [
      | inl same ↦
          let foreign : q ≢ p = λ own. apart (own, same) in
          absurd (⊎_elim (λ now. foreign (sym now.0)) (λ past. orderly.1.1 q foreign (subst (λ z. Accessed q z calls) same past)) accessed)
      | inr other ↦ ⊎_elim (λ now. absurd (other (sym now.1))) (λ past. good.own past ∙ sym (others y other)) accessed
    ];
  }

  pub store_carries : (state : T) (old new : ℕ → ℤ) (before after : Copies W) (calls : List Call) (p x : ℕ) (value : ℤ) → Stands scheme owner state old before calls → IsOrderly owner (Store p x value ∷ calls)
      → (new x ≡ value) → ((y : ℕ) → (y ≡ x → ⊥) → new y ≡ old y) → Writes scheme state owner before after p x value → Stands scheme owner state new after (Store p x value ∷ calls)
  store_carries state old new before after calls p x value stands orderly now others writes = record {
    known = laws.knows_write state (lists calls) (stored_objects owner calls) (owner x) stands.known;
    holds = λ y. elim (cases_eq y x) [
      | inl same ↦ ap new same ∙ now ∙ grind (arith, nat_tests)
      | inr other ↦ others y other ∙ stands.holds y ∙ grind (arith, nat_tests)
    ];
    good = λ q y copy at. ⊎_elim
        (λ stays. store_good state old new calls p x value q y copy orderly others stays.1 (stands.good q y copy stays.0))
        (λ written. record {
          made = epoch calls + 1;
          past = omega arith;
          dated =
              subst (λ w. scheme.dates state (lists calls) (owner x ∷ stored_objects owner calls) (owner y) w (epoch calls + 1)) (sym written.3)
              (subst (λ z. scheme.dates state (lists calls) (owner x ∷ stored_objects owner calls) (owner z) (scheme.wrote_of state (owner x)) (epoch calls + 1)) (sym written.1)
              (subst (λ n. scheme.dates state (lists calls) (owner x ∷ stored_objects owner calls) (owner x) (scheme.wrote_of state (owner x)) (n + 1)) (length-lists calls)
              (laws.dates_wrote state (lists calls) (stored_objects owner calls) (owner x) stands.known)));
          fresh = λ e. inl (sym written.0, sym written.1);
          first = λ zero. inl (sym written.0);
          value = λ untouched. written.2 ∙ sym now ∙ ap new (sym written.1);
          own = λ accessed. written.2 ∙ sym now ∙ ap new (sym written.1);
        })
        (writes q y copy at);
  }

  pub evict_carries : (state : T) (memory : ℕ → ℤ) (before after : Copies W) (calls : List Call) (p line : ℕ) → Stands scheme owner state memory before calls → Drops before after → Stands scheme owner state memory after (Evict p line ∷ calls)
  evict_carries state memory before after calls p line stands drops = record {
    known = stands.known;
    holds = stands.holds;
    good = λ q y copy at.
        let good = stands.good q y copy (drops q y copy at) in
        record {
          made = good.made;
          past = good.past;
          dated = good.dated;
          fresh = good.fresh;
          first = good.first;
          value = good.value;
          own = good.own;
        };
  }

  pub boundary_carries : (state next : T) (memory : ℕ → ℤ) (before after : Copies W) (calls : List Call) (written : List ℕ) → Stands scheme owner state memory before calls → IsOrderly owner (Boundary written ∷ calls)
      → scheme.closes state written next → Keeps scheme state owner before after written → Stands scheme owner next memory after (Boundary written ∷ calls)
  boundary_carries state next memory before after calls written stands orderly closes keeps = record {
    known = laws.knows_boundary state next (lists calls) (stored_objects owner calls) written stands.known (covers written (stored_objects owner calls) orderly.1) closes;
    holds = stands.holds;
    good = λ q y copy at.
        let kept = keeps q y copy at in
        let good = stands.good q y kept.0 kept.1 in
        record {
          made = good.made;
          past = omega (arith, good.past);
          dated = laws.second state next (lists calls) (stored_objects owner calls) written (owner y) good.made kept.0.stamp copy.stamp stands.known (covers written (stored_objects owner calls) orderly.1) good.dated kept.3 closes;
          fresh = λ now. absurd (omega (arith, now, good.past));
          first = λ zero. absurd (omega (arith, zero));
          value = λ untouched. kept.2 ∙ good.value untouched;
          own = λ accessed. absurd accessed;
        };
  }
