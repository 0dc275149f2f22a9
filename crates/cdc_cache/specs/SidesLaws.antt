-- The laws of caches and their memory, from those of the scheme.
use Rattle.std.proofs.Common.{◌≡◌, ℕ, zero, suc, ◌<◌, List, [], ◌∷◌, length, refl, sym, ◌∙◌, ap, subst, arith, inl, inr, ⊎_elim}
use Rattle.std.specs.Prelude.{ℤ, ◌/◌, unwrap_or, Option, Some, None, Bool, true, false, is_some, not, ◌||◌, ◌==◌, slice_get, slice_index, if◌then◌else◌, IsTrue}
use Rattle.std.proofs.lemmas.Bool.{cases_eq, cases_Bool}
use Rattle.std.proofs.lemmas.Bool.Decides.{nat_tests}
use Rattle.cdc_prog.specs.declared.program.Mark.{Mark}
use Rattle.cdc_prog.specs.declared.program.Mark.TheVariants.{Ordinary, Time}
use Rattle.cdc_sched.specs.declared.header.Geometry.{Geometry}
use Rattle.cdc_scheme.specs.declared.scheme.Scheme.{Ghosts}
use Rattle.cdc_fabric.specs.Calls.{Call, Load, Store, Evict, Boundary, last_store, IsOrderly}
use Rattle.cdc_fabric.specs.Made.{IsInOrder}
use Rattle.cdc_fabric.specs.declared.counts.Access.TheVariants.{Miss}
use Rattle.cdc_cache.specs.declared.caches.Caches.{Caches}
use Rattle.cdc_cache.specs.declared.line.Copied.{Copied}
use Rattle.cdc_cache.specs.declared.line.Line.{Line}
use Rattle.cdc_cache.specs.declared.line.Words.{Words}
use Rattle.cdc_cache.specs.Carry.{SchemeLaws}
use Rattle.cdc_cache.specs.Copies.{changed, drops, keeps, writes, fills}
use Rattle.cdc_cache.specs.Finds.{if_yes, if_no}
use Rattle.cdc_cache.specs.Good.{Copies, Drops}
use Rattle.cdc_cache.specs.Lines.{value_at, owner_at, copy_in, hit_of, drops_line, removed, AreDistinct, served, after_miss, after_read, after_write, after_boundary}
use Rattle.cdc_cache.specs.Serves.{Serves, AreServed, copies_of, load_is_right, hit_serves, miss_serves, store_serves, evict_serves, boundary_serves}
use Rattle.cdc_cache.specs.Processors.{AreCaches, is_plain}
use Rattle.cdc_cache.specs.Sides.{side_procs, side_words, side_plain, side_made, side_stands, Loads, Stores, Evicts, Bounds, HitsGiveMemory}

pub get_some : {A : Type 0} (xs : List A) (p : ℕ) → p < length xs → (x : A) × (slice_get xs p ≡ Some x)
get_some [] p within = absurd (omega (arith, within))
get_some (x ∷ xs) zero within = (x, refl)
get_some (x ∷ xs) (suc p) within = get_some xs p (omega (arith, within))

one_of : (has : Bool) (procs : ℕ) → has ≡ true → (not has || (procs == 1)) ≡ true → procs ≡ 1
one_of true procs is plain = grind (arith, nat_tests)
one_of false procs is plain = absurd (cc is)

-- a miss is no hit
never : (drops : Bool) (mark : Mark) → Miss drops ≡ hit_of mark → ⊥
never drops Ordinary is = cc is
never drops (Time d) is = cc is

-- calls in order are such as the caches ask for
ordered : (plain : Bool) (memory : Words) (objects : ℕ) (calls : List Call) → IsInOrder plain (Some (record { owners = memory.owner; objects = objects })) calls → AreServed plain memory calls
ordered plain memory objects calls order = λ strict. ⊎_elim
    (λ free. absurd (cc (free, strict)))
    (λ made. subst (λ o. IsOrderly (slice_index o) calls) (sym made.1.0) made.2)
    order

module _ {S W T : Type 0} (scheme : Ghosts S W T) where
  plain_of_none : (procs : ℕ) → scheme.has_caches ≡ false → is_plain scheme procs ≡ true
  plain_of_none procs none = ap (λ b. not b || (procs == 1)) none

  -- fewer copies
  fewer : (plain : Bool) (procs : ℕ) (state : T) (memory : Words) (copies after : Copies W) (calls : List Call) → Drops copies after → Serves scheme plain procs state memory copies calls → Serves scheme plain procs state memory after calls
  fewer plain procs state memory copies after calls dropped serves = record {
    holds = serves.holds;
    fresh = λ yes q y copy known at. serves.fresh yes q y copy known (dropped q y copy at);
    good = λ no.
        let stands = serves.good no in
        record {
          known = stands.known;
          holds = stands.holds;
          good = λ q y copy at. stands.good q y copy (dropped q y copy at);
        };
  }

  -- a copy that serves a read may be used
  served_copy : (state : T) (memory : Words) (x : ℕ) (mark : Mark) (held : Option (Copied W)) (value : ℤ) → served scheme state memory x mark held ≡ Some value → (copy : Copied W) × (held ≡ Some copy) × IsTrue (scheme.admits_of state (owner_at memory x) mark copy.stamp)
  served_copy state memory x mark None value at = absurd (cc at)
  served_copy state memory x mark (Some copy) value at = (copy, refl, by (scheme.admits_of state (owner_at memory x) mark copy.stamp) at)
    where
      by : (b : Bool) → (if b then Some copy.value else None) ≡ Some value → IsTrue b
      by true is = refl
      by false is = absurd (cc is)

  -- a copy serves each read that is counted as a hit
  hit_copy : (state : T) (memory : Words) (x : ℕ) (mark : Mark) (held : Option (Copied W)) (drops : Bool) → (if is_some (served scheme state memory x mark held) then hit_of mark else Miss drops) ≡ hit_of mark → (copy : Copied W) × (held ≡ Some copy) × (served scheme state memory x mark held ≡ Some copy.value)
  hit_copy state memory x mark None drops is = absurd (never drops mark is)
  hit_copy state memory x mark (Some copy) drops is = (copy, refl, by (scheme.admits_of state (owner_at memory x) mark copy.stamp) is)
    where
      by : (b : Bool) → (if is_some (if b then Some copy.value else None) then hit_of mark else Miss drops) ≡ hit_of mark → (if b then Some copy.value else None) ≡ Some copy.value
      by true hit = refl
      by false hit = absurd (never drops mark hit)

  -- the list of lines of a processor in place of itself
  stays : (words : ℕ) (lists : ℕ → List (Line W)) (p : ℕ) → Drops (copies_of words lists) (copies_of words (changed lists p (lists p)))
  stays words lists p = λ q y copy at. elim (cases_eq q p) [
    | inl own ↦ subst (λ r. copy_in words (lists r) y ≡ Some copy) (sym own) (ap (λ l. copy_in words l y) (sym (if_yes q p (lists p) (lists q) own)) ∙ at)
    | inr other ↦ ap (λ l. copy_in words l y) (sym (if_no q p (lists p) (lists q) other)) ∙ at
  ]

  module _ (laws : SchemeLaws scheme) (geometry : Geometry) (procs : ℕ) (state : T) (memory : Words) (lists : ℕ → List (Line W)) (calls : List Call) (serves : Serves scheme (is_plain scheme procs) procs state memory (copies_of geometry.words lists) calls) where
    load_serves : (p x : ℕ) (mark : Mark) → 0 < geometry.words → p < procs → AreDistinct (lists p) → AreServed (is_plain scheme procs) memory (Load p x mark ∷ calls)
        → Serves scheme (is_plain scheme procs) procs state memory (copies_of geometry.words (changed lists p (after_read scheme geometry state memory (lists p) x mark))) (Load p x mark ∷ calls)
    load_serves p x mark some proc distinct order = by (served scheme state memory x mark (copy_in geometry.words (lists p) x)) refl
      where
        missed : (has : Bool) → scheme.has_caches ≡ has → Serves scheme (is_plain scheme procs) procs state memory (copies_of geometry.words (changed lists p (if has then after_miss scheme geometry state memory (lists p) x else lists p))) (Load p x mark ∷ calls)
        missed true has =
            miss_serves scheme laws (is_plain scheme procs) procs state memory (copies_of geometry.words lists) calls serves p x mark
            (copies_of geometry.words (changed lists p (after_miss scheme geometry state memory (lists p) x))) proc order (fills scheme geometry state memory lists p x some distinct)
        missed false none = record {
          holds = serves.holds;
          fresh = λ yes q y copy known at. serves.fresh yes q y copy known (stays geometry.words lists p q y copy at);
          good = λ no. absurd (cc (plain_of_none procs none, no));
        }

        by : (o : Option ℤ) → served scheme state memory x mark (copy_in geometry.words (lists p) x) ≡ o
            → Serves scheme (is_plain scheme procs) procs state memory (copies_of geometry.words (changed lists p (if is_some o then lists p else (if scheme.has_caches then after_miss scheme geometry state memory (lists p) x else lists p)))) (Load p x mark ∷ calls)
        by (Some value) at =
            let held = served_copy state memory x mark (copy_in geometry.words (lists p) x) value at in
            fewer (is_plain scheme procs) procs state memory (copies_of geometry.words lists) (copies_of geometry.words (changed lists p (lists p))) (Load p x mark ∷ calls) (stays geometry.words lists p)
            (hit_serves scheme laws (is_plain scheme procs) procs state memory (copies_of geometry.words lists) calls serves p x mark held.0 order held.1 held.2)
        by None at = missed scheme.has_caches refl

    -- where no copy can be stale, no other processor has copies
    alone : (p : ℕ) → p < procs → ((q : ℕ) → q < procs → scheme.has_caches ≡ false → lists q ≡ []) → is_plain scheme procs ≡ true → (q y : ℕ) (copy : Copied W) → q < procs → copies_of geometry.words lists q y ≡ Some copy → q ≡ p
    alone p proc none plain = λ q y copy known at. elim (cases_Bool scheme.has_caches) [
      | inl has ↦ omega (arith, one_of scheme.has_caches procs has plain, known, proc)
      | inr absent ↦ absurd (cc (ap (λ l. copy_in geometry.words l y) (none q known absent), at))
    ]

  -- at equal parts
  at_parts : (plain plain' : Bool) (procs procs' : ℕ) (state state' : T) (memory memory' : Words) (words words' : ℕ) (lists : ℕ → List (Line W)) (calls : List Call) → plain' ≡ plain → procs' ≡ procs → state' ≡ state → memory' ≡ memory → words' ≡ words
      → Serves scheme plain procs state memory (copies_of words lists) calls → Serves scheme plain' procs' state' memory' (copies_of words' lists) calls
  at_parts plain plain' procs procs' state state' memory memory' words words' lists calls same_plain same_procs same_state same_memory same_words serves =
      rw (same_plain, same_procs, same_state, same_memory, same_words) serves

module _ {S W T : Type 0} (scheme : Ghosts S W T) (laws : SchemeLaws scheme) where
  pub side_load_right : (old new : Caches S W T scheme) (p word : ℕ) (mark : Mark) (value : ℤ) (calls : List Call) → p < side_procs scheme old
      → IsInOrder (side_plain scheme old) (side_made scheme old) (Load p word mark ∷ calls) → Loads scheme old p word mark value new → side_stands scheme old calls → value ≡ last_store word calls
  side_load_right old new p word mark value calls proc order step stands =
      step.value_is stands.0 stands.1
      ∙ load_is_right scheme laws (side_plain scheme old) (side_procs scheme old) old.state old.memory (copies_of old.geometry.words stands.0) calls stands.2 p word mark proc
      (ordered (side_plain scheme old) old.memory old.objects (Load p word mark ∷ calls) order)

  pub hits_give_memory : HitsGiveMemory scheme
  hits_give_memory = λ old new p word mark value calls lists proc order step stands has counted.
      let at = copy_in old.geometry.words (lists p) word in
      let found = hit_copy scheme old.state old.memory word mark at (drops_line scheme old.geometry old.state old.memory (lists p) (word / old.geometry.words)) counted in
      let gave : value ≡ found.0.value = step.value_is lists has ∙ ap (λ o. unwrap_or o (value_at old.memory word)) found.2 in
      (found.0, found.1, gave, sym gave ∙ side_load_right old new p word mark value calls proc order step stands ∙ sym (stands.2.holds word))

  pub side_load_carries : (old new : Caches S W T scheme) (p word : ℕ) (mark : Mark) (value : ℤ) (calls : List Call) → p < side_procs scheme old
      → IsInOrder (side_plain scheme old) (side_made scheme old) (Load p word mark ∷ calls) → Loads scheme old p word mark value new → side_stands scheme old calls → side_stands scheme new (Load p word mark ∷ calls)
  side_load_carries old new p word mark value calls proc order step stands =
      let lists = stands.0 in
      let held = get_some old.caches.items p proc in
      let cache = (stands.1 p held.0 held.1).1 in
      let after = changed lists p (after_read scheme old.geometry old.state old.memory (lists p) word mark) in (
        after,
        subst (λ g. AreCaches scheme g new.caches.items after) (sym step.shape.geometry) (step.lines lists stands.1),
        at_parts scheme (side_plain scheme old) (side_plain scheme new) (side_procs scheme old) (side_procs scheme new) old.state new.state old.memory new.memory old.geometry.words new.geometry.words after (Load p word mark ∷ calls)
            (ap (is_plain scheme) step.shape.procs) step.shape.procs step.state step.memory (ap (λ (g : Geometry). g.words) step.shape.geometry)
            (load_serves scheme laws old.geometry (side_procs scheme old) old.state old.memory lists calls stands.2 p word mark old.words proc cache.distinct
            (ordered (side_plain scheme old) old.memory old.objects (Load p word mark ∷ calls) order)),
      )

  pub side_store_carries : (old new : Caches S W T scheme) (p word : ℕ) (value : ℤ) (calls : List Call) → p < side_procs scheme old → word < side_words scheme old
      → IsInOrder (side_plain scheme old) (side_made scheme old) (Store p word value ∷ calls) → Stores scheme old p word value new → side_stands scheme old calls → side_stands scheme new (Store p word value ∷ calls)
  side_store_carries old new p word value calls proc within order step stands =
      let lists = stands.0 in
      let after = changed lists p (after_write scheme old.geometry old.state old.memory (lists p) word value) in
      let none : (q : ℕ) → q < side_procs scheme old → scheme.has_caches ≡ false → lists q ≡ [] = λ q known absent. (let held = get_some old.caches.items q known in (stands.1 q held.0 held.1).1.none absent) in (
        after,
        subst (λ g. AreCaches scheme g new.caches.items after) (sym step.shape.geometry) (step.lines lists stands.1),
        at_parts scheme (side_plain scheme old) (side_plain scheme new) (side_procs scheme old) (side_procs scheme new) old.state new.state new.memory new.memory old.geometry.words new.geometry.words after (Store p word value ∷ calls)
            (ap (is_plain scheme) step.shape.procs) step.shape.procs step.state refl (ap (λ (g : Geometry). g.words) step.shape.geometry)
            (store_serves scheme laws (side_plain scheme old) (side_procs scheme old) old.state old.memory (copies_of old.geometry.words lists) calls stands.2 p word value new.memory (copies_of old.geometry.words after) proc within step.cells step.owner
            (alone scheme laws old.geometry (side_procs scheme old) old.state old.memory lists calls stands.2 p proc none)
            (ordered (side_plain scheme old) old.memory old.objects (Store p word value ∷ calls) order)
            (writes scheme old.geometry old.state old.memory lists p word value)),
      )

  pub side_evict_carries : (old new : Caches S W T scheme) (p line : ℕ) (calls : List Call) → p < side_procs scheme old
      → Evicts scheme old p line new → side_stands scheme old calls → side_stands scheme new (Evict p line ∷ calls)
  side_evict_carries old new p line calls proc step stands =
      let lists = stands.0 in
      let held = get_some old.caches.items p proc in
      let cache = (stands.1 p held.0 held.1).1 in
      let after = changed lists p (removed line (lists p)) in (
        after,
        subst (λ g. AreCaches scheme g new.caches.items after) (sym step.shape.geometry) (step.lines lists stands.1),
        at_parts scheme (side_plain scheme old) (side_plain scheme new) (side_procs scheme old) (side_procs scheme new) old.state new.state old.memory new.memory old.geometry.words new.geometry.words after (Evict p line ∷ calls)
            (ap (is_plain scheme) step.shape.procs) step.shape.procs step.state step.memory (ap (λ (g : Geometry). g.words) step.shape.geometry)
            (evict_serves scheme laws (side_plain scheme old) (side_procs scheme old) old.state old.memory (copies_of old.geometry.words lists) calls stands.2 p line (copies_of old.geometry.words after)
            (drops old.geometry.words lists p line cache.distinct)),
      )

  pub side_boundary_carries : (old new : Caches S W T scheme) (written : List ℕ) (calls : List Call)
      → IsInOrder (side_plain scheme old) (side_made scheme old) (Boundary written ∷ calls) → Bounds scheme old written new → side_stands scheme old calls → side_stands scheme new (Boundary written ∷ calls)
  side_boundary_carries old new written calls order step stands =
      let lists = stands.0 in
      let after : ℕ → List (Line W) = λ q. after_boundary scheme old.state old.memory old.geometry.words written (lists q) in (
        after,
        subst (λ g. AreCaches scheme g new.caches.items after) (sym step.shape.geometry) (step.lines lists stands.1),
        at_parts scheme (side_plain scheme old) (side_plain scheme new) (side_procs scheme old) (side_procs scheme new) new.state new.state old.memory new.memory old.geometry.words new.geometry.words after (Boundary written ∷ calls)
            (ap (is_plain scheme) step.shape.procs) step.shape.procs refl step.memory (ap (λ (g : Geometry). g.words) step.shape.geometry)
            (boundary_serves scheme laws (side_plain scheme old) (side_procs scheme old) old.state old.memory (copies_of old.geometry.words lists) calls stands.2 written new.state (copies_of old.geometry.words after)
            (ordered (side_plain scheme old) old.memory old.objects (Boundary written ∷ calls) order)
            step.state
            (keeps scheme old.geometry old.state old.memory lists written old.words)),
      )
