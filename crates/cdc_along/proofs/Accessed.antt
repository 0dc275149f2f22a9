-- What a covered read is of, among the accesses of its task.
use Rattle.std.proofs.Common.{◌≡◌, ℕ, ◌<◌, ◌≤◌, ℤ, List, [], ◌∷◌, ◌++◌, ◌⊎◌, inl, inr, sym, subst}
use Rattle.cdc_prog.specs.Plain.{Program}
use Rattle.cdc_prog.specs.Input.{Input}
use Rattle.cdc_prog.specs.Data.{Store, put}
use Rattle.cdc_prog.specs.Process.{Process, Load, Save, Say, Tick, Fork, Join, Halt, Fail}
use Rattle.cdc_prog.specs.Units.{process_of}
use Rattle.cdc_prog.specs.Resolved.{IsResolved, HasNoCall}
use Rattle.cdc_prog.specs.Alone.{Access, Read, Write, accesses, ending}
use Rattle.cdc_prog.specs.Apart.{Touches, Start, IsReached, First, After, IsReachedIteration}
use Rattle.cdc_path.specs.Covers.{HasCover}
use Rattle.cdc_along.specs.Sites.{SitesStandOnce}
use Rattle.cdc_along.specs.Programs.{KeepsCovers}
use Rattle.cdc_along.proofs.InCovers.{Words, and_word, CoversHold, program_covered}

no_access : (made rest : List Access) (path : List ℕ) (site w : ℕ) (v : ℤ) → [] ≡ made ++ (Read path site w v ∷ rest) → ⊥
no_access [] rest path site w v e = cc
no_access (a ∷ made) rest path site w v e = cc

-- a read that comes later is still of a word that was accessed, before or since
module _ (p : Program) where
  reads_covered : (T : Words) (q : Process) (s : Store) (made rest : List Access) (path : List ℕ) (site w : ℕ) (v : ℤ) → CoversHold p T q s → accesses q s ≡ made ++ (Read path site w v ∷ rest) → 1 ≤ site → HasCover p site → Touches made w ⊎ T w
  reads_covered T (Load at i word next) s [] rest path site w v h e lt has =
      let same : Read at i word (s word) ∷ accesses (next (s word)) s ≡ Read path site w v ∷ rest = e in
      let one : i ≡ site = cc in
      let two : word ≡ w = cc in
      inr (subst T two (h.0 (subst (λ n. 1 ≤ n) (sym one) lt) (subst (HasCover p) (sym one) has)))
  reads_covered T (Load at i word next) s (a ∷ made) rest path site w v h e lt has =
      let same : Read at i word (s word) ∷ accesses (next (s word)) s ≡ a ∷ (made ++ (Read path site w v ∷ rest)) = e in
      let first : Read at i word (s word) ≡ a = cc in
      let later : accesses (next (s word)) s ≡ made ++ (Read path site w v ∷ rest) = cc in
      elim (reads_covered (and_word word T) (next (s word)) s made rest path site w v h.1 later lt has) [
        | inl g ↦ inl (subst (λ x. Touches (x ∷ made) w) first (inr g))
        | inr (inl g) ↦ inl (subst (λ x. Touches (x ∷ made) w) first (inl g))
        | inr (inr g) ↦ inr g
      ]
  reads_covered T (Save at i word y next) s [] rest path site w v h e lt has =
      let same : Write at i word y ∷ accesses next (put s word y) ≡ Read path site w v ∷ rest = e in
      cc
  reads_covered T (Save at i word y next) s (a ∷ made) rest path site w v h e lt has =
      let same : Write at i word y ∷ accesses next (put s word y) ≡ a ∷ (made ++ (Read path site w v ∷ rest)) = e in
      let first : Write at i word y ≡ a = cc in
      let later : accesses next (put s word y) ≡ made ++ (Read path site w v ∷ rest) = cc in
      elim (reads_covered (and_word word T) next (put s word y) made rest path site w v h later lt has) [
        | inl g ↦ inl (subst (λ x. Touches (x ∷ made) w) first (inr g))
        | inr (inl g) ↦ inl (subst (λ x. Touches (x ∷ made) w) first (inl g))
        | inr (inr g) ↦ inr g
      ]
  reads_covered T (Say piece next) s made rest path site w v h e lt has = reads_covered T next s made rest path site w v h e lt has
  reads_covered T (Tick next) s made rest path site w v h e lt has = reads_covered T next s made rest path site w v h e lt has
  reads_covered T (Fork at number count from by body next) s made rest path site w v h e lt has = absurd (no_access made rest path site w v e)
  reads_covered T Join s made rest path site w v h e lt has = absurd (no_access made rest path site w v e)
  reads_covered T Halt s made rest path site w v h e lt has = absurd (no_access made rest path site w v e)
  reads_covered T (Fail kind line) s made rest path site w v h e lt has = absurd (no_access made rest path site w v e)

  -- where a task comes, covers hold in what begins there
  comes_covered : (T : Words) (q : Process) (s : Store) → CoversHold p T q s → (path : List ℕ) (number count : ℕ) (from by : ℤ) (body : ℕ → Process) (next : Process) → ending q s ≡ Fork path number count from by body next
      → ((k : ℕ) → k < count → (u : Store) → CoversHold p (λ w. ⊥) (body k) u) × ((u : Store) → CoversHold p (λ w. ⊥) next u)
  comes_covered T (Load at i word next') s h path number count from by body next e = comes_covered (and_word word T) (next' (s word)) s h.1 path number count from by body next e
  comes_covered T (Save at i word y next') s h path number count from by body next e = comes_covered (and_word word T) next' (put s word y) h path number count from by body next e
  comes_covered T (Say piece next') s h path number count from by body next e = comes_covered T next' s h path number count from by body next e
  comes_covered T (Tick next') s h path number count from by body next e = comes_covered T next' s h path number count from by body next e
  comes_covered T (Fork at n m f g body' next') s h path number count from by body next e = subst (λ q. CoversHold p T q s) e h
  comes_covered T Join s h path number count from by body next e = cc
  comes_covered T Halt s h path number count from by body next e = cc
  comes_covered T (Fail kind line) s h path number count from by body next e = cc

  module _ (main : Process) (all : (u : Store) → CoversHold p (λ w. ⊥) main u) where
    reached_covered : (start : Start) (task : Process) → IsReached main start task → (u : Store) → CoversHold p (λ w. ⊥) task u
    reached_covered start task First = all
    reached_covered start task (After before q s path number count from by body next reached forks) =
        (comes_covered (λ w. ⊥) q s (reached_covered before q reached s) path number count from by body next forks).1

    iteration_covered : (path : List ℕ) (number k : ℕ) (task : Process) → IsReachedIteration main path number k task → (u : Store) → CoversHold p (λ w. ⊥) task u
    iteration_covered path number k task i u =
        subst (λ q. CoversHold p (λ w. ⊥) q u) (sym i.is) ((comes_covered (λ w. ⊥) i.task i.store (reached_covered i.start i.task i.reached i.store) path number i.count i.from i.by i.body i.next i.forks).0 k i.below u)

  touched : (made : List Access) (w : ℕ) → Touches made w ⊎ ⊥ → Touches made w
  touched made w (inl h) = h
  touched made w (inr h) = absurd h

module _ (p : Program) (r : IsResolved p) (none : HasNoCall p) (sites : SitesStandOnce p) where
  all : (records : Input) (u : Store) → CoversHold p (λ x. ⊥) (process_of p records) u
  all records u = program_covered p records u r none sites

  serial_covered : (records : Input) (s : Store) (made rest : List Access) (path : List ℕ) (site w : ℕ) (v : ℤ) (start : Start) (task : Process) → IsReached (process_of p records) start task
      → accesses task s ≡ made ++ (Read path site w v ∷ rest) → 1 ≤ site → HasCover p site → Touches made w
  serial_covered records s made rest path site w v start task reached e lt has =
      touched p made w (reads_covered p (λ x. ⊥) task s made rest path site w v (reached_covered p (process_of p records) (all records) start task reached s) e lt has)

  forked_covered : (records : Input) (s : Store) (made rest : List Access) (path : List ℕ) (site w : ℕ) (v : ℤ) (at : List ℕ) (number k : ℕ) (task : Process) → IsReachedIteration (process_of p records) at number k task
      → accesses task s ≡ made ++ (Read path site w v ∷ rest) → 1 ≤ site → HasCover p site → Touches made w
  forked_covered records s made rest path site w v at number k task reached e lt has =
      touched p made w (reads_covered p (λ x. ⊥) task s made rest path site w v (iteration_covered p (process_of p records) (all records) at number k task reached s) e lt has)

  -- the covered reads of a program without CALL
  pub covers_kept : KeepsCovers p
  covers_kept = record { serial = serial_covered; iteration = forked_covered }
