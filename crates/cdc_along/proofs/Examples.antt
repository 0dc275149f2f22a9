-- The paths of the examples.
use Rattle.std.proofs.Common.{inl, ◌+◌, ◌≤◌, ◌==◌, Bool, false, if◌then◌else◌}
use Rattle.std.proofs.lemmas.Bool.{eqb-true}
use Rattle.cdc_path.specs.Covers.{HasCover}
use Rattle.cdc_along.specs.Sites.{SitesStandOnce}
use Rattle.std.specs.Prelude.{◌≡◌, ℕ, zero, suc, ◌<◌, [], ◌∷◌, ◌++◌, refl, true, slice_get}
use Rattle.std.proofs.Common.{rules, arith}
use Rattle.cdc_prog.specs.Units.{shapes_in, body_of, process_of}
use Rattle.cdc_prog.specs.Data.{zeros}
use Rattle.cdc_prog.specs.Alone.{accesses}
use Rattle.cdc_prog.specs.Resolved.{StmtFits, IsResolved, HasNoCall}
use Rattle.cdc_prog.specs.Premises.{KeepsLoopVariables}
use Rattle.cdc_prog.specs.Iterations.{KeepsIndexes}
use Rattle.cdc_prog.specs.declared.expr.Var.TheVariants.{Object, Dummy}
use Rattle.cdc_prog.specs.declared.expr.BinOp.TheVariants.{Add}
use Rattle.cdc_prog.specs.Plain.{Bin, Empty, More, Whole}
use Rattle.cdc_prog.specs.Dependence.{Spot, spot, index_of, inside}
use Rattle.cdc_path.specs.References.{Touches, inside_doall, outside}
use Rattle.cdc_along.specs.Sections.{LiesInSection, EachInOrder}
use Rattle.cdc_along.proofs.InSections.{program_in_sections}
use Rattle.cdc_prog.specs.Examples.{nested, first_loop, ref, num, var, from_to, index}
use Rattle.cdc_num.specs.Divisors.{gcd}
use Rattle.cdc_path.specs.Courses.{IsPath}
use Rattle.cdc_along.specs.Tasks.{passed}
use Rattle.cdc_along.specs.Examples.{up_to_entry, in_iteration, whole, looped, second_to_fourth, printed, raised, first_two, words_at}
use Rattle.cdc_along.proofs.Trees.{program_along}

-- each unit calls the next
abbrev ranks : ℕ → ℕ
ranks zero = 2
ranks (suc zero) = 1
ranks (suc (suc n)) = 0

ranked : (u : ℕ) → u < 3 → ranks u < 3
ranked zero lt = omega arith
ranked (suc zero) lt = omega arith
ranked (suc (suc n)) lt = omega arith

nested_fits : (u : ℕ) → u < 3 → StmtFits nested ranks (ranks u) (shapes_in (slice_get nested.units u)) 0 (body_of nested u)
nested_fits zero lt = search rules
nested_fits (suc zero) lt = search rules
nested_fits (suc (suc zero)) lt = search rules
nested_fits (suc (suc (suc n))) lt = absurd (omega (arith, lt))

pub nested_resolved : IsResolved nested
nested_resolved = record { laid_out = search rules; shaped = search rules; small = omega arith; main = omega arith; main_alone = refl; ranks = ranks; ranked = ranked; fits = nested_fits }

-- the first iteration of the first DOALL, and the second of the second
pub nested_whole : IsPath nested whole
nested_whole = (((program_along nested [] zeros nested_resolved).1 0 (omega arith) zeros) zeros).1 1 (omega arith) zeros zeros

pub nested_iteration : passed (accesses (first_loop nested 1) zeros) (up_to_entry (3 ∷ 1 ∷ [])) ≡ in_iteration (3 ∷ 1 ∷ []) ++ up_to_entry (3 ∷ 1 ∷ [])
nested_iteration = refl

-- ---- sections
looped_fits : (u : ℕ) → u < 1 → StmtFits looped (λ v. 0) 0 (shapes_in (slice_get looped.units u)) 0 (body_of looped u)
looped_fits zero lt = search rules
looped_fits (suc n) lt = absurd (omega (arith, lt))

pub looped_resolved : IsResolved looped
looped_resolved = record { laid_out = search rules; shaped = search rules; small = omega arith; main = omega arith; main_alone = refl; ranks = λ u. 0; ranked = λ u lt. omega arith; fits = looped_fits }

pub looped_calls_nothing : HasNoCall looped
looped_calls_nothing zero = search rules
looped_calls_nothing (suc n) = search rules

pub looped_keeps : KeepsLoopVariables looped
looped_keeps zero = search rules
looped_keeps (suc n) = search rules

pub looped_keeps_indexes : KeepsIndexes looped
looped_keeps_indexes zero number slots k body is s = search rules
looped_keeps_indexes (suc n) number slots k body is s = search rules

written : Spot
written = spot (inside_doall (inside outside (index_of (from_to 2 (num 1) (num 2)) (ref 1 (Object 0)))) (from_to 3 (num 1) (num 2))) true (ref 6 (Object 1)) (More (Bin Add index (var 2 (Object 0))) Empty)

pub looped_touches : Touches looped true [] 6 1 second_to_fourth
unfolding written gcd
looped_touches = record { unit = 0; bound = []; under = (refl, refl); at = written; stands = search rules; kind = refl; site_is = refl; object_is = refl; section_is = refl }

pub looped_lies : EachInOrder (LiesInSection looped) (process_of looped []) zeros
looped_lies = program_in_sections looped [] zeros looped_resolved looped_calls_nothing looped_keeps looped_keeps_indexes

-- ---- covers
pub printed_sites : SitesStandOnce printed
printed_sites site some = go (1 == site) refl (2 == site) refl
  where
    go : (a : Bool) → (1 == site) ≡ a → (b : Bool) → (2 == site) ≡ b → (if a then suc (if b then 1 else 0) else (if b then 1 else 0)) + 0 ≤ 1
    go true e true f = absurd (omega (arith, eqb-true 1 site e, eqb-true 2 site f))
    go true e false f = omega arith
    go false e true f = omega arith
    go false e false f = omega arith

one_of : (writes : Bool) (site : ℕ) → Spot
one_of writes site = spot outside writes (ref site (Object 0)) (More (num 1) Empty)

pub printed_cover : HasCover printed 2
unfolding one_of
printed_cover = (
  0,
  inl (record {
    before = [];
    cover = one_of true 1;
    between = [];
    read = one_of false 2;
    after = [];
    in_order = refl;
    reads = refl;
    site_is = refl;
    variable = refl;
    same = refl;
    plain = (tt, tt);
    kept = λ k d lt. absurd (omega (arith, lt));
  }),
)

-- ---- a DO variable that a CALL stores in by another name
raised_fits : (u : ℕ) → u < 3 → StmtFits raised ranks (ranks u) (shapes_in (slice_get raised.units u)) 0 (body_of raised u)
raised_fits zero lt = search rules
raised_fits (suc zero) lt = search rules
raised_fits (suc (suc zero)) lt = search rules
raised_fits (suc (suc (suc n))) lt = absurd (omega (arith, lt))

pub raised_resolved : IsResolved raised
raised_resolved = record { laid_out = search rules; shaped = search rules; small = omega arith; main = omega arith; main_alone = refl; ranks = ranks; ranked = ranked; fits = raised_fits }

pub raised_keeps : KeepsLoopVariables raised
raised_keeps zero = search rules
raised_keeps (suc zero) = search rules
raised_keeps (suc (suc zero)) = search rules
raised_keeps (suc (suc (suc n))) = search rules

stored : Spot
stored = spot (inside outside (index_of (from_to 5 (num 1) (num 2)) (ref 1 (Dummy 0)))) true (ref 3 (Object 1)) (More (var 2 (Dummy 0)) Empty)

pub raised_touches : Touches raised true (1 ∷ []) 3 1 first_two
unfolding stored gcd
raised_touches = record { unit = 1; bound = 0 ∷ []; under = (0, [], Whole (Object 0) ∷ [], (refl, refl), inl (refl, refl, refl), refl); at = stored; stands = search rules; kind = refl; site_is = refl; object_is = refl; section_is = refl }

pub raised_words : words_at 3 (accesses (process_of raised []) zeros) ≡ 3 ∷ 3 ∷ []
raised_words = refl
