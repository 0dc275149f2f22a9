-- The code of an accepted source.
use Rattle.std.proofs.Common.{◌≡◌, ℕ, ◌+◌, ◌<◌, List, [], ◌∷◌, length, Ok, refl, sym, subst, arith}
use Rattle.std.specs.List.{All}
use Rattle.std.proofs.lemmas.List.Elements.{All-nil, All-cons, All-head, All-tail}
use Rattle.cdc_tree.specs.Units.{PUnit}
use Rattle.cdc_nest.specs.Units.{mains}
use Rattle.cdc_prog.specs.declared.program.Marks.{Marks}
use Rattle.cdc_prog.specs.Plain as plain
use Rattle.cdc_prog.specs.Numbered.{calls_in, units_numbered}
use Rattle.cdc_prog.specs.Iterations.{KeepsPremises}
use Rattle.cdc_prog.specs.Resolved.{HasNoCall}
use Rattle.cdc_prog.proofs.Numbered.{without_calls}
use Rattle.cdc_prog.proofs.Serial.{uncalled}
use Rattle.cdc_names.specs.Scopes.{PScope}
use Rattle.cdc_check.specs.Threads.{each, next}
use Rattle.cdc_check.specs.Units.{Whole, unit_in, units_from, nothing_yet}
use Rattle.cdc_check.proofs.Accepted.{accepted_keeps_premises, accepted_calls_nothing, accepted_doalls_numbered}
use Rattle.cdc_along.specs.Sites.{SitesStandOnce}
use Rattle.cdc_code.specs.declared.code.Code.{Code}
use Rattle.cdc_code.specs.Template.{HasCallNumbers, code_of}
use Rattle.cdc_compile.specs.Source.{HasBuiltUnits, IsProgramOf}
use Rattle.cdc_compile.specs.Compiled.{IsSoundCodeOf}
use Rattle.cdc_compile.specs.Laws.{AcceptedIsSound}
use Rattle.cdc_compile.proofs.Nested.{are_built}
use Rattle.cdc_compile.proofs.RoomLaws.{Passed, passed, has_room, numbers}
use Rattle.cdc_compile.proofs.Conflicting.{no_conflict_apart}
use Rattle.cdc_compile.proofs.Coded.{sound_code}
use Rattle.cdc_compile.proofs.SitesOnce.{sites_once}

-- units without dummies
abbrev Bare : List plain.ProgramUnit → Type 0
Bare = All (λ u. u.dummies ≡ [])

units_bare : (number : ℕ) (us : List PUnit) (ss : List PScope) (k : Whole) → Bare (each (units_from number us ss) k).0
units_bare number [] ss k = All-nil (λ (u : plain.ProgramUnit). u.dummies ≡ [])
units_bare number (u ∷ us) [] k = All-nil (λ (u : plain.ProgramUnit). u.dummies ≡ [])
units_bare number (u ∷ us) (s ∷ ss) k =
    All-cons (λ (u : plain.ProgramUnit). u.dummies ≡ []) (unit_in number u s k).0 (each (units_from (next number) us ss) (unit_in number u s k).1).0 refl (units_bare (next number) us ss (unit_in number u s k).1)

numbered_bare : (before : ℕ) (us : List plain.ProgramUnit) → Bare us → Bare (units_numbered before us)
numbered_bare before [] h = h
numbered_bare before (u ∷ us) h =
    All-cons (λ (u : plain.ProgramUnit). u.dummies ≡ []) _ (units_numbered (before + calls_in u.body) us) (All-head (λ (u : plain.ProgramUnit). u.dummies ≡ []) u us h) (numbered_bare (before + calls_in u.body) us (All-tail (λ (u : plain.ProgramUnit). u.dummies ≡ []) u us h))

some_units : (us : List PUnit) → mains us ≡ 1 → 0 < length us
some_units [] h = absurd (omega (arith, h))
some_units (u ∷ us) h = omega arith

pub accepted_is_sound : AcceptedIsSound
accepted_is_sound source p h =
    let us : List PUnit = h.0.units in
    let has : HasBuiltUnits source us = h.0.has_units in
    let built = are_built source us has in
    let some = some_units us has.has_units.are_units.one_main in
    let premises : KeepsPremises p = accepted_keeps_premises us p h.0.accepted built some in
    let calls : HasNoCall p = accepted_calls_nothing us p h.0.accepted built some in
    let numbered : HasCallNumbers p = subst HasCallNumbers (without_calls p (uncalled p premises.resolved calls)) (numbers p) in
    let apart = no_conflict_apart p premises (accepted_doalls_numbered us p h.0.accepted built some) h.1 in
    let done : Passed us p = passed us p h.0.accepted in
    let sites : SitesStandOnce p = sites_once us p h.0.accepted in
    record {
      premises = premises;
      calls = calls;
      bare = subst Bare (sym done.units_are) (numbered_bare 0 _ (units_bare 0 us _ nothing_yet));
      sites = sites;
      sound = λ marks. sound_code p marks premises calls sites apart numbered (has_room source p h.0);
    }

-- the same of code that is known to be its code
pub emitted_sound : (source : List ℕ) (p : plain.Program) (marks : Marks) (code : Code) → IsProgramOf source (Ok p) → code ≡ code_of p marks → IsSoundCodeOf p marks code
emitted_sound source p marks code h is = subst (IsSoundCodeOf p marks) (sym is) ((accepted_is_sound source p h).sound marks)
