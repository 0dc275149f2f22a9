-- Sound code can be replayed on each memory side that is plain and was made for no list of objects.
use Rattle.std.proofs.Common.{◌≡◌, ℕ, zero, suc, ◌-◌, ◌<◌, List, [], ◌∷◌, map, refl, subst, sym, inl, arith}
use Rattle.std.specs.Prelude.{Option, None, get_or, IsTrue}
use Rattle.std.specs.List.{All}
use Rattle.std.specs.List.Sorted.{IsStrictlyIncreasing}
use Rattle.std.proofs.lemmas.List.Elements.{All-nil, All-cons, All-head, All-tail}
use Rattle.cdc_prog.specs.declared.program.Dim.{Dim}
use Rattle.cdc_prog.specs.declared.program.Dummy.{Dummy}
use Rattle.cdc_prog.specs.declared.program.Marks.{Marks}
use Rattle.cdc_prog.specs.Input.{Input}
use Rattle.cdc_prog.specs.Plain.{Program, ProgramUnit}
use Rattle.cdc_code.specs.declared.code.Code.{Code}
use Rattle.cdc_code.specs.Sound.{IsSound}
use Rattle.cdc_code.specs.Template.{code_of}
use Rattle.cdc_fabric.specs.declared.fabric.Fabric.{Ghosts}
use Rattle.cdc_fabric.specs.Made.{Layout, IsWrittenList}
use Rattle.cdc_task.specs.Laws.{HasArrays}
use Rattle.cdc_task.specs.Steps.{IsArray}
use Rattle.cdc_sched.specs.declared.event.Event.{Event}
use Rattle.cdc_machine.specs.Code.{run}
use Rattle.cdc_machine.specs.Laws.{IsOver}
use Rattle.cdc_epoch.specs.declared.engine.Engine.{Engine}
use Rattle.cdc_epoch.specs.Ties.{CanGo}
use Rattle.cdc_epoch.proofs.ReadyOnCode.{tasks_go}
use Rattle.cdc_replay.specs.Replays.{CanReplay}

-- units without dummies have no arrays among them
arrays_in : (us : List ProgramUnit) → All (λ u. u.dummies ≡ []) us → All (λ shapes. All IsArray shapes) (map (λ u. map (λ d. d.dims) u.dummies) us)
arrays_in [] bare = All-nil (λ (shapes : List (List Dim)). All IsArray shapes)
arrays_in (u ∷ us) bare =
    let none : u.dummies ≡ [] = All-head (λ (u : ProgramUnit). u.dummies ≡ []) u us bare in
    All-cons (λ (shapes : List (List Dim)). All IsArray shapes) (map (λ d. d.dims) u.dummies) (map (λ u. map (λ d. d.dims) u.dummies) us)
    (subst (λ (ds : List Dummy). All IsArray (map (λ d. d.dims) ds)) (sym none) (All-nil IsArray))
    (arrays_in us (All-tail (λ (u : ProgramUnit). u.dummies ≡ []) u us bare))

-- each list, and where there is none the empty one, is strictly increasing
increases_at : (lists : List (List ℕ)) → All IsStrictlyIncreasing lists → (k : ℕ) → IsStrictlyIncreasing (get_or lists k [])
increases_at [] all k = λ i lt. absurd (omega (arith, lt))
increases_at (written ∷ lists) all zero = All-head IsStrictlyIncreasing written lists all
increases_at (written ∷ lists) all (suc k) = increases_at lists (All-tail IsStrictlyIncreasing written lists all) k

-- the code of a program without dummies, with strictly increasing lists
module _ (p : Program) (marks : Marks) (sound : IsSound (code_of p marks)) (bare : All (λ u. u.dummies ≡ []) p.units)
    (entries : All IsStrictlyIncreasing marks.entries) (exits : All IsStrictlyIncreasing marks.exits) where
  abbrev code : Code
  code = code_of p marks

  arrays : HasArrays code
  arrays = arrays_in p.units bare

  -- each task that is held goes on or ends
  abbrev GoOn : Code → Input → Type 0
  GoOn code records = (events : List Event) → let m = (run code records events).machine in (IsOver m.phase → ⊥) → (i : ℕ) → i < m.count → CanGo code (m.tasks i)

  go_on : (records : Input) → GoOn code records
  go_on records events live i lt = tasks_go code sound arrays records events live i lt

  -- an engine on it can apply each event
  pub can_replay : {F : Type 0} (side : Ghosts F) (engine : Engine F side) → engine.code ≡ code → IsTrue (side.plain engine.side) → side.made engine.side ≡ None → CanReplay side engine
  can_replay side engine code_is plain made =
      let same : code ≡ engine.code = sym code_is in
      let listed = λ (written : List ℕ) (h : IsStrictlyIncreasing written). subst (λ (o : Option Layout). IsWrittenList o written) (sym made) h in
      record {
        tasks = subst (λ (k : Code). GoOn k engine.records.records) same (go_on engine.records.records);
        entries = λ number. subst (λ (k : Code). IsWrittenList (side.made engine.side) (get_or k.entries (number - 1) [])) same (listed (get_or marks.entries (number - 1) []) (increases_at marks.entries entries (number - 1)));
        exits = λ number. subst (λ (k : Code). IsWrittenList (side.made engine.side) (get_or k.exits (number - 1) [])) same (listed (get_or marks.exits (number - 1) []) (increases_at marks.exits exits (number - 1)));
        order = λ events. inl plain;
      }
