-- The calls on a memory without caches tell what it counts.
use Rattle.std.proofs.Common.{◌≡◌, ◌≢◌, ℕ, ◌+◌, ◌<◌, ℤ, List, [], ◌∷◌, length, refl, sym, ap, ap₂, ◌∙◌, subst, Bool, true, false, if◌then◌else◌, ◌==◌}
use Rattle.std.specs.Prelude.{Option, Some, None}
use Rattle.std.proofs.lemmas.Bool.{eqb-true, eq-eqb}
use Rattle.std.proofs.lemmas.List.{length-set, get_or-set_same, get_or-set_other}
use Rattle.cdc_prog.specs.Input.{Input}
use Rattle.cdc_code.specs.declared.code.Code.{Code}
use Rattle.cdc_code.specs.Frames.{Frame}
use Rattle.cdc_code.specs.Rows.{act}
use Rattle.cdc_fabric.specs.Calls.{Call, Load, Store, Evict, Boundary}
use Rattle.cdc_fabric.specs.Counting.{no_counts, after_read, without_steps}
use Rattle.cdc_fabric.specs.Uncached.{counts_at, missed}
use Rattle.cdc_fabric.specs.UncachedSteps.{uncached_procs, uncached_counts}
use Rattle.cdc_fabric.specs.contracts.uncached.UncachedFabric.TheImpl.{ghosts}
use Rattle.cdc_fabric.specs.declared.counts.Access.TheVariants.{Miss}
use Rattle.cdc_fabric.specs.declared.counts.Counts.{Counts}
use Rattle.cdc_fabric.specs.declared.uncached.Uncached.{Uncached}
use Rattle.cdc_sched.specs.declared.event.Event.{Event}
use Rattle.cdc_machine.specs.Machine.{DeedOf, Rests, Takes, Acts, Closes, Drops, deed, call, told}
use Rattle.cdc_machine.specs.History.{noted}
use Rattle.cdc_machine.specs.Code.{entry_of, exit_of, run}
use Rattle.cdc_epoch.specs.declared.engine.Engine.{Engine}
use Rattle.cdc_epoch.specs.Side.{Made}
use Rattle.cdc_epoch.specs.Ties.{StandsFor, counts_of, is_there}
use Rattle.cdc_replay.specs.Effects.{idles}
use Rattle.cdc_replay.specs.Replays.{Led}
use Rattle.cdc_replay.specs.Direct.{counted, direct_counts, HasNoCounts, EventsTellCounts, EnginesCountDirectly}

-- ---- one call
-- a list of counts says of processor p what these calls are counted as
abbrev Agree : (counts : List Counts) → List Call → (p : ℕ) → Type 0
Agree counts calls p = without_steps (counts_at counts p) ≡ without_steps (counted calls p)

miss_here : (counts : List Counts) (p : ℕ) → p < length counts → counts_at (missed counts p) p ≡ after_read (Miss false) (counts_at counts p)
miss_here counts p lt = get_or-set_same counts p (after_read (Miss false) (counts_at counts p)) no_counts lt

miss_elsewhere : (counts : List Counts) (q p : ℕ) → p ≢ q → counts_at (missed counts q) p ≡ counts_at counts p
miss_elsewhere counts q p other = get_or-set_other counts q p (after_read (Miss false) (counts_at counts q)) no_counts other

load_counts : (counts : List Counts) (calls : List Call) (q p : ℕ) → p < length counts → Agree counts calls p
    → without_steps (counts_at (missed counts q) p) ≡ without_steps (if q == p then after_read (Miss false) (counted calls p) else counted calls p)
load_counts counts calls q p lt before = go (q == p) refl
  where
    go : (b : Bool) → (q == p) ≡ b → without_steps (counts_at (missed counts q) p) ≡ without_steps (if b then after_read (Miss false) (counted calls p) else counted calls p)
    go true e =
        ap (λ (k : ℕ). without_steps (counts_at (missed counts k) p)) (eqb-true q p e)
        ∙ (ap without_steps (miss_here counts p lt) ∙ ap (λ (c : Counts). after_read (Miss false) c) before)
    go false e = ap without_steps (miss_elsewhere counts q p (λ is. let both = sym (eq-eqb q p (sym is)) ∙ e in cc)) ∙ before

-- a call leaves as many processors
call_procs : (c : Option Call) (old new : Uncached) (v : ℤ) → Made ghosts c old v new → uncached_procs new ≡ uncached_procs old
call_procs None old new v made = ap uncached_procs made
call_procs (Some (Load q word mark)) old new v made = ap length made.2 ∙ length-set old.counts q (after_read (Miss false) (counts_at old.counts q))
call_procs (Some (Store q word value)) old new v made = ap length made.1
call_procs (Some (Evict q line)) old new v made = ap length made.1
call_procs (Some (Boundary written)) old new v made = ap length made.1

-- and counts what it is counted as
call_counts : (c : Option Call) (old new : Uncached) (v : ℤ) (calls : List Call) (p : ℕ) → Made ghosts c old v new → p < uncached_procs old → Agree old.counts calls p → Agree new.counts (noted c calls) p
call_counts None old new v calls p made lt before = subst (λ (f : Uncached). Agree f.counts calls p) (sym made) before
call_counts (Some (Load q word mark)) old new v calls p made lt before =
    ap (λ (l : List Counts). without_steps (counts_at l p)) made.2 ∙ load_counts old.counts calls q p lt before
call_counts (Some (Store q word value)) old new v calls p made lt before = subst (λ (l : List Counts). Agree l calls p) (sym made.1) before
call_counts (Some (Evict q line)) old new v calls p made lt before = subst (λ (l : List Counts). Agree l calls p) (sym made.1) before
call_counts (Some (Boundary written)) old new v calls p made lt before = subst (λ (l : List Counts). Agree l calls p) (sym made.1) before

-- no line is there
none_there : (f : Uncached) (d : DeedOf Frame) → is_there ghosts f d ≡ false
none_there f Rests = refl
none_there f (Takes p i at) = refl
none_there f (Acts p i at) = refl
none_there f Closes = refl
none_there f (Drops p line) = refl

-- ---- the events
pub events_tell_counts : EventsTellCounts
events_tell_counts code records [] start now idle none led = record {
  procs = ap uncached_procs led.0;
  counts = λ p lt. ap (λ (f : Uncached). uncached_counts f p) led.0 ∙ none p lt;
  idle_is = led.1;
}
events_tell_counts code records (e ∷ events) start now idle none (mid, before, v, led, made, is) =
    let h = run code records events in
    let d = deed e h.machine in
    let c = call (act code) (entry_of code) (exit_of code) d h.machine in
    let so_far = events_tell_counts code records events start mid before none led in
    record {
      procs = call_procs c mid now v made ∙ so_far.procs;
      counts = λ p lt. call_counts c mid now v h.calls p made (subst (λ (n : ℕ). p < n) (sym so_far.procs) lt) (so_far.counts p lt);
      idle_is = is ∙ ap₂ (λ (n : ℕ) (there : Bool). n + idles (told (act code) (entry_of code) (exit_of code) d h.machine there)) so_far.idle_is (none_there mid d);
    }

-- ---- an engine
engine_counts : (engine : Engine Uncached ghosts) (events : List Event) (start : Uncached) (idle : ℕ) → HasNoCounts start → StandsFor ghosts engine events
    → Led ghosts engine.code engine.records.records events start engine.side idle → (p : ℕ) → p < uncached_procs start → counts_of ghosts engine p ≡ direct_counts engine.code engine.records.records events p
engine_counts engine events start idle none stands led p lt =
    let tells = events_tell_counts engine.code engine.records.records events start engine.side idle none led in
    let steps = stands.ties.steps p (subst (λ (n : ℕ). p < n) (sym tells.procs) lt) in
    ap₂ (λ (c : Counts) (n : ℕ). record c { steps = n }) (tells.counts p lt) steps

pub engines_count_directly : EnginesCountDirectly
engines_count_directly engine code records events start idle code_is records_are none stands led p lt =
    let led_there : Led ghosts engine.code engine.records.records events start engine.side idle =
    subst (λ (c : Code). Led ghosts c engine.records.records events start engine.side idle) (sym code_is)
    (subst (λ (r : Input). Led ghosts code r events start engine.side idle) (sym records_are) led) in
    engine_counts engine events start idle none stands led_there p lt
    ∙ ap₂ (λ (c : Code) (r : Input). direct_counts c r events p) code_is records_are
