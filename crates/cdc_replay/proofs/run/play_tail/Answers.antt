use Rattle.std.proofs.Common.{◌≡◌, refl, sym, ap, ◌∙◌, subst, ℕ, suc, ◌+◌, ◌-◌, List, ◌∷◌, Ok, Err, Some, None, arith}
use Rattle.std.specs.Prelude.{Option, Result, OnErr}
use Rattle.cdc_base.specs.Gathered.{waiting}
use Rattle.cdc_sched.specs.declared.event.Event.{Event}
use Rattle.cdc_sched.specs.Tail.{tail_event}
use Rattle.cdc_replay.specs.Applied.{has_ended, with_tail}
use Rattle.cdc_replay.specs.Replays.{Playing}
use Rattle.cdc_replay.proofs.Leads.{tail_stops, tail_one, tail_none, tail_grows}
use Rattle.cdc_replay.proofs.Listing.{stopped, running, can_left, left_after}
use Rattle.cdc_replay.proofs.run.play_tail.Goals as goal

on_err : {T E P : Type 0} (r : Result T E) → P → OnErr r P
on_err (Ok x) p = tt
on_err (Err e) p = p

none_left : (r : Option Event) → ((x : Event) → r ≡ Some x → ⊥) → r ≡ None
none_left None h = refl
none_left (Some x) h = absurd (h x refl)

pub returns-in_default-clause-plays : goal.returns-in_default-clause-plays
returns-in_default-clause-plays g c = λ o applied h kind procs lines k ts.
    let at = c.loop-tail.invariant.plays o applied h in
    let q = at.2 kind procs lines k ts in
    let tail = tail_event kind procs lines in
    let none : tail q.0 ≡ None = sym (c.next.ensures.event kind procs lines q.0 q.1) ∙ none_left c.next.result c.in_default.not-Some in
    subst (λ (events : List Event). Playing g.F.Fabric o events c.loop-tail.machine c.loop-tail.progress (waiting c.loop-tail.gathered) (g.K.Sink.taken c.loop-tail.out))
    (sym (q.2 ∙ tail_none (has_ended o.code o.records) tail c.loop-tail.progress.left q.0 at.0 none)) at.1

pub apply_event-requires-clause-playing : goal.apply_event-requires-clause-playing
apply_event-requires-clause-playing g c =
    let p = c.requires.playing in
    let at = c.loop-tail.invariant.plays p.0 p.1 p.2 in
    (p.0, at.0, at.1)

pub loop-tail-preserved : goal.loop-tail-preserved
loop-tail-preserved g c = record {
  can = c.apply_event.ensures.can;
  procs = c.next.ensures.procs ∙ (c.loop-tail.invariant.procs ∙ sym c.apply_event.ensures.procs);
  plays = λ o applied h.
      let at = c.loop-tail.invariant.plays o applied h in
      let can = sym c.can_go_on.ensures ∙ c.loop-tail-test.true in
      let runs = running g.F.Fabric o at.0 c.loop-tail.machine c.loop-tail.progress (waiting c.loop-tail.gathered) _ at.1 can in
      let played = c.in_ok-apply_event.ensures.plays o at.0 at.1 in
      let left = left_after g.F.Fabric o c.in-Some.event at.0 c.loop-tail.machine c.apply_event.new.machine c.loop-tail.progress c.apply_event.new.progress (waiting c.loop-tail.gathered) (waiting c.apply_event.new.gathered) _ _ at.1 played in (
        c.in-Some.event ∷ at.0,
        played,
        λ kind procs lines k ts.
            let q = at.2 kind procs lines k ts in
            let tail = tail_event kind procs lines in
            let there : tail q.0 ≡ Some c.in-Some.event = sym (c.next.ensures.event kind procs lines q.0 q.1) ∙ c.in-Some.is in
            let z : suc q.0 ≡ q.0 + 1 = omega arith in (
              q.0 + 1,
              c.next.ensures.stands kind procs lines q.0 q.1,
              q.2 ∙ (tail_one (has_ended o.code o.records) tail c.loop-tail.progress.left q.0 at.0 c.in-Some.event (can_left c.loop-tail.progress can) runs there
                  ∙ (ap (λ (l : ℕ). with_tail (has_ended o.code o.records) tail l (suc q.0) (c.in-Some.event ∷ at.0)) (sym left)
                  ∙ ap (λ (j : ℕ). with_tail (has_ended o.code o.records) tail c.apply_event.new.progress.left j (c.in-Some.event ∷ at.0)) z)),
            ),
      );
  quiet = c.in_ok-apply_event.ensures.cause.kept ∙ c.loop-tail.invariant.quiet;
}

pub returns-in_err-apply_event-clause-broken : goal.returns-in_err-apply_event-clause-broken
returns-in_err-apply_event-clause-broken g c = λ o applied h kind procs lines k ts.
    let at = c.loop-tail.invariant.plays o applied h in
    let can = sym c.can_go_on.ensures ∙ c.loop-tail-test.true in
    let runs = running g.F.Fabric o at.0 c.loop-tail.machine c.loop-tail.progress (waiting c.loop-tail.gathered) _ at.1 can in
    let q = at.2 kind procs lines k ts in
    let tail = tail_event kind procs lines in
    let there : tail q.0 ≡ Some c.in-Some.event = sym (c.next.ensures.event kind procs lines q.0 q.1) ∙ c.in-Some.is in
    let more = tail_grows (has_ended o.code o.records) tail (c.loop-tail.progress.left - 1) (suc q.0) (c.in-Some.event ∷ at.0) in
    on_err c.from_residual.result (
      c.in-Some.event ∷ at.0,
      more.0,
      c.in_err-apply_event.ensures.broken o at.0 at.1,
      q.2 ∙ (tail_one (has_ended o.code o.records) tail c.loop-tail.progress.left q.0 at.0 c.in-Some.event (can_left c.loop-tail.progress can) runs there ∙ more.1),
    )

pub returns-clause-plays : goal.returns-clause-plays
returns-clause-plays g c = λ o applied h kind procs lines k ts.
    let at = c.loop-tail.invariant.plays o applied h in
    let q = at.2 kind procs lines k ts in
    let stops = stopped g.F.Fabric o at.0 c.loop-tail.machine c.loop-tail.progress (waiting c.loop-tail.gathered) _ at.1 (sym c.can_go_on.ensures ∙ c.loop-tail-test.false) in
    subst (λ (events : List Event). Playing g.F.Fabric o events c.loop-tail.machine c.loop-tail.progress (waiting c.loop-tail.gathered) (g.K.Sink.taken c.loop-tail.out))
    (sym (q.2 ∙ tail_stops (has_ended o.code o.records) (tail_event kind procs lines) c.loop-tail.progress.left q.0 at.0 stops)) at.1
