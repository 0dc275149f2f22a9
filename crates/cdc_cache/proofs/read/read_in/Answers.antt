use Rattle.std.proofs.Common.{◌≡◌, ◌/◌, ◌%◌, length, get_or, sym, ◌∙◌, ap, rules}
use Rattle.std.specs.Prelude.{pos, Some, None, unwrap_or, is_some, is_none, not, ◌&&◌, nat_lt, if◌then◌else◌}
use Rattle.cdc_fabric.specs.declared.counts.Access.TheVariants.{Miss}
use Rattle.cdc_cache.specs.Lines.{served, read_value, copy_in, value_at, hit_of, look_up}
use Rattle.cdc_cache.specs.Sets.{set_lines, set_after_miss}
use Rattle.cdc_cache.proofs.Places.{place_is, copy_found, none_found}
use Rattle.cdc_cache.proofs.read.read_in.Goals as goal

pub miss-requires-clause-place : goal.miss-requires-clause-place
miss-requires-clause-place g c = place_is (c.args.x / c.args.words) (set_lines c.args.set.now) c.place_of-found.result c.place_of-found.ensures

pub returns-in-Some-clause-value : goal.returns-in-Some-clause-value
returns-in-Some-clause-value g c =
    let lines = set_lines c.args.set.now in
    let copied = copy_found (c.args.x / c.args.words) (c.args.x % c.args.words) lines c.place_of-found.result (place_is (c.args.x / c.args.words) lines c.place_of-found.result c.place_of-found.ensures) in
    let is : served g.S.Scheme c.args.state.now c.args.memory.now c.args.x c.args.mark (copy_in c.args.words lines c.args.x) ≡ Some c.in-Some.value =
    ap (served g.S.Scheme c.args.state.now c.args.memory.now c.args.x c.args.mark) (sym (c.copy_of-copied.ensures ∙ copied)) ∙ sym c.served.ensures ∙ c.in-Some.is in
    let given : c.in-Some.value ≡ read_value g.S.Scheme c.args.state.now c.args.memory.now c.args.words lines c.args.x c.args.mark = sym (ap (λ o. unwrap_or o (value_at c.args.memory.now c.args.x)) is) in
    search (rules, given)

pub returns-in-Some-clause-access : goal.returns-in-Some-clause-access
returns-in-Some-clause-access g c = λ ways sized.
    let lines = set_lines c.args.set.now in
    let copied = copy_found (c.args.x / c.args.words) (c.args.x % c.args.words) lines c.place_of-found.result (place_is (c.args.x / c.args.words) lines c.place_of-found.result c.place_of-found.ensures) in
    let is : served g.S.Scheme c.args.state.now c.args.memory.now c.args.x c.args.mark (copy_in c.args.words lines c.args.x) ≡ Some c.in-Some.value =
    ap (served g.S.Scheme c.args.state.now c.args.memory.now c.args.x c.args.mark) (sym (c.copy_of-copied.ensures ∙ copied)) ∙ sym c.served.ensures ∙ c.in-Some.is in
    c.hit_of.ensures ∙ sym (ap (λ o. if is_some o then hit_of c.args.mark else Miss (is_none (look_up (c.args.x / c.args.words) lines) && not (nat_lt (length lines) ways))) is)

pub returns-in-Some-clause-lines : goal.returns-in-Some-clause-lines
returns-in-Some-clause-lines g c = λ ways sized.
    let lines = set_lines c.args.set.now in
    let copied = copy_found (c.args.x / c.args.words) (c.args.x % c.args.words) lines c.place_of-found.result (place_is (c.args.x / c.args.words) lines c.place_of-found.result c.place_of-found.ensures) in
    let is : served g.S.Scheme c.args.state.now c.args.memory.now c.args.x c.args.mark (copy_in c.args.words lines c.args.x) ≡ Some c.in-Some.value =
    ap (served g.S.Scheme c.args.state.now c.args.memory.now c.args.x c.args.mark) (sym (c.copy_of-copied.ensures ∙ copied)) ∙ sym c.served.ensures ∙ c.in-Some.is in
    (sym (ap (λ o. if is_some o then lines else set_after_miss g.S.Scheme c.args.state.now c.args.memory.now c.args.words ways lines c.args.x) is), sized)

pub returns-clause-value : goal.returns-clause-value
returns-clause-value g c =
    let lines = set_lines c.args.set.now in
    let copied = copy_found (c.args.x / c.args.words) (c.args.x % c.args.words) lines c.place_of-found.result (place_is (c.args.x / c.args.words) lines c.place_of-found.result c.place_of-found.ensures) in
    let is : served g.S.Scheme c.args.state.now c.args.memory.now c.args.x c.args.mark (copy_in c.args.words lines c.args.x) ≡ None =
    ap (served g.S.Scheme c.args.state.now c.args.memory.now c.args.x c.args.mark) (sym (c.copy_of-copied.ensures ∙ copied)) ∙ sym c.served.ensures ∙ c.in_default.is in
    let given : get_or c.as_slice.result.now c.args.x (pos 0) ≡ read_value g.S.Scheme c.args.state.now c.args.memory.now c.args.words lines c.args.x c.args.mark = ap (λ l. get_or l c.args.x (pos 0)) c.as_slice.ensures ∙ sym (ap (λ o. unwrap_or o (value_at c.args.memory.now c.args.x)) is) in
    search (rules, given)

pub returns-clause-access : goal.returns-clause-access
returns-clause-access g c = λ ways sized.
    let lines = set_lines c.args.set.now in
    let placed = place_is (c.args.x / c.args.words) lines c.place_of-found.result c.place_of-found.ensures in
    let copied = copy_found (c.args.x / c.args.words) (c.args.x % c.args.words) lines c.place_of-found.result placed in
    let is : served g.S.Scheme c.args.state.now c.args.memory.now c.args.x c.args.mark (copy_in c.args.words lines c.args.x) ≡ None =
    ap (served g.S.Scheme c.args.state.now c.args.memory.now c.args.x c.args.mark) (sym (c.copy_of-copied.ensures ∙ copied)) ∙ sym c.served.ensures ∙ c.in_default.is in
    ap Miss (c.lacks_room-evicted.ensures
    ∙ ap (λ b. b && not (nat_lt (length lines) (length c.args.set.now.lines.items))) (none_found (c.args.x / c.args.words) lines c.place_of-found.result placed)
    ∙ ap (λ n. is_none (look_up (c.args.x / c.args.words) lines) && not (nat_lt (length lines) n)) sized.ways_are)
    ∙ sym (ap (λ o. if is_some o then hit_of c.args.mark else Miss (is_none (look_up (c.args.x / c.args.words) lines) && not (nat_lt (length lines) ways))) is)

pub returns-clause-lines : goal.returns-clause-lines
returns-clause-lines g c = λ ways sized.
    let lines = set_lines c.args.set.now in
    let copied = copy_found (c.args.x / c.args.words) (c.args.x % c.args.words) lines c.place_of-found.result (place_is (c.args.x / c.args.words) lines c.place_of-found.result c.place_of-found.ensures) in
    let is : served g.S.Scheme c.args.state.now c.args.memory.now c.args.x c.args.mark (copy_in c.args.words lines c.args.x) ≡ None =
    ap (served g.S.Scheme c.args.state.now c.args.memory.now c.args.x c.args.mark) (sym (c.copy_of-copied.ensures ∙ copied)) ∙ sym c.served.ensures ∙ c.in_default.is in
    let step = c.miss.ensures ways sized in
    (step.0 ∙ sym (ap (λ o. if is_some o then lines else set_after_miss g.S.Scheme c.args.state.now c.args.memory.now c.args.words ways lines c.args.x) is), step.1)
