use Rattle.std.proofs.Common.{◌≡◌, ◌<◌, ◌∙◌, ap, arith, rules, length}
use Rattle.std.specs.Prelude.{true, slice_index}
use Rattle.std.proofs.lemmas.List.{get_or_default}
use Rattle.cdc_version.specs.Versions.{next_current}
use Rattle.cdc_version.proofs.Lists.{one_more}
use Rattle.cdc_version.proofs.numbers.CurrentVersions.advance.Goals as goal

pub loop-object-preserved : goal.loop-object-preserved
loop-object-preserved c =
    let old = c.args.self.now in
    let now = c.loop-object.self in
    let i = c.loop-object.object-index in
    let object = slice_index c.args.written.now i in
    let within : object < length now.numbers.items = search rules in
    let current : c.index-current.result.now ≡ slice_index now.numbers.items object =
    c.index-current.ensures ∙ get_or_default now.numbers.items object c.index-current.result.now 0 within in
    let next : c.next.result ≡ next_current old.last (slice_index now.numbers.items object) true =
    c.next.ensures
    ∙ ap (λ n. next_current now.last n true) current
    ∙ ap (λ l. next_current l (slice_index now.numbers.items object) true) c.loop-object.invariant.last in
    record {
      last = c.loop-object.invariant.last;
      objects = c.loop-object.invariant.objects;
      each = one_more old.last old.numbers.items now.numbers.items c.args.written.now i c.next.result c.requires.order
          (omega arith)
          within
          next
          c.loop-object.invariant.each;
    }
