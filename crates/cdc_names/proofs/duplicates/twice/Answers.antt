use Rattle.std.proofs.Common.{◌≡◌, ap, ◌∙◌}
use Rattle.cdc_tree.specs.declared.tree.Named.{Named}
use Rattle.cdc_names.specs.Duplicates.{beside}
use Rattle.cdc_names.specs.Table.{found, placed}
use Rattle.cdc_names.proofs.Nexts.{twice_step}
use Rattle.cdc_names.proofs.duplicates.twice.Goals as goal

pub loop-at-preserved : goal.loop-at-preserved
loop-at-preserved c =
    let n : Named = c.index-names-at.result in
    let b : c.beside-best.result ≡ beside n.place (found n.name c.loop-at.next) c.loop-at.best =
    c.beside-best.ensures ∙ ap (λ p. beside p c.get.result c.loop-at.best) c.place-place.ensures
    ∙ ap (λ o. beside n.place o c.loop-at.best) (c.get.ensures ∙ ap (λ m. found m c.loop-at.next) c.name-name.ensures) in
    let t : c.set.new.self ≡ placed n.name n.place c.loop-at.next =
    c.in_ok-set.ensures ∙ ap (λ m. placed m c.place-place.result c.loop-at.next) c.name-name.ensures ∙ ap (λ p. placed n.name p c.loop-at.next) c.place-place.ensures in
    twice_step c.args.names.now c.loop-at.at n c.loop-at.best c.beside-best.result c.loop-at.next c.set.new.self c.index-names-at.is c.loop-at-test.true c.loop-at.invariant.0 c.loop-at.invariant.1 c.loop-at.invariant.2 b t
