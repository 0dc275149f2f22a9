use Rattle.std.proofs.Common.{◌≡◌, ℤ, pos, ◌+ℤ◌, ◌*ℤ◌, List, length, replicate, ap, ◌∙◌, rules}
use Rattle.std.specs.Prelude.{slice_set}
use Rattle.std.proofs.lemmas.Int.{to_z-of_z}
use mir.Val.{SFits, to_z, of_z}
use mir.Syntax.{w64}
use Rattle.cdc_prog.specs.Held.{store_of}
use Rattle.cdc_meaning.proofs.Slots.{first_of_zeros}
use Rattle.cdc_meaning.proofs.doall.begin_iteration.Goals as goal

pub returns : goal.returns
returns c =
    let n = length c.args.lane.now in
    let f = c.args.fork in
    let index = f.from +ℤ (pos c.args.k *ℤ f.by) in
    let v = c.index_of.result in
    let filled : c.fill.new.self ≡ replicate n (pos 0) = c.fill.ensures.after (λ y is. search rules) in
    let from : SFits w64 f.from = search rules in
    let by : SFits w64 f.by = search rules in
    let fits : SFits w64 v = search rules in
    let given : v ≡ index = simp to_z-of_z at c.index_of.ensures in
    let is : to_z w64 (of_z w64 v) ≡ index = to_z-of_z _ v fits ∙ given in
    ap (λ (l : List ℤ). store_of (slice_set l 0 (to_z w64 (of_z w64 v)))) filled ∙ ap (λ x. store_of (slice_set (replicate n (pos 0)) 0 x)) is ∙ first_of_zeros n index c.requires.some
