use Rattle.std.proofs.Common.{◌≡◌, ◌+◌, ◌*◌, ◌<◌, Ok, sym, arith}
use Rattle.std.proofs.lemmas.Int.{to_z-of_z}
use mir.Val.{SFits}
use mir.Syntax.{w64}
use Rattle.cdc_prog.specs.Data.{position}
use Rattle.cdc_meaning.proofs.Subscripts.{place_inside, place_below}
use Rattle.cdc_meaning.proofs.folded.Folded.with.Goals as goal

pub overflow_mul-result : goal.overflow_mul-result
overflow_mul-result c =
    let f = c.args.self in
    let d = c.args.dim in
    let p = c.in-Ok.place in
    let fits : SFits w64 c.args.sub = c.ranges.sub in
    let at : position d c.args.sub ≡ Ok p = simp to_z-of_z at (sym c.in-Ok.ensures) in
    let less : f.number + p * f.stride < f.stride * d.extent = place_below f.number f.stride d.extent p c.requires.below (place_inside d c.args.sub p at) in
    omega (arith, less, c.requires.room)

pub returns-in-Ok-clause-below : goal.returns-in-Ok-clause-below
returns-in-Ok-clause-below c =
    let f = c.args.self in
    let d = c.args.dim in
    let p = c.in-Ok.place in
    let fits : SFits w64 c.args.sub = c.ranges.sub in
    let at : position d c.args.sub ≡ Ok p = simp to_z-of_z at (sym c.in-Ok.ensures) in
    place_below f.number f.stride d.extent p c.requires.below (place_inside d c.args.sub p at)
