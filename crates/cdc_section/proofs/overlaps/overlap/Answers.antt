use Rattle.std.proofs.Common.{rules}
use Rattle.std.specs.Prelude.{Decides}
use Rattle.cdc_prog.specs.Sections.{Overlap}
use Rattle.cdc_section.proofs.Named.{shared}
use Rattle.cdc_section.proofs.overlaps.overlap.Goals as goal

pub returns-clause-shared : goal.returns-clause-shared
returns-clause-shared c =
    let told : Decides c.all_meet.result (Overlap c.args.a.now c.args.b.now) = search rules in
    λ zs x y. told.1 (shared c.args.a.now c.args.b.now zs x y)
