use Rattle.std.proofs.Common.{refl, if◌then◌else◌, [], ◌∷◌, ◌++◌}
use Rattle.cdc_epoch.specs.Ties.{counts_of}
use Rattle.cdc_fabric.specs.contracts.uncached.UncachedFabric.TheImpl.{ghosts}
use Rattle.cdc_top.specs.Report.{Answer, answer, report, status_of}
use Rattle.cdc_top.proofs.Said.{said_whole, said_part}
use Rattle.cdc_top.proofs.play.close.Goals as goal

pub returns-in-Ok-clause-said : goal.returns-in-Ok-clause-said
returns-in-Ok-clause-said g c =
    let p = c.args.played in
    let machine = c.args.machine.now in
    let h = c.args.header in
    let a : Answer = answer ((if p.is_open then 10 ∷ [] else []) ++ report p.end machine.boundaries p.tally h.bound (counts_of ghosts machine) h.procs) (status_of p.end) in
    said_whole a c.status.result _ _ _ _ c.status.ensures.value (c.status.ensures.finished c.requires.read c.requires.written) c.in-Ok.ensures.whole

pub returns-in-Err-clause-said : goal.returns-in-Err-clause-said
returns-in-Err-clause-said g c =
    let p = c.args.played in
    let machine = c.args.machine.now in
    let h = c.args.header in
    let a : Answer = answer ((if p.is_open then 10 ∷ [] else []) ++ report p.end machine.boundaries p.tally h.bound (counts_of ghosts machine) h.procs) (status_of p.end) in
    said_part a a.bytes _ _ _ _ refl c.in-Err.ensures.part
