use Rattle.std.proofs.Common.{◌+◌, ◌%◌, ◌∙◌}
use Rattle.cdc_phase.proofs.Masks.{masked, in_16}
use Rattle.cdc_phase.proofs.counter.Counter.next.Goals as goal

pub returns : goal.returns
returns c =
    let counter = c.args.self.now in
    masked ((counter.count + 1) % 65536) counter.mask counter.width counter.masks ∙ in_16 (counter.count + 1) counter.width counter.narrow
