use Rattle.std.proofs.Common.{◌+◌, ◌-◌, ◌%◌, ◌∙◌, arith}
use Rattle.cdc_phase.proofs.Masks.{masked, less_in_16}
use Rattle.cdc_phase.proofs.counter.Counter.age.Goals as goal

pub returns : goal.returns
returns c =
    let counter = c.args.self.now in
    masked ((counter.count + (65536 - c.args.tag)) % 65536) counter.mask counter.width counter.masks
    ∙ less_in_16 counter.count c.args.tag counter.width counter.narrow (omega arith)
