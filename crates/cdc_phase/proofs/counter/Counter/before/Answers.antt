use Rattle.std.proofs.Common.{◌+◌, ◌%◌, ◌∙◌}
use Rattle.cdc_phase.proofs.Masks.{masked, one_less_in_16}
use Rattle.cdc_phase.proofs.counter.Counter.before.Goals as goal

pub returns : goal.returns
returns c =
    let counter = c.args.self.now in
    masked ((counter.count + 65535) % 65536) counter.mask counter.width counter.masks
    ∙ one_less_in_16 counter.count counter.width counter.wide counter.narrow
