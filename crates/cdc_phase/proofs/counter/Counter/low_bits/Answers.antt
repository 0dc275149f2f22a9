use Rattle.cdc_phase.proofs.Masks.{masked_low}
use Rattle.cdc_phase.proofs.counter.Counter.low_bits.Goals as goal

pub returns : goal.returns
returns c =
    let counter = c.args.self.now in
    masked_low c.args.tag counter.mask counter.width counter.wide counter.masks
