use Rattle.cdc_cache.proofs.Slots.{moved_to_end}
use Rattle.cdc_cache.proofs.set.to_end.Goals as goal

pub returns : goal.returns
returns g c = moved_to_end c.args.lines.now c.rotate_left.new.self c.args.place c.requires c.rotate_left.ensures.after
