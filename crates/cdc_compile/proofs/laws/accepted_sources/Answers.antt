use Rattle.cdc_compile.proofs.Sound.{accepted_is_sound}
use Rattle.cdc_compile.proofs.laws.accepted_sources.Goals as goal

pub returns : goal.returns
returns c = accepted_is_sound
