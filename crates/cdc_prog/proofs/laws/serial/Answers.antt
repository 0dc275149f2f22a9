use Rattle.cdc_prog.proofs.Serial as lemma
use Rattle.cdc_prog.proofs.laws.serial.Goals as goal

pub returns : goal.returns
returns c = record { stores_alone = lemma.serial_stores_alone; apart = lemma.serial_apart }
