use Rattle.std.proofs.Common.{◌≡◌, drop}
use Rattle.cdc_check.specs.Meanings.{slot_from}
use Rattle.cdc_check.proofs.meaning.private_slot.Given as goal

abbrev pub invariant-loop-p : goal.invariant-loop-p
invariant-loop-p l = slot_from l.k l.name (drop l.p-index l.privates) ≡ slot_from 1 l.name l.privates
