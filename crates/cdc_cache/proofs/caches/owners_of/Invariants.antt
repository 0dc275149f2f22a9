use Rattle.std.proofs.Common.{◌≡◌, ◌++◌, drop}
use Rattle.cdc_fabric.specs.Made.{owners_from}
use Rattle.cdc_cache.proofs.caches.owners_of.Given as goal

abbrev pub invariant-loop-number : goal.invariant-loop-number
invariant-loop-number l = l.owners.items ++ owners_from l.number (drop l.number l.objects) ≡ owners_from 0 l.objects
