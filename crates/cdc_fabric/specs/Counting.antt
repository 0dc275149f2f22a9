-- What an access and a boundary add to a processor's counts, which stay at the last value of u64.
use Rattle.std.specs.Prelude.{ℕ, ◌+◌, ◌-◌, ◌^◌, min, Bool, true, false}
use Rattle.cdc_base.specs.Numbers.{one_more}
use Rattle.cdc_fabric.specs.declared.counts.Access.{Access}
use Rattle.cdc_fabric.specs.declared.counts.Access.TheVariants.{OrdinaryHit, MarkedHit, Miss}
use Rattle.cdc_fabric.specs.declared.counts.Counts.{Counts}

abbrev pub no_counts : Counts
no_counts = record { steps = 0; reads = 0; ordinary = 0; marked = 0; misses = 0; evicted = 0; invalidated = 0 }

-- a line was dropped
abbrev pub after_drop : Counts → Counts
after_drop c = record c { evicted = one_more c.evicted }

abbrev pub after_miss : Bool → Counts → Counts
after_miss false c = record c { reads = one_more c.reads; misses = one_more c.misses }
after_miss true c = record c { reads = one_more c.reads; misses = one_more c.misses; evicted = one_more c.evicted }

abbrev pub after_read : Access → Counts → Counts
after_read OrdinaryHit c = record c { reads = one_more c.reads; ordinary = one_more c.ordinary }
after_read MarkedHit c = record c { reads = one_more c.reads; marked = one_more c.marked }
after_read (Miss evicted) c = after_miss evicted c

-- so many words became invalid
abbrev pub after_boundary : ℕ → Counts → Counts
after_boundary words c = record c { invalidated = min (c.invalidated + words) (2 ^ 64 - 1) }

-- a memory side counts no steps
abbrev pub without_steps : Counts → Counts
without_steps c = record c { steps = 0 }
