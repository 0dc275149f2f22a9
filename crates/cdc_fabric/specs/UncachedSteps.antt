-- What a memory without caches stands for, and what its calls do.
use Rattle.std.specs.Prelude.{◌≡◌, ℕ, ℤ, List, length}
use Rattle.std.specs.List.{slice_set}
use Rattle.cdc_prog.specs.declared.program.Mark.{Mark}
use Rattle.cdc_fabric.specs.Calls.{Call}
use Rattle.cdc_fabric.specs.Counting.{without_steps}
use Rattle.cdc_fabric.specs.Uncached.{value_at, counts_at, HoldsStores, missed}
use Rattle.cdc_fabric.specs.declared.counts.Counts.{Counts}
use Rattle.cdc_fabric.specs.declared.uncached.Uncached.{Uncached}

abbrev pub uncached_procs : Uncached → ℕ
uncached_procs memory = length memory.counts

abbrev pub uncached_words : Uncached → ℕ
uncached_words memory = length memory.cells

abbrev pub uncached_counts : Uncached → ℕ → Counts
uncached_counts memory p = without_steps (counts_at memory.counts p)

abbrev pub uncached_stands : Uncached → List Call → Type 0
uncached_stands memory calls = HoldsStores memory.cells calls

abbrev pub uncached_loads : Uncached → ℕ → ℕ → Mark → ℤ → Uncached → Type 0
uncached_loads old p word mark value new = (value ≡ value_at old.cells word) × (new.cells ≡ old.cells) × (new.counts ≡ missed old.counts p)

abbrev pub uncached_stores : Uncached → ℕ → ℕ → ℤ → Uncached → Type 0
uncached_stores old p word value new = (new.cells ≡ slice_set old.cells word value) × (new.counts ≡ old.counts)

-- there is no line to drop, and no copy that a boundary could make invalid
abbrev pub IsSameMemory : Uncached → Uncached → Type 0
IsSameMemory old new = (new.cells ≡ old.cells) × (new.counts ≡ old.counts)
