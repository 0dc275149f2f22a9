-- A memory without caches: its words, and the counts of its processors.
use Rattle.std.specs.Prelude.{◌≡◌, ℕ, ℤ, pos, ◌<◌, max, List, length, false}
use Rattle.std.specs.List.{slice_index_or, slice_set}
use Rattle.cdc_fabric.specs.Calls.{Call, last_store}
use Rattle.cdc_fabric.specs.Counting.{no_counts, after_read}
use Rattle.cdc_fabric.specs.declared.counts.Access.TheVariants.{Miss}
use Rattle.cdc_fabric.specs.declared.counts.Counts.{Counts}

abbrev pub value_at : List ℤ → ℕ → ℤ
value_at cells word = slice_index_or cells word (pos 0)

abbrev pub counts_at : List Counts → ℕ → Counts
counts_at counts p = slice_index_or counts p no_counts

-- each word has the value of its last store
abbrev pub HoldsStores : List ℤ → List Call → Type 0
HoldsStores cells calls = (word : ℕ) → word < length cells → value_at cells word ≡ last_store word calls

-- every read is a miss that drops nothing
abbrev pub missed : List Counts → ℕ → List Counts
missed counts p = slice_set counts p (after_read (Miss false) (counts_at counts p))

-- lines of one word; a memory without words has one
abbrev pub line_count : ℕ → ℕ
line_count words = max words 1
