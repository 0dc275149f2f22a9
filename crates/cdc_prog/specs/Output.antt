-- Where the output of a program goes, and what a run owes to it: the bytes that are taken go on with those that the run prints.
use Rattle.std.specs.Prelude.{◌≡◌, ℕ, ◌≤◌, List, [], ◌++◌, length, Option, Some, None, Result, Ok, Err}
use Rattle.cdc_base.specs.Causes.{Rose}
use Rattle.cdc_base.specs.Gathered.{waiting}
use Rattle.cdc_base.specs.Outside.{grown}
use Rattle.cdc_base.specs.declared.gathered.Gathered.{Gathered}
use Rattle.cdc_prog.specs.declared.fault.Fault.{Fault}
use Rattle.cdc_prog.specs.declared.stop.Stop.{Stop}
use Rattle.cdc_prog.specs.declared.stop.Stop.TheVariants as stop
use Rattle.cdc_prog.specs.InOrder.{Faulted, Run}
use Rattle.cdc_prog.specs.Meaning.{Meaning, bytes_of}

-- the bytes that the sink took, where they are told, those that wait for it, and the count of its faults
pub record Output : Type 0 where
  pub taken : Option (List ℕ)
  pub waits : List ℕ
  pub faults : ℕ

abbrev pub output_of : (taken : Option (List ℕ)) → Gathered → (faults : ℕ) → Output
output_of taken gathered faults = record { taken = taken; waits = waiting gathered; faults = faults }

-- what was printed so far
abbrev pub told : Output → Option (List ℕ)
told x = grown x.taken x.waits

abbrev pub size_of_taken : Option (List ℕ) → ℕ
size_of_taken None = 0
size_of_taken (Some bytes) = length bytes

-- the bytes that a run prints, and its end
abbrev pub meaning_of : (texts : List (List ℕ)) → Run → Meaning
meaning_of texts r = record { bytes = bytes_of texts r.printed; end = r.end }

-- bytes, and then what follows
abbrev pub behind : List ℕ → Meaning → Meaning
behind bytes m = record { bytes = bytes ++ m.bytes; end = m.end }

-- a fault, with nothing printed before it
abbrev pub faulted : Fault → Meaning
faulted f = record { bytes = []; end = Faulted f }

-- what is meant goes on with the other that still is to come, beside what was printed between, and has its end
pub record Follows (m : Meaning) (x : Output) (rest : Meaning) (y : Output) : Type 0 where
  pub whole : grown (told x) m.bytes ≡ grown (told y) rest.bytes
  pub ends : m.end ≡ rest.end
  pub longer : size_of_taken x.taken ≤ size_of_taken y.taken
  pub faults : y.faults ≡ x.faults

-- the sink failed when it had taken a front of what is meant
pub record IsCut (m : Meaning) (x y : Output) : Type 0 where
  pub left : List ℕ
  pub front : grown y.taken left ≡ grown (told x) m.bytes
  pub longer : size_of_taken x.taken ≤ size_of_taken y.taken
  pub later : x.faults ≤ y.faults
  pub rose : Rose x.faults y.faults

-- what is meant comes to the rest, to a fault, or to a failure of the sink
abbrev pub Comes : Meaning → Output → Result (Unit {0}) Stop → (rest : Meaning) → Output → Type 0
Comes m x (Ok u) rest y = Follows m x rest y
Comes m x (Err (stop.Faulted f)) rest y = Follows m x (faulted f) y
Comes m x (Err stop.Sink) rest y = IsCut m x y
