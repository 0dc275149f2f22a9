-- The answers of a whole run.
use Rattle.std.specs.Prelude.{◌≡◌, ◌≢◌, ℕ, ◌≤◌, List, take, Option, Result, Ok, Err}
use Rattle.cdc_base.specs.Outside.{grown, GrewInPart}
use Rattle.cdc_base.specs.Causes.{Rose}
use Rattle.cdc_prog.specs.InOrder as end
use Rattle.cdc_prog.specs.Meaning.{Meaning}
use Rattle.cdc_prog.specs.Output.{Output, told}
use Rattle.cdc_prog.specs.declared.plain.Plain.{Plain}
use Rattle.cdc_prog.specs.declared.plain.Plain.TheVariants.{Done, Fault, SinkFault, Memory}
use Rattle.cdc_prog.specs.declared.stop.Stop.{Stop}
use Rattle.cdc_prog.specs.declared.stop.Stop.TheVariants.{Faulted, Sink}

-- the sink took all bytes that are meant, and this is the end that is meant; or it failed when it had taken a front of them; or nothing was taken
abbrev pub IsRun : Meaning → (before now : Option (List ℕ)) → Plain → Type 0
IsRun m before now Done = (now ≡ grown before m.bytes) × (m.end ≡ end.Done)
IsRun m before now (Fault kind line) = (now ≡ grown before m.bytes) × (m.end ≡ end.Faulted (record { kind = kind; line = line }))
IsRun m before now SinkFault = (count : ℕ) × (now ≡ grown before (take count m.bytes))
IsRun m before now Memory = now ≡ before

-- only where the sink failed its count has risen
pub record HasPlainCause (before now : ℕ) (result : Plain) : Type 0 where
  pub later : before ≤ now
  pub failed : result ≡ SinkFault → Rose before now
  pub kept : result ≢ SinkFault → now ≡ before

-- the answer to an end
abbrev pub answer_of : Result (Unit {0}) Stop → Plain
answer_of (Ok u) = Done
answer_of (Err (Faulted f)) = Fault f.kind f.line
answer_of (Err Sink) = SinkFault

-- all that waited was handed to the sink, or it failed when it had taken a front of that
pub record IsHanded (end : Result (Unit {0}) Stop) (x : Output) (result : Result (Unit {0}) Stop) (now : Option (List ℕ)) (risen : ℕ) : Type 0 where
  pub whole : result ≢ Err Sink → (result ≡ end) × (now ≡ told x) × (risen ≡ x.faults)
  pub part : result ≡ Err Sink → GrewInPart x.taken now x.waits × (x.faults ≤ risen) × Rose x.faults risen

-- the same, where the sink had not failed before; else nothing more is handed to it
abbrev pub IsHandedOn : (end : Result (Unit {0}) Stop) → Output → (result : Result (Unit {0}) Stop) → (now : Option (List ℕ)) → (risen : ℕ) → Type 0
IsHandedOn (Err Sink) x result now risen = (result ≡ Err Sink) × (now ≡ x.taken) × (risen ≡ x.faults)
IsHandedOn end x result now risen = IsHanded end x result now risen
