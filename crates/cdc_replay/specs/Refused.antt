-- The ends of a run.
use Rattle.cdc_prog.specs.InOrder as sequential
use Rattle.cdc_prog.specs.InOrder.{End}
use Rattle.cdc_sched.specs.declared.events.EventRefusal.{EventRefusal}
use Rattle.cdc_sched.specs.declared.events.EventRefusal.TheVariants as refusal
use Rattle.cdc_epoch.specs.declared.outcome.Outcome.{Outcome}
use Rattle.cdc_epoch.specs.declared.outcome.Outcome.TheVariants.{Done, Fault, BadEvent, ReadFault}

abbrev pub refused_end : EventRefusal → Outcome
refused_end (refusal.BadEvent line) = BadEvent line
refused_end refusal.ReadFault = ReadFault

-- as the machine ended
abbrev pub end_of : End → Outcome
end_of sequential.Done = Done
end_of (sequential.Faulted f) = Fault f.kind f.line
