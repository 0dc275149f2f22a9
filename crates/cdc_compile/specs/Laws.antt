-- What the definitions imply.
use Rattle.std.specs.Prelude.{◌≡◌, ◌≢◌, ℕ, List, [], Result, Ok, Err}
use Rattle.std.specs.List.{All}
use Rattle.cdc_prog.specs.declared.program.Marks.{Marks}
use Rattle.cdc_prog.specs.Plain as plain
use Rattle.cdc_prog.specs.Resolved.{HasNoCall}
use Rattle.cdc_prog.specs.Iterations.{KeepsPremises}
use Rattle.cdc_along.specs.Sites.{SitesStandOnce}
use Rattle.cdc_code.specs.Template.{code_of}
use Rattle.cdc_compile.specs.declared.refusal.Refusal.{Refusal}
use Rattle.cdc_compile.specs.declared.refusal.Refusal.TheVariants.{Memory}
use Rattle.cdc_compile.specs.Source.{IsProgramOf}
use Rattle.cdc_compile.specs.Compiled.{IsCompiledTo, IsSoundCodeOf}

-- what is answered for a source, want of memory aside, is answered alone
abbrev pub HasOneAnswer : Type 0
HasOneAnswer = (source : List ℕ) (a b : Result plain.Program Refusal) → IsProgramOf source a → IsProgramOf source b → a ≢ Err Memory → b ≢ Err Memory → a ≡ b

-- what a source is compiled to is one
abbrev pub IsCompiledOnce : Type 0
IsCompiledOnce = (source : List ℕ) (p q : plain.Program) (m n : Marks) → IsCompiledTo source p m → IsCompiledTo source q n → (p ≡ q) × (m ≡ n)

-- of a source that is accepted: its program keeps the premises, it has no CALL and no unit has dummies, no two of its references have one site, and its code is sound, whatever the marks in it
pub record IsAccepted (source : List ℕ) (p : plain.Program) : Type 0 where
  pub premises : KeepsPremises p
  pub calls : HasNoCall p
  pub bare : All (λ u. u.dummies ≡ []) p.units
  pub sites : SitesStandOnce p
  pub sound : (marks : Marks) → IsSoundCodeOf p marks (code_of p marks)

abbrev pub AcceptedIsSound : Type 0
AcceptedIsSound = (source : List ℕ) (p : plain.Program) → IsProgramOf source (Ok p) → IsAccepted source p
