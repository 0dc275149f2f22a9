-- An instruction that is known.
use Rattle.std.proofs.Common.{◌≡◌, ℕ, sym, subst}
use Rattle.cdc_prog.specs.Input.{Input}
use Rattle.cdc_code.specs.declared.code.Code.{Code}
use Rattle.cdc_code.specs.declared.instr.Instr.{Instr}
use Rattle.cdc_task.specs.declared.end.StepEnd.{StepEnd}
use Rattle.cdc_task.specs.declared.port.Port.{Ghosts}
use Rattle.cdc_task.specs.Held.{Held}
use Rattle.cdc_task.specs.Steps.{FitsIn, EndsOn, StepsOn, does}

module _ (code : Code) (records : Input) (line : ℕ) (i j : Instr) (is : i ≡ j) where
  pub fits_as : (words : ℕ) (h : Held) → FitsIn words records (does code i line) h → FitsIn words records (does code j line) h
  fits_as words h fit = subst (λ k. FitsIn words records (does code k line) h) is fit

  pub ends_as : (before : Held) (end : StepEnd) (after : Held) → EndsOn records (does code j line) before end after → EndsOn records (does code i line) before end after
  ends_as before end after ends = subst (λ k. EndsOn records (does code k line) before end after) (sym is) ends

  pub steps_as : {P : Type 0} (port : Ghosts P) (before : Held) (p : P) (end : StepEnd) (after : Held) (q : P) → StepsOn port records (does code j line) before p end after q → StepsOn port records (does code i line) before p end after q
  steps_as port before p end after q steps = subst (λ k. StepsOn port records (does code k line) before p end after q) (sym is) steps
