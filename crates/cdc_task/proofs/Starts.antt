-- A run begins.
use Rattle.std.proofs.Common.{◌≡◌, ℕ, List, [], sym, ap, ap₂, subst, arith}
use Rattle.cdc_prog.specs.Data.{Store, zeros}
use Rattle.cdc_prog.specs.Input.{Input}
use Rattle.cdc_prog.specs.InOrder.{output, ends}
use Rattle.cdc_prog.specs.Units.{process_of}
use Rattle.cdc_prog.specs.Meaning.{Meaning, bytes_of, meaning}
use Rattle.cdc_code.specs.declared.code.Code.{Code}
use Rattle.cdc_code.specs.Frames.{Frame}
use Rattle.cdc_code.specs.Rows.{first_frame}
use Rattle.cdc_code.specs.Does.{Does}
use Rattle.cdc_code.specs.Sound.{IsSound}
use Rattle.cdc_task.specs.Laws.{HasArrays}
use Rattle.cdc_task.specs.Held.{Held, frame_of, StandsIn}
use Rattle.cdc_task.specs.Steps.{GoesOn}
use Rattle.cdc_task.specs.Course.{Serial, Ends, Lasts}
use Rattle.cdc_task.specs.Running.{Doing, EndsWithin}
use Rattle.cdc_task.proofs.Sound.{code_goes_on}

module _ (code : Code) (records : Input) (h : Held) (stands : StandsIn records h (first_frame code records)) where
  -- the first task does the process of the program
  abbrev pub starts_doing : IsSound code → HasArrays code → Doing code records h
  starts_doing sound arrays = record {
    marks = sound.marks.reads;
    path = [];
    budget = 8;
    process = process_of sound.program records;
    does = subst (λ (f : Frame). Does code sound.marks.reads (GoesOn code) 8 (process_of sound.program records) f) (sym stands) (code_goes_on.sound code sound records arrays);
  }

  pub starts_within : (s : Store) → s ≡ zeros → (e : Ends code records) → EndsWithin code e.0 (Serial (frame_of [] records h), s)
  starts_within s store e =
      (e.0, omega arith, subst (λ (f : Frame). Lasts code e.0 (Serial f, s)) (sym stands) (subst (λ (t : Store). Lasts code e.0 (Serial (first_frame code records), t)) (sym store) e.1))

-- what the process prints on zeros is the meaning of the program
pub meant : (code : Code) (sound : IsSound code) (records : Input) (s : Store) → s ≡ zeros
    → record { bytes = bytes_of code.texts (output (process_of sound.program records) s); end = ends (process_of sound.program records) s } ≡ meaning sound.program records
meant code sound records s store =
    let q = process_of sound.program records in
    let m : List (List ℕ) → Store → Meaning = λ texts t. record { bytes = bytes_of texts (output q t); end = ends q t } in
    ap₂ m (ap (λ (k : Code). k.texts) sound.is_code) store
