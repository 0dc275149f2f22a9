-- The code of an accepted program is sound.
use Rattle.std.proofs.Common.{◌≡◌, refl, ◌∙◌, ap₂}
use Rattle.cdc_prog.specs.declared.program.Marks.{Marks}
use Rattle.cdc_prog.specs.Plain.{Program}
use Rattle.cdc_prog.specs.Input.{Input}
use Rattle.cdc_prog.specs.Units.{process_of}
use Rattle.cdc_prog.specs.Apart.{IsApart}
use Rattle.cdc_prog.specs.Iterations.{KeepsPremises}
use Rattle.cdc_prog.specs.Resolved.{HasNoCall}
use Rattle.cdc_along.specs.Sites.{SitesStandOnce}
use Rattle.cdc_along.proofs.Trees.{program_along}
use Rattle.cdc_along.proofs.Tasks.{tasks_along}
use Rattle.cdc_along.proofs.InSections.{program_in_sections}
use Rattle.cdc_along.proofs.Accessed.{covers_kept}
use Rattle.cdc_code.specs.declared.code.Code.{Code}
use Rattle.cdc_code.specs.Room.{HasRoom}
use Rattle.cdc_code.specs.Template.{HasCallNumbers, code_of}
use Rattle.cdc_code.proofs.Alone.{code_is_sound}
use Rattle.cdc_compile.specs.Compiled.{IsSoundCodeOf}

pub sound_code : (p : Program) (marks : Marks) → KeepsPremises p → HasNoCall p → SitesStandOnce p → ((records : Input) → IsApart (process_of p records)) → HasCallNumbers p → HasRoom p → IsSoundCodeOf p marks (code_of p marks)
unfolding code_is_sound
sound_code p marks premises none sites apart numbered room = record {
  sound = code_is_sound p marks premises.resolved numbered room premises.unaliased apart;
  program_is = refl;
  marks_are = refl;
  along = λ records s. program_along p records s premises.resolved;
  tasks = tasks_along p premises.resolved;
  sections = λ records s. program_in_sections p records s premises.resolved none premises.loops premises.indexes;
  covers = covers_kept p premises.resolved none sites;
}

-- code that is sound as that of a program with marks is its code
pub sound_is_code : (p : Program) (marks : Marks) (code : Code) → IsSoundCodeOf p marks code → code ≡ code_of p marks
sound_is_code p marks code s = s.sound.is_code ∙ ap₂ code_of s.program_is s.marks_are
