-- A source is compiled to one program with one list of marks.
use Rattle.std.proofs.Common.{◌≡◌, List, ℕ, Result, Ok, Err, subst}
use Rattle.cdc_prog.specs.Plain.{Program}
use Rattle.cdc_path.specs.Marks.{AreMarks}
use Rattle.cdc_path.proofs.OneMarks.{one_marks}
use Rattle.cdc_compile.specs.declared.refusal.Refusal.{Refusal}
use Rattle.cdc_compile.specs.Source.{IsProgramOf}
use Rattle.cdc_compile.specs.Laws.{IsCompiledOnce}
use Rattle.cdc_compile.proofs.OneAnswer.{one_answer}

abbrev accepts : Program → Result Program Refusal
accepts p = Ok p

pub one_program : (source : List ℕ) (p q : Program) → IsProgramOf source (Ok p) → IsProgramOf source (Ok q) → p ≡ q
one_program source p q is same = let e : accepts p ≡ accepts q = one_answer source (accepts p) (accepts q) is same (λ e. cc e) (λ e. cc e) in cc

pub compiled_once : IsCompiledOnce
compiled_once source p q m n is same =
    let e = one_program source p q is.accepted same.accepted in
    (e, one_marks q m n (subst (λ (r : Program). AreMarks r m) e is.marks_are) same.marks_are)
