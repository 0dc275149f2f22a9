-- The first DOALL whose references the test does not tell apart.
use Rattle.std.specs.Prelude.{suc, Option}
use Rattle.cdc_base.specs.declared.place.Place.{Place}
use Rattle.cdc_prog.specs.Plain.{Program}
use Rattle.cdc_prog.specs.InOrder.{first_of}
use Rattle.cdc_prog.specs.Dependence.{failing}
use Rattle.cdc_subtest.specs.Verdicts.{places}

-- the places of the failing pair of the DOALL with the least number that has one; DOALLs are numbered from 1
abbrev pub conflict_in : Program → Option (Place × Place)
conflict_in p = first_of (λ before. places (failing p (suc before))) p.doalls
