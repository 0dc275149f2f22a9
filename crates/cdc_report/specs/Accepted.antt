-- The line on an accepted program.
use Rattle.std.specs.Prelude.{ℕ, List, [], ◌∷◌, length, codes}
use Rattle.cdc_prog.specs.Plain.{Program}
use Rattle.cdc_text.specs.Texts.{number, line}

abbrev pub accepted_text : Program → List ℕ
accepted_text program = line (
    codes "accepted units " ∷ number (length program.units) ∷ codes " objects " ∷ number (length program.objects)
    ∷ codes " words " ∷ number program.words ∷ codes " sites " ∷ number program.sites ∷ codes " doalls " ∷ number program.doalls ∷ [])
