-- Objects one after another from word 0, each in column-major order.
use Rattle.std.specs.Prelude.{ℕ, ◌+◌, nat_lt, List, [], ◌∷◌, Result, Ok, Err, if◌then◌else◌}
use Rattle.cdc_prog.specs.declared.program.Object.{Object}
use Rattle.cdc_prog.specs.declared.program.Kind.TheVariants.{Words}
use Rattle.cdc_prog.specs.Data.{size_of}
use Rattle.cdc_prog.specs.Limits.{limit}
use Rattle.cdc_check.specs.declared.progress.Shape.{Shape}
use Rattle.cdc_check.specs.declared.refusal.CheckRefusal.{CheckRefusal}
use Rattle.cdc_check.specs.declared.refusal.CheckRefusal.TheVariants.{TooMany}

abbrev pub laid_at : ℕ → ℕ → Shape → Object
laid_at base words s = record { unit = s.unit; name = s.name; dims = s.dims; base = base; words = words }

abbrev pub laid_from : ℕ → List Shape → List Object
laid_from base [] = []
laid_from base (s ∷ ss) = laid_at base (size_of s.dims) s ∷ laid_from (base + size_of s.dims) ss

abbrev pub words_of : List Shape → ℕ
words_of [] = 0
words_of (s ∷ ss) = size_of s.dims + words_of ss

abbrev pub layout : List Shape → Result (List Object × ℕ) CheckRefusal
layout shapes = if nat_lt (limit Words) (words_of shapes) then Err (TooMany Words) else Ok (laid_from 0 shapes, words_of shapes)
