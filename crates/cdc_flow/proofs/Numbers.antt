-- The body of a unit with the numbers of its CALLs.
use Rattle.std.proofs.Common.{◌≡◌, ℕ, zero, suc, ◌+◌, ◌<◌, List, [], ◌∷◌, length, map, get_or, take, ap, ◌∙◌, slice_get, arith}
use Rattle.cdc_prog.specs.declared.program.Unit.{Unit as ProgramUnit}
use Rattle.cdc_prog.specs.Numbered.{calls_in, calls_numbered, units_numbered, calls_in_units}
use Rattle.cdc_prog.specs.Translation.{stmts_of, unit_of}
use Rattle.cdc_prog.specs.Units.{body_in}

numbered_at : (before : ℕ) (us : List ProgramUnit) (k : ℕ) (d : ProgramUnit) → k < length us →
    body_in (slice_get (units_numbered before (map unit_of us)) k) ≡ calls_numbered (before + calls_in_units (map unit_of (take k us))) (stmts_of (get_or us k d).body)
numbered_at before [] k d lt = absurd (omega (arith, lt))
numbered_at before (u ∷ us) zero d lt = ap (λ n. calls_numbered n (stmts_of u.body)) (omega arith)
numbered_at before (u ∷ us) (suc k) d lt =
    numbered_at (before + calls_in (stmts_of u.body)) us k d (omega arith) ∙ ap (λ n. calls_numbered n (stmts_of (get_or us k d).body)) (omega arith)

pub body_at : (us : List ProgramUnit) (k : ℕ) (d : ProgramUnit) → k < length us →
    body_in (slice_get (units_numbered 0 (map unit_of us)) k) ≡ calls_numbered (calls_in_units (map unit_of (take k us))) (stmts_of (get_or us k d).body)
body_at us k d lt = numbered_at 0 us k d lt ∙ ap (λ n. calls_numbered n (stmts_of (get_or us k d).body)) (omega arith)
