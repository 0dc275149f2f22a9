-- Sound code goes on.
use Rattle.std.proofs.Common.{ℕ, ◌+◌, ◌^◌, ◌≤◌, List, [], ◌∷◌, sym, subst, arith}
use Rattle.std.specs.List.{All}
use Rattle.std.proofs.lemmas.List.Elements.{All-nil, All-cons}
use Rattle.cdc_prog.specs.declared.program.Object.{Object}
use Rattle.cdc_prog.specs.Data.{size_of}
use Rattle.cdc_prog.specs.Input.{Input}
use Rattle.cdc_prog.specs.Resolved.{AreLaidOut}
use Rattle.cdc_prog.specs.Units.{process_of}
use Rattle.cdc_prog.specs.Bodies.{StaysBelow}
use Rattle.cdc_prog.proofs.Words.{object_within}
use Rattle.cdc_code.specs.declared.code.Code.{Code}
use Rattle.cdc_code.specs.Rows.{first_frame}
use Rattle.cdc_code.specs.Room.{NamesWithin}
use Rattle.cdc_code.specs.Does.{Does}
use Rattle.cdc_code.specs.Sound.{IsSound}
use Rattle.cdc_code.proofs.Names.{named}
use Rattle.cdc_prog.proofs.References.{stays_in_memory}
use Rattle.cdc_task.specs.Steps.{IsArray, GoesOn}
use Rattle.cdc_task.specs.Laws.{HasArrays, CodeGoesOn}
use Rattle.cdc_task.proofs.GoesOn.{stronger, goes_on_here}

-- objects that are laid out have elements, and no more than memory has words
laid_out : (from : ℕ) (os : List Object) (words : ℕ) → words ≤ 2 ^ 22 → AreLaidOut from os words → All (λ o. IsArray o.dims) os
laid_out from [] words small h = All-nil (λ (o : Object). IsArray o.dims)
laid_out from (o ∷ os) words small h =
    let within : o.base + size_of o.dims ≤ words = object_within from (o ∷ os) words 0 h (omega arith) in
    All-cons (λ (o : Object). IsArray o.dims) o os (omega (arith, h.1, h.2), omega (arith, within, small)) (laid_out (from + o.words) os words small h.3)

sound : (code : Code) (sound : IsSound code) (records : Input) → HasArrays code → Does code sound.marks.reads (GoesOn code) 8 (process_of sound.program records) (first_frame code records)
sound code s records arrays =
    let p = s.program in
    let r = s.resolved in
    let names : NamesWithin code = subst NamesWithin (sym s.is_code) (named p s.marks r s.room) in
    let objects : All (λ (o : Object). IsArray o.dims) code.objects = subst (λ (c : Code). All (λ (o : Object). IsArray o.dims) c.objects) (sym s.is_code) (laid_out 0 p.objects p.words r.small r.laid_out) in
    let low : StaysBelow code.words (process_of p records) = subst (λ (c : Code). StaysBelow c.words (process_of p records)) (sym s.is_code) (stays_in_memory p records r) in
    stronger code names objects arrays s.marks.reads 8 (process_of p records) (first_frame code records) low (s.does records)

pub code_goes_on : CodeGoesOn
code_goes_on = record {
  does = λ code marks budget q f names objects arrays low d. stronger code names objects arrays marks budget q f low d;
  sound = sound;
  here = goes_on_here;
}
