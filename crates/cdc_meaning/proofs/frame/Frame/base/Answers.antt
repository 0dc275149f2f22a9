use Rattle.std.proofs.Common.{sym, ap, ◌∙◌, arith}
use Rattle.std.specs.Prelude.{slice_get}
use Rattle.std.proofs.lemmas.Option.{slice_get-get_or}
use Rattle.cdc_prog.specs.Data.{base_in}
use Rattle.cdc_meaning.proofs.InMemory.{object_there}
use Rattle.cdc_meaning.proofs.frame.Frame.base.Goals as goal

pub offset_bounds-as_slice-object : goal.offset_bounds-as_slice-object
offset_bounds-as_slice-object c =
    omega (arith, c.as_slice.type_inv.1, object_there c.args.self.now c.args.var c.object.result c.as_slice.result.now c.requires.placed c.requires.known c.object.ensures c.as_slice.ensures)

pub bounds-as_slice-object : goal.bounds-as_slice-object
bounds-as_slice-object c = object_there c.args.self.now c.args.var c.object.result c.as_slice.result.now c.requires.placed c.requires.known c.object.ensures c.as_slice.ensures

pub bounds-as_slice-object-2 : goal.bounds-as_slice-object-2
bounds-as_slice-object-2 c = object_there c.args.self.now c.args.var c.object.result c.as_slice.result.now c.requires.placed c.requires.known c.object.ensures c.as_slice.ensures

pub returns : goal.returns
returns c =
    let os = c.as_slice.result.now in
    let k = c.object.result in
    let there = object_there c.args.self.now c.args.var k os c.requires.placed c.requires.known c.object.ensures c.as_slice.ensures in
    sym (ap base_in (slice_get-get_or os k c.index-as_slice-object.result there)) ∙ ap (λ os. base_in (slice_get os k)) c.as_slice.ensures ∙ ap (λ j. base_in (slice_get c.args.self.now.program.now.objects j)) c.object.ensures
