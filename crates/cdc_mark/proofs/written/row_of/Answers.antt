use Rattle.std.proofs.Common.{◌↔◌, Bool, List, length, subst, sym}
use Rattle.cdc_path.specs.declared.point.Point.{Point}
use Rattle.cdc_mark.specs.Least.{IsIn}
use Rattle.cdc_mark.specs.Lists.{AreWritten}
use Rattle.cdc_mark.specs.Rows.{HasPlace, IsRow}
use Rattle.cdc_mark.proofs.Columns.{row_is}
use Rattle.cdc_mark.proofs.written.row_of.Goals as goal

pub returns : goal.returns
returns c = λ x flow.
    let g = c.args.g.now in
    let row = c.in_ok-row.row.items in
    let bits = c.in_ok-bits.bits.items in
    subst (IsRow x c.args.refs.now c.args.object c.args.places) (sym c.of.ensures)
    (row_is x g c.args.refs.now c.args.object c.args.places c.in_ok-wanted.wanted.items bits row flow c.in_ok-wanted.ensures
    (subst (λ w. AreWritten g w bits) c.deref.ensures.value c.in_ok-bits.ensures.written)
    (λ n. subst (λ (ps : List Point). IsIn row n ↔ HasPlace ps bits (length ps) c.args.places n) c.as_slice.ensures
    (subst (λ (b : List Bool). IsIn row n ↔ HasPlace c.as_slice.result.now b (length c.as_slice.result.now) c.args.places n) c.deref-2.ensures.value (c.in_ok-row.ensures n))))
