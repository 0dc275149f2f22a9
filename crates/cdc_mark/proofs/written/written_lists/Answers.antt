use Rattle.std.proofs.Common.{List, Bool, ◌+◌, ◌*◌, refl, subst, sym, arith}
use Rattle.cdc_path.specs.declared.point.Point.TheVariants.{Entry, Exit}
use Rattle.cdc_mark.specs.Rows.{AreBelow, AreColumns}
use Rattle.cdc_mark.proofs.Columns.{listed, entry_places, exit_places}
use Rattle.cdc_mark.proofs.written.written_lists.Goals as goal

pub returns-clause-entries : goal.returns-clause-entries
returns-clause-entries c = λ x flow.
    let refs = c.args.refs.now in
    let rows = c.in_ok-rows.rows.items in
    listed x refs rows (2 * (c.args.doalls + 1)) 0 c.args.doalls Entry c.in_ok-entries.entries (subst (AreBelow refs) (sym c.in_ok-rows.ensures.count) c.object_room.ensures.room)
    (c.in_ok-rows.ensures.rows x flow) refl (omega arith) entry_places (subst (λ (r : List (List Bool)). AreColumns r 0 c.args.doalls c.in_ok-entries.entries) c.deref.ensures.value c.in_ok-entries.ensures)

pub returns-clause-exits : goal.returns-clause-exits
returns-clause-exits c = λ x flow.
    let refs = c.args.refs.now in
    let rows = c.in_ok-rows.rows.items in
    listed x refs rows (2 * (c.args.doalls + 1)) 1 c.args.doalls Exit c.in_ok-exits.exits (subst (AreBelow refs) (sym c.in_ok-rows.ensures.count) c.object_room.ensures.room)
    (c.in_ok-rows.ensures.rows x flow) refl (omega arith) exit_places (subst (λ (r : List (List Bool)). AreColumns r 1 c.args.doalls c.in_ok-exits.exits) c.deref-2.ensures.value c.in_ok-exits.ensures)
