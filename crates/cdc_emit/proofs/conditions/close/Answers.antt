use Rattle.std.proofs.Common.{◌≡◌, ◌<◌, List, length, sym, ap, ◌∙◌, subst, length-set}
use Rattle.std.specs.Prelude.{All, slice_set}
use Rattle.cdc_code.specs.declared.instr.Step.{Step}
use Rattle.cdc_code.specs.Template.{at_line}
use Rattle.cdc_emit.specs.declared.conditions.Pending.{Pending}
use Rattle.cdc_emit.specs.Parts.{AreWithin, written}
use Rattle.cdc_emit.proofs.Filled.{written_last, within_left}
use Rattle.cdc_emit.proofs.conditions.close.Goals as goal

same_room : (a b : List Step) (ends : List Pending) → length a ≡ length b → AreWithin a ends → AreWithin b ends
same_room a b ends e within = subst (λ n. All (λ (p : Pending). p.place < n) ends) e within

pub loop-pending-preserved : goal.loop-pending-preserved
loop-pending-preserved c =
    let left = c.pop.new.self.items in
    let end = c.next_place-end.result in
    let p = c.in-Some.pending in
    let l = c.loop-pending in
    let same : length l.steps ≡ length c.replace.new.steps = sym (length-set l.steps p.place (at_line p.line c.in_ok-instr.instr)) ∙ ap length (sym c.replace.ensures) in
    record {
      end = l.invariant.end ∙ same;
      within = same_room l.steps c.replace.new.steps left same (within_left l.steps l.ends.items left p c.in-Some.ensures.items l.invariant.within).1;
      written =
          ap (written end left) (c.replace.ensures ∙ ap (λ i. slice_set l.steps p.place (at_line p.line i)) c.in_ok-instr.ensures)
          ∙ sym (written_last end left p l.steps)
          ∙ ap (λ ps. written end ps l.steps) (sym c.in-Some.ensures.items)
          ∙ l.invariant.written;
    }
