use Rattle.std.proofs.Common.{◌≡◌, ◌+◌, ℕ, List, [], ◌∷◌, map, sym, ap, ◌∙◌, subst}
use Rattle.std.specs.Prelude.{reverse}
use Rattle.std.proofs.lemmas.List.{reverse-append}
use Rattle.cdc_code.specs.Frames.{Caller, in_order}
use Rattle.cdc_task.specs.Held.{Held, entered}
use Rattle.cdc_task.specs.Parts.{caller_of}
use Rattle.cdc_task.specs.contracts.task.Task.{the_view}
use Rattle.cdc_task.proofs.Stacks.{gathered}
use Rattle.cdc_task.proofs.task.Task.enter.Goals as goal

pub returns : goal.returns
returns c =
    let inside = c.self.inside in
    let whole : Held = the_view inside in
    let made = λ (args bound : List ℕ) (callers : List Caller). let h : Held = record whole { pc = c.args.start; args = args; unit = c.args.unit; bound = bound; callers = callers } in h in
    let back = λ (bound : List ℕ). let k : Caller = record { pc = inside.pc + 1; unit = inside.unit; bound = bound } in k in
    let args : reverse c.take.new.self.items ≡ [] = ap reverse c.take.ensures.after in
    let bound : c.replace-bound.new.dest.items ≡ in_order whole.args [] = ap (λ v. v.items) (c.replace-bound.ensures.after ∙ c.take.ensures.value) ∙ sym (gathered inside.args.items) in
    let callers : map caller_of (reverse c.push.new.self.items) ≡ back inside.bound.items ∷ whole.callers =
    ap (λ l. map caller_of (reverse l)) c.push.ensures.items ∙ (ap (map caller_of) (reverse-append inside.callers.items _) ∙ ap (λ v. back v.items ∷ whole.callers) c.replace-bound.ensures.value) in
    subst (λ (h : Held). made (reverse c.take.new.self.items) c.replace-bound.new.dest.items (map caller_of (reverse c.push.new.self.items)) ≡ entered c.args.start c.args.unit h) c.self.view_is
    (ap (λ a. made a c.replace-bound.new.dest.items (map caller_of (reverse c.push.new.self.items))) args
    ∙ (ap (λ b. made [] b (map caller_of (reverse c.push.new.self.items))) bound ∙ ap (made [] (in_order whole.args [])) callers))
