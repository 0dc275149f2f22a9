use Rattle.std.proofs.Common.{◌≡◌, ◌-◌, ◌≤◌, length, drop, take, sym, ap, ◌∙◌, subst, arith}
use Rattle.std.specs.Prelude.{reverse}
use Rattle.std.proofs.lemmas.List.{length-reverse}
use Rattle.cdc_task.specs.Held.{Held, with_stack}
use Rattle.cdc_task.specs.contracts.task.Task.{the_view}
use Rattle.cdc_task.proofs.Stacks.{below_top}
use Rattle.cdc_task.proofs.task.Task.drop_top.Goals as goal

pub returns : goal.returns
returns c =
    let xs = c.self.inside.stack.items in
    let count = c.args.count in
    let whole : Held = the_view c.self.inside in
    let held : reverse xs ≡ c.args.self.now.stack = ap (λ (h : Held). h.stack) c.self.view_is in
    let le : count ≤ length xs = omega (arith, c.requires, ap length held, length-reverse xs) in
    let n : c.len.result ≡ length xs = c.len.ensures.value in
    let low : reverse c.truncate.new.self.items ≡ drop count (reverse xs) =
    ap reverse c.truncate.ensures.items ∙ (ap (λ k. reverse (take (k - count) xs)) n ∙ sym (below_top xs count le)) in
    subst (λ (h : Held). with_stack (reverse c.truncate.new.self.items) whole ≡ with_stack (drop count h.stack) h) c.self.view_is (ap (λ s. with_stack s whole) low)
