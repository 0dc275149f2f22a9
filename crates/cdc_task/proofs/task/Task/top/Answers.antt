use Rattle.std.proofs.Common.{◌≡◌, ◌-◌, ◌≤◌, ℤ, List, [], length, drop, take, sym, ap, ◌∙◌, subst, arith}
use Rattle.std.specs.Prelude.{reverse}
use Rattle.std.proofs.lemmas.List.{length-reverse, take_rest}
use Rattle.cdc_code.specs.Rows.{pops}
use Rattle.cdc_task.specs.Held.{Held}
use Rattle.cdc_task.proofs.Stacks.{popped_top}
use Rattle.cdc_task.proofs.task.Task.top.Goals as goal

pub returns : goal.returns
returns c =
    λ go. let xs = c.as_slice-stack.result.now in
    let count = c.args.count in
    let n = length xs - count in
    let held : reverse xs ≡ c.args.self.now.stack = ap reverse c.as_slice-stack.ensures.value ∙ ap (λ (h : Held). h.stack) c.self.view_is in
    let le : count ≤ length xs = omega (arith, c.requires, ap length held, length-reverse xs) in
    subst (λ (s : List ℤ). pops count [] s go ≡ go (take (length xs - n) (drop n xs)) (drop count s)) held
    (popped_top xs count go le ∙ ap (λ l. go l (drop count (reverse xs))) (sym (take_rest xs n)))
