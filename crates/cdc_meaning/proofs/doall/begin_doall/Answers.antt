use Rattle.std.proofs.Common.{◌≡◌, ℕ, ℤ, Ok, rules, arith}
use mir.Val.{SFits}
use mir.Syntax.{w64}
use Rattle.std.proofs.lemmas.Int.{ints, to_z-of_z}
use Rattle.cdc_prog.specs.Value.{trips, few}
use Rattle.cdc_prog.specs.Trips.{few_of}
use Rattle.cdc_prog.specs.Process.{Tick, Fork, Join, or_fail}
use Rattle.cdc_prog.specs.Expressions.{expr}
use Rattle.cdc_prog.specs.Statements.{beginning}
use Rattle.cdc_prog.specs.Held.{store_of, around}
use Rattle.cdc_prog.specs.Translation.{control_of}
use Rattle.cdc_prog.proofs.Same.{same_after}
use Rattle.cdc_meaning.specs.Frames.{binding}
use Rattle.cdc_meaning.proofs.Iterations.{few_fork}
use Rattle.cdc_meaning.proofs.doall.begin_doall.Goals as goal

pub returns-clause-forks : goal.returns-clause-forks
returns-clause-forks c =
    let a = c.args in
    let b = binding a.frame.now in
    let k = control_of a.control.now in
    let s = store_of a.words.now in
    let m1 = c.in_ok-from.from in
    let m2 = c.in_ok-to.to in
    let m3 = c.in_ok-by.by in
    let f1 : SFits w64 m1 = search rules in
    let f2 : SFits w64 m2 = search rules in
    let f3 : SFits w64 m3 = search rules in
    let few_turns : few_of (trips m1 m2 m3) ≡ Ok c.in_ok-count.count = grind (arith, ints, to_z-of_z) in
    λ number left body rest.
    let d = around a.slots.now left in
    let fork = λ (from by : ℤ) (count : ℕ). Fork b.path number count from by (λ i. Tick (body (beginning from by i d) (λ e. Join))) (rest d) in
    let counted = λ (from to by : ℤ). or_fail k.line (trips from to by) (λ n. or_fail k.line (few n) (fork from by)) in
    simp to_z-of_z
    (same_after (c.in_ok-from.ensures left (λ x. expr b k.line k.to d (λ y. expr b k.line k.by d (λ z. counted x y z))))
    (same_after (c.in_ok-to.ensures left (λ y. expr b k.line k.by d (λ z. counted m1 y z)))
    (same_after (c.in_ok-by.ensures left (λ z. counted m1 m2 z)) (few_fork k.line (trips m1 m2 m3) c.in_ok-count.count (fork m1 m3) s few_turns))))
