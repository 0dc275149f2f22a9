use Rattle.std.proofs.Common.{◌≡◌, ℕ, ◌-◌, take, drop, length, map, None, sym, ap, ◌∙◌, arith, rules}
use Rattle.std.proofs.lemmas.List.{take_all, length-drop}
use Rattle.cdc_prog.specs.Dependence.{failing_with}
use Rattle.cdc_subtest.specs.Seen.{seen_of, pair_fails, places_of}
use Rattle.cdc_subtest.proofs.Earlier.{next_at}
use Rattle.cdc_subtest.proofs.pairs.first_failing.Goals as goal

pub loop-i-preserved : goal.loop-i-preserved
loop-i-preserved c =
    let none : c.failing_from.result ≡ None = search rules in
    let i : ℕ = c.loop-i.i in
    let all : take (length c.args.ps.now - i) (drop i c.args.ps.now) ≡ drop i c.args.ps.now = take_all (length c.args.ps.now - i) (drop i c.args.ps.now) (omega (arith, length-drop i c.args.ps.now)) in
    let whole = ap (λ qs. places_of (failing_with (pair_fails c.args.step) (seen_of c.index-ps-i.result) (map seen_of qs))) all in
    let here = ap (λ p. places_of (failing_with (pair_fails c.args.step) (seen_of p) (map seen_of (drop c.loop-i.i c.args.ps.now)))) c.index-ps-i.is in
    next_at c.args.step c.args.ps.now c.loop-i.i c.index-ps-i.result c.loop-i-test.true c.loop-i.invariant (sym (c.failing_from.ensures ∙ whole ∙ here) ∙ none)
