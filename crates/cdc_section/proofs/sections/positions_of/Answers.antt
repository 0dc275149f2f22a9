use Rattle.std.proofs.Common.{◌≡◌, ◌+ℤ◌, ◌-ℤ◌, Some, ap, ◌∙◌, rules}
use Rattle.std.specs.Prelude.{max}
use Rattle.std.proofs.Math.Nat.{max_comm}
use Rattle.cdc_prog.specs.Dependence.{span}
use Rattle.cdc_prog.specs.Sections.{stride, cut}
use Rattle.cdc_section.proofs.Named.{positions_are}
use Rattle.cdc_section.proofs.sections.positions_of.Goals as goal

pub returns-in-Some : goal.returns-in-Some
returns-in-Some c =
    let found : span c.args.indexes.now c.args.form.now.terms ≡ Some c.in-Some.i = search rules in
    let low : c.moved-lo.result ≡ (c.in-Some.i.lo +ℤ c.args.form.now.rest) -ℤ c.args.d.low = search rules in
    let high : c.moved-hi.result ≡ (c.in-Some.i.hi +ℤ c.args.form.now.rest) -ℤ c.args.d.low = search rules in
    let apart : c.stride.result ≡ stride c.args.indexes.now c.args.form.now.terms = search rules in
    let steps : c.max.result ≡ max 1 (stride c.args.indexes.now c.args.form.now.terms) = c.max.ensures ∙ max_comm c.stride.result 1 ∙ ap (λ n. max 1 n) apart in
    let is : c.cut.result ≡ cut c.args.d.extent c.moved-lo.result c.moved-hi.result c.max.result = search rules in
    is ∙ positions_are c.args.indexes.now c.args.d c.args.form.now c.in-Some.i c.moved-lo.result c.moved-hi.result c.max.result found low high steps
