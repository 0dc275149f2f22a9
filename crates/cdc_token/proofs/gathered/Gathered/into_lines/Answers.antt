use Rattle.std.proofs.Common.{◌≡◌, ◌∙◌, sym, ap, subst, length}
use Rattle.cdc_token.specs.Lines.{Leaves}
use Rattle.cdc_token.proofs.Cuts.{length_behind}
use Rattle.cdc_token.proofs.gathered.Gathered.into_lines.Goals as goal

pub of-requires : goal.of-requires
of-requires c =
    let g = c.self.inside in
    let none : g.begun ≡ 0 = sym (length_behind g.lengths.items g.begun g.tokens.items c.self.invariant) ∙ ap length (ap (λ p. p.begun) c.self.view_is ∙ c.requires) in
    subst (λ k. Leaves g.lengths.items k g.tokens.items) none c.self.invariant
