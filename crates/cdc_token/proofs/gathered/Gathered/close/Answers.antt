use Rattle.std.proofs.Common.{◌≡◌, [], sym, ap, ◌∙◌, subst, arith}
use Rattle.cdc_token.specs.Lines.{Leaves, cut, behind}
use Rattle.cdc_token.proofs.Cuts.{leaves_end, cut_end, behind_end, behind_none, takes_end, takes_none}
use Rattle.cdc_token.proofs.gathered.Gathered.close.Goals as goal

pub invariant_of-self-then-self-gt0 : goal.invariant_of-self-then-self-gt0
invariant_of-self-then-self-gt0 c =
    let g = c.self.inside in
    subst (λ ns. Leaves ns 0 g.tokens.items) (sym c.in_ok-push.ensures.items) (leaves_end g.lengths.items g.begun g.tokens.items c.self.invariant c.if-self-gt0.true)

pub returns-in_ok-push-clause-taken : goal.returns-in_ok-push-clause-taken
returns-in_ok-push-clause-taken c =
    let g = c.self.inside in
    let is = c.in_ok-push.ensures.items in
    rw (← c.self.view_is)
    (takes_end _ _ (ap (λ ns. cut ns g.tokens.items) is ∙ cut_end g.lengths.items g.begun g.tokens.items c.self.invariant)
    (ap (λ ns. behind ns g.tokens.items) is ∙ behind_end g.lengths.items g.begun g.tokens.items c.self.invariant))

pub returns-in_ok-push-clause-empty : goal.returns-in_ok-push-clause-empty
returns-in_ok-push-clause-empty c =
    let g = c.self.inside in
    ap (λ ns. behind ns g.tokens.items) c.in_ok-push.ensures.items ∙ behind_end g.lengths.items g.begun g.tokens.items c.self.invariant

empty : (c : goal.Else-self-gt0) → c.args.self.now.begun ≡ []
empty c =
    let g = c.self.inside in
    let none : g.begun ≡ 0 = omega (arith, c.if-self-gt0.false) in
    ap (λ p. p.begun) (sym c.self.view_is) ∙ behind_none g.lengths.items g.tokens.items (subst (λ k. Leaves g.lengths.items k g.tokens.items) none c.self.invariant)

pub returns-else-self-gt0-clause-taken : goal.returns-else-self-gt0-clause-taken
returns-else-self-gt0-clause-taken c = takes_none c.args.self.now (empty c)

pub returns-else-self-gt0-clause-empty : goal.returns-else-self-gt0-clause-empty
returns-else-self-gt0-clause-empty c = empty c
