use Rattle.std.proofs.Common.{rules, ◌+◌, List, [], ◌∷◌, sym, ap, ◌∙◌, subst}
use Rattle.cdc_token.specs.declared.token.Lexed.{Lexed}
use Rattle.cdc_token.specs.Lines.{Leaves, cut, behind}
use Rattle.cdc_token.proofs.Cuts.{leaves_more, leaves_few, cut_more, behind_more, takes_token}
use Rattle.cdc_token.proofs.gathered.Gathered.add.Goals as goal

pub overflow_add-self : goal.overflow_add-self
overflow_add-self c = search (rules, leaves_few c.self.inside.lengths.items c.self.inside.begun c.self.inside.tokens.items c.self.invariant)

pub invariant_of-self-in-Token : goal.invariant_of-self-in-Token
invariant_of-self-in-Token c =
    let g = c.self.inside in
    let more : List Lexed = record { token = c.in-Token.token; place = c.args.place } ∷ [] in
    subst (Leaves g.lengths.items (g.begun + 1)) (sym c.in_ok-push-in-Token.ensures.items) (leaves_more g.lengths.items g.begun g.tokens.items more c.self.invariant)

pub returns-in_ok-push-in-Token : goal.returns-in_ok-push-in-Token
returns-in_ok-push-in-Token c =
    let g = c.self.inside in
    let is = c.in_ok-push-in-Token.ensures.items in
    let t : Lexed = record { token = c.in-Token.token; place = c.args.place } in
    rw (← c.self.view_is, c.in-Token.is)
    (takes_token _ _ t (ap (cut g.lengths.items) is ∙ cut_more g.lengths.items g.begun g.tokens.items (t ∷ []) c.self.invariant)
    (ap (behind g.lengths.items) is ∙ behind_more g.lengths.items g.begun g.tokens.items (t ∷ []) c.self.invariant))
