use Rattle.std.proofs.Common.{◌≡◌, List, [], ◌∷◌, ◌++◌, length, map, true, refl, sym, ap, ◌∙◌, subst}
use Rattle.std.proofs.lemmas.Bool.{eq-eqb}
use Rattle.std.specs.Prelude.{OnOk}
use Rattle.cdc_prog.specs.declared.expr.Expr.{Expr}
use Rattle.cdc_prog.specs.declared.expr.Ref.{Ref}
use Rattle.cdc_prog.specs.Translation.{exprs_of}
use Rattle.cdc_prog.specs.declared.affine.Scope.{Scope}
use Rattle.cdc_prog.specs.Dependence.{spot, target_spots}
use Rattle.cdc_subtest.specs.Seen.{seen, seen_of}
use Rattle.cdc_subtest.proofs.references.target_references.Goals as goal

one_spot : (sc : Scope) (at : Ref) (xs : List Expr) → (length xs ≡ 0 → ⊥) → target_spots sc at (exprs_of xs) ≡ spot sc true at (exprs_of xs) ∷ []
one_spot sc at [] h = absurd (h refl)
one_spot sc at (x ∷ xs) h = refl

pub returns-else-is_empty : goal.returns-else-is_empty
returns-else-is_empty c =
    let some : length c.args.t.now.subs ≡ 0 → ⊥ = λ e. (let k = eq-eqb (length c.as_slice.result.now) 0 (ap length c.as_slice.ensures ∙ e) in cc) in
    let one = one_spot c.args.scope.now c.args.t.now.at c.args.t.now.subs some in
    subst (λ xs. OnOk c.refer.result (map seen_of c.refer.new.out.items ≡ map seen_of c.args.out.now.items ++ map seen xs)) (sym one) c.refer.ensures
