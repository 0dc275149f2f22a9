-- The program in which a CALL stores in a DO variable by another name has no aliases in a unit.
use Rattle.std.proofs.Common.{◌≡◌, ℕ, zero, suc, List, [], ◌∷◌, map, get_or, ◌⊎◌, inl, inr, sym, ap, ◌∙◌, subst, arith}
use Rattle.std.specs.List.{Any}
use Rattle.cdc_prog.specs.declared.expr.Var.{Var}
use Rattle.cdc_prog.specs.declared.expr.Var.TheVariants as var
use Rattle.cdc_prog.specs.Plain.{Actual, Whole}
use Rattle.cdc_prog.specs.Data.{object_of}
use Rattle.cdc_prog.specs.Units.{body_of, binding_of}
use Rattle.cdc_prog.specs.Uses.{ActualMentions, Uses, HasCall}
use Rattle.cdc_prog.specs.Paths.{passed_var, IsUnder, Denotes}
use Rattle.cdc_prog.specs.Premises.{IsUnaliased}
use Rattle.cdc_along.specs.Examples.{raised}

actual_used : (v : Var) → Any (ActualMentions (λ at. at.var ≡ v) (λ w. w ≡ v)) (Whole (var.Object 0) ∷ []) → var.Object 0 ≡ v
actual_used v (zero, x, lt, is, h) = subst (ActualMentions (λ at. at.var ≡ v) (λ w. w ≡ v)) (sym is) h
actual_used v (suc k, x, lt, is, h) = absurd (omega (arith, lt))

main_uses : (v : Var) → Uses v (body_of raised 0) → var.Object 0 ≡ v
main_uses v (inl h) = actual_used v h
main_uses v (inr h) = absurd h

called_uses : (v : Var) → Uses v (body_of raised 2) → var.Object 0 ≡ v
called_uses v (inl (inl (inl e))) = e
called_uses v (inl (inl (inr h))) = absurd h
called_uses v (inl (inr h)) = absurd h
called_uses v (inr h) = absurd h

loop_uses : (v : Var) → Uses v (body_of raised 1) → (var.Dummy 0 ≡ v) ⊎ (var.Object 1 ≡ v)
loop_uses v (inl (inl (inl h))) = absurd h
loop_uses v (inl (inl (inr (inl h)))) = absurd h
loop_uses v (inl (inl (inr (inr h)))) = absurd h
loop_uses v (inl (inr (inl e))) = inl e
loop_uses v (inl (inr (inr (inl (inl (k, x, lt, is, h)))))) = absurd (omega (arith, lt))
loop_uses v (inl (inr (inr (inl (inr (inl (inl (inl e)))))))) = inr e
loop_uses v (inl (inr (inr (inl (inr (inl (inl (inr (inl e))))))))) = inl e
loop_uses v (inl (inr (inr (inl (inr (inl (inl (inr (inr h))))))))) = absurd h
loop_uses v (inl (inr (inr (inl (inr (inl (inr h))))))) = absurd h
loop_uses v (inl (inr (inr (inl (inr (inr h)))))) = absurd h
loop_uses v (inl (inr (inr (inr (inl e))))) = inl e
loop_uses v (inl (inr (inr (inr (inr e))))) = inl e
loop_uses v (inr h) = absurd h

only_call : (number caller : ℕ) (actuals : List Actual) → HasCall number 1 actuals (body_of raised caller) → actuals ≡ Whole (var.Object 0) ∷ []
only_call number zero actuals (inl h) = sym h.2
only_call number zero actuals (inr h) = absurd h
only_call number (suc zero) actuals (inl (inl h)) = absurd (omega (arith, h.1))
only_call number (suc zero) actuals (inl (inr (inl h))) = absurd h
only_call number (suc zero) actuals (inl (inr (inr h))) = absurd h
only_call number (suc zero) actuals (inr h) = absurd h
only_call number (suc (suc zero)) actuals (inl h) = absurd h
only_call number (suc (suc zero)) actuals (inr h) = absurd h
only_call number (suc (suc (suc n))) actuals h = absurd h

bound_is : (path bound : List ℕ) → IsUnder raised path 1 bound → bound ≡ 0 ∷ []
bound_is [] bound h = absurd (omega (arith, h.0))
bound_is (number ∷ path) bound (caller, outer, actuals, under, has, is) =
    is ∙ ap (λ (xs : List Actual). map (λ a. object_of (binding_of raised path caller outer) (passed_var a)) xs) (only_call number caller actuals has)

pub raised_unaliased : IsUnaliased raised
raised_unaliased path zero bound v w k under uses also ne stores d g = ne (sym (main_uses v uses) ∙ main_uses w also)
raised_unaliased path (suc (suc zero)) bound v w k under uses also ne stores d g = ne (sym (called_uses v uses) ∙ called_uses w also)
raised_unaliased path (suc (suc (suc n))) bound v w k under uses also ne stores d g = absurd uses
raised_unaliased path (suc zero) bound v w k under uses also ne stores d g = go (loop_uses v uses) (loop_uses w also)
  where
    first : get_or bound 0 0 ≡ 0
    first = ap (λ (l : List ℕ). get_or l 0 0) (bound_is path bound under)

    apart : (x y : Var) → var.Dummy 0 ≡ x → var.Object 1 ≡ y → Denotes (binding_of raised path 1 bound) x k → Denotes (binding_of raised path 1 bound) y k → ⊥
    apart x y e f h i =
        let a : get_or bound 0 0 ≡ k = subst (λ z. Denotes (binding_of raised path 1 bound) z k) (sym e) h in
        let b : 1 ≡ k = subst (λ z. Denotes (binding_of raised path 1 bound) z k) (sym f) i in
        omega (arith, a, b, first)

    go : (var.Dummy 0 ≡ v) ⊎ (var.Object 1 ≡ v) → (var.Dummy 0 ≡ w) ⊎ (var.Object 1 ≡ w) → ⊥
    go (inl e) (inl f) = ne (sym e ∙ f)
    go (inl e) (inr f) = apart v w e f d g
    go (inr e) (inl f) = apart w v f e g d
    go (inr e) (inr f) = ne (sym e ∙ f)
