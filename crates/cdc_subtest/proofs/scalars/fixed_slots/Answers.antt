use Rattle.std.proofs.Common.{◌≡◌, ℕ, suc, ◌+◌, ◌-◌, ◌<◌, Bool, true, false, if◌then◌else◌, List, [], ◌∷◌, ◌++◌, sym, ap, ◌∙◌, arith, rules, append_assoc}
use Rattle.cdc_prog.specs.declared.expr.Var.{Var}
use Rattle.cdc_prog.specs.declared.expr.Var.TheVariants as var
use Rattle.cdc_prog.specs.Affine.{is_in}
use Rattle.cdc_prog.specs.Dependence.{private_from}
use Rattle.cdc_subtest.proofs.scalars.fixed_slots.Goals as goal
use Rattle.cdc_subtest.proofs.scalars.fixed_slots.Goals.{then-not-is_in+in_ok-add, else-not-is_in}

if_is : (test : Bool) (b : Bool) (x y : List Var) → test ≡ b → (if test then x else y) ≡ (if b then x else y)
if_is test b x y e = ap (λ t. if t then x else y) e

one_slot : (stored : List Var) (k slots : ℕ) → k < slots → private_from stored k (slots - k) ≡ (if is_in stored (var.Slot k) then private_from stored (k + 1) (slots - (k + 1)) else var.Slot k ∷ private_from stored (k + 1) (slots - (k + 1)))
one_slot stored k slots lt =
    let e : slots - k ≡ suc (slots - (k + 1)) = omega arith in
    let f : suc k ≡ k + 1 = omega arith in
    ap (private_from stored k) e ∙ ap (λ i. if is_in stored (var.Slot k) then private_from stored i (slots - (k + 1)) else var.Slot k ∷ private_from stored i (slots - (k + 1))) f

pub loop-k-preserved : goal.loop-k-preserved
loop-k-preserved c =
    let step = one_slot c.args.stored.now c.loop-k.k c.args.slots (omega arith) in
    let rest : List Var = private_from c.args.stored.now (c.loop-k.k + 1) (c.args.slots - (c.loop-k.k + 1)) in
    let before : c.loop-k.out ++ private_from c.args.stored.now c.loop-k.k (c.args.slots - c.loop-k.k) ≡ c.args.out.now ++ private_from c.args.stored.now 1 (c.args.slots - 1) = c.loop-k.invariant in
    elim c.if-not-is_in.branch [
      | then-not-is_in+in_ok-add w ↦
          let out : c.if-not-is_in.out ≡ c.loop-k.out ++ var.Slot c.loop-k.k ∷ [] = search rules in
          let test : is_in c.args.stored.now (var.Slot c.loop-k.k) ≡ false = search rules in
          ap (λ xs. xs ++ rest) out ∙ append_assoc c.loop-k.out (var.Slot c.loop-k.k ∷ []) rest
          ∙ ap (λ xs. c.loop-k.out ++ xs) (sym (step ∙ if_is (is_in c.args.stored.now (var.Slot c.loop-k.k)) false rest (var.Slot c.loop-k.k ∷ rest) test)) ∙ before
      | else-not-is_in w ↦
          let out : c.if-not-is_in.out ≡ c.loop-k.out = search rules in
          let test : is_in c.args.stored.now (var.Slot c.loop-k.k) ≡ true = search rules in
          ap (λ xs. xs ++ rest) out
          ∙ ap (λ xs. c.loop-k.out ++ xs) (sym (step ∙ if_is (is_in c.args.stored.now (var.Slot c.loop-k.k)) true rest (var.Slot c.loop-k.k ∷ rest) test)) ∙ before
    ]
