-- Which statements have code.
use Rattle.std.proofs.Common.{◌≡◌, ℕ, zero, suc, ◌<◌, ◌==◌, Bool, true, false, ◌||◌, List, [], ◌∷◌, ◌++◌, length, drop, refl, sym, ap, ap₂, ◌∙◌, arith}
use Rattle.cdc_prog.specs.declared.program.Mark.{Mark}
use Rattle.cdc_prog.specs.declared.stmt.Arm.{Arm}
use Rattle.cdc_prog.specs.declared.stmt.Stmt as stmt
use Rattle.cdc_prog.specs.declared.stmt.Stmt.{Stmt}
use Rattle.cdc_prog.specs.Plain as plain
use Rattle.cdc_prog.specs.Plain.{Skip, Seq, Assign, If, Do, Doall, Call, Print, Read, Item, Target, Value}
use Rattle.cdc_prog.specs.Translation.{arms_of, stmt_of, stmts_of}
use Rattle.cdc_prog.proofs.Translated.{at_if, at_arm}
use Rattle.cdc_code.specs.declared.instr.Step.{Step}
use Rattle.cdc_code.specs.Template.{expr_code, target_code, controls_code, items_code, reads_code, passed_code, stmt_code}
use Rattle.cdc_emit.specs.Parts.{has_code}

pub coded_arms : (arms : List Arm) (i : ℕ) (other : plain.Stmt) → i < length arms → true ≡ has_code (arms_of (drop i arms) other)
coded_arms [] i other lt = absurd (omega (arith, lt))
coded_arms (a ∷ arms) zero other lt = sym (ap has_code (at_arm a (arms_of arms other)))
coded_arms (a ∷ arms) (suc i) other lt = coded_arms arms i other (omega (arith, lt))

pub coded_if : (arms : List Arm) (other : List Stmt) → (length arms == 0) ≡ false → true ≡ has_code (stmt_of (stmt.If arms other))
coded_if [] other h = cc
coded_if (a ∷ arms) other h =
    sym (ap has_code (at_if (a ∷ arms) other ∙ ap If (at_arm a (arms_of arms (stmts_of other)))))

abbrev pub has_step : List Step → Bool
has_step [] = false
has_step (i ∷ is) = true

step-append : (a b : List Step) → has_step (a ++ b) ≡ (has_step a || has_step b)
step-append [] b = refl
step-append (i ∷ a) b = refl

step_behind : (a : List Step) (i : Step) (b : List Step) → has_step (a ++ i ∷ b) ≡ true
step_behind [] i b = refl
step_behind (j ∷ a) i b = refl

module _ (marks : List Mark) where
  behind : (a b : List Step) → has_step b ≡ true → has_step (a ++ b) ≡ true
  behind [] b h = h
  behind (i ∷ a) b h = refl

  coded_items : (line : ℕ) (is_first : Bool) (items : List Item) → has_step (items_code marks line is_first items) ≡ true
  coded_items line is_first [] = refl
  coded_items line true (plain.Text number ∷ more) = refl
  coded_items line false (plain.Text number ∷ more) = refl
  coded_items line true (Value value ∷ more) = step_behind (expr_code marks line value) _ _
  coded_items line false (Value value ∷ more) = step_behind (expr_code marks line value) _ _

  coded_reads : (line : ℕ) (targets : List Target) → has_step (reads_code marks line targets) ≡ true
  coded_reads line [] = refl
  coded_reads line (t ∷ ts) = step_behind (target_code marks line t) _ _

  -- statements have code where it is said so
  pub coded : (s : plain.Stmt) → has_step (stmt_code marks s) ≡ has_code s
  coded Skip = refl
  coded (Seq a b) = step-append (stmt_code marks a) (stmt_code marks b) ∙ ap₂ (λ (x y : Bool). x || y) (coded a) (coded b)
  coded (Assign line t value) = behind (target_code marks line t) _ (step_behind (expr_code marks line value) _ [])
  coded (If arms) = coded arms
  coded (plain.Arm line cond body other) = step_behind (expr_code marks line cond) _ _
  coded (Do k first body again bump) = step_behind (controls_code marks k) _ _
  coded (Doall k number slots body) = step_behind (controls_code marks k) _ _
  coded (Call line number unit actuals) = step_behind (passed_code marks line actuals) _ []
  coded (Print line items) = coded_items line true items
  coded (Read line targets) = coded_reads line targets
