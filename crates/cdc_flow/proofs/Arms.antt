-- The arms that are left in a loop over them.
use Rattle.std.proofs.Common.{◌≡◌, ℕ, suc, ◌+◌, ◌<◌, List, [], ◌∷◌, ◌++◌, length, get_or, drop, refl, sym, ap, ◌∙◌, add-one, arith}
use Rattle.std.proofs.Math.Seq.{drop-cons}
use Rattle.cdc_prog.specs.declared.stmt.Arm.{Arm}
use Rattle.cdc_prog.specs.Plain as plain
use Rattle.cdc_prog.specs.Numbered.{calls_in, calls_numbered}
use Rattle.cdc_prog.specs.Translation.{expr_of, stmts_of, arms_of}
use Rattle.cdc_prog.proofs.Translated.{at_arm}
use Rattle.cdc_path.specs.Courses.{expr_course, unit_course}
use Rattle.cdc_flow.specs.declared.builder.Builder.{Builder}
use Rattle.cdc_flow.specs.Built.{built, meeting, met, IsArmed}

pub first_arm : (arms : List Arm) (i : ℕ) (a : Arm) (other : plain.Stmt) → i < length arms → a ≡ get_or arms i a →
    arms_of (drop i arms) other ≡ plain.Arm a.line (expr_of a.cond) (stmts_of a.body) (arms_of (drop (i + 1) arms) other)
first_arm arms i a other lt is =
    let left : drop i arms ≡ a ∷ drop (i + 1) arms = rw (add-one, drop-cons arms i a) (ap (λ b. b ∷ drop (suc i) arms) (sym is)) in
    ap (λ l. arms_of l other) left ∙ at_arm a (arms_of (drop (i + 1) arms) other)

pub met_last : (ends : List ℕ) (end : ℕ) (g : Builder) → met (ends ++ end ∷ []) g ≡ met ends (meeting end g)
met_last [] end g = refl
met_last (e ∷ ends) end g = ap (meeting e) (met_last ends end g)

-- an arm that was built, before the arms that are left
pub next_arm : (arms : List Arm) (i : ℕ) (a : Arm) (other : plain.Stmt) (ends : List ℕ) (end before after : ℕ) (old new : Builder) → i < length arms → a ≡ get_or arms i a →
    IsArmed (expr_course [] (expr_of a.cond)) (unit_course [] (calls_numbered before (stmts_of a.body))) old new end → after ≡ before + calls_in (stmts_of a.body) →
    met (ends ++ end ∷ []) (built (unit_course [] (calls_numbered after (arms_of (drop (i + 1) arms) other))) new) ≡ met ends (built (unit_course [] (calls_numbered before (arms_of (drop i arms) other))) old)
next_arm arms i a other ends end before after old new lt is h e =
    met_last ends end _ ∙ (rw (first_arm arms i a other lt is, h.end_is, h.new_is, e) refl)

pub counted_arm : (arms : List Arm) (i : ℕ) (a : Arm) (other : plain.Stmt) (before after : ℕ) → i < length arms → a ≡ get_or arms i a → after ≡ before + calls_in (stmts_of a.body) →
    after + calls_in (arms_of (drop (i + 1) arms) other) ≡ before + calls_in (arms_of (drop i arms) other)
counted_arm arms i a other before after lt is e = rw (first_arm arms i a other lt is, e) (omega arith)
