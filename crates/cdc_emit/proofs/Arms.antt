-- The arms that are left in a loop over them.
use Rattle.std.proofs.Common.{◌≡◌, ℕ, suc, ◌+◌, ◌<◌, List, ◌∷◌, length, get_or, drop, sym, ap, ◌∙◌, add-one}
use Rattle.std.proofs.Math.Seq.{drop-cons}
use Rattle.cdc_prog.specs.declared.stmt.Arm.{Arm}
use Rattle.cdc_prog.specs.Plain as plain
use Rattle.cdc_prog.specs.Translation.{expr_of, stmts_of, arms_of}
use Rattle.cdc_prog.proofs.Translated.{at_arm}

pub first_arm : (arms : List Arm) (i : ℕ) (a : Arm) (other : plain.Stmt) → i < length arms → a ≡ get_or arms i a →
    arms_of (drop i arms) other ≡ plain.Arm a.line (expr_of a.cond) (stmts_of a.body) (arms_of (drop (i + 1) arms) other)
first_arm arms i a other lt is =
    let left : drop i arms ≡ a ∷ drop (i + 1) arms = rw (add-one, drop-cons arms i a) (ap (λ b. b ∷ drop (suc i) arms) (sym is)) in
    ap (λ l. arms_of l other) left ∙ at_arm a (arms_of (drop (i + 1) arms) other)
