-- Statements without CALL have the same paths, whatever calls do.
use Rattle.std.proofs.Common.{◌≡◌, ℕ, zero, suc, List, [], ◌∷◌, length, refl, ap, ap₂, arith}
use Rattle.cdc_prog.specs.Plain.{Stmt, Skip, Seq, Assign, If, Arm, Do, Doall, Call, Print, Read, ProgramUnit, Program}
use Rattle.cdc_prog.specs.Numbered.{calls_in}
use Rattle.cdc_prog.specs.Resolved.{IsResolved, HasNoCall}
use Rattle.cdc_prog.specs.Units.{body_of}
use Rattle.cdc_prog.proofs.Serial.{uncalled}
use Rattle.cdc_path.specs.declared.point.Point.TheVariants as point
use Rattle.cdc_path.specs.PathExpr.{PathExpr, Nothing, Then, Either, Repeat}
use Rattle.cdc_path.specs.Courses.{at, at_var, expr_course, controls_course, course, unit_course, expanded, program_course}

pub same_course : (f g : (number unit : ℕ) → PathExpr) (path : List ℕ) (s : Stmt) → calls_in s ≡ 0 → course f path s ≡ course g path s
same_course f g path Skip h = refl
same_course f g path (Seq a b) h = ap₂ Then (same_course f g path a (omega (arith, h))) (same_course f g path b (omega (arith, h)))
same_course f g path (Assign line t value) h = refl
same_course f g path (If arms) h = same_course f g path arms h
same_course f g path (Arm line cond body other) h =
    ap₂ (λ x y. Then (expr_course path cond) (Either x y)) (same_course f g path body (omega (arith, h))) (same_course f g path other (omega (arith, h)))
same_course f g path (Do k first body again bump) h =
    ap (λ x. Then (controls_course path k) (Then (at_var path first.var (point.Write first.site)) (Repeat (Then x (Then (at_var path again.var (point.Read again.site)) (at_var path bump.var (point.Write bump.site)))))))
    (same_course f g path body h)
same_course f g path (Doall k number slots body) h =
    ap (λ x. Then (controls_course path k) (Then (at path (point.Entry number)) (Then (Either x Nothing) (at path (point.Exit number))))) (same_course f g path body h)
same_course f g path (Call line number unit actuals) h = absurd (omega (arith, h))
same_course f g path (Print line items) h = refl
same_course f g path (Read line targets) h = refl

from_units : (p : Program) (n : ℕ) (us : List ProgramUnit) → length us ≡ n → p.units ≡ us → ((u : ℕ) → calls_in (body_of p u) ≡ 0) → expanded p n [] p.main ≡ unit_course [] (body_of p p.main)
from_units p zero [] e q h = rw q refl
from_units p zero (x ∷ us) e q h = absurd (omega (arith, e))
from_units p (suc n) us e q h = same_course _ _ [] (body_of p p.main) (h p.main)

pub one_unit : (p : Program) → IsResolved p → HasNoCall p → program_course p ≡ unit_course [] (body_of p p.main)
one_unit p r n = from_units p (length p.units) p.units refl refl (uncalled p r n)
