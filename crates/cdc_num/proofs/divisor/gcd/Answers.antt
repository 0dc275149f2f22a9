use Rattle.std.proofs.Common.{arith}
use Rattle.std.proofs.lemmas.Nat.Gcd.{IsGcd-from_mod, IsGcd-from_zero, same_from_IsGcd}
use Rattle.cdc_num.specs.Divisors.{gcd}
use Rattle.cdc_num.proofs.Divisors.{gcd_is}
use Rattle.cdc_num.proofs.divisor.gcd.Goals as goal

pub loop-y-preserved : goal.loop-y-preserved
loop-y-preserved c = λ g h. c.loop-y.invariant g (IsGcd-from_mod c.loop-y.x c.loop-y.y g h)

pub returns-clause-value : goal.returns-clause-value
returns-clause-value c =
    same_from_IsGcd c.args.a c.args.b c.loop-y.x (gcd c.args.a c.args.b) (c.loop-y.invariant c.loop-y.x (IsGcd-from_zero c.loop-y.x c.loop-y.y (omega arith))) (gcd_is c.args.a c.args.b)

pub returns-clause-greatest : goal.returns-clause-greatest
returns-clause-greatest c = c.loop-y.invariant c.loop-y.x (IsGcd-from_zero c.loop-y.x c.loop-y.y (omega arith))
