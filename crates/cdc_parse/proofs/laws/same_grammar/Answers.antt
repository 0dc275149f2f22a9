use Rattle.std.proofs.Common.{arith}
use Rattle.cdc_parse.specs.Grammar.{expr}
use Rattle.cdc_parse.proofs.Sound.{Fits-more}
use Rattle.cdc_parse.proofs.Derived.{expr_has, condition_has, numeric, truthful}
use Rattle.cdc_parse.proofs.laws.same_grammar.Goals as goal

pub returns-clause-expr_fits : goal.returns-clause-expr_fits
returns-clause-expr_fits c d = (Fits-more 2 6 (expr d) (omega arith) (expr_has d).fits, (expr_has d).kind_is)

pub returns-clause-cond_fits : goal.returns-clause-cond_fits
returns-clause-cond_fits c d = ((condition_has d).fits, (condition_has d).kind_is)

pub returns-clause-expr_derived : goal.returns-clause-expr_derived
returns-clause-expr_derived c t f e = (numeric t e).as_expr f

pub returns-clause-cond_derived : goal.returns-clause-cond_derived
returns-clause-cond_derived c t f e = (truthful t e).as_cond f
