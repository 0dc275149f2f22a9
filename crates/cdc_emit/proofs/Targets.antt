-- Targets with subscripts.
use Rattle.std.proofs.Common.{◌≡◌, ℕ, ◌==◌, false, List, [], ◌∷◌, ◌++◌, length, refl}
use Rattle.cdc_prog.specs.declared.expr.Ref.{Ref}
use Rattle.cdc_prog.specs.declared.expr.Expr.{Expr}
use Rattle.cdc_prog.specs.declared.program.Mark.{Mark}
use Rattle.cdc_prog.specs.Translation.{exprs_of}
use Rattle.cdc_code.specs.declared.instr.Instr.TheVariants.{Index, Storee}
use Rattle.cdc_code.specs.Template.{at_line, exprs_code, located_code, store_instr}

pub stores_element : (at : Ref) (subs : List Expr) → (length subs == 0) ≡ false → Storee at.var at.site ≡ store_instr at (exprs_of subs)
stores_element at [] h = cc
stores_element at (e ∷ es) h = refl

pub locates_element : (marks : List Mark) (line : ℕ) (at : Ref) (subs : List Expr) → (length subs == 0) ≡ false → exprs_code marks line (exprs_of subs) ++ (at_line line (Index at.var) ∷ []) ≡ located_code marks line at (exprs_of subs)
locates_element marks line at [] h = cc
locates_element marks line at (e ∷ es) h = refl
