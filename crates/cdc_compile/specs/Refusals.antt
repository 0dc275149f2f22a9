-- The refusal of a source by that of a stage: want of memory is one answer.
use Rattle.cdc_token.specs.declared.token.LexRefusal.{LexRefusal}
use Rattle.cdc_token.specs.declared.token.LexRefusal.TheVariants as l
use Rattle.cdc_tree.specs.declared.refusal.ParseRefusal.{ParseRefusal}
use Rattle.cdc_tree.specs.declared.refusal.ParseRefusal.TheVariants as p
use Rattle.cdc_check.specs.declared.refusal.CheckRefusal.{CheckRefusal}
use Rattle.cdc_check.specs.declared.refusal.CheckRefusal.TheVariants as c
use Rattle.cdc_compile.specs.declared.refusal.Refusal.{Refusal}
use Rattle.cdc_compile.specs.declared.refusal.Refusal.TheVariants.{Lex, Parse, Check, Conflict, Memory}

abbrev pub of_lex : LexRefusal → Refusal
of_lex l.Memory = Memory
of_lex refusal = Lex refusal

abbrev pub of_parse : ParseRefusal → Refusal
of_parse p.Memory = Memory
of_parse refusal = Parse refusal

abbrev pub of_check : CheckRefusal → Refusal
of_check c.Memory = Memory
of_check refusal = Check refusal

-- in no part of the refusal memory was wanted
abbrev pub IsNamed : Refusal → Type 0
IsNamed Memory = ⊥
IsNamed (Lex l.Memory) = ⊥
IsNamed (Lex refusal) = Unit {0}
IsNamed (Parse p.Memory) = ⊥
IsNamed (Parse refusal) = Unit {0}
IsNamed (Check c.Memory) = ⊥
IsNamed (Check refusal) = Unit {0}
IsNamed (Conflict first second) = Unit {0}
