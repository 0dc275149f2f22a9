-- The texts of refusals: each is one line that ends with a line feed.
use Rattle.std.specs.Prelude.{ℕ, List, [], ◌∷◌, codes}
use Rattle.cdc_base.specs.declared.place.Place.{Place}
use Rattle.cdc_token.specs.declared.token.LexRefusal.{LexRefusal}
use Rattle.cdc_token.specs.declared.token.LexRefusal.TheVariants as l
use Rattle.cdc_tree.specs.declared.refusal.ParseRefusal.{ParseRefusal}
use Rattle.cdc_tree.specs.declared.refusal.ParseRefusal.TheVariants as p
use Rattle.cdc_prog.specs.declared.program.Kind.{Kind}
use Rattle.cdc_prog.specs.declared.program.Kind.TheVariants as k
use Rattle.cdc_prog.specs.Limits.{limit}
use Rattle.cdc_text.specs.Texts.{number, line}
use Rattle.cdc_check.specs.declared.refusal.CheckRefusal.{CheckRefusal}
use Rattle.cdc_check.specs.declared.refusal.CheckRefusal.TheVariants as c
use Rattle.cdc_compile.specs.declared.refusal.Refusal.{Refusal}
use Rattle.cdc_compile.specs.declared.refusal.Refusal.TheVariants.{Lex, Parse, Check, Conflict, Memory}

abbrev pub at_place : List ℕ → Place → List ℕ
at_place name at = line (codes "refused " ∷ name ∷ codes " at " ∷ number at.line ∷ codes ":" ∷ number at.column ∷ [])

abbrev pub at_places : List ℕ → Place → Place → List ℕ
at_places name at other = line (
    codes "refused " ∷ name ∷ codes " at " ∷ number at.line ∷ codes ":" ∷ number at.column
    ∷ codes " and " ∷ number other.line ∷ codes ":" ∷ number other.column ∷ [])

abbrev pub at_line : List ℕ → ℕ → List ℕ
at_line name at = line (codes "refused " ∷ name ∷ codes " at line " ∷ number at ∷ [])

abbrev pub kind_text : Kind → List ℕ
kind_text k.Source = codes "source"
kind_text k.Units = codes "units"
kind_text k.Dummies = codes "dummies"
kind_text k.Privates = codes "privates"
kind_text k.Objects = codes "objects"
kind_text k.Words = codes "words"
kind_text k.Sites = codes "sites"
kind_text k.Paths = codes "paths"

abbrev pub over_limit : Kind → List ℕ
over_limit kind = line (codes "refused TooMany " ∷ kind_text kind ∷ codes " limit " ∷ number (limit kind) ∷ [])

-- want of memory has no text
abbrev pub lex_text : LexRefusal → List ℕ
lex_text (l.BadByte at) = at_place (codes "BadByte") at
lex_text (l.OpenText at) = at_place (codes "OpenText") at
lex_text (l.NameLong at) = at_place (codes "NameLong") at
lex_text (l.NumberWide at) = at_place (codes "NumberWide") at
lex_text (l.LineLong at) = at_place (codes "LineLong") at
lex_text l.Memory = []

abbrev pub parse_text : ParseRefusal → List ℕ
parse_text (p.NotAStatement at) = at_line (codes "NotAStatement") at
parse_text (p.Depth at) = at_line (codes "Depth") at
parse_text (p.Nesting at) = at_line (codes "Nesting") at
parse_text p.Memory = []

abbrev pub check_text : CheckRefusal → List ℕ
check_text (c.Undeclared at) = at_place (codes "Undeclared") at
check_text (c.Duplicate at other) = at_places (codes "Duplicate") at other
check_text (c.NotConstant at) = at_place (codes "NotConstant") at
check_text (c.Shape at) = at_place (codes "Shape") at
check_text (c.DoVariable at) = at_place (codes "DoVariable") at
check_text (c.DoallBody at) = at_place (codes "DoallBody") at
check_text (c.NotPrivate at) = at_place (codes "NotPrivate") at
check_text (c.NoUnit at) = at_place (codes "NoUnit") at
check_text (c.Arguments at) = at_place (codes "Arguments") at
check_text (c.ActualNotVariable at) = at_place (codes "ActualNotVariable") at
check_text (c.Recursive at) = at_place (codes "Recursive") at
check_text (c.Aliased at other) = at_places (codes "Aliased") at other
check_text (c.TooMany kind) = over_limit kind
check_text c.Memory = []

abbrev pub refusal_text : Refusal → List ℕ
refusal_text (Lex refusal) = lex_text refusal
refusal_text (Parse refusal) = parse_text refusal
refusal_text (Check refusal) = check_text refusal
refusal_text (Conflict at other) = at_places (codes "Conflict") at other
refusal_text Memory = []
