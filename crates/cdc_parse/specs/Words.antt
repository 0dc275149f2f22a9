-- The reserved words, and how each is written.
use Rattle.std.specs.Prelude.{ℕ, Bool, List, [], ◌∷◌, codes, bytes_eq, Option}
use Rattle.std.specs.List.{find}
use denote.Enum.Bare.{sameb}
use Rattle.cdc_parse.specs.declared.word.Word.{Word}
use Rattle.cdc_parse.specs.declared.word.Word.TheVariants as w
use Rattle.cdc_parse.specs.contracts.word.Word.{the_type}

abbrev pub spelling : Word → List ℕ
spelling w.Program = codes "PROGRAM"
spelling w.Subroutine = codes "SUBROUTINE"
spelling w.End = codes "END"
spelling w.EndDo = codes "ENDDO"
spelling w.EndIf = codes "ENDIF"
spelling w.EndDoall = codes "ENDDOALL"
spelling w.Integer = codes "INTEGER"
spelling w.Parameter = codes "PARAMETER"
spelling w.Implicit = codes "IMPLICIT"
spelling w.Nothing = codes "NONE"
spelling w.Do = codes "DO"
spelling w.Doall = codes "DOALL"
spelling w.Private = codes "PRIVATE"
spelling w.If = codes "IF"
spelling w.Then = codes "THEN"
spelling w.Else = codes "ELSE"
spelling w.ElseIf = codes "ELSEIF"
spelling w.Call = codes "CALL"
spelling w.Read = codes "READ"
spelling w.Print = codes "PRINT"
spelling w.Abs = codes "ABS"
spelling w.Min = codes "MIN"
spelling w.Max = codes "MAX"
spelling w.Mod = codes "MOD"
spelling w.Common = codes "COMMON"

abbrev pub words : List Word
words = w.Program ∷ w.Subroutine ∷ w.End ∷ w.EndDo ∷ w.EndIf ∷ w.EndDoall ∷ w.Integer ∷ w.Parameter ∷ w.Implicit ∷ w.Nothing ∷ w.Do ∷ w.Doall ∷ w.Private ∷ w.If ∷ w.Then ∷ w.Else ∷ w.ElseIf ∷ w.Call ∷ w.Read ∷ w.Print ∷ w.Abs ∷ w.Min ∷ w.Max ∷ w.Mod ∷ w.Common ∷ []

-- the reserved word that is written so
unfoldable pub word_named : List ℕ → Option Word
word_named name = find (λ w. bytes_eq (spelling w) name) words

-- `==` on words
unfoldable pub same_word : Word → Word → Bool
same_word = sameb the_type
