-- What a statement is to the units and blocks that it stands in.
use Rattle.std.specs.Prelude.{ℕ, Bool, true, false, List, Option, Some, None, bytes_eq}
use Rattle.cdc_tree.specs.declared.tree.Named.{Named}
use Rattle.cdc_tree.specs.declared.form.Ending.{Ending}
use Rattle.cdc_tree.specs.declared.form.Ending.TheVariants as e
use Rattle.cdc_nest.specs.declared.role.Role.{Role}
use Rattle.cdc_nest.specs.declared.role.Role.TheVariants as r
use Rattle.cdc_tree.specs.Forms.{PForm, FProgram, FSubroutine, FEnd, FImplicitNone, FInteger, FParameter, FIfThen, FElseIf, FElse, FEndIf, FDo, FEndDo, FDoall, FEndDoall}

abbrev pub role : PForm → Role
role (FProgram n) = r.Program
role (FSubroutine n ds) = r.Subroutine
role (FEnd x) = r.End
role FImplicitNone = r.ImplicitNone
role (FInteger ds) = r.Declaration
role (FParameter ds) = r.Declaration
role (FIfThen c) = r.If
role (FElseIf c) = r.ElseIf
role FElse = r.Else
role FEndIf = r.EndIf
role (FDo l) = r.Do
role FEndDo = r.EndDo
role (FDoall l ns) = r.Doall
role FEndDoall = r.EndDoall
-- an assignment, CALL, PRINT or READ, also behind the condition of an IF
role f = r.Plain

abbrev pub same_name : List ℕ → List ℕ → Bool
same_name = bytes_eq

-- the name after END, where there is one, is the unit's
abbrev pub names_unit : Named → Option Named → Bool
names_unit n None = true
names_unit n (Some m) = same_name n.name m.name

abbrev pub ends_program : Named → Ending → Bool
ends_program n e.Plain = true
ends_program n (e.Program m) = names_unit n m
ends_program n (e.Subroutine m) = false

abbrev pub ends_subroutine : Named → Ending → Bool
ends_subroutine n e.Plain = true
ends_subroutine n (e.Program m) = false
ends_subroutine n (e.Subroutine m) = names_unit n m

abbrev pub ends_head : PForm → Ending → Bool
ends_head (FProgram n) x = ends_program n x
ends_head (FSubroutine n ds) x = ends_subroutine n x
ends_head h x = false

-- the statement ends the unit with this head
abbrev pub ends : PForm → PForm → Bool
ends h (FEnd x) = ends_head h x
ends h f = false

-- the statement opens a block
abbrev pub opens : Role → Bool
opens r.If = true
opens r.Do = true
opens r.Doall = true
opens x = false

-- the statement closes a block
abbrev pub closes : Role → Bool
closes r.EndIf = true
closes r.EndDo = true
closes r.EndDoall = true
closes x = false
