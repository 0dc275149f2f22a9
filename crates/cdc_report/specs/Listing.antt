-- The listing of code: a line for each instruction, with its place from 0, its name and its operands.
use Rattle.std.specs.Prelude.{ℕ, suc, List, [], ◌∷◌, ◌++◌, map, codes, Option, Some, None, slice_get, unwrap_or}
use Rattle.cdc_num.specs.Decimal.{decimal_bytes}
use Rattle.cdc_prog.specs.declared.expr.Var.{Var}
use Rattle.cdc_prog.specs.declared.expr.Var.TheVariants.{Object as AnObject, Dummy, Slot}
use Rattle.cdc_prog.specs.declared.program.Mark.{Mark}
use Rattle.cdc_prog.specs.declared.program.Mark.TheVariants.{Ordinary, Time}
use Rattle.cdc_prog.specs.declared.program.Object.{Object}
use Rattle.cdc_prog.specs.Plain.{Program}
use Rattle.cdc_text.specs.Texts.{number}
use Rattle.cdc_code.specs.declared.code.Code.{Code}
use Rattle.cdc_code.specs.declared.instr.Step.{Step}
use Rattle.cdc_code.specs.declared.instr.Instr.{Instr}
use Rattle.cdc_code.specs.declared.instr.Instr.TheVariants as i

-- what instructions name: the names of the units, and the objects
pub record Named : Type 0 where
  pub units : List (List ℕ)
  pub objects : List Object

abbrev pub named_by : Program → Named
named_by p = record { units = map (λ u. u.name) p.units; objects = p.objects }

abbrev pub unit_name : Named → ℕ → List ℕ
unit_name n u = unwrap_or (slice_get n.units u) []

abbrev pub object_name : Named → Option Object → List ℕ
object_name n None = []
object_name n (Some o) = unit_name n o.unit ++ (codes "." ++ o.name)

-- an object by its unit and its name, a dummy by its number from 0
abbrev pub variable : Named → Var → List ℕ
variable n (AnObject k) = object_name n (slice_get n.objects k)
variable n (Dummy k) = codes "%" ++ number k
variable n (Slot k) = []

abbrev pub site : ℕ → List ℕ
site s = codes "site " ++ number s

abbrev pub mark : Mark → List ℕ
mark Ordinary = codes "ordinary"
mark (Time d) = codes "time " ++ number d

abbrev pub name_of : Instr → List ℕ
name_of (i.Const n) = codes "const"
name_of (i.Local k) = codes "local"
name_of (i.Setlocal k) = codes "setlocal"
name_of (i.Index v) = codes "index"
name_of (i.Load v s m) = codes "load"
name_of (i.Loade v s m) = codes "loade"
name_of (i.Store v s) = codes "store"
name_of (i.Storee v s) = codes "storee"
name_of i.Neg = codes "neg"
name_of i.Abs = codes "abs"
name_of i.Not = codes "not"
name_of i.Add = codes "add"
name_of i.Sub = codes "sub"
name_of i.Mul = codes "mul"
name_of i.Div = codes "div"
name_of i.Mod = codes "mod"
name_of i.Min = codes "min"
name_of i.Max = codes "max"
name_of i.Eq = codes "eq"
name_of i.Ne = codes "ne"
name_of i.Lt = codes "lt"
name_of i.Le = codes "le"
name_of i.Gt = codes "gt"
name_of i.Ge = codes "ge"
name_of i.And = codes "and"
name_of i.Or = codes "or"
name_of (i.Jump d) = codes "jump"
name_of (i.Jumpz d) = codes "jumpz"
name_of i.Doinit = codes "doinit"
name_of (i.Dotest d) = codes "dotest"
name_of i.Doadd = codes "doadd"
name_of i.Take = codes "take"
name_of i.RecordEnd = codes "record"
name_of i.Put = codes "put"
name_of i.Gap = codes "gap"
name_of (i.Text t) = codes "text"
name_of i.Line = codes "line"
name_of (i.Arg v) = codes "arg"
name_of (i.Call u) = codes "call"
name_of i.Return = codes "return"
name_of (i.Fork n d) = codes "fork"
name_of i.Join = codes "join"
name_of i.Halt = codes "halt"

-- the operands, a number, a place to jump to or a slot in decimal
abbrev pub operands : Named → Instr → List (List ℕ)
operands n (i.Const z) = decimal_bytes z ∷ []
operands n (i.Local k) = number k ∷ []
operands n (i.Setlocal k) = number k ∷ []
operands n (i.Index v) = variable n v ∷ []
operands n (i.Load v s m) = variable n v ∷ site s ∷ mark m ∷ []
operands n (i.Loade v s m) = variable n v ∷ site s ∷ mark m ∷ []
operands n (i.Store v s) = variable n v ∷ site s ∷ []
operands n (i.Storee v s) = variable n v ∷ site s ∷ []
operands n (i.Jump d) = decimal_bytes d ∷ []
operands n (i.Jumpz d) = decimal_bytes d ∷ []
operands n (i.Dotest d) = decimal_bytes d ∷ []
operands n (i.Text t) = number t ∷ []
operands n (i.Arg v) = variable n v ∷ []
operands n (i.Call u) = unit_name n u ∷ []
operands n (i.Fork k d) = number k ∷ decimal_bytes d ∷ []
operands n instr = []

-- each with a space before it
abbrev pub spaced : List (List ℕ) → List ℕ
spaced [] = []
spaced (word ∷ words) = codes " " ++ (word ++ spaced words)

abbrev pub step_line : Named → (place : ℕ) → Step → List ℕ
step_line n place s = number place ++ (spaced (name_of s.instr ∷ operands n s.instr) ++ codes "\n")

abbrev pub lines_from : Named → (place : ℕ) → List Step → List ℕ
lines_from n place [] = []
lines_from n place (s ∷ ss) = step_line n place s ++ lines_from n (suc place) ss

abbrev pub code_text : Program → Code → List ℕ
code_text p code = lines_from (named_by p) 0 code.steps
