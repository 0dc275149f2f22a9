-- Statements without the pointers of their boxes.
use Rattle.std.specs.Prelude.{ℕ, List, map, option_map, Option}
use Rattle.cdc_base.specs.declared.place.Place.{Place}
use Rattle.cdc_tree.specs.declared.tree.Named.{Named}
use Rattle.cdc_tree.specs.declared.form.Bound.{Bound}
use Rattle.cdc_tree.specs.declared.form.Declared.{Declared}
use Rattle.cdc_tree.specs.declared.form.Define.{Define}
use Rattle.cdc_tree.specs.declared.form.Spot.{Spot}
use Rattle.cdc_tree.specs.declared.form.Loop.{Loop}
use Rattle.cdc_tree.specs.declared.form.Shown.{Shown}
use Rattle.cdc_tree.specs.declared.form.Shown.TheVariants as h
use Rattle.cdc_tree.specs.declared.form.Ending.{Ending}
use Rattle.cdc_tree.specs.declared.form.Form.{Form, fold-Form}
use Rattle.cdc_tree.specs.declared.form.Form.TheOpen.{Form-F, Statement-F}
use Rattle.cdc_tree.specs.declared.form.Statement.{Statement}
use Rattle.cdc_tree.specs.Plain.{Plain, plain}

-- lower bound, upper bound
abbrev pub PBound : Type 0
PBound = Option Plain × Plain

abbrev pub PDeclared : Type 0
PDeclared = Named × List PBound

abbrev pub PDefine : Type 0
PDefine = Named × Plain

abbrev pub PSpot : Type 0
PSpot = Named × List Plain

-- variable, first value, limit, step
abbrev pub PLoop : Type 0
PLoop = Named × Plain × Plain × Option Plain

pub data PShown : Type 0 where
  PText : List ℕ → PShown
  PValue : Plain → PShown

pub data PForm : Type 0 where
  FProgram : Named → PForm
  FSubroutine : Named → List Named → PForm
  FEnd : Ending → PForm
  FImplicitNone : PForm
  FInteger : List PDeclared → PForm
  FParameter : List PDefine → PForm
  FAssign : PSpot → Plain → PForm
  FIfThen : Plain → PForm
  FElseIf : Plain → PForm
  FElse : PForm
  FEndIf : PForm
  -- the condition, and the place and the form of the one statement
  FLogicalIf : Plain → Place → PForm → PForm
  FDo : PLoop → PForm
  FEndDo : PForm
  FDoall : PLoop → List Named → PForm
  FEndDoall : PForm
  FCall : Named → List Plain → PForm
  FPrint : List PShown → PForm
  FRead : List PSpot → PForm

pub record PStatement : Type 0 where
  pub place : Place
  pub form : PForm

abbrev pub bound : Bound → PBound
bound b = (option_map plain b.low, plain b.high)

abbrev pub declared : Declared → PDeclared
declared d = (d.name, map bound d.bounds)

abbrev pub define : Define → PDefine
define d = (d.name, plain d.value)

abbrev pub spot : Spot → PSpot
spot s = (s.name, map plain s.subs)

abbrev pub loop : Loop → PLoop
loop l = (l.var, plain l.from, plain l.to, option_map plain l.by)

abbrev pub shown : Shown → PShown
shown (h.Text b) = PText b
shown (h.Value t) = PValue (plain t)

abbrev pub form_node : Form-F PForm PStatement → PForm
form_node (Form-F.Program n) = FProgram n
form_node (Form-F.Subroutine n ns) = FSubroutine n ns
form_node (Form-F.End e) = FEnd e
form_node Form-F.ImplicitNone = FImplicitNone
form_node (Form-F.Integer ds) = FInteger (map declared ds)
form_node (Form-F.Parameter ds) = FParameter (map define ds)
form_node (Form-F.Assign s t) = FAssign (spot s) (plain t)
form_node (Form-F.IfThen c) = FIfThen (plain c)
form_node (Form-F.ElseIf c) = FElseIf (plain c)
form_node Form-F.Else = FElse
form_node Form-F.EndIf = FEndIf
form_node (Form-F.LogicalIf c s) = FLogicalIf (plain c) s.value.place s.value.form
form_node (Form-F.Do l) = FDo (loop l)
form_node Form-F.EndDo = FEndDo
form_node (Form-F.Doall l ns) = FDoall (loop l) ns
form_node Form-F.EndDoall = FEndDoall
form_node (Form-F.Call n ts) = FCall n (map plain ts)
form_node (Form-F.Print ss) = FPrint (map shown ss)
form_node (Form-F.Read ss) = FRead (map spot ss)

abbrev pub statement_node : Statement-F PForm PStatement → PStatement
statement_node s = record { place = s.place; form = s.form }

-- a statement without its place
abbrev pub form : Form → PForm
form = fold-Form PForm PStatement form_node statement_node

-- a statement with its place
abbrev pub statement : Statement → PStatement
statement s = record { place = s.place; form = form s.form }
