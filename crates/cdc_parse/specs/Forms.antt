-- How a statement is read from a line's tokens.
use Rattle.std.specs.Prelude.{List, [], ◌∷◌, length, Option, Some, None}
use Rattle.cdc_base.specs.declared.place.Place.{Place}
use Rattle.cdc_token.specs.declared.token.Lexed.{Lexed}
use Rattle.cdc_token.specs.declared.token.Token.{Token}
use Rattle.cdc_token.specs.declared.token.Token.TheVariants.{Text}
use Rattle.cdc_token.specs.declared.token.Symbol.{Symbol as Mark}
use Rattle.cdc_token.specs.declared.token.Symbol.TheVariants as q
use Rattle.cdc_tree.specs.declared.tree.Named.{Named}
use Rattle.cdc_tree.specs.declared.form.Ending.TheVariants as e
use Rattle.cdc_parse.specs.declared.kind.Kind.{Kind}
use Rattle.cdc_parse.specs.declared.kind.Kind.TheVariants as k
use Rattle.cdc_parse.specs.declared.word.Word.{Word}
use Rattle.cdc_parse.specs.declared.word.Word.TheVariants as w
use Rattle.cdc_tree.specs.Options.{◌>>=◌, maybe}
use Rattle.cdc_parse.specs.Tokens.{after, word_at, after_word, name_at, finished}
use Rattle.cdc_tree.specs.Plain.{Plain}
use Rattle.cdc_tree.specs.Forms.{PBound, PDeclared, PDefine, PSpot, PLoop, PShown, PText, PValue, PForm, FProgram, FSubroutine, FEnd, FImplicitNone, FInteger, FParameter, FAssign, FIfThen, FElseIf, FElse, FEndIf, FLogicalIf, FDo, FEndDo, FDoall, FEndDoall, FCall, FPrint, FRead, PStatement}
use Rattle.cdc_parse.specs.Kinds.{kind}
use Rattle.cdc_parse.specs.Reading.{Gets, more, separated, closed, read}

abbrev pub of_kind : Kind → Plain × List Lexed → Kind → Option (Plain × List Lexed)
of_kind k.Number x k.Number = Some x
of_kind k.Truth x k.Truth = Some x
of_kind wanted x found = None

-- at most 64 parentheses are open in a tree
unfoldable pub whole : Gets Plain
whole ts = read 64 6 ts

unfoldable pub number_at : Gets Plain
number_at ts = whole ts >>= λ x. of_kind k.Number x (kind x.0)

unfoldable pub condition_at : Gets Plain
condition_at ts = whole ts >>= λ x. of_kind k.Truth x (kind x.0)

-- [ ( [item {, item}] ) ]
abbrev pub in_parens : {A : Type 0} → Gets A → Gets (List A)
in_parens item ts =
    maybe (after q.LeftParen ts) (λ us. maybe (after q.RightParen us) (λ vs. Some ([], vs)) (closed (separated item) us)) (Some ([], ts))

-- [ ( item {, item} ) ]
abbrev pub subscripted : {A : Type 0} → Gets A → Gets (List A)
subscripted item ts = maybe (after q.LeftParen ts) (closed (separated item)) (Some ([], ts))

abbrev pub place_at : List Lexed → Option Place
place_at [] = None
place_at (t ∷ ts) = Some t.place

abbrev pub without : Mark → List Lexed → List Lexed
without s ts = maybe (after s ts) (λ us. us) ts

abbrev pub program_at : List Lexed → Option PForm
program_at ts = name_at ts >>= λ n. finished n.1 >>= λ _. Some (FProgram n.0)

abbrev pub subroutine_at : List Lexed → Option PForm
subroutine_at ts = name_at ts >>= λ n. in_parens name_at n.1 >>= λ d. finished d.1 >>= λ _. Some (FSubroutine n.0 d.0)

abbrev pub last_name : List Lexed → Option (Option Named)
last_name [] = Some None
last_name (t ∷ ts) = name_at (t ∷ ts) >>= λ n. finished n.1 >>= λ _. Some (Some n.0)

abbrev pub end_by : Word → List Lexed → Option PForm
end_by w.Program ts = last_name ts >>= λ n. Some (FEnd (e.Program n))
end_by w.Subroutine ts = last_name ts >>= λ n. Some (FEnd (e.Subroutine n))
end_by w.If ts = finished ts >>= λ _. Some FEndIf
end_by w.Do ts = finished ts >>= λ _. Some FEndDo
end_by w.Doall ts = finished ts >>= λ _. Some FEndDoall
end_by other ts = None

abbrev pub end_at : List Lexed → Option PForm
end_at ts = maybe (word_at ts) (λ x. end_by x.0 x.1) (finished ts >>= λ _. Some (FEnd e.Plain))

abbrev pub implicit_at : List Lexed → Option PForm
implicit_at ts = after_word w.Nothing ts >>= λ us. finished us >>= λ _. Some FImplicitNone

abbrev pub bound_at : Gets PBound
bound_at ts =
    number_at ts >>= λ x. maybe (after q.Colon x.1) (λ us. number_at us >>= λ y. Some ((Some x.0, y.0), y.1)) (Some ((None, x.0), x.1))

abbrev pub declared_at : Gets PDeclared
declared_at ts = name_at ts >>= λ n. subscripted bound_at n.1 >>= λ b. Some ((n.0, b.0), b.1)

abbrev pub define_at : Gets PDefine
define_at ts = name_at ts >>= λ n. after q.Assign n.1 >>= λ us. number_at us >>= λ x. Some ((n.0, x.0), x.1)

abbrev pub spot_at : Gets PSpot
spot_at ts = name_at ts >>= λ n. subscripted number_at n.1 >>= λ s. Some ((n.0, s.0), s.1)

abbrev pub parameter_at : List Lexed → Option PForm
parameter_at ts =
    after_word w.Parameter ts >>= λ us. after q.DoubleColon us >>= λ vs. separated define_at vs >>= λ x. finished x.1 >>= λ _. Some (FParameter x.0)

abbrev pub items_at : List Lexed → Option PForm
items_at ts = separated declared_at ts >>= λ x. finished x.1 >>= λ _. Some (FInteger x.0)

abbrev pub integer_at : List Lexed → Option PForm
integer_at ts = maybe (after q.Comma ts) parameter_at (items_at (without q.DoubleColon ts))

abbrev pub assign_at : List Lexed → Option PForm
assign_at ts = spot_at ts >>= λ s. after q.Assign s.1 >>= λ us. number_at us >>= λ x. finished x.1 >>= λ _. Some (FAssign s.0 x.0)

abbrev pub guard_at : Gets Plain
guard_at ts = after q.LeftParen ts >>= λ us. closed condition_at us

-- [, expr]
abbrev pub step_at : Gets (Option Plain)
step_at ts = maybe (after q.Comma ts) (λ us. number_at us >>= λ c. Some (Some c.0, c.1)) (Some (None, ts))

abbrev pub loop_at : Gets PLoop
loop_at ts =
    name_at ts >>= λ n. after q.Assign n.1 >>= λ us. number_at us >>= λ a. after q.Comma a.1 >>= λ vs. number_at vs >>= λ b.
    step_at b.1 >>= λ c. Some ((n.0, a.0, b.0, c.0), c.1)

abbrev pub do_at : List Lexed → Option PForm
do_at ts = loop_at ts >>= λ l. finished l.1 >>= λ _. Some (FDo l.0)

-- [PRIVATE ( name {, name} )]
abbrev pub privates_at : List Lexed → Option (List Named)
privates_at ts =
    maybe (after_word w.Private ts) (λ us. after q.LeftParen us >>= λ vs. closed (separated name_at) vs >>= λ x. finished x.1 >>= λ _. Some x.0)
    (finished ts >>= λ _. Some [])

abbrev pub doall_at : List Lexed → Option PForm
doall_at ts = loop_at ts >>= λ l. privates_at l.1 >>= λ p. Some (FDoall l.0 p)

abbrev pub call_at : List Lexed → Option PForm
call_at ts = name_at ts >>= λ n. in_parens number_at n.1 >>= λ a. finished a.1 >>= λ _. Some (FCall n.0 a.0)

abbrev pub valued : List Lexed → Option (PShown × List Lexed)
valued ts = number_at ts >>= λ x. Some (PValue x.0, x.1)

abbrev pub shown_as : Token → List Lexed → List Lexed → Option (PShown × List Lexed)
shown_as (Text b) ts all = Some (PText b, ts)
shown_as other ts all = valued all

abbrev pub shown_at : Gets PShown
shown_at [] = None
shown_at (t ∷ ts) = shown_as t.token ts (t ∷ ts)

abbrev pub print_at : List Lexed → Option PForm
print_at ts = after q.Star ts >>= λ us. more shown_at (length us) [] us >>= λ x. finished x.1 >>= λ _. Some (FPrint x.0)

abbrev pub read_at : List Lexed → Option PForm
read_at ts = after q.Star ts >>= λ us. more spot_at (length us) [] us >>= λ x. finished x.1 >>= λ _. Some (FRead x.0)

-- a statement that may follow the condition of a logical IF
abbrev pub simple_by : Word → List Lexed → Option PForm
simple_by w.Call ts = call_at ts
simple_by w.Print ts = print_at ts
simple_by w.Read ts = read_at ts
simple_by other ts = None

unfoldable pub simple_at : List Lexed → Option PForm
simple_at ts = maybe (word_at ts) (λ x. simple_by x.0 x.1) (assign_at ts)

abbrev pub logical : Plain → List Lexed → Option PForm
logical c ts = place_at ts >>= λ p. simple_at ts >>= λ f. Some (FLogicalIf c p f)

abbrev pub if_at : List Lexed → Option PForm
if_at ts = guard_at ts >>= λ c. maybe (after_word w.Then c.1) (λ us. finished us >>= λ _. Some (FIfThen c.0)) (logical c.0 c.1)

abbrev pub else_if_at : List Lexed → Option PForm
else_if_at ts = guard_at ts >>= λ c. after_word w.Then c.1 >>= λ us. finished us >>= λ _. Some (FElseIf c.0)

abbrev pub else_at : List Lexed → Option PForm
else_at ts = maybe (after_word w.If ts) else_if_at (finished ts >>= λ _. Some FElse)

abbrev pub alone : PForm → List Lexed → Option PForm
alone f ts = finished ts >>= λ _. Some f

abbrev pub form_by : Word → List Lexed → List Lexed → Option PForm
form_by w.Program ts all = program_at ts
form_by w.Subroutine ts all = subroutine_at ts
form_by w.End ts all = end_at ts
form_by w.EndDo ts all = alone FEndDo ts
form_by w.EndIf ts all = alone FEndIf ts
form_by w.EndDoall ts all = alone FEndDoall ts
form_by w.Integer ts all = integer_at ts
form_by w.Implicit ts all = implicit_at ts
form_by w.Do ts all = do_at ts
form_by w.Doall ts all = doall_at ts
form_by w.If ts all = if_at ts
form_by w.Else ts all = else_at ts
form_by w.ElseIf ts all = else_if_at ts
form_by other ts all = simple_at all

unfoldable pub form_at : List Lexed → Option PForm
form_at ts = maybe (word_at ts) (λ x. form_by x.0 x.1 ts) (simple_at ts)

-- the statement that a line's tokens are read as
abbrev pub statement_at : List Lexed → Option PStatement
statement_at ts = place_at ts >>= λ p. form_at ts >>= λ f. Some (record { place = p; form = f })
