-- The statement forms of the language: for each statement, the tokens that it is written as.
use Rattle.std.specs.Prelude.{◌≡◌, List, [], ◌∷◌, ◌++◌, ◌⊎◌, Option, Some, None}
use Rattle.cdc_base.specs.declared.place.Place.{Place}
use Rattle.cdc_token.specs.declared.token.Lexed.{Lexed}
use Rattle.cdc_token.specs.declared.token.Token.TheVariants.{Text}
use Rattle.cdc_token.specs.declared.token.Symbol.TheVariants as q
use Rattle.cdc_tree.specs.declared.tree.Named.{Named}
use Rattle.cdc_tree.specs.declared.form.Ending.{Ending}
use Rattle.cdc_tree.specs.declared.form.Ending.TheVariants as e
use Rattle.cdc_parse.specs.declared.word.Word.{Word}
use Rattle.cdc_parse.specs.declared.word.Word.TheVariants as w
use Rattle.cdc_parse.specs.Tokens.{at, mark, word, name, IsName}
use Rattle.cdc_tree.specs.Plain.{Plain}
use Rattle.cdc_parse.specs.Written.{IsExpression, IsCondition}
use Rattle.cdc_tree.specs.Forms.{PBound, PDeclared, PDefine, PSpot, PLoop, PShown, PText, PValue, PForm, FProgram, FSubroutine, FEnd, FImplicitNone, FInteger, FParameter, FAssign, FIfThen, FElseIf, FElse, FEndIf, FLogicalIf, FDo, FEndDo, FDoall, FEndDoall, FCall, FPrint, FRead, PStatement}
use Rattle.cdc_parse.specs.Forms.{place_at}

-- what the tokens of an item are
abbrev pub Writes : Type 0 → Type 1
Writes A = A → List Lexed → Type 0

-- ---- lists

-- { , item }
abbrev pub Commas : {A : Type 0} → Writes A → List A → List Lexed → Type 0
Commas item [] ts = ts ≡ []
Commas item (a ∷ more) ts = (p : Place) × (us : List Lexed) × (vs : List Lexed) × item a us × Commas item more vs × (ts ≡ mark p q.Comma ∷ (us ++ vs))

-- item { , item }
abbrev pub Separated : {A : Type 0} → Writes A → List A → List Lexed → Type 0
Separated item [] ts = ⊥
Separated item (a ∷ more) ts = (us : List Lexed) × (vs : List Lexed) × item a us × Commas item more vs × (ts ≡ us ++ vs)

-- ( item {, item} )
abbrev pub Bracketed : {A : Type 0} → Writes A → List A → List Lexed → Type 0
Bracketed item all ts = (p : Place) × (r : Place) × (us : List Lexed) × Separated item all us × (ts ≡ mark p q.LeftParen ∷ (us ++ (mark r q.RightParen ∷ [])))

-- [( item {, item} )]
abbrev pub Subscripted : {A : Type 0} → Writes A → List A → List Lexed → Type 0
Subscripted item [] ts = ts ≡ []
Subscripted item (a ∷ more) ts = Bracketed item (a ∷ more) ts

-- [( [item {, item}] )]
abbrev pub InParens : {A : Type 0} → Writes A → List A → List Lexed → Type 0
InParens item [] ts = (ts ≡ []) ⊎ ((p : Place) × (r : Place) × (ts ≡ mark p q.LeftParen ∷ (mark r q.RightParen ∷ [])))
InParens item (a ∷ more) ts = Bracketed item (a ∷ more) ts

-- ---- parts

abbrev pub IsNamed : Writes Named
IsNamed n ts = IsName n × (ts ≡ name n ∷ [])

-- [name]
abbrev pub LastName : Writes (Option Named)
LastName (Some n) ts = IsNamed n ts
LastName None ts = ts ≡ []

-- expr or expr : expr
abbrev pub IsBound : Writes PBound
IsBound (None, high) ts = IsExpression high ts
IsBound (Some low, high) ts = (us : List Lexed) × (p : Place) × (vs : List Lexed) × IsExpression low us × IsExpression high vs × (ts ≡ us ++ (mark p q.Colon ∷ vs))

abbrev pub IsDeclared : Writes PDeclared
IsDeclared (n, bounds) ts = (us : List Lexed) × IsName n × Subscripted IsBound bounds us × (ts ≡ name n ∷ us)

abbrev pub IsDefine : Writes PDefine
IsDefine (n, value) ts = (p : Place) × (us : List Lexed) × IsName n × IsExpression value us × (ts ≡ name n ∷ (mark p q.Assign ∷ us))

abbrev pub IsSpot : Writes PSpot
IsSpot (n, subs) ts = (us : List Lexed) × IsName n × Subscripted IsExpression subs us × (ts ≡ name n ∷ us)

abbrev pub IsShown : Writes PShown
IsShown (PText b) ts = (p : Place) × (ts ≡ at p (Text b) ∷ [])
IsShown (PValue t) ts = IsExpression t ts

-- [, expr]
abbrev pub IsStep : Writes (Option Plain)
IsStep None ts = ts ≡ []
IsStep (Some by) ts = (p : Place) × (us : List Lexed) × IsExpression by us × (ts ≡ mark p q.Comma ∷ us)

-- name = expr , expr [, expr]
abbrev pub IsLoop : Writes PLoop
IsLoop (n, from, to, by) ts =
    (p : Place) × (us : List Lexed) × (r : Place) × (vs : List Lexed) × (xs : List Lexed) × IsName n × IsExpression from us × IsExpression to vs × IsStep by xs
    × (ts ≡ name n ∷ (mark p q.Assign ∷ (us ++ (mark r q.Comma ∷ (vs ++ xs)))))

-- [PRIVATE ( name {, name} )]
abbrev pub Privates : List Named → List Lexed → Type 0
Privates [] ts = ts ≡ []
Privates (n ∷ more) ts = (p : Place) × (us : List Lexed) × Bracketed IsNamed (n ∷ more) us × (ts ≡ word p w.Private ∷ us)

-- IF's condition in its parentheses
abbrev pub IsGuard : Writes Plain
IsGuard c ts = (p : Place) × (us : List Lexed) × (r : Place) × IsCondition c us × (ts ≡ mark p q.LeftParen ∷ (us ++ (mark r q.RightParen ∷ [])))

-- ( cond ) THEN
abbrev pub IsGuardThen : Writes Plain
IsGuardThen c ts = (us : List Lexed) × (p : Place) × IsGuard c us × (ts ≡ us ++ (word p w.Then ∷ []))

-- END, END PROGRAM [name], END SUBROUTINE [name]
abbrev pub IsEnding : Writes Ending
IsEnding e.Plain ts = ts ≡ []
IsEnding (e.Program n) ts = (p : Place) × (us : List Lexed) × LastName n us × (ts ≡ word p w.Program ∷ us)
IsEnding (e.Subroutine n) ts = (p : Place) × (us : List Lexed) × LastName n us × (ts ≡ word p w.Subroutine ∷ us)

-- two spellings of one statement: two words, or one
abbrev pub IsEnd : Word → Word → List Lexed → Type 0
IsEnd second joined ts = ((p : Place) × (r : Place) × (ts ≡ word p w.End ∷ (word r second ∷ []))) ⊎ ((p : Place) × (ts ≡ word p joined ∷ []))

-- ---- statements

-- the statements that may follow the condition of a logical IF
abbrev pub IsSimple : Writes PForm
IsSimple (FAssign target value) ts =
    (us : List Lexed) × (p : Place) × (vs : List Lexed) × IsSpot target us × IsExpression value vs × (ts ≡ us ++ (mark p q.Assign ∷ vs))
IsSimple (FCall n actuals) ts = (p : Place) × (us : List Lexed) × IsName n × InParens IsExpression actuals us × (ts ≡ word p w.Call ∷ (name n ∷ us))
IsSimple (FPrint items) ts = (p : Place) × (r : Place) × (us : List Lexed) × Commas IsShown items us × (ts ≡ word p w.Print ∷ (mark r q.Star ∷ us))
IsSimple (FRead targets) ts = (p : Place) × (r : Place) × (us : List Lexed) × Commas IsSpot targets us × (ts ≡ word p w.Read ∷ (mark r q.Star ∷ us))
IsSimple other ts = ⊥

-- the tokens are written so as this statement
abbrev pub Stands : Writes PForm
Stands (FProgram n) ts = (p : Place) × IsName n × (ts ≡ word p w.Program ∷ (name n ∷ []))
Stands (FSubroutine n dummies) ts = (p : Place) × (us : List Lexed) × IsName n × InParens IsNamed dummies us × (ts ≡ word p w.Subroutine ∷ (name n ∷ us))
Stands (FEnd ending) ts = (p : Place) × (us : List Lexed) × IsEnding ending us × (ts ≡ word p w.End ∷ us)
Stands FImplicitNone ts = (p : Place) × (r : Place) × (ts ≡ word p w.Implicit ∷ (word r w.Nothing ∷ []))
Stands (FInteger items) ts =
    (p : Place) × (us : List Lexed) × Separated IsDeclared items us × ((ts ≡ word p w.Integer ∷ us) ⊎ ((r : Place) × (ts ≡ word p w.Integer ∷ (mark r q.DoubleColon ∷ us))))
Stands (FParameter items) ts =
    (p : Place) × (r : Place) × (s : Place) × (t : Place) × (us : List Lexed) × Separated IsDefine items us
    × (ts ≡ word p w.Integer ∷ (mark r q.Comma ∷ (word s w.Parameter ∷ (mark t q.DoubleColon ∷ us))))
Stands (FIfThen c) ts = (p : Place) × (us : List Lexed) × IsGuardThen c us × (ts ≡ word p w.If ∷ us)
Stands (FElseIf c) ts =
    (p : Place) × (us : List Lexed) × IsGuardThen c us × ((ts ≡ word p w.ElseIf ∷ us) ⊎ ((r : Place) × (ts ≡ word p w.Else ∷ (word r w.If ∷ us))))
Stands FElse ts = (p : Place) × (ts ≡ word p w.Else ∷ [])
Stands FEndIf ts = IsEnd w.If w.EndIf ts
Stands (FLogicalIf c place f) ts =
    (p : Place) × (us : List Lexed) × (vs : List Lexed) × IsGuard c us × IsSimple f vs × (place_at vs ≡ Some place) × (ts ≡ word p w.If ∷ (us ++ vs))
Stands (FDo controls) ts = (p : Place) × (us : List Lexed) × IsLoop controls us × (ts ≡ word p w.Do ∷ us)
Stands FEndDo ts = IsEnd w.Do w.EndDo ts
Stands (FDoall controls privates) ts =
    (p : Place) × (us : List Lexed) × (vs : List Lexed) × IsLoop controls us × Privates privates vs × (ts ≡ word p w.Doall ∷ (us ++ vs))
Stands FEndDoall ts = IsEnd w.Doall w.EndDoall ts
Stands (FAssign target value) ts = IsSimple (FAssign target value) ts
Stands (FCall n actuals) ts = IsSimple (FCall n actuals) ts
Stands (FPrint items) ts = IsSimple (FPrint items) ts
Stands (FRead targets) ts = IsSimple (FRead targets) ts

-- A statement stands for the tokens of a logical line: its form is written so, and its place is
-- that of the first token.
abbrev pub StandsFor : PStatement → List Lexed → Type 0
StandsFor s ts = Stands s.form ts × (place_at ts ≡ Some s.place)
