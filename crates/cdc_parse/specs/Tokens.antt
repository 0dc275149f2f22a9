-- Tokens at their places, and what a list of tokens begins with.
use Rattle.std.specs.Prelude.{ℕ, Bool, List, [], ◌∷◌, Option, Some, None, Result, Ok, Err, ◌≡◌, if◌then◌else◌}
use denote.Enum.Bare.{sameb}
use Rattle.cdc_base.specs.declared.place.Place.{Place}
use Rattle.cdc_token.specs.declared.token.Lexed.{Lexed}
use Rattle.cdc_token.specs.declared.token.Token.{Token}
use Rattle.cdc_token.specs.declared.token.Token.TheVariants.{Name, Symbol}
use Rattle.cdc_token.specs.declared.token.Symbol.{Symbol as Mark}
use Rattle.cdc_token.specs.contracts.token.Symbol.{the_type}
use Rattle.cdc_tree.specs.declared.tree.Named.{Named}
use Rattle.cdc_parse.specs.declared.word.Word.{Word}
use Rattle.cdc_parse.specs.declared.refusal.Unread.{Unread}
use Rattle.cdc_parse.specs.declared.refusal.Unread.TheVariants.{NotAStatement, Memory}
use Rattle.cdc_tree.specs.Options.{◌>>=◌}
use Rattle.cdc_parse.specs.Words.{spelling, word_named, same_word}

abbrev pub at : Place → Token → Lexed
at p t = record { token = t; place = p }

abbrev pub mark : Place → Mark → Lexed
mark p s = at p (Symbol s)

abbrev pub word : Place → Word → Lexed
word p w = at p (Name (spelling w))

abbrev pub name : Named → Lexed
name n = at n.place (Name n.name)

-- a name is no reserved word
abbrev pub IsName : Named → Type 0
IsName n = word_named n.name ≡ None

-- ---- what functions return

-- What a function returned, seen by view, is what a definition gives, unless memory ran out.
abbrev pub Fails : {Y : Type 0} → Unread → Option Y → Type 0
Fails Memory read = Unit {0}
Fails NotAStatement read = read ≡ None

abbrev pub Gives : {X Y : Type 0} → (X → Y) → Result X Unread → Option Y → Type 0
Gives view (Ok x) read = read ≡ Some (view x)
Gives view (Err e) read = Fails e read

-- The same of an option.
abbrev pub Sees : {X Y : Type 0} → (X → Y) → Option X → Option Y → Type 0
Sees view (Some x) o = o ≡ Some (view x)
Sees view None o = o ≡ None

-- ---- what tokens begin with

-- `==` on symbols
unfoldable pub same : Mark → Mark → Bool
same = sameb the_type

abbrev pub after_token : Mark → Token → List Lexed → Option (List Lexed)
after_token s (Symbol t) ts = if same t s then Some ts else None
after_token s other ts = None

-- what follows the symbol that the tokens begin with
abbrev pub after : Mark → List Lexed → Option (List Lexed)
after s [] = None
after s (t ∷ ts) = after_token s t.token ts

abbrev pub word_of : Token → Option Word
word_of (Name n) = word_named n
word_of other = None

-- the reserved word that the tokens begin with, and what follows it
abbrev pub word_at : List Lexed → Option (Word × List Lexed)
word_at [] = None
word_at (t ∷ ts) = word_of t.token >>= λ w. Some (w, ts)

abbrev pub after_word : Word → List Lexed → Option (List Lexed)
after_word w ts = word_at ts >>= λ x. if same_word x.0 w then Some x.1 else None

abbrev pub unreserved : List ℕ → Place → List Lexed → Option Word → Option (Named × List Lexed)
unreserved n p ts (Some w) = None
unreserved n p ts None = Some (record { name = n; place = p }, ts)

abbrev pub name_token : Place → Token → List Lexed → Option (Named × List Lexed)
name_token p (Name n) ts = unreserved n p ts (word_named n)
name_token p other ts = None

-- the name that the tokens begin with, and what follows it
abbrev pub name_at : List Lexed → Option (Named × List Lexed)
name_at [] = None
name_at (t ∷ ts) = name_token t.place t.token ts

abbrev pub finished : List Lexed → Option (Unit {0})
finished [] = Some tt
finished (t ∷ ts) = None
