-- What a piece means: a token, the end of a logical line, or nothing.
use Rattle.std.specs.Prelude.{ℕ, if◌then◌else◌, ◌==◌, List, [], ◌∷◌, map, Option, Some, None, pos}
use Rattle.std.specs.Char.{to_ascii_uppercase}
use Rattle.std.specs.Str.Parse.{digits_value}
use Rattle.cdc_base.specs.declared.place.Place.{Place}
use Rattle.cdc_token.specs.declared.piece.Kind.{Kind}
use Rattle.cdc_token.specs.declared.piece.Kind.TheVariants.{Blank, Comment, Text, Name, Number, Symbol, Mark, Semicolon}
use Rattle.cdc_token.specs.declared.token.Token.TheVariants as token
use Rattle.cdc_token.specs.declared.token.Symbol as symbols
use Rattle.cdc_token.specs.declared.token.Lexed.{Lexed}
use Rattle.cdc_token.specs.declared.meaning.Meaning.{Meaning}
use Rattle.cdc_token.specs.declared.meaning.Meaning.TheVariants.{Nothing, End, Token}
use Rattle.cdc_token.specs.Symbols.{symbol}

-- what stands before the closing quote q, each doubled one as one: it undoes `doubled`
abbrev pub undoubled : ℕ → List ℕ → List ℕ
undoubled q [] = []
undoubled q (b ∷ []) = []
undoubled q (b ∷ c ∷ z) = if b == q then q ∷ undoubled q z else b ∷ undoubled q (c ∷ z)

-- what a text says
abbrev pub content : List ℕ → List ℕ
content [] = []
content (q ∷ z) = undoubled q z

abbrev pub symbol_meaning : Option symbols.Symbol → Meaning
symbol_meaning None = Nothing
symbol_meaning (Some y) = Token (token.Symbol y)

-- what the bytes of a piece mean
abbrev pub meaning : Kind → List ℕ → Meaning
meaning Name bytes = Token (token.Name (map to_ascii_uppercase bytes))
meaning Number bytes = Token (token.Number (pos (digits_value 10 bytes)))
meaning Text bytes = Token (token.Text (content bytes))
meaning Symbol bytes = symbol_meaning (symbol bytes)
meaning Semicolon bytes = End
meaning Blank bytes = Nothing
meaning Comment bytes = Nothing
meaning Mark bytes = Nothing

-- a token at its place, or the end of a logical line
abbrev pub Item : Type 0
Item = Option Lexed

abbrev pub items_of : Place → Meaning → List Item
items_of place Nothing = []
items_of place End = None ∷ []
items_of place (Token t) = Some (record { token = t; place = place }) ∷ []
