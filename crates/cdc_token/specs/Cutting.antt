-- The piece at the front of a line, from its first byte.
use Rattle.std.specs.Prelude.{ℕ, Bool, true, false, not, ◌&&◌, slice_index, ◌+◌, if◌then◌else◌, ◌==◌, List, [], ◌∷◌, length, take, Option, Some, None}
use Rattle.std.specs.List.{prefix_len}
use Rattle.std.specs.Char.{is_ascii_digit, is_ascii_alphabetic}
use Rattle.std.specs.Str.{str_eq_ignore_ascii_case}
use Rattle.cdc_token.specs.declared.piece.Kind.{Kind}
use Rattle.cdc_token.specs.declared.piece.Kind.TheVariants.{Blank, Comment, Text, Name, Number, Symbol, Mark, Semicolon}
use Rattle.cdc_token.specs.declared.token.Symbol as symbols
use Rattle.cdc_token.specs.Bytes.{is_blank, is_word, is_quote}
use Rattle.cdc_token.specs.Symbols.{Spelling, spellings}

-- what begins no other piece may begin a symbol
abbrev pub kind_at : ℕ → Kind
kind_at b =
    if is_ascii_alphabetic b then Name
    else (if is_ascii_digit b then Number
    else (if is_blank b then Blank
    else (if is_quote b then Text
    else (if b == 33 then Comment
    else (if b == 38 then Mark
    else (if b == 59 then Semicolon
    else Symbol))))))

-- the place behind the closing quote, for bytes that begin at `at`; the flag: this byte is the second of two quotes
abbrev pub closing : ℕ → Bool → ℕ → List ℕ → Option ℕ
closing q is_second at [] = None
closing q true at (b ∷ z) = closing q false (at + 1) z
closing q false at (b ∷ z) = if b == q && not (slice_index z 0 == q) then Some (at + 1) else closing q (b == q) (at + 1) z

abbrev pub fits : Spelling → List ℕ → Bool
fits s z = str_eq_ignore_ascii_case s.0 (take (length s.0) z)

-- the first of these spellings that stands at the front
abbrev pub first_fit : List Spelling → List ℕ → Option (symbols.Symbol × ℕ)
first_fit [] z = None
first_fit (s ∷ more) z = if fits s z then Some (s.1, length s.0) else first_fit more z

abbrev pub second : Option (symbols.Symbol × ℕ) → Option ℕ
second None = None
second (Some p) = Some p.1

abbrev pub len : Kind → ℕ → List ℕ → Option ℕ
len Name b z = Some (1 + prefix_len is_word z)
len Number b z = Some (1 + prefix_len is_ascii_digit z)
len Blank b z = Some 1
len Symbol b z = second (first_fit spellings (b ∷ z))
len Comment b z = Some (1 + length z)
len Text b z = closing b false 1 z
len Mark b z = Some 1
len Semicolon b z = Some 1

abbrev pub paired : Kind → Option ℕ → Option (Kind × ℕ)
paired k None = None
paired k (Some n) = Some (k, n)

abbrev pub cut : List ℕ → Option (Kind × ℕ)
cut [] = None
cut (b ∷ z) = paired (kind_at b) (len (kind_at b) b z)

-- no line feed
abbrev pub is_inner : ℕ → Bool
is_inner b = not (b == 10)
