-- How many parentheses are open at one place of a line.
use Rattle.std.specs.Prelude.{ℕ, suc, ◌-◌, ◌<◌, max, List, [], ◌∷◌, length, ◌⊎◌}
use Rattle.cdc_token.specs.declared.token.Lexed.{Lexed}
use Rattle.cdc_token.specs.declared.token.Token.{Token}
use Rattle.cdc_token.specs.declared.token.Token.TheVariants.{Symbol}
use Rattle.cdc_token.specs.declared.token.Symbol.{Symbol as Mark}
use Rattle.cdc_token.specs.declared.token.Symbol.TheVariants as q

-- after the symbol, n being open before; a closing parenthesis without an open one closes nothing
abbrev pub opened_by : Mark → ℕ → ℕ
opened_by q.LeftParen n = suc n
opened_by q.RightParen n = n - 1
opened_by other n = n

abbrev pub opened : Token → ℕ → ℕ
opened (Symbol s) n = opened_by s n
opened other n = n

-- the most that are open at one place, n being open before
abbrev pub deepest : ℕ → List Lexed → ℕ
deepest n [] = n
deepest n (t ∷ ts) = max n (deepest (opened t.token n) ts)

-- the line is over a limit of depth
abbrev pub IsDeep : List Lexed → Type 0
IsDeep ts = (64 < deepest 0 ts) ⊎ (4096 < length ts)
