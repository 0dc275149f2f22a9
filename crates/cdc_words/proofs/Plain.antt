-- A word that is not empty and does not begin with `-` is no flag of `clap`.
use Rattle.std.proofs.Common.{◌≡◌, ◌∙◌, ℕ, ◌&&◌, Bool, true, false, not, cond, refl, sym, ap, ap₂, List, [], ◌∷◌, Some, None, true≢false}
use Rattle.std.specs.Prelude.{◌==◌, option_and_then}
use Rattle.std.specs.Option.{option_map_or}
use Rattle.std.specs.Str.{bytes_eq}
use Rattle.clap.specs.Lexer.{long_of, long_of_rest, short_of, short_of_rest, strip_byte}
use Rattle.clap.specs.Walk.{Held, Rule, Step, Text, Walk, idle, value, trailing, long_or_other, short_or_plain, walk, walk_from, walked, word_met, to_positional, arg_by_index, nothing_held, settled, finished}
use Rattle.clap.specs.Simple.{Shape}
use Rattle.clap.specs.Kinds.{Kinds, or_else}
use Rattle.clap.specs.Faults.{bundle_fault, flag_word_fault, word_fault, turn_fault, step_fault, walk_fault, settle_fault, defaults_fault, check_fault, level_fault}
use Rattle.clap.specs.declared.error.kind.ErrorKind.{ErrorKind}
use Rattle.clap.proofs.WalkLemmas.{walked_is}
use Rattle.cdc_words.specs.Commands.{is_word}

not_false : (b : Bool) → not b ≡ true → b ≡ false
not_false true e = absurd (true≢false (sym e))
not_false false e = refl

-- the word is neither `--` nor of the form of an option
pub record IsNoFlag (w : Text) : Type 0 where
  pub dashes : bytes_eq w (45 ∷ 45 ∷ []) ≡ false
  pub long : long_of w ≡ None
  pub short : short_of w ≡ None

pub no_flag : (w : Text) → is_word w ≡ true → IsNoFlag w
no_flag [] is = absurd (true≢false (sym is))
no_flag (b ∷ rest) is =
    let e : (b == 45) ≡ false = not_false _ is in
    record {
      dashes = ap (λ (t : Bool). t && bytes_eq rest (45 ∷ [])) e;
      long = ap (λ (t : Bool). option_and_then long_of_rest (option_and_then (strip_byte 45) (cond t (Some rest) None))) e;
      short = ap (λ (t : Bool). option_and_then short_of_rest (cond t (Some rest) None)) e;
    }

-- the word goes to the next argument, where no subcommand is known
pub met_plain : (rules : List Rule) (position : ℕ) (w : Text) (h : Held) → is_word w ≡ true → word_met rules [] false idle position w h ≡ (h, value)
met_plain rules position w h is =
    let no = no_flag w is in
    ap (λ (t : Bool). cond t (h, trailing position) (long_or_other rules idle w (long_of w) h)) no.dashes
    ∙ ap (λ o. long_or_other rules idle w o h) no.long ∙ ap (λ o. short_or_plain rules idle w o h) no.short

pub unflagged : (s : Shape) (w : Text) (h : Held) → is_word w ≡ true → word_fault s [] false idle w h ≡ []
unflagged s w h is =
    let no = no_flag w is in
    ap (λ (t : Bool). cond t [] (flag_word_fault s.rules s.args_override_self (long_of w) w h)) no.dashes
    ∙ ap (λ o. flag_word_fault s.rules s.args_override_self o w h) no.long
    ∙ ap (λ o. option_map_or (λ flags. bundle_fault s.rules s.args_override_self flags h) o []) no.short

-- between two words, with the next argument's number
abbrev pub stand : Held → ℕ → Walk
stand h position = record { held = h; waiting = idle; position = position; is_trailing = false; stopped = None }

pub walked_plain : (rules : List Rule) (h : Held) (position : ℕ) (w : Text) → is_word w ≡ true
    → to_positional rules (arg_by_index rules position) w (stand h position) h ≡ walked rules [] (stand h position) w
walked_plain rules h position w is = walked_is rules [] (stand h position) w h value (sym (met_plain rules position w h is))

pub turn_plain : (s : Shape) (h : Held) (position : ℕ) (w : Text) → is_word w ≡ true → turn_fault s [] (stand h position) w ≡ step_fault s position h value
turn_plain s h position w is =
    ap₂ (λ (k : Kinds) (met : Held × Step). or_else k (step_fault s position met.0 met.1)) (unflagged s w h is) (met_plain s.rules position w h is)

-- a word that is taken leads on
pub goes : (s : Shape) (h : Held) (position : ℕ) (after : Walk) (w : Text) (ws : List Text) → is_word w ≡ true → step_fault s position h value ≡ []
    → to_positional s.rules (arg_by_index s.rules position) w (stand h position) h ≡ after → walk_fault s [] (stand h position) (w ∷ ws) ≡ walk_fault s [] after ws
unfolding walk_fault
goes s h position after w ws is good next =
    ap₂ (λ (k : Kinds) (v : Walk). or_else k (walk_fault s [] v ws)) (turn_plain s h position w is ∙ good) (sym (walked_plain s.rules h position w is) ∙ next)

-- a word that is refused ends it
pub stops : (s : Shape) (h : Held) (position : ℕ) (w : Text) (ws : List Text) (k : ErrorKind) (ks : Kinds) → is_word w ≡ true
    → step_fault s position h value ≡ k ∷ ks → walk_fault s [] (stand h position) (w ∷ ws) ≡ k ∷ ks
unfolding walk_fault
stops s h position w ws k ks is bad = ap (λ (x : Kinds). or_else x (walk_fault s [] (walked s.rules [] (stand h position) w) ws)) (turn_plain s h position w is ∙ bad)

-- the kinds of error of a subcommand on the words behind it
abbrev pub fault_in : Shape → List Text → Kinds
fault_in s ws = level_fault s [] nothing_held ws false []

abbrev pub fault_at : Shape → Kinds → Held → Kinds
fault_at s fault h = or_else fault
    (or_else (settle_fault s.rules s.args_override_self h)
    (or_else (defaults_fault (settled s.rules h).rows s.rules)
    (check_fault s (finished s.rules h) false)))

pub level_is : (s : Shape) (ws : List Text) (w : Walk) (fault : Kinds) → walk s.rules [] nothing_held ws ≡ w → walk_fault s [] (walk_from nothing_held) ws ≡ fault
    → fault_in s ws ≡ fault_at s fault w.held
level_is s ws w fault walks faults = ap₂ (λ (v : Walk) (k : Kinds). fault_at s k v.held) walks faults
