-- What `clap` makes of the words behind that of a command: it takes them exactly where they are as many as the command has.
use Rattle.std.proofs.Common.{◌≡◌, ◌∙◌, ℕ, true, refl, sym, ap, List, [], ◌∷◌, Some, None}
use Rattle.std.specs.Prelude.{codes}
use Rattle.clap.specs.Walk.{Held, Row, Rule, Text, Walk, nothing_held, rows_after, finished, walk, walked}
use Rattle.clap.specs.Simple.{Shape, new_shape, filled_from}
use Rattle.clap.specs.Faults.{walk_fault}
use Rattle.clap.specs.declared.error.kind.ErrorKind.TheVariants.{UnknownArgument, MissingRequiredArgument}
use Rattle.clap.specs.declared.builder.value_parser.Reading.TheVariants.{AsWritten}
use Rattle.clap.specs.declared.parser.matches.ValueSource.TheVariants.{CommandLine}
use Rattle.clap.proofs.OnLiterals.{clap_on_literals}
use Rattle.cdc_words.specs.Commands.{is_word}
use Rattle.cdc_words.specs.Parser.{needed}
use Rattle.cdc_words.proofs.Plain.{stand, walked_plain, goes, stops, fault_in, level_is}

-- a subcommand, built
abbrev pub leaf : Text → List Rule → Shape
leaf name rules = record (new_shape name) {
  rules = filled_from 1 rules;
  no_binary_name = true;
  disable_help_flag = true;
  disable_help_subcommand = true;
  disable_version_flag = true;
  is_built = true;
}

abbrev pub first : Text
first = codes "first"

abbrev pub second : Text
second = codes "second"

abbrev pub third : Text
third = codes "third"

abbrev pub rules1 : List Rule
rules1 = needed first ∷ []

abbrev pub rules2 : List Rule
rules2 = needed first ∷ needed second ∷ []

abbrev pub rules3 : List Rule
rules3 = needed first ∷ needed second ∷ needed third ∷ []

-- what was read of an argument
abbrev pub row : Text → Text → Row
row id word = record { id = id; values = word ∷ []; count = None; source = Some CommandLine; reading = AsWritten }

-- where the walk stands when so many words were read
abbrev pub after : List Row → Text → Text → ℕ → Walk
after rows id word position = stand (record { rows = rows; pending = Some (id, word ∷ []); skip = 0 }) position

abbrev pub start : Walk
start = stand nothing_held 1

module _ (name : Text) where
  abbrev one : Shape
  one = leaf name rules1

  abbrev two : Shape
  two = leaf name rules2

  abbrev three : Shape
  three = leaf name rules3

  pub none_of_one : fault_in one [] ≡ MissingRequiredArgument ∷ []
  unfolding clap_on_literals
  none_of_one = refl

  pub none_of_two : fault_in two [] ≡ MissingRequiredArgument ∷ []
  unfolding clap_on_literals
  none_of_two = refl

  pub none_of_three : fault_in three [] ≡ MissingRequiredArgument ∷ []
  unfolding clap_on_literals
  none_of_three = refl

  module _ (a : Text) (is_a : is_word a ≡ true) where
    -- one word
    walk_one1 : walk one.rules [] nothing_held (a ∷ []) ≡ after [] first a 2
    walk_one1 = sym (walked_plain one.rules nothing_held 1 a is_a)

    walk_two1 : walk two.rules [] nothing_held (a ∷ []) ≡ after [] first a 2
    walk_two1 = sym (walked_plain two.rules nothing_held 1 a is_a)

    walk_three1 : walk three.rules [] nothing_held (a ∷ []) ≡ after [] first a 2
    walk_three1 = sym (walked_plain three.rules nothing_held 1 a is_a)

    goes_one1 : (ws : List Text) → walk_fault one [] start (a ∷ ws) ≡ walk_fault one [] (after [] first a 2) ws
    goes_one1 ws = goes one nothing_held 1 (after [] first a 2) a ws is_a refl refl

    goes_two1 : (ws : List Text) → walk_fault two [] start (a ∷ ws) ≡ walk_fault two [] (after [] first a 2) ws
    goes_two1 ws = goes two nothing_held 1 (after [] first a 2) a ws is_a refl refl

    goes_three1 : (ws : List Text) → walk_fault three [] start (a ∷ ws) ≡ walk_fault three [] (after [] first a 2) ws
    goes_three1 ws = goes three nothing_held 1 (after [] first a 2) a ws is_a refl refl

    pub one_of_one : fault_in one (a ∷ []) ≡ []
    unfolding clap_on_literals
    one_of_one = level_is one (a ∷ []) (after [] first a 2) [] walk_one1 (goes_one1 [])

    pub one_of_two : fault_in two (a ∷ []) ≡ MissingRequiredArgument ∷ []
    unfolding clap_on_literals
    one_of_two = level_is two (a ∷ []) (after [] first a 2) [] walk_two1 (goes_two1 [])

    pub one_of_three : fault_in three (a ∷ []) ≡ MissingRequiredArgument ∷ []
    unfolding clap_on_literals
    one_of_three = level_is three (a ∷ []) (after [] first a 2) [] walk_three1 (goes_three1 [])

    pub rows_of_one : rows_after one.rules [] (a ∷ []) ≡ row first a ∷ []
    rows_of_one = ap (λ (w : Walk). finished one.rules w.held) walk_one1

    module _ (b : Text) (is_b : is_word b ≡ true) where
      abbrev held1 : Held
      held1 = (after [] first a 2).held

      abbrev at2 : Walk
      at2 = after (row first a ∷ []) second b 3

      -- two words
      walk_two2 : walk two.rules [] nothing_held (a ∷ b ∷ []) ≡ at2
      walk_two2 = ap (λ (w : Walk). walked two.rules [] w b) walk_two1 ∙ sym (walked_plain two.rules held1 2 b is_b)

      walk_three2 : walk three.rules [] nothing_held (a ∷ b ∷ []) ≡ at2
      walk_three2 = ap (λ (w : Walk). walked three.rules [] w b) walk_three1 ∙ sym (walked_plain three.rules held1 2 b is_b)

      goes_two2 : (ws : List Text) → walk_fault two [] start (a ∷ b ∷ ws) ≡ walk_fault two [] at2 ws
      goes_two2 ws = goes_two1 (b ∷ ws) ∙ goes two held1 2 at2 b ws is_b refl refl

      goes_three2 : (ws : List Text) → walk_fault three [] start (a ∷ b ∷ ws) ≡ walk_fault three [] at2 ws
      goes_three2 ws = goes_three1 (b ∷ ws) ∙ goes three held1 2 at2 b ws is_b refl refl

      stops_one2 : (ws : List Text) → walk_fault one [] start (a ∷ b ∷ ws) ≡ UnknownArgument ∷ []
      stops_one2 ws = goes_one1 (b ∷ ws) ∙ stops one held1 2 b ws UnknownArgument [] is_b refl

      pub two_of_one : (ws : List Text) → fault_in one (a ∷ b ∷ ws) ≡ UnknownArgument ∷ []
      two_of_one ws = level_is one (a ∷ b ∷ ws) (walk one.rules [] nothing_held (a ∷ b ∷ ws)) (UnknownArgument ∷ []) refl (stops_one2 ws)

      pub two_of_two : fault_in two (a ∷ b ∷ []) ≡ []
      unfolding clap_on_literals
      two_of_two = level_is two (a ∷ b ∷ []) at2 [] walk_two2 (goes_two2 [])

      pub two_of_three : fault_in three (a ∷ b ∷ []) ≡ MissingRequiredArgument ∷ []
      unfolding clap_on_literals
      two_of_three = level_is three (a ∷ b ∷ []) at2 [] walk_three2 (goes_three2 [])

      pub rows_of_two : rows_after two.rules [] (a ∷ b ∷ []) ≡ row first a ∷ row second b ∷ []
      rows_of_two = ap (λ (w : Walk). finished two.rules w.held) walk_two2

      module _ (c : Text) (is_c : is_word c ≡ true) where
        abbrev held2 : Held
        held2 = at2.held

        abbrev at3 : Walk
        at3 = after (row first a ∷ row second b ∷ []) third c 4

        -- three words
        walk_three3 : walk three.rules [] nothing_held (a ∷ b ∷ c ∷ []) ≡ at3
        walk_three3 = ap (λ (w : Walk). walked three.rules [] w c) walk_three2 ∙ sym (walked_plain three.rules held2 3 c is_c)

        goes_three3 : (ws : List Text) → walk_fault three [] start (a ∷ b ∷ c ∷ ws) ≡ walk_fault three [] at3 ws
        goes_three3 ws = goes_three2 (c ∷ ws) ∙ goes three held2 3 at3 c ws is_c refl refl

        stops_two3 : (ws : List Text) → walk_fault two [] start (a ∷ b ∷ c ∷ ws) ≡ UnknownArgument ∷ []
        stops_two3 ws = goes_two2 (c ∷ ws) ∙ stops two held2 3 c ws UnknownArgument [] is_c refl

        pub three_of_two : (ws : List Text) → fault_in two (a ∷ b ∷ c ∷ ws) ≡ UnknownArgument ∷ []
        three_of_two ws = level_is two (a ∷ b ∷ c ∷ ws) (walk two.rules [] nothing_held (a ∷ b ∷ c ∷ ws)) (UnknownArgument ∷ []) refl (stops_two3 ws)

        pub three_of_three : fault_in three (a ∷ b ∷ c ∷ []) ≡ []
        unfolding clap_on_literals
        three_of_three = level_is three (a ∷ b ∷ c ∷ []) at3 [] walk_three3 (goes_three3 [])

        pub rows_of_three : rows_after three.rules [] (a ∷ b ∷ c ∷ []) ≡ row first a ∷ row second b ∷ row third c ∷ []
        rows_of_three = ap (λ (w : Walk). finished three.rules w.held) walk_three3

        -- four words and more
        pub four_of_three : (d : Text) (ws : List Text) → is_word d ≡ true → fault_in three (a ∷ b ∷ c ∷ d ∷ ws) ≡ UnknownArgument ∷ []
        four_of_three d ws is_d =
            let stop : walk_fault three [] start (a ∷ b ∷ c ∷ d ∷ ws) ≡ UnknownArgument ∷ [] =
            goes_three3 (d ∷ ws) ∙ stops three at3.held 4 d ws UnknownArgument [] is_d refl in
            level_is three (a ∷ b ∷ c ∷ d ∷ ws) (walk three.rules [] nothing_held (a ∷ b ∷ c ∷ d ∷ ws)) (UnknownArgument ∷ []) refl stop
