-- What a parse by `clap` that succeeds or fails says of the words.
use Rattle.std.proofs.Common.{◌≡◌, ◌≢◌, ◌∙◌, inl, inr, sym, ap, subst, true, List, [], None, Result, Ok, Err}
use Rattle.std.specs.List.{list_all}
use Rattle.clap.specs.Words.{App, FailsBy, HasMatchesOf, IsAmong, Text, fault_of, is_simple, is_simple_and_free, kind_of, subcommand_of, subcommand_rows_of}
use Rattle.clap.specs.declared.error.Error.{Error}
use Rattle.clap.specs.declared.error.kind.ErrorKind.TheVariants.{OutOfMemory}
use Rattle.clap.specs.declared.parser.matches.ArgMatches.{ArgMatches}
use Rattle.cdc_words.specs.Commands.{is_word, command_of}
use Rattle.cdc_words.specs.Matched.{command_in}
use Rattle.cdc_words.specs.Parser.{tool}
use Rattle.cdc_words.proofs.Table.{is_read, is_read_exactly, read_words}

module _ (app : App) (words : List Text) (r : Result ArgMatches Error) (is : app ≡ tool) (plain : list_all is_word words ≡ true)
    (kinds : is_simple_and_free app ≡ true → FailsBy (fault_of app words) r) where
  fails : FailsBy (fault_of tool words) r
  fails = subst (λ (a : App). FailsBy (fault_of a words) r) is (kinds (ap is_simple_and_free is ∙ is_read_exactly))

  pub of_matches : (m : ArgMatches) → r ≡ Ok m → HasMatchesOf app words m → command_in (subcommand_rows_of m) ≡ command_of words
  of_matches m ok matches =
      let none : fault_of tool words ≡ [] = subst (FailsBy (fault_of tool words)) ok fails in
      let rows : subcommand_rows_of m ≡ subcommand_of tool words = (matches (ap is_simple is ∙ is_read)).1 ∙ ap (λ (a : App). subcommand_of a words) is in
      elim (read_words words plain) [
        | inl taken ↦ ap command_in rows ∙ taken.asks
        | inr refused ↦ absurd (refused.fault none)
      ]

  pub of_error : (e : Error) → r ≡ Err e → kind_of e ≢ OutOfMemory → None ≡ command_of words
  of_error e failed other = elim (read_words words plain) [
    | inl taken ↦ elim (subst (FailsBy (fault_of tool words)) failed fails) [
      | inl memory ↦ absurd (other memory)
      | inr among ↦ absurd (subst (IsAmong (kind_of e)) taken.no_fault among)
    ]
    | inr refused ↦ sym refused.none
  ]
