-- What a subcommand and its first word ask for.
use Rattle.std.proofs.Common.{◌≡◌, ◌∙◌, refl, sym, ap, ap₂, true≢false, List, Option, Some, None, unwrap_or}
use Rattle.std.specs.Prelude.{codes, option_map, option_and_then}
use Rattle.std.specs.Option.{is_some}
use Rattle.clap.specs.Words.{Row, Text, first_of, subcommand_name_of, subcommand_rows_of}
use Rattle.clap.specs.declared.parser.matches.ArgMatches.{ArgMatches}
use Rattle.clap.specs.declared.parser.matches.ArgMatches.TheViews.{out-ArgMatches}
use Rattle.cdc_words.specs.Matched.{command_in, with_first}

some≢none : {X : Type 0} (x : X) → None ≡ Some x → ⊥
some≢none x e = true≢false (sym (ap is_some e))

pair_is : (o : Option (Text × List Row)) (verb : Text) (rows : List Row) → option_map (λ p. p.0) o ≡ Some verb → option_map (λ p. p.1) o ≡ Some rows → o ≡ Some (verb, rows)
pair_is None verb rows name is = absurd (some≢none verb name)
pair_is (Some p) verb rows name is =
    let v : p.0 ≡ verb = ap (λ o. unwrap_or o verb) name in
    let r : p.1 ≡ rows = ap (λ o. unwrap_or o rows) is in
    ap₂ (λ (x : Text) (y : List Row). Some (x, y)) v r

pub asked : (o : Option (Text × List Row)) (verb : Text) (rows : List Row) (first : Text) → option_map (λ p. p.0) o ≡ Some verb → option_map (λ p. p.1) o ≡ Some rows
    → Some first ≡ first_of (codes "first") rows → with_first verb rows first ≡ command_in o
asked o verb rows first name is there =
    ap (option_and_then (with_first verb rows)) there ∙ sym (ap command_in (pair_is o verb rows name is))

name_in : {X : Type 0} (f : X → Text × List Row) (o : Option X) → option_map (λ p. p.0) (option_map f o) ≡ option_map (λ x. (f x).0) o
name_in f None = refl
name_in f (Some x) = refl

pub name_is : (m : ArgMatches) → option_map (λ p. p.0) (subcommand_rows_of m) ≡ subcommand_name_of m
name_is m = name_in _ (out-ArgMatches m).subcommand
