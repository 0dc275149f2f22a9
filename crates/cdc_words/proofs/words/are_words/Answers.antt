use Rattle.std.proofs.Common.{rules, ◌≡◌, ◌∙◌, sym, string_bytes, String, Global}
use Rattle.std.specs.List.{list_all}
use Rattle.std.proofs.lemmas.Iterator.Search.{all_from_yields_List}
use Rattle.std.proofs.lemmas.Iterator.{YieldsList-from_slice}
use Rattle.std.proofs.lemmas.List.Folds.{list_all-map}
use Rattle.cdc_words.specs.Commands.{is_word}
use Rattle.cdc_words.proofs.words.are_words.Goals as goal

pub returns : goal.returns
returns c =
    let all : c.all.result ≡ list_all (λ (s : String Global). is_word (string_bytes s)) c.args.words.now =
    all_from_yields_List (λ (s : String Global). is_word (string_bytes s)) _ _ c.all.result c.all.ensures.ran (YieldsList-from_slice c.args.words.now cc) (λ x b q k. search rules) in
    all ∙ sym (list_all-map is_word string_bytes c.args.words.now)
