-- How many words a boundary makes invalid.
use Rattle.std.proofs.Common.{◌≡◌, ℕ, ◌+◌, ◌<◌, List, [], ◌∷◌, ◌++◌, length, get_or, take, sym, ◌∙◌, ap, arith}
use Rattle.std.specs.Prelude.{Option}
use Rattle.std.proofs.lemmas.List.{take_more, length-take-le}
use Rattle.cdc_scheme.specs.declared.scheme.Scheme.{Ghosts}
use Rattle.cdc_cache.specs.declared.line.Copied.{Copied}
use Rattle.cdc_cache.specs.declared.line.Words.{Words}
use Rattle.cdc_cache.specs.Lines.{lost_word, lost_words}

module _ {S W T : Type 0} (scheme : Ghosts S W T) (state : T) (memory : Words) (written : List ℕ) where
  lost_words-append : (y n : ℕ) (xs : List (Option (Copied W))) (x : Option (Copied W)) → n ≡ y + length xs → lost_words scheme state memory written y (xs ++ x ∷ []) ≡ lost_words scheme state memory written y xs + lost_word scheme state memory written n x
  lost_words-append y n [] x is = let same : n ≡ y = omega (arith, is) in rw same (omega arith)
  lost_words-append y n (held ∷ xs) x is = let more = lost_words-append (y + 1) n xs x (omega (arith, is)) in omega (arith, more)

  -- a step of the loop over the words of a line
  pub lost_words-more : (y : ℕ) (xs : List (Option (Copied W))) (j : ℕ) (held : Option (Copied W)) → j < length xs → held ≡ get_or xs j held → lost_words scheme state memory written y (take (j + 1) xs)
      ≡ lost_words scheme state memory written y (take j xs) + lost_word scheme state memory written (y + j) held
  lost_words-more y xs j held within is =
      ap (lost_words scheme state memory written y) (take_more xs j held within ∙ ap (λ x. take j xs ++ x ∷ []) (sym is))
      ∙ lost_words-append y (y + j) (take j xs) held (omega (arith, length-take-le j xs (omega (arith, within))))
