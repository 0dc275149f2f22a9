-- What the words of a header's lines say.
use Rattle.std.specs.Prelude.{ℕ, cond, List, [], ◌∷◌, codes, Option, Some, None, option_map}
use Rattle.std.specs.Option.{option_and_then}
use Rattle.std.specs.Str.{bytes_eq}
use Rattle.cdc_sched.specs.declared.header.SchemeName.TheVariants.{Direct, Si, Vc, Tpi}
use Rattle.cdc_sched.specs.declared.header.TailKind.{TailKind}
use Rattle.cdc_sched.specs.declared.header.TailKind.TheVariants.{None as NoTail, RoundRobin, Random}
use Rattle.cdc_sched.specs.declared.header_line.SchemeWords.{SchemeWords}
use Rattle.cdc_sched.specs.declared.header_line.CacheWords.{CacheWords}
use Rattle.cdc_sched.specs.Lines.{number_of}

abbrev pub version_words : List (List ℕ)
version_words = codes "cdc" ∷ codes "1" ∷ []

abbrev pub events_words : List (List ℕ)
events_words = codes "events" ∷ []

-- a word and a number: `procs P` and `bound B`
abbrev pub numbered : List ℕ → List (List ℕ) → Option ℕ
numbered word [] = None
numbered word (w ∷ []) = None
numbered word (w ∷ n ∷ []) = cond (bytes_eq w word) (number_of n) None
numbered word (w ∷ n ∷ more ∷ words) = None

-- `direct` and `si`, which keep no numbers
abbrev pub plain_scheme : List ℕ → Option SchemeWords
plain_scheme name =
    cond (bytes_eq name (codes "direct")) (Some (record { name = Direct; width = 0 }))
    (cond (bytes_eq name (codes "si")) (Some (record { name = Si; width = 0 })) None)

-- `vc W` and `tpi W`, with the bits of their numbers
abbrev pub wide_scheme : List ℕ → ℕ → Option SchemeWords
wide_scheme name width =
    cond (bytes_eq name (codes "vc")) (Some (record { name = Vc; width = width }))
    (cond (bytes_eq name (codes "tpi")) (Some (record { name = Tpi; width = width })) None)

abbrev pub scheme_of : List (List ℕ) → Option SchemeWords
scheme_of [] = None
scheme_of (w ∷ []) = None
scheme_of (w ∷ name ∷ []) = cond (bytes_eq w (codes "scheme")) (plain_scheme name) None
scheme_of (w ∷ name ∷ n ∷ []) = cond (bytes_eq w (codes "scheme")) (option_and_then (wide_scheme name) (number_of n)) None
scheme_of (w ∷ name ∷ n ∷ more ∷ words) = None

-- the three numbers of a cache
abbrev pub shape : ℕ → ℕ → ℕ → CacheWords
shape l s a = record { words = l; sets = s; ways = a }

-- `cache L S A`
abbrev pub cache_of : List (List ℕ) → Option CacheWords
cache_of [] = None
cache_of (w ∷ []) = None
cache_of (w ∷ l ∷ []) = None
cache_of (w ∷ l ∷ s ∷ []) = None
cache_of (w ∷ l ∷ s ∷ a ∷ []) = cond (bytes_eq w (codes "cache"))
    (option_and_then (λ l. option_and_then (λ s. option_map (shape l s) (number_of a)) (number_of s)) (number_of l)) None
cache_of (w ∷ l ∷ s ∷ a ∷ more ∷ words) = None

-- `tail none` and `tail rr`
abbrev pub plain_tail : List ℕ → Option TailKind
plain_tail name =
    cond (bytes_eq name (codes "none")) (Some NoTail)
    (cond (bytes_eq name (codes "rr")) (Some RoundRobin) None)

abbrev pub tail_of : List (List ℕ) → Option TailKind
tail_of [] = None
tail_of (w ∷ []) = None
tail_of (w ∷ name ∷ []) = cond (bytes_eq w (codes "tail")) (plain_tail name) None
tail_of (w ∷ name ∷ n ∷ []) = cond (bytes_eq w (codes "tail")) (cond (bytes_eq name (codes "random")) (option_map Random (number_of n)) None) None
tail_of (w ∷ name ∷ n ∷ more ∷ words) = None
