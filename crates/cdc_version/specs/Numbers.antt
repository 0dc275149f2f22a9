-- Version numbers as a scheme: its state is the current version of each object.
use Rattle.std.specs.Prelude.{◌≡◌, ℕ, ◌-◌, ◌^◌, nat_lt, Bool, List, [], ◌∷◌, replicate, slice_index, vec_len, Some, false}
use Rattle.std.proofs.Common.{refl, sym, subst}
use Rattle.cdc_scheme.specs.TrueTime.{Covers}
use Rattle.cdc_version.specs.declared.numbers.CurrentVersions.{CurrentVersions}
use Rattle.cdc_version.specs.Versions.{is_in, kept_birth, next_current, IsBorn}
use Rattle.cdc_version.specs.VersionsLaws.{covered, kept_born}

abbrev pub current_of : CurrentVersions → ℕ → ℕ
current_of versions object = slice_index versions.numbers.items object

abbrev pub vc_starts : ℕ → ℕ → CurrentVersions → Type 0
vc_starts width objects versions = (versions.last ≡ 2 ^ width - 1) × (versions.numbers.items ≡ replicate objects 0)

abbrev pub has_object : CurrentVersions → ℕ → Bool
has_object versions object = nat_lt object (vec_len versions.numbers)

pub record vc_closes (versions : CurrentVersions) (written : List ℕ) (after : CurrentVersions) : Type 0 where
  pub last : after.last ≡ versions.last
  pub objects : vec_len after.numbers ≡ vec_len versions.numbers
  pub each : (object : ℕ) → current_of after object ≡ next_current versions.last (current_of versions object) (is_in object written)

abbrev pub vc_dates : CurrentVersions → List (List ℕ) → List ℕ → ℕ → ℕ → ℕ → Type 0
vc_dates versions lists objects object birth made = IsBorn lists (is_in object objects) object (current_of versions object) birth made

pub kept_dated : (versions after : CurrentVersions) (lists : List (List ℕ)) (objects written : List ℕ) (object made birth kept : ℕ) → Covers written objects → vc_dates versions lists objects object birth made
    → kept_birth versions.last (current_of versions object) (is_in object written) birth ≡ Some kept → vc_closes versions written after → vc_dates after (written ∷ lists) [] object kept made
kept_dated versions after lists objects written object made birth kept covers dated keeps closes =
    subst (λ n. IsBorn (written ∷ lists) false object n kept made) (sym (closes.each object))
    (kept_born versions.last lists written (is_in object objects) object (current_of versions object) birth kept made (is_in object written) refl (covered object written objects covers) dated keeps)
