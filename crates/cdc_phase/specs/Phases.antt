-- Tags as a scheme: its state is the counter, and its laws are those of tags.
use Rattle.std.specs.Prelude.{◌≡◌, ℕ, ◌+◌, ◌-◌, ◌*◌, ◌%◌, ◌^◌, ◌≤◌, List, [], ◌∷◌, length, IsTrue, Option, Some}
use Rattle.std.proofs.Common.{suc, sym, ◌∙◌, ap, subst, arith, inl}
use Rattle.std.proofs.Math.Nat.{mod-add-mod, two-pow-succ}
use Rattle.std.proofs.lemmas.Nat.{pow_pos}
use Rattle.cdc_prog.specs.declared.program.Mark.TheVariants.{Time}
use Rattle.cdc_scheme.specs.TrueTime.{present, beside, WasDated, IsYoung}
use Rattle.cdc_phase.specs.declared.counter.Counter.{Counter}
use Rattle.cdc_phase.specs.Tags.{next_count, neighbour_tag, tpi_admits, kept_tag, IsTagged}
use Rattle.cdc_phase.specs.TagsLaws.{keeps_tags, stamps_present_epoch, stamps_beside_target, admits_recent}

-- the numbers of w bits, and those of w - 1
abbrev pub all_of : Counter → ℕ
all_of counter = 2 ^ counter.width

abbrev pub half_of : Counter → ℕ
half_of counter = 2 ^ (counter.width - 1)

abbrev pub tpi_starts : ℕ → ℕ → Counter → Type 0
tpi_starts width objects counter = (counter.width ≡ width) × (counter.count ≡ 0)

abbrev pub tpi_closes : Counter → List ℕ → Counter → Type 0
tpi_closes counter written after = (after.width ≡ counter.width) × (after.count ≡ next_count (all_of counter) counter.count)

-- the counter is the number of the epoch, wrapped
abbrev pub tpi_knows : Counter → List (List ℕ) → List ℕ → Type 0
tpi_knows counter lists objects = counter.count ≡ length lists % all_of counter

abbrev pub tpi_dates : Counter → List (List ℕ) → ℕ → ℕ → Type 0
tpi_dates counter lists tag made = IsTagged (half_of counter) (all_of counter) (length lists) tag made

pub pow_double : (width : ℕ) → 2 ≤ width → 2 ^ width ≡ 2 * 2 ^ (width - 1)
pow_double width wide =
    let next : width ≡ suc (width - 1) = omega (arith, wide) in
    ap (λ w. 2 ^ w) next ∙ omega (arith, two-pow-succ (width - 1))

longer : (written : List ℕ) (lists : List (List ℕ)) → length lists + 1 ≡ length (written ∷ lists)
longer written lists = omega arith

pub knows_start : (width objects : ℕ) (counter : Counter) → tpi_starts width objects counter → tpi_knows counter [] []
knows_start width objects counter starts = starts.1 ∙ sym (omega (arith, pow_pos counter.width))

pub knows_boundary : (counter after : Counter) (lists : List (List ℕ)) (objects written : List ℕ) → tpi_knows counter lists objects → tpi_closes counter written after → tpi_knows after (written ∷ lists) []
knows_boundary counter after lists objects written known closes =
    closes.1
    ∙ ap (next_count (all_of counter)) known
    ∙ mod-add-mod (length lists) (all_of counter) 1
    ∙ ap (λ k. k % all_of counter) (longer written lists)
    ∙ ap (λ w. length (written ∷ lists) % 2 ^ w) (sym closes.0)

pub present_dated : (counter : Counter) (lists : List (List ℕ)) (objects : List ℕ) → tpi_knows counter lists objects → tpi_dates counter lists counter.count (present lists)
present_dated counter lists objects known =
    stamps_present_epoch (half_of counter) (all_of counter) (pow_pos (counter.width - 1)) (pow_double counter.width counter.wide) (length lists) counter.count known

pub beside_dated : (counter : Counter) (lists : List (List ℕ)) (objects : List ℕ) (before : ℕ) (old : Option ℕ) → tpi_knows counter lists objects → WasDated (tpi_dates counter lists) old before → tpi_dates counter lists (neighbour_tag (all_of counter) counter.count old) (beside lists before)
beside_dated counter lists objects before old known dated =
    stamps_beside_target (half_of counter) (all_of counter) (pow_pos (counter.width - 1)) (pow_double counter.width counter.wide) (length lists) counter.count before old known dated

pub admitted_young : (counter : Counter) (lists : List (List ℕ)) (objects : List ℕ) (object made d tag : ℕ) → tpi_knows counter lists objects → tpi_dates counter lists tag made → IsTrue (tpi_admits (all_of counter) counter.count (Time d) tag) → IsYoung d lists object made
admitted_young counter lists objects object made d tag known dated admitted =
    inl (admits_recent (half_of counter) (all_of counter) (pow_pos (counter.width - 1)) (pow_double counter.width counter.wide) (length lists) tag made d dated
    (subst (λ k. IsTrue (tpi_admits (all_of counter) k (Time d) tag)) known admitted))

pub kept_dated : (counter after : Counter) (lists : List (List ℕ)) (objects written : List ℕ) (made tag kept : ℕ) → tpi_knows counter lists objects → tpi_dates counter lists tag made → kept_tag (half_of counter) (all_of counter) counter.count tag ≡ Some kept → tpi_closes counter written after
    → tpi_dates after (written ∷ lists) kept made
kept_dated counter after lists objects written made tag kept known dated keeps closes =
    let next = keeps_tags (half_of counter) (all_of counter) (pow_pos (counter.width - 1)) (pow_double counter.width counter.wide) (length lists) tag made kept dated
    (subst (λ k. kept_tag (half_of counter) (all_of counter) k tag ≡ Some kept) known keeps) in
    subst (λ w. IsTagged (2 ^ (w - 1)) (2 ^ w) (length (written ∷ lists)) kept made) (sym closes.0)
    (subst (λ e. IsTagged (half_of counter) (all_of counter) e kept made) (longer written lists) next)
