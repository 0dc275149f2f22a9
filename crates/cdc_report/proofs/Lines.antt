-- The lines of a listing, one after another.
use Rattle.std.proofs.Common.{◌≡◌, ℕ, zero, suc, ◌+◌, ◌<◌, List, [], ◌∷◌, ◌++◌, length, take, drop, map, get_or, refl, sym, ◌∙◌, ap, append_assoc, append-nil, subst, arith}
use Rattle.std.specs.Prelude.{codes, Option}
use Rattle.cdc_base.specs.Gathered.{HandsOn}
use Rattle.cdc_code.specs.declared.instr.Step.{Step}
use Rattle.cdc_prog.specs.declared.program.Unit.{Unit as ProgramUnit}
use Rattle.cdc_prog.specs.Numbered.{calls_in, units_numbered}
use Rattle.cdc_prog.specs.Plain as plain
use Rattle.cdc_prog.specs.Translation.{unit_of}
use Rattle.cdc_text.specs.Pieces.{GrewByFront}
use Rattle.cdc_text.proofs.Pieces.{front_first}
use Rattle.cdc_text.proofs.Gathers.{hands_on, hands_part}
use Rattle.cdc_text.specs.Texts.{number}
use Rattle.cdc_report.specs.Listing.{Named, name_of, operands, spaced, step_line, lines_from}

-- one line more
pub lines_more : (n : Named) (place : ℕ) (ss : List Step) (k : ℕ) (d : Step) → k < length ss → lines_from n place (take (suc k) ss) ≡ lines_from n place (take k ss) ++ step_line n (place + k) (get_or ss k d)
lines_more n place [] k d within = absurd (omega (arith, within))
lines_more n place (s ∷ ss) zero d within = let same : place + 0 ≡ place = omega arith in append-nil (step_line n place s) ∙ ap (λ (k : ℕ). step_line n k s) (sym same)
lines_more n place (s ∷ ss) (suc k) d within =
    let same : suc place + k ≡ place + suc k = omega arith in
    ap (λ (xs : List ℕ). step_line n place s ++ xs) (lines_more n (suc place) ss k d (omega (arith, within)) ∙ ap (λ (m : ℕ). lines_from n (suc place) (take k ss) ++ step_line n m (get_or ss k d)) same)
    ∙ sym (append_assoc (step_line n place s) (lines_from n (suc place) (take k ss)) (step_line n (place + suc k) (get_or ss k d)))

-- the numbers of CALLs leave the names
pub same_names : (before : ℕ) (us : List ProgramUnit) → map (λ (u : plain.ProgramUnit). u.name) (units_numbered before (map unit_of us)) ≡ map (λ (u : ProgramUnit). u.name) us
same_names before [] = refl
same_names before (u ∷ us) = ap (λ (ns : List (List ℕ)). u.name ∷ ns) (same_names (before + calls_in (unit_of u).body) us)

-- the parts of a line: its place and its name, the operands, and its end
pub line_parts : (n : Named) (place : ℕ) (s : Step) → (number place ++ (codes " " ++ (name_of s.instr ++ []))) ++ (spaced (operands n s.instr) ++ codes "\n") ≡ step_line n place s
line_parts n place s =
    let name : List ℕ = name_of s.instr in
    let more : List ℕ = spaced (operands n s.instr) in
    let end : List ℕ = codes "\n" in
    append_assoc (number place) (codes " " ++ (name ++ [])) (more ++ end)
    ∙ ap (λ (xs : List ℕ). number place ++ (codes " " ++ xs)) (append_assoc name [] (more ++ end) ∙ sym (append_assoc name more end))

-- the lines up to an instruction, and those from there on
lines_split : (n : Named) (place : ℕ) (ss : List Step) (k : ℕ) → lines_from n place (take k ss) ++ lines_from n (place + k) (drop k ss) ≡ lines_from n place ss
lines_split n place ss zero = let same : place + 0 ≡ place = omega arith in ap (λ (k : ℕ). lines_from n k ss) same
lines_split n place [] (suc k) = refl
lines_split n place (s ∷ ss) (suc k) =
    let same : place + suc k ≡ suc place + k = omega arith in
    append_assoc (step_line n place s) (lines_from n (suc place) (take k ss)) (lines_from n (place + suc k) (drop k ss))
    ∙ ap (λ (xs : List ℕ). step_line n place s ++ xs) (ap (λ (m : ℕ). lines_from n (suc place) (take k ss) ++ lines_from n m (drop k ss)) same ∙ lines_split n (suc place) ss k)

first_more : (n : Named) (ss : List Step) (k : ℕ) (d : Step) → k < length ss → lines_from n 0 (take k ss) ++ step_line n k (get_or ss k d) ≡ lines_from n 0 (take (suc k) ss)
first_more n ss k d within =
    let same : k ≡ 0 + k = omega arith in ap (λ (m : ℕ). lines_from n 0 (take k ss) ++ step_line n m (get_or ss k d)) same ∙ sym (lines_more n 0 ss k d within)

first_split : (n : Named) (ss : List Step) (k : ℕ) → lines_from n 0 (take k ss) ++ lines_from n k (drop k ss) ≡ lines_from n 0 ss
first_split n ss k = let same : k ≡ 0 + k = omega arith in ap (λ (m : ℕ). lines_from n 0 (take k ss) ++ lines_from n m (drop k ss)) same ∙ lines_split n 0 ss k

-- one line more was gathered
pub gathers_line : (n : Named) (ss : List Step) (k : ℕ) (d : Step) {old mid new : Option (List ℕ)} {held waits : List ℕ} → k < length ss
    → HandsOn old mid (lines_from n 0 (take k ss)) held → HandsOn mid new (held ++ step_line n k (get_or ss k d)) waits → HandsOn old new (lines_from n 0 (take (k + 1) ss)) waits
gathers_line n ss k d {old = old} {new = new} {waits = waits} within first second =
    let next : suc k ≡ k + 1 = omega arith in
    subst (λ (bytes : List ℕ). HandsOn old new bytes waits) (first_more n ss k d within ∙ ap (λ (m : ℕ). lines_from n 0 (take m ss)) next) (hands_on (step_line n k (get_or ss k d)) first second)

-- or the sink failed then
pub fails_line : (n : Named) (ss : List Step) (k : ℕ) (d : Step) {old mid new : Option (List ℕ)} {held : List ℕ} → k < length ss
    → HandsOn old mid (lines_from n 0 (take k ss)) held → GrewByFront mid new (held ++ step_line n k (get_or ss k d)) → GrewByFront old new (lines_from n 0 ss)
fails_line n ss k d {old = old} {new = new} within first part =
    let more : GrewByFront old new (lines_from n 0 (take (suc k) ss)) = subst (GrewByFront old new) (first_more n ss k d within) (hands_part (step_line n k (get_or ss k d)) first part) in
    subst (GrewByFront old new) (first_split n ss (suc k)) (front_first (lines_from n (suc k) (drop (suc k) ss)) more)
