-- A program that is carried out is answered.
use Rattle.std.proofs.Common.{◌≡◌, ◌≢◌, ℕ, List, [], ◌∷◌, ◌++◌, take, drop, refl, sym, ◌∙◌, ap, ap₂, subst, Bool, if◌then◌else◌, inl, inr, take-append-drop}
use Rattle.std.specs.Prelude.{Option}
use Rattle.cdc_base.specs.Outside.{grown}
use Rattle.cdc_base.specs.Causes.{Rose}
use Rattle.cdc_prog.specs.Lines.{is_open}
use Rattle.cdc_prog.specs.Meaning.{Meaning}
use Rattle.cdc_text.specs.Pieces.{GrewByFront}
use Rattle.cdc_text.proofs.Pieces.{front_first}
use Rattle.cdc_epoch.specs.declared.outcome.Outcome.{Outcome}
use Rattle.cdc_replay.specs.Refused.{end_of}
use Rattle.cdc_top.specs.Answer.{Said, SaidOneOf}
use Rattle.cdc_report.specs.End.{end_line}
use Rattle.cdc_top.specs.Report.{Answer, answer, line_end, status_of}
use Rattle.cdc_top.specs.Sequential.{carried_out}
use Rattle.cdc_top.proofs.Said.{closes, said_part, said_behind}
use Rattle.cdc_top.specs.declared.status.TheConstants.{OUT_OF_MEMORY}

-- what stands behind the output
abbrev closing : Bool → Outcome → List ℕ
closing open_now end = (if◌then◌else◌ {A = List ℕ} open_now (10 ∷ []) []) ++ end_line end

-- the output was written, and what stands behind it
pub played_out : (m : Meaning) (end : Outcome) (open_now : Bool) (status : ℕ) (old mid new : Option (List ℕ)) (before between now : ℕ) → mid ≡ grown old m.bytes → end_of m.end ≡ end → open_now ≡ is_open m.bytes
    → between ≡ before → status ≢ OUT_OF_MEMORY → Said (answer (closing open_now end) (status_of end)) status mid new between now → SaidOneOf (λ a. a ≡ carried_out m) status old new before now
played_out m end open_now status old mid new before between now took is_end line same some said =
    let is : answer (m.bytes ++ closing open_now end) (status_of end) ≡ carried_out m =
    ap₂ (λ (shut : List ℕ) (o : Outcome). answer (m.bytes ++ (shut ++ end_line o)) (status_of o)) (closes m.bytes open_now line) (sym is_end) in
    inr (carried_out m, refl, subst (λ (a : Answer). Said a status old new before now) is (said_behind m.bytes (closing open_now end) (status_of end) status old mid new before between now took same some said))

-- the sink failed within the output
pub played_part : (m : Meaning) (count : ℕ) (old new : Option (List ℕ)) (before now : ℕ) → new ≡ grown old (take count m.bytes) → Rose before now → SaidOneOf (λ a. a ≡ carried_out m) 6 old new before now
played_part m count old new before now took rose =
    let part : GrewByFront old new m.bytes = record { front = take count m.bytes; rest = drop count m.bytes; split = take-append-drop count m.bytes; took = took } in
    inr (carried_out m, refl, said_part (carried_out m) _ old new before now refl (front_first (line_end m.bytes ++ end_line (end_of m.end)) part, rose))

-- nothing was written for want of memory
pub played_nothing : (m : Meaning) (old new : Option (List ℕ)) (before now : ℕ) → new ≡ old → now ≡ before → SaidOneOf (λ a. a ≡ carried_out m) 7 old new before now
played_nothing m old new before now took same = inl (refl, took, same)
