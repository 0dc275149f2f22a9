-- An answer of which a front was written, and the line end that an output lacks.
use Rattle.std.proofs.Common.{◌≡◌, ◌≢◌, ℕ, List, [], ◌∷◌, ◌++◌, refl, ◌∙◌, ap, subst, Bool, if◌then◌else◌}
use Rattle.std.specs.Prelude.{Option}
use Rattle.cdc_base.specs.Outside.{grown}
use Rattle.cdc_base.specs.Causes.{Rose}
use Rattle.cdc_base.proofs.Grown.{grown-grown}
use Rattle.cdc_prog.specs.Lines.{is_open}
use Rattle.cdc_text.specs.Pieces.{GrewByFront}
use Rattle.cdc_text.proofs.Pieces.{front_second}
use Rattle.cdc_top.specs.Answer.{Said}
use Rattle.cdc_top.specs.Report.{Answer, answer, line_end}
use Rattle.cdc_top.specs.Status.{IsFinished}
use Rattle.cdc_top.specs.declared.status.TheConstants.{OUT_OF_MEMORY}

-- the line end that an output lacks
pub closes : (output : List ℕ) (open_now : Bool) → open_now ≡ is_open output → if◌then◌else◌ {A = List ℕ} open_now (10 ∷ []) [] ≡ line_end output
closes output open_now is = ap (λ (b : Bool). if◌then◌else◌ {A = List ℕ} b (10 ∷ []) []) is

-- all was written
pub said_whole : (a : Answer) (status : ℕ) (old new : Option (List ℕ)) (before now : ℕ) → status ≡ a.status → IsFinished status → (new ≡ grown old a.bytes) × (now ≡ before) → Said a status old new before now
said_whole a status old new before now is finished wrote = record {
  whole = λ f. (is, wrote.0, wrote.1);
  part = λ six. absurd (finished.1 six);
  memory = λ seven. absurd (finished.2 seven);
  reads = finished.0;
}

-- the sink failed
pub said_part : (a : Answer) (text : List ℕ) (old new : Option (List ℕ)) (before now : ℕ) → text ≡ a.bytes → GrewByFront old new text × Rose before now → Said a 6 old new before now
said_part a text old new before now is part = record {
  whole = λ f. absurd (f.1 refl);
  part = λ six. (subst (GrewByFront old new) is part.0, part.1);
  memory = λ seven. absurd (cc seven);
  reads = λ five. absurd (cc five);
}

-- an answer whose first bytes were written before
pub said_behind : (bytes closing : List ℕ) (end status : ℕ) (old mid new : Option (List ℕ)) (before between now : ℕ) → mid ≡ grown old bytes → between ≡ before → status ≢ OUT_OF_MEMORY
    → Said (answer closing end) status mid new between now → Said (answer (bytes ++ closing) end) status old new before now
said_behind bytes closing end status old mid new before between now took same some said = record {
  whole = λ finished. let w = said.whole finished in (w.0, w.1 ∙ ap (λ (o : Option (List ℕ)). grown o closing) took ∙ grown-grown old bytes closing, w.2 ∙ same);
  part = λ six. let p = said.part six in (front_second bytes took p.0, subst (λ k. Rose k now) same p.1);
  memory = λ seven. absurd (some seven);
  reads = said.reads;
}
