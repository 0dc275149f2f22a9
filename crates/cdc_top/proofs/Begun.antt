-- A machine before its first event.
use Rattle.std.proofs.Common.{◌≡◌, ℕ, ◌<◌, List, [], refl, ap, sym, ◌∙◌, subst}
use Rattle.std.specs.Prelude.{Ok, Err, Result, IfOk}
use Rattle.cdc_base.specs.declared.memory.NoMemory.{NoMemory}
use Rattle.cdc_code.specs.declared.code.Code.{Code}
use Rattle.cdc_compile.specs.Laws.{IsAccepted}
use Rattle.cdc_compile.proofs.Sound.{accepted_is_sound}
use Rattle.cdc_fabric.specs.Counting.{no_counts}
use Rattle.cdc_fabric.specs.UncachedSteps.{uncached_procs, uncached_words, uncached_counts}
use Rattle.cdc_fabric.specs.contracts.uncached.UncachedFabric.TheImpl.{ghosts}
use Rattle.cdc_fabric.specs.declared.uncached.Uncached.{Uncached}
use Rattle.cdc_path.proofs.OneMarks.{lists_increase}
use Rattle.cdc_input.specs.declared.file.InputRecords.{InputRecords}
use Rattle.cdc_prog.specs.Input.{Input}
use Rattle.cdc_epoch.specs.declared.engine.Engine.{Engine}
use Rattle.cdc_epoch.specs.Ties.{StandsFor}
use Rattle.cdc_replay.specs.Direct.{HasNoCounts}
use Rattle.cdc_replay.proofs.Ready.{can_replay}
use Rattle.cdc_top.specs.Loaded.{IsCompiledCode, IsBegun}

module _ (code : Code) (is : IsCompiledCode code) (records : InputRecords) (procs : ℕ) (memory : Uncached)
    (procs_are : uncached_procs memory ≡ procs) (words_are : uncached_words memory ≡ code.words) (none : (q : ℕ) → q < procs → uncached_counts memory q ≡ no_counts) where
  abbrev accepted : IsAccepted is.source is.program
  accepted = accepted_is_sound is.source is.program is.compiled.accepted

  begun : (engine : Engine Uncached ghosts) → engine.code ≡ code → engine.records ≡ records → engine.side ≡ memory → StandsFor ghosts engine [] → IsBegun code records.records procs engine
  begun engine code_is records_are side_is first = record {
    code_is = code_is;
    records_are = ap (λ (r : InputRecords). r.records) records_are;
    procs_are = ap uncached_procs side_is ∙ procs_are;
    words_are = ap uncached_words side_is ∙ words_are;
    first = first;
    counts = subst HasNoCounts (sym side_is) (λ q lt. none q (subst (λ (n : ℕ). q < n) procs_are lt));
    can =
        let lists = lists_increase is.program is.marks is.compiled.marks_are in
        can_replay is.program is.marks (accepted.sound is.marks).sound accepted.bare lists.0 lists.1 ghosts engine (code_is ∙ is.code_is) refl refl;
  }

  pub begun_if : (r : Result (Engine Uncached ghosts) NoMemory) → IfOk r (λ e. e.code ≡ code) → IfOk r (λ e. e.records ≡ records) → IfOk r (λ e. e.side ≡ memory) → IfOk r (λ e. StandsFor ghosts e [])
      → IfOk r (λ e. IsBegun code records.records procs e)
  begun_if (Ok engine) code_is records_are side_is first = begun engine code_is records_are side_is first
  begun_if (Err e) code_is records_are side_is first = tt

-- the same, said of its own code and records
pub begun_here : (code : Code) (records : Input) (procs : ℕ) (engine : Engine Uncached ghosts) → IsBegun code records procs engine → IsBegun engine.code engine.records.records procs engine
begun_here code records procs engine b = record {
  code_is = refl;
  records_are = refl;
  procs_are = b.procs_are;
  words_are = b.words_are ∙ ap (λ (k : Code). k.words) (sym b.code_is);
  first = b.first;
  counts = b.counts;
  can = b.can;
}
