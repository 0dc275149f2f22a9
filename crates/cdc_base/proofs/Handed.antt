-- A piece for which there was no room, also after the sink was handed what waited.
use Rattle.std.proofs.Common.{◌≡◌, ℕ, List, [], ◌++◌, ◌∙◌, ap, append-nil}
use Rattle.std.specs.Prelude.{Option, Result, Ok, Err, OnOk, OnErr}
use Rattle.cdc_base.specs.Gathered.{HandsOn}
use Rattle.cdc_base.specs.Outside.{grown, GrewInPart}
use Rattle.cdc_base.proofs.Grown.{grown-grown, grew_behind}

module _ {E : Type 0} (before mid now : Option (List ℕ)) (waited piece rest : List ℕ) (flushed : mid ≡ grown before waited) where
  pub all_handed : (r : Result (Unit {0}) E) → rest ≡ [] → OnOk r (now ≡ grown mid piece) → OnOk r (HandsOn before now (waited ++ piece) rest)
  all_handed (Ok u) none took = record {
    front = waited ++ piece;
    took = took ∙ ap (λ o. grown o piece) flushed ∙ grown-grown before waited piece;
    split = ap (λ (r : List ℕ). (waited ++ piece) ++ r) none ∙ append-nil (waited ++ piece);
  }
  all_handed (Err e) none took = tt

  pub part_handed : (r : Result (Unit {0}) E) → OnErr r (GrewInPart mid now piece) → OnErr r (GrewInPart before now (waited ++ piece))
  part_handed (Ok u) took = tt
  part_handed (Err e) took = grew_behind before mid now waited piece flushed took
