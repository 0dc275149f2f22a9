-- Bytes that wait for a sink.
use Rattle.std.specs.Prelude.{◌≡◌, ℕ, List, ◌++◌, Option}
use Rattle.cdc_base.specs.Outside.{grown}
use Rattle.cdc_base.specs.declared.gathered.Gathered.{Gathered}

-- the bytes that stand behind what the sink took
abbrev pub waiting : Gathered → List ℕ
waiting g = g.held.items

-- of these bytes the sink took a front, and the rest waits
pub record HandsOn (before now : Option (List ℕ)) (bytes rest : List ℕ) : Type 0 where
  pub front : List ℕ
  pub took : now ≡ grown before front
  pub split : front ++ rest ≡ bytes
