-- A use of a name.
use Rattle.std.specs.Prelude.{ℕ, List}
use Rattle.cdc_base.specs.declared.place.Place.{Place}
use Rattle.cdc_tree.specs.declared.tree.Named.{Named}
use Rattle.cdc_names.specs.declared.name_use.Role.{Role}

pub record Used : Type 0 where
  pub name : List ℕ
  pub place : Place
  pub role : Role
  pub subs : ℕ

abbrev pub seen : List ℕ → Place → Role → ℕ → Used
seen name place role subs = record { name = name; place = place; role = role; subs = subs }

abbrev pub used : Named → Role → ℕ → Used
used n role subs = seen n.name n.place role subs
