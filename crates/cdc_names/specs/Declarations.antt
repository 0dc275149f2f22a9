-- The names that statements declare, in order.
use Rattle.std.specs.Prelude.{List, [], map, option_map, Option, Some, None}
use Rattle.std.specs.Option.{option_copied}
use Rattle.cdc_tree.specs.declared.tree.Named.{Named}
use Rattle.cdc_tree.specs.Plain.{Plain, plain}
use Rattle.cdc_tree.specs.Forms.{PBound, PDeclared, PDefine, PStatement, PForm, FInteger, FParameter, bound}
use Rattle.cdc_names.specs.declared.declaration.Declaration.{Declaration}
use Rattle.cdc_names.specs.Places.{joined}

-- a variable with its bounds, or a PARAMETER with its value
pub record Declares : Type 0 where
  pub named : Named
  pub bounds : List PBound
  pub value : Option Plain

abbrev pub declares : Named → List PBound → Option Plain → Declares
declares named bounds value = record { named = named; bounds = bounds; value = value }

abbrev pub variable : PDeclared → Declares
variable d = declares d.0 d.1 None

abbrev pub parameter : PDefine → Declares
parameter d = declares d.0 [] (Some d.1)

abbrev pub declared_by : PForm → List Declares
declared_by (FInteger items) = map variable items
declared_by (FParameter items) = map parameter items
declared_by _ = []

abbrev pub declared_in : List PStatement → List Declares
declared_in statements = joined (map (λ s. declared_by s.form) statements)

-- a declared name without pointers
abbrev pub plain_declaration : Declaration → Declares
plain_declaration d = declares d.named.now (map bound d.bounds.now) (option_map plain (option_copied d.value))
