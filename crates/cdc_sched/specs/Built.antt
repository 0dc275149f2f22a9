-- The schemes that `run` carries out so far.
use Rattle.std.specs.Prelude.{Bool, true, false}
use Rattle.cdc_sched.specs.declared.header.SchemeName.{SchemeName}
use Rattle.cdc_sched.specs.declared.header.SchemeName.TheVariants.{Direct, Si, Vc, Tpi}

-- The line of any other scheme does not fit yet.
abbrev pub is_built : SchemeName → Bool
is_built Direct = true
is_built Si = false
is_built Vc = false
is_built Tpi = false
