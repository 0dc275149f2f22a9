use Rattle.std.proofs.Common.{rules}
use Rattle.cdc_prog.specs.Translation.{exprs_of}
use Rattle.cdc_section.proofs.Named.{named_of}
use Rattle.cdc_section.proofs.sections.section_of.Goals as goal

pub returns-clause-named : goal.returns-clause-named
returns-clause-named c = named_of c.triplets.result c.args.scope.now (exprs_of c.args.subs.now) c.args.dims.now (search rules)
