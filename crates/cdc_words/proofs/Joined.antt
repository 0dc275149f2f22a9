-- A command with one more subcommand.
use Rattle.std.proofs.Common.{◌∙◌, ap₂, Bool, ◌||◌}
use Rattle.clap.specs.Words.{App, AddsSubcommand, with_subcommand}
use Rattle.clap.specs.declared.builder.command.Command.{Command}
use Rattle.cdc_words.specs.Parser.{Parses}

pub joined : (a b : App) (old sub new : Command) → Parses a old → Parses b sub → AddsSubcommand old sub new → Parses (with_subcommand a b.top) new
joined a b old sub new is_a is_b added = (
  added.shape is_b.1 ∙ ap₂ (λ (x : App) (y : App). with_subcommand x y.top) is_a.0 is_b.0,
  added.globals ∙ ap₂ (λ (x y : Bool). x || y) is_a.1 is_b.1,
)
