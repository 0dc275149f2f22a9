-- The command table as `clap` has it.
use Rattle.std.specs.Prelude.{◌≡◌, true, false, codes}
use Rattle.clap.specs.Words.{App, Rule, Text, app_of, new_app, new_rule, with_rule, with_subcommand}
use Rattle.clap.specs.Simple.{on_top}
use Rattle.clap.specs.declared.builder.command.Command.{Command}
use Rattle.clap.specs.declared.builder.command.Command.TheViews.{out-Command as fields_of}

-- the command reads words so, and has no argument for all its subcommands
abbrev pub Parses : App → Command → Type 0
Parses app c = (app_of c ≡ app) × ((fields_of c).has_globals ≡ false)

abbrev pub needed : Text → Rule
needed id = record (new_rule id) { required = true }

abbrev pub with_one : (name : Text) → App
with_one name = with_rule (new_app name) (needed (codes "first"))

abbrev pub with_two : (name : Text) → App
with_two name = with_rule (with_one name) (needed (codes "second"))

abbrev pub with_three : (name : Text) → App
with_three name = with_rule (with_two name) (needed (codes "third"))

abbrev pub bare : App
bare = on_top (λ s. record s {
  no_binary_name = true;
  disable_help_flag = true;
  disable_version_flag = true;
  disable_help_subcommand = true;
  subcommand_required = true;
}) (new_app (codes "cdcc"))

abbrev pub tool : App
tool =
    let runs = with_subcommand bare (with_three (codes "run")).top in
    let checks = with_subcommand runs (with_one (codes "check")).top in
    let marks = with_subcommand checks (with_one (codes "marks")).top in
    let lists = with_subcommand marks (with_one (codes "code")).top in
    let evaluates = with_subcommand lists (with_two (codes "seq")).top in
    with_subcommand evaluates (with_one (codes "bench")).top
