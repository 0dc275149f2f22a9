-- What the matches of `clap` ask for.
use Rattle.std.specs.Prelude.{List, Option, Some, None, option_and_then, codes, if◌then◌else◌}
use Rattle.std.specs.Str.{bytes_eq}
use Rattle.clap.specs.Words.{Row, Text, first_of}
use Rattle.cdc_words.specs.declared.command.Command.{Command as ReadCommand}
use Rattle.cdc_words.specs.declared.command.Command.TheVariants as read
use Rattle.cdc_words.specs.Commands.{Command, Run, Check, Marks, Code, Seq, Bench, scaled}

-- the command that words were read as, without its references
abbrev pub chosen : ReadCommand → Command
chosen (read.Run program input schedule) = Run program.now input.now schedule.now
chosen (read.Check program) = Check program.now
chosen (read.Marks program) = Marks program.now
chosen (read.Code program) = Code program.now
chosen (read.Seq program input) = Seq program.now input.now
chosen (read.Bench scale) = Bench scale

-- with the second and the third word, where they are there
abbrev pub with_second : List Row → (Text → Option Command) → Option Command
with_second rows command = option_and_then command (first_of (codes "second") rows)

abbrev pub with_third : List Row → (Text → Option Command) → Option Command
with_third rows command = option_and_then command (first_of (codes "third") rows)

-- what the subcommand and its first word ask for
abbrev pub with_first : Text → List Row → Text → Option Command
with_first verb rows first =
    if bytes_eq verb (codes "run") then with_second rows (λ second. with_third rows (λ third. Some (Run first second third)))
    else if bytes_eq verb (codes "check") then Some (Check first)
    else if bytes_eq verb (codes "marks") then Some (Marks first)
    else if bytes_eq verb (codes "code") then Some (Code first)
    else if bytes_eq verb (codes "seq") then with_second rows (λ second. Some (Seq first second))
    else if bytes_eq verb (codes "bench") then scaled first
    else None

abbrev pub command_in : Option (Text × List Row) → Option Command
command_in matched = option_and_then (λ m. option_and_then (with_first m.0 m.1) (first_of (codes "first") m.1)) matched
