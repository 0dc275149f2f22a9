-- The words that `clap` takes are those of a line of the command table, and its matches ask for what that line asks for.
use Rattle.std.proofs.Common.{◌≡◌, ◌∙◌, ◌⊎◌, ◌&&◌, inl, inr, Bool, true, false, cond, refl, sym, ap, ap₂, subst, List, [], ◌∷◌, Option, Some, None, true≢false}
use Rattle.std.specs.Prelude.{codes, option_map, option_and_then, find}
use Rattle.std.specs.List.{list_all}
use Rattle.std.specs.Option.{is_some, option_map_or}
use Rattle.std.specs.Str.{bytes_eq}
use Rattle.clap.specs.Walk.{Held, Names, Row, Step, Text, Walk, answers_to, finished, idle, nothing_held, subcommand_or_other, value, word_met, rows_after, settled, stop_after, subcommand_met, walk, walk_from, walked}
use Rattle.clap.specs.Simple.{App, Shape, built, is_simple, label_of, entered, names_of, new_shape, subcommand_of}
use Rattle.clap.specs.Kinds.{Kinds, or_else}
use Rattle.clap.specs.Faults.{check_fault, defaults_fault, entered_fault, fault_of, is_simple_and_free, other_fault, settle_fault, step_fault, turn_fault, walk_fault, word_fault}
use Rattle.clap.specs.declared.error.kind.ErrorKind.{ErrorKind}
use Rattle.clap.specs.declared.error.kind.ErrorKind.TheVariants.{UnknownArgument, InvalidSubcommand, MissingRequiredArgument, MissingSubcommand}
use Rattle.std.proofs.lemmas.Slice.Eq.{bytes_eq-Decides}
use Rattle.clap.proofs.OnLiterals.{clap_on_literals}
use Rattle.clap.proofs.WalkLemmas.{walk_stopped}
use Rattle.clap.proofs.FaultLemmas.{stopped_fault}
use Rattle.cdc_words.specs.Commands.{Asks, Command, one, two, three, Run, Check, Marks, Code, Seq, is_word, command_of, scaled, table}
use Rattle.cdc_words.specs.Matched.{command_in}
use Rattle.cdc_words.specs.Parser.{tool}
use Rattle.cdc_words.proofs.Plain.{fault_in, met_plain, unflagged}
use Rattle.cdc_words.proofs.Lines.{leaf, row, first, second, third, rules1, rules2, rules3, none_of_one, none_of_two, none_of_three, one_of_one, one_of_two, one_of_three}
use Rattle.cdc_words.proofs.Lines.{two_of_one, two_of_two, two_of_three, three_of_two, three_of_three, four_of_three, rows_of_one, rows_of_two, rows_of_three}

-- the whole command, built
abbrev top : Shape
top = record (new_shape (codes "cdcc")) {
  is_leaf = false;
  no_binary_name = true;
  disable_help_flag = true;
  disable_help_subcommand = true;
  disable_version_flag = true;
  subcommand_required = true;
  is_built = true;
}

abbrev subs : List Shape
subs = leaf (codes "run") rules3 ∷ leaf (codes "check") rules1 ∷ leaf (codes "marks") rules1 ∷ leaf (codes "code") rules1
    ∷ leaf (codes "seq") rules2 ∷ leaf (codes "bench") rules1 ∷ []

abbrev whole : App
whole = record { top = top; subs = subs }

is_whole : built tool ≡ whole
unfolding clap_on_literals
is_whole = refl

pub is_read_exactly : is_simple_and_free tool ≡ true
unfolding clap_on_literals
is_read_exactly = refl

pub is_read : is_simple tool ≡ true
unfolding clap_on_literals
is_read = refl

abbrev names : Names
names = names_of whole

abbrev start : Walk
start = walk_from nothing_held

abbrev met : Text → List Text → Walk
met verb ws = record start { stopped = Some (verb, ws) }

or_none : (kinds : Kinds) → or_else kinds [] ≡ kinds
or_none [] = refl
or_none (k ∷ ks) = refl

-- the fault of a walk that ended so
abbrev fault_from : Walk → Kinds → Kinds
fault_from w fault = or_else fault (or_else (entered_fault whole w.stopped)
    (or_else (settle_fault [] false w.held)
    (or_else (defaults_fault (settled [] w.held).rows [])
    (check_fault top (finished [] w.held) (is_some (entered whole w.stopped))))))

-- the words behind a known subcommand are read by it
module _ (verb : Text) (s : Shape) (ws : List Text) (first : walked [] names start verb ≡ met verb []) (turn : turn_fault top names start verb ≡ [])
    (found : find (λ s. answers_to verb (label_of s)) subs ≡ Some s) where
  walks : walk [] names nothing_held (verb ∷ ws) ≡ met verb ws
  walks = ap (λ (w : Walk). Rattle.std.specs.List.fold (walked [] names) w ws) first ∙ sym (walk_stopped [] names start verb [] ws)

  no_fault : walk_fault top names start (verb ∷ ws) ≡ []
  unfolding walk_fault
  no_fault = ap₂ (λ (k : Kinds) (w : Walk). or_else k (walk_fault top names w ws)) turn first ∙ stopped_fault top names start (verb, []) ws

  enters : entered whole (Some (verb, ws)) ≡ Some (s.name, rows_after s.rules [] ws)
  enters = ap (option_map (λ (s : Shape). (s.name, rows_after s.rules [] ws))) found

  abbrev fault_below : Option Shape → Kinds
  fault_below o = or_else (option_map_or (λ (s : Shape). fault_in s ws) o [])
      (check_fault top [] (is_some {T = Text × List Row} (option_map (λ (s : Shape). (s.name, rows_after s.rules [] ws)) o)))

  pub fault_is : fault_of tool (verb ∷ ws) ≡ fault_in s ws
  unfolding clap_on_literals
  fault_is = ap₂ fault_from walks no_fault ∙ ap fault_below found ∙ or_none (fault_in s ws)

  pub matches_are : subcommand_of tool (verb ∷ ws) ≡ Some (s.name, rows_after s.rules [] ws)
  matches_are = ap (λ (a : App). entered a (stop_after a.top.rules (names_of a) (verb ∷ ws))) is_whole ∙ ap (λ (w : Walk). entered whole w.stopped) walks ∙ enters

-- The words are taken, and ask for the command; or they are refused, and there is none.
pub record IsTaken (words : List Text) : Type 0 where
  pub no_fault : fault_of tool words ≡ []
  pub asks : command_in (subcommand_of tool words) ≡ command_of words

pub record IsRefused (words : List Text) : Type 0 where
  pub fault : fault_of tool words ≡ [] → ⊥
  pub none : command_of words ≡ None

abbrev IsRead : List Text → Type 0
IsRead words = IsTaken words ⊎ IsRefused words

fault_there : (k : ErrorKind) (ks : Kinds) → k ∷ ks ≡ [] → ⊥
fault_there k ks e = cc e

read_none : IsRead []
unfolding clap_on_literals
read_none = inr (record { fault = fault_there MissingSubcommand []; none = refl })

-- a line of the table, by its first word
record IsLine (verb : Text) (s : Shape) (line : Asks) : Type 0 where
  first : walked [] names start verb ≡ met verb []
  turn : turn_fault top names start verb ≡ []
  found : find (λ s. answers_to verb (label_of s)) subs ≡ Some s
  command : (ws : List Text) → command_of (verb ∷ ws) ≡ cond (list_all is_word ws) (line ws) None

module _ (verb : Text) (s : Shape) (line : Asks) (is : IsLine verb s line) (ws : List Text) (plain : list_all is_word ws ≡ true) where
  line_is : command_of (verb ∷ ws) ≡ line ws
  line_is = is.command ws ∙ ap (λ (t : Bool). cond t (line ws) None) plain

  taken : (rows : List Row) → fault_in s ws ≡ [] → rows_after s.rules [] ws ≡ rows → command_in (Some (s.name, rows)) ≡ line ws → IsRead (verb ∷ ws)
  taken rows good rows_are asks = inl (record {
    no_fault = fault_is verb s ws is.first is.turn is.found ∙ good;
    asks = ap command_in (matches_are verb s ws is.first is.turn is.found ∙ ap (λ rs. Some (s.name, rs)) rows_are) ∙ asks ∙ sym line_is;
  })

  refused : (k : ErrorKind) → fault_in s ws ≡ k ∷ [] → line ws ≡ None → IsRead (verb ∷ ws)
  refused k bad none = inr (record {
    fault = λ e. fault_there k [] (sym (fault_is verb s ws is.first is.turn is.found ∙ bad) ∙ e);
    none = line_is ∙ none;
  })

both : (a b : Bool) → (a && b) ≡ true → (a ≡ true) × (b ≡ true)
both true b e = (refl, e)
both false b e = absurd (true≢false (sym e))

-- a line with one word behind the first
read_one : (verb : Text) (command : Text → Option Command) → IsLine verb (leaf verb rules1) (one command) → ((a : Text) → command_in (Some (verb, row first a ∷ [])) ≡ command a)
    → (ws : List Text) → list_all is_word ws ≡ true → IsRead (verb ∷ ws)
read_one verb command is asks [] plain = refused verb _ (one command) is [] plain MissingRequiredArgument (none_of_one verb) refl
read_one verb command is asks (a ∷ []) plain =
    let p = both _ _ plain in taken verb _ (one command) is (a ∷ []) plain (row first a ∷ []) (one_of_one verb a p.0) (rows_of_one verb a p.0) (asks a)
read_one verb command is asks (a ∷ b ∷ ws) plain =
    let p = both _ _ plain in
    let q = both _ _ p.1 in refused verb _ (one command) is (a ∷ b ∷ ws) plain UnknownArgument (two_of_one verb a p.0 b q.0 ws) refl

-- with two
read_two : (verb : Text) (command : Text → Text → Command) → IsLine verb (leaf verb rules2) (two command)
    → ((a b : Text) → command_in (Some (verb, row first a ∷ row second b ∷ [])) ≡ Some (command a b))
    → (ws : List Text) → list_all is_word ws ≡ true → IsRead (verb ∷ ws)
read_two verb command is asks [] plain = refused verb _ (two command) is [] plain MissingRequiredArgument (none_of_two verb) refl
read_two verb command is asks (a ∷ []) plain =
    let p = both _ _ plain in refused verb _ (two command) is (a ∷ []) plain MissingRequiredArgument (one_of_two verb a p.0) refl
read_two verb command is asks (a ∷ b ∷ []) plain =
    let p = both _ _ plain in
    let q = both _ _ p.1 in
    taken verb _ (two command) is (a ∷ b ∷ []) plain (row first a ∷ row second b ∷ []) (two_of_two verb a p.0 b q.0) (rows_of_two verb a p.0 b q.0) (asks a b)
read_two verb command is asks (a ∷ b ∷ c ∷ ws) plain =
    let p = both _ _ plain in
    let q = both _ _ p.1 in
    let r = both _ _ q.1 in refused verb _ (two command) is (a ∷ b ∷ c ∷ ws) plain UnknownArgument (three_of_two verb a p.0 b q.0 c r.0 ws) refl

-- with three
read_three : (verb : Text) (command : Text → Text → Text → Command) → IsLine verb (leaf verb rules3) (three command)
    → ((a b c : Text) → command_in (Some (verb, row first a ∷ row second b ∷ row third c ∷ [])) ≡ Some (command a b c))
    → (ws : List Text) → list_all is_word ws ≡ true → IsRead (verb ∷ ws)
read_three verb command is asks [] plain = refused verb _ (three command) is [] plain MissingRequiredArgument (none_of_three verb) refl
read_three verb command is asks (a ∷ []) plain =
    let p = both _ _ plain in refused verb _ (three command) is (a ∷ []) plain MissingRequiredArgument (one_of_three verb a p.0) refl
read_three verb command is asks (a ∷ b ∷ []) plain =
    let p = both _ _ plain in
    let q = both _ _ p.1 in refused verb _ (three command) is (a ∷ b ∷ []) plain MissingRequiredArgument (two_of_three verb a p.0 b q.0) refl
read_three verb command is asks (a ∷ b ∷ c ∷ []) plain =
    let p = both _ _ plain in
    let q = both _ _ p.1 in
    let r = both _ _ q.1 in
    taken verb _ (three command) is (a ∷ b ∷ c ∷ []) plain (row first a ∷ row second b ∷ row third c ∷ []) (three_of_three verb a p.0 b q.0 c r.0)
    (rows_of_three verb a p.0 b q.0 c r.0) (asks a b c)
read_three verb command is asks (a ∷ b ∷ c ∷ d ∷ ws) plain =
    let p = both _ _ plain in
    let q = both _ _ p.1 in
    let r = both _ _ q.1 in
    let u = both _ _ r.1 in refused verb _ (three command) is (a ∷ b ∷ c ∷ d ∷ ws) plain UnknownArgument (four_of_three verb a p.0 b q.0 c r.0 d ws u.0) refl

-- the six lines
run_line : IsLine (codes "run") (leaf (codes "run") rules3) (three Run)
unfolding clap_on_literals
run_line = record { first = refl; turn = refl; found = refl; command = λ ws. refl }

check_line : IsLine (codes "check") (leaf (codes "check") rules1) (one (λ program. Some (Check program)))
unfolding clap_on_literals
check_line = record { first = refl; turn = refl; found = refl; command = λ ws. refl }

marks_line : IsLine (codes "marks") (leaf (codes "marks") rules1) (one (λ program. Some (Marks program)))
unfolding clap_on_literals
marks_line = record { first = refl; turn = refl; found = refl; command = λ ws. refl }

code_line : IsLine (codes "code") (leaf (codes "code") rules1) (one (λ program. Some (Code program)))
unfolding clap_on_literals
code_line = record { first = refl; turn = refl; found = refl; command = λ ws. refl }

seq_line : IsLine (codes "seq") (leaf (codes "seq") rules2) (two Seq)
unfolding clap_on_literals
seq_line = record { first = refl; turn = refl; found = refl; command = λ ws. refl }

bench_line : IsLine (codes "bench") (leaf (codes "bench") rules1) (one scaled)
unfolding clap_on_literals
bench_line = record { first = refl; turn = refl; found = refl; command = λ ws. refl }

-- a first word that begins no line
module _ (verb : Text) (run : bytes_eq (codes "run") verb ≡ false) (check : bytes_eq (codes "check") verb ≡ false) (marks : bytes_eq (codes "marks") verb ≡ false)
    (code : bytes_eq (codes "code") verb ≡ false) (seq : bytes_eq (codes "seq") verb ≡ false) (bench : bytes_eq (codes "bench") verb ≡ false) where
  no_line : (t : Bool) → (ws : List Text) → cond t (option_and_then (λ (line : Text × Asks). line.1 ws) (find (λ (line : Text × Asks). bytes_eq line.0 verb) table)) None ≡ None
  no_line false ws = refl
  no_line true ws = rw (run, check, marks, code, seq, bench) refl

  no_name : subcommand_met names idle verb ≡ None
  no_name = rw (run, check, marks, code, seq, bench) refl

  module _ (plain : is_word verb ≡ true) where
    no_word : word_fault top names false idle verb nothing_held ≡ []
    no_word = ap (λ o. other_fault top o verb nothing_held) no_name ∙ unflagged top verb nothing_held plain

    no_step : word_met [] names false idle 1 verb nothing_held ≡ (nothing_held, value)
    no_step = ap (λ o. subcommand_or_other [] o idle 1 verb nothing_held) no_name ∙ met_plain [] 1 verb nothing_held plain

    refuses : turn_fault top names start verb ≡ UnknownArgument ∷ InvalidSubcommand ∷ []
    refuses = ap₂ (λ (k : Kinds) (met : Held × Step). or_else k (step_fault top 1 met.0 met.1)) no_word no_step

    unknown : (ws : List Text) → fault_of tool (verb ∷ ws) ≡ UnknownArgument ∷ InvalidSubcommand ∷ []
    unfolding clap_on_literals
    unknown ws = ap (λ (k : Kinds). fault_from (walk [] names nothing_held (verb ∷ ws)) (or_else k (walk_fault top names (walked [] names start verb) ws))) refuses

    read_unknown : (ws : List Text) → IsRead (verb ∷ ws)
    read_unknown ws = inr (record {
      fault = λ e. fault_there _ _ (sym (unknown ws) ∙ e);
      none = no_line (list_all is_word (verb ∷ ws)) ws;
    })

-- a word that is the word of a line, or is not
named : (name : Text) (P : Text → Type 0) → P name → (verb : Text) → (bytes_eq name verb ≡ false → P verb) → P verb
named name P there verb other = go (bytes_eq name verb) refl
  where
    go : (t : Bool) → bytes_eq name verb ≡ t → P verb
    go true e = subst P ((bytes_eq-Decides name verb).0 e) there
    go false e = other e

pub read_words : (words : List Text) → list_all is_word words ≡ true → IsRead words
read_words [] plain = read_none
read_words (verb ∷ ws) plain =
    let p = both _ _ plain in
    let P : Text → Type 0 = λ (v : Text). IsRead (v ∷ ws) in
    named (codes "run") P (read_three _ Run run_line (λ a b c. refl) ws p.1) verb (λ run.
    named (codes "check") P (read_one _ _ check_line (λ a. refl) ws p.1) verb (λ check.
    named (codes "marks") P (read_one _ _ marks_line (λ a. refl) ws p.1) verb (λ marks.
    named (codes "code") P (read_one _ _ code_line (λ a. refl) ws p.1) verb (λ code.
    named (codes "seq") P (read_two _ Seq seq_line (λ a b. refl) ws p.1) verb (λ seq.
    named (codes "bench") P (read_one _ scaled bench_line (λ a. refl) ws p.1) verb (λ bench.
    read_unknown verb run check marks code seq bench p.0 ws))))))
