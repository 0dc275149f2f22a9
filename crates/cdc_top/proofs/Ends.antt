-- How a call of the tool ends.
use Rattle.std.proofs.Common.{◌≡◌, ℕ, suc, ◌<◌, List, [], length, refl, sym, ◌∙◌, subst, arith, inl, inr}
use Rattle.std.specs.Prelude.{Option, Some, None, Result, Ok, Err, IsErrOf, replicate}
use Rattle.std.proofs.lemmas.List.{length-replicate}
use Rattle.cdc_base.specs.Outside.{IsWhole, IsLong}
use Rattle.cdc_base.specs.Causes.{Rose}
use Rattle.cdc_base.specs.declared.outside.ReadRefusal.{ReadRefusal}
use Rattle.cdc_base.specs.declared.outside.ReadRefusal.TheVariants.{Failed, TooLong}
use Rattle.cdc_top.specs.Answer.{usage_text, Command, Run, Ask, Seq, Usage, ToolEnded, Files, Said, Ended, IsTold, InputFailed, IsRefusedWith, SaidOneOf}
use Rattle.cdc_top.specs.Report.{Answer, answer}
use Rattle.cdc_check.specs.declared.refusal.CheckRefusal.TheVariants.{TooMany}
use Rattle.cdc_compile.specs.declared.refusal.Refusal.TheVariants.{Check}
use Rattle.cdc_compile.specs.Texts.{refusal_text}
use Rattle.cdc_prog.specs.declared.program.Kind.TheVariants as k
use Rattle.cdc_prog.specs.Limits.{limit}
use Rattle.cdc_top.specs.declared.status.TheConstants.{PROGRAM_REFUSED, OUT_OF_MEMORY}

-- more bytes than a limit
pub long_bytes : ℕ → List ℕ
long_bytes limit = replicate (suc limit) 0

pub long_bytes_long : (limit : ℕ) → limit < length (long_bytes limit)
unfolding long_bytes
long_bytes_long limit = let count : length (replicate (suc limit) 0) ≡ suc limit = length-replicate {A = ℕ} (suc limit) 0 in omega (arith, count)

-- the bytes of a file that was not read
abbrev pub unread : Option (List ℕ) → List ℕ
unread None = []
unread (Some told) = told

pub unread_told : (o : Option (List ℕ)) → IsTold o (unread o)
unread_told None = tt
unread_told (Some told) = refl

-- the bytes of a file that is too long
abbrev pub too_long : ℕ → Option (List ℕ) → List ℕ
too_long limit None = long_bytes limit
too_long limit (Some told) = told

pub too_long_told : (limit : ℕ) (o : Option (List ℕ)) → IsTold o (too_long limit o)
too_long_told limit None = tt
too_long_told limit (Some told) = refl

pub too_long_long : (limit : ℕ) (o : Option (List ℕ)) → IsLong o limit → limit < length (too_long limit o)
too_long_long limit None long = long_bytes_long limit
too_long_long limit (Some told) long = long

pub whole_told : (limit : ℕ) (o : Option (List ℕ)) (bytes : List ℕ) → IsWhole o limit bytes → IsTold o bytes
whole_told limit None bytes whole = tt
whole_told limit (Some told) bytes whole = whole.0

-- nothing was written for want of memory
pub ended_nothing : {A : Files → Type 0} {X O : Files → Answer → Type 0} {F : Files → Type 0} (files : Files) (status : ℕ) (old new : Option (List ℕ)) (before now : List ℕ → ℕ) (sink_before sink_now : ℕ)
    → A files → (status ≡ OUT_OF_MEMORY) × (new ≡ old) × (sink_now ≡ sink_before) → Ended A X O F status old new before now sink_before sink_now
ended_nothing files status old new before now sink_before sink_now told memory = record {
  files = files;
  told = told;
  whole = λ finished. absurd (finished.2 memory.0);
  part = λ six. absurd (cc (six, memory.0));
  nothing = λ _. memory.1;
  read_fault = λ five. absurd (cc (five, memory.0));
  write_fault = λ six. absurd (cc (six, memory.0));
  quiet = λ finished. absurd (finished.2 memory.0);
}

module _ {A : Files → Type 0} {X O : Files → Answer → Type 0} {F : Files → Type 0} (files : Files) (told : A files) (old : Option (List ℕ)) (before now : List ℕ → ℕ) (sink : ℕ) where
  -- want of memory
  pub ended_memory : Ended A X O F 7 old old before now sink sink
  ended_memory = ended_nothing files 7 old old before now sink sink told (refl, refl, refl)

  -- a fault of a file
  pub ended_read : F files → Ended A X O F 5 old old before now sink sink
  ended_read failed = record {
    files = files;
    told = told;
    whole = λ finished. absurd (finished.0 refl);
    part = λ six. absurd (cc six);
    nothing = λ _. refl;
    read_fault = λ _. failed;
    write_fault = λ six. absurd (cc six);
    quiet = λ finished. absurd (finished.0 refl);
  }

-- an answer was said
pub ended_said : {A : Files → Type 0} {X O : Files → Answer → Type 0} {F : Files → Type 0} (files : Files) (a : Answer) (status : ℕ) (old new : Option (List ℕ)) (before now : List ℕ → ℕ) (sink_before sink_now : ℕ)
    → A files → X files a → O files a → ((name : List ℕ) → now name ≡ before name) → Said a status old new sink_before sink_now → Ended A X O F status old new before now sink_before sink_now
ended_said files a status old new before now sink_before sink_now told is only same said = record {
  files = files;
  told = told;
  whole = λ finished. let done = said.whole finished in (a, is, only, done.0, done.1);
  part = λ six. (a, is, (said.part six).0);
  nothing = λ which. elim which [ inl five ↦ absurd (said.reads five) | inr seven ↦ said.memory seven ];
  read_fault = λ five. absurd (said.reads five);
  write_fault = λ six. (said.part six).1;
  quiet = λ finished. (same, (said.whole finished).2);
}

-- one more file was read before
pub ended_behind : {A B : Files → Type 0} {X O Y P : Files → Answer → Type 0} {F G : Files → Type 0} (wide : Files → Files) (status : ℕ) (old new : Option (List ℕ)) (before mid now : List ℕ → ℕ) (sink_before sink_now : ℕ)
    → ((f : Files) → A f → B (wide f)) → ((f : Files) (a : Answer) → X f a → Y (wide f) a) → ((f : Files) (a : Answer) → O f a → P (wide f) a) → ((f : Files) → F f → G (wide f)) → ((name : List ℕ) → mid name ≡ before name)
    → Ended A X O F status old new mid now sink_before sink_now → Ended B Y P G status old new before now sink_before sink_now
ended_behind wide status old new before mid now sink_before sink_now told to only failed same ended = record {
  files = wide ended.files;
  told = told ended.files ended.told;
  whole = λ finished. let w = ended.whole finished in (w.0, to ended.files w.0 w.1, only ended.files w.0 w.2, w.3, w.4);
  part = λ six. let p = ended.part six in (p.0, to ended.files p.0 p.1, p.2);
  nothing = ended.nothing;
  read_fault = λ five. failed ended.files (ended.read_fault five);
  write_fault = ended.write_fault;
  quiet = λ finished. let q = ended.quiet finished in (λ name. q.0 name ∙ same name, q.1);
}

abbrev pub with_input : List ℕ → Files
with_input bytes = record { program = []; input = bytes; schedule = [] }

abbrev pub with_schedule : List ℕ → Files
with_schedule bytes = record { program = []; input = []; schedule = bytes }

-- a count that rose behind an untouched one rose
pub failed_before : (input schedule : List ℕ) (files : Files) (before mid now : List ℕ → ℕ) → ((name : List ℕ) → mid name ≡ before name) → InputFailed input schedule files mid now → InputFailed input schedule files before now
failed_before input schedule files before mid now same failed = elim failed [
  | inl rose ↦ inl (subst (λ k. Rose k (now input)) (same input) rose)
  | inr rose ↦ inr (rose.0, subst (λ k. Rose k (now schedule)) (same schedule) rose.1)
]

-- words that are no command are answered by the usage text
pub usage_ended : (command : Command) (told : List ℕ → Option (List ℕ)) (faults : List ℕ → ℕ) (status : ℕ) (old new : Option (List ℕ)) (sink_before sink_now : ℕ) → command ≡ Usage
    → Said (answer usage_text 2) status old new sink_before sink_now → ToolEnded command told status old new faults faults sink_before sink_now
usage_ended command told faults status old new sink_before sink_now is said =
    subst (λ (c : Command). ToolEnded c told status old new faults faults sink_before sink_now) (sym is)
    (ended_said (with_schedule []) (answer usage_text 2) status old new faults faults sink_before sink_now tt refl (λ b same. same) (λ name. refl) said)

-- for want of memory the words are not read
pub memory_ended : (command : Command) (told : List ℕ → Option (List ℕ)) (faults : List ℕ → ℕ) (old : Option (List ℕ)) (sink : ℕ) → ToolEnded command told 7 old old faults faults sink sink
memory_ended (Run program input schedule) told faults old sink =
    ended_memory (record { program = unread (told program); input = unread (told input); schedule = unread (told schedule) })
    (unread_told (told program), unread_told (told input), unread_told (told schedule)) old faults faults sink
memory_ended (Ask question program) told faults old sink =
    ended_memory (record { program = unread (told program); input = []; schedule = [] }) (unread_told (told program)) old faults faults sink
memory_ended (Seq program input) told faults old sink =
    ended_memory (record { program = unread (told program); input = unread (told input); schedule = [] }) (unread_told (told program), unread_told (told input)) old faults faults sink
memory_ended Usage told faults old sink = ended_memory (with_schedule []) tt old faults faults sink

-- a program of too many bytes is refused
pub source_too_long : (bytes : List ℕ) → limit k.Source < length bytes → IsRefusedWith bytes (answer (refusal_text (Check (TooMany k.Source))) PROGRAM_REFUSED)
source_too_long bytes long = (Check (TooMany k.Source), (λ e. absurd (cc e)), long, refl)

-- one of the answers was said
pub ended_one_of : {A : Files → Type 0} {X O : Files → Answer → Type 0} {F : Files → Type 0} (files : Files) (status : ℕ) (old new : Option (List ℕ)) (before now : List ℕ → ℕ) (sink_before sink_now : ℕ)
    → A files → ((a : Answer) → X files a → O files a) → ((name : List ℕ) → now name ≡ before name) → SaidOneOf (X files) status old new sink_before sink_now
    → Ended A X O F status old new before now sink_before sink_now
ended_one_of files status old new before now sink_before sink_now told only same said = elim said [
  | inl memory ↦ ended_nothing files status old new before now sink_before sink_now told memory
  | inr answered ↦ ended_said files answered.0 status old new before now sink_before sink_now told answered.1 (only answered.0 answered.1) same answered.2
]

-- one of some answers was said, which are answers here
pub ended_answers : {A : Files → Type 0} {X O : Files → Answer → Type 0} {Y : Answer → Type 0} {F : Files → Type 0} (files : Files) (status : ℕ) (old new : Option (List ℕ)) (before now : List ℕ → ℕ) (sink_before sink_now : ℕ)
    → A files → ((a : Answer) → Y a → X files a) → ((a : Answer) → X files a → O files a) → ((name : List ℕ) → now name ≡ before name) → SaidOneOf Y status old new sink_before sink_now
    → Ended A X O F status old new before now sink_before sink_now
ended_answers files status old new before now sink_before sink_now told to only same said = elim said [
  | inl memory ↦ ended_nothing files status old new before now sink_before sink_now told memory
  | inr answered ↦ ended_said files answered.0 status old new before now sink_before sink_now told (to answered.0 answered.1) (only answered.0 (to answered.0 answered.1)) same answered.2
]

-- too long is not failed
pub not_failed : {T : Type 0} (r : Result T ReadRefusal) → IsErrOf r TooLong → IsErrOf r Failed → ⊥
not_failed (Ok x) long failed = absurd (cc long)
not_failed (Err r) long failed = cc (long, failed)
