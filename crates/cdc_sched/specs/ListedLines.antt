-- The next line that gives events.
use Rattle.std.specs.Prelude.{◌≡◌, ℕ, ◌+◌, ◌-◌, ◌<◌, ◌≤◌, List, [], ◌++◌, length, drop, Option, Some, None, Result, Ok, Err}
use Rattle.std.specs.Str.Lines.{lines}
use Rattle.cdc_sched.specs.declared.listed_line.ListedLine.{ListedLine}
use Rattle.cdc_sched.specs.Events.{repeated, listed, bad_line, processor}

-- the line gives the first events of the bytes, and those of what is left follow
pub record IsNextListed (procs : ℕ) (bytes : List ℕ) (above : ℕ) (line : ListedLine) : Type 0 where
  pub events : listed procs (lines bytes) ≡ repeated line.repeated ++ listed procs (lines line.after.now)
  pub bad : bad_line procs above (lines bytes) ≡ bad_line procs line.above (lines line.after.now)
  pub back : line.after.now ≡ drop (length bytes - length line.after.now) bytes
  pub some : 1 ≤ line.repeated.count
  pub below : processor line.repeated.event < procs
  pub size : line.above + length line.after.now ≤ above + length bytes
  pub less : length line.after.now < length bytes

-- there are no events, and the bad line is this one, if any
pub record HasNoEvents (procs : ℕ) (bytes : List ℕ) (above : ℕ) (bad : Option ℕ) : Type 0 where
  pub events : listed procs (lines bytes) ≡ []
  pub bad_is : bad_line procs above (lines bytes) ≡ bad

abbrev pub NextListed : ℕ → List ℕ → ℕ → Result (Option ListedLine) ℕ → Type 0
NextListed procs bytes above (Ok (Some line)) = IsNextListed procs bytes above line
NextListed procs bytes above (Ok None) = HasNoEvents procs bytes above None
NextListed procs bytes above (Err bad) = HasNoEvents procs bytes above (Some bad)
