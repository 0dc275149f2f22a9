-- A run on one memory, an instruction at a time.
use Rattle.std.specs.Prelude.{◌≡◌, ℕ, zero, suc, nat_lt, if◌then◌else◌, Option, Some, None, [], refl}
use Rattle.std.proofs.Common.{ap}
use mathlib.Core.HLevel.{Σ_prop_path}
use Rattle.cdc_prog.specs.Data.{Store, put, zeros}
use Rattle.cdc_prog.specs.Input.{Input}
use Rattle.cdc_code.specs.declared.code.Code.{Code}
use Rattle.cdc_code.specs.Act.{Act, Goes, Reads, Writes, Prints, Forks, Joins, Halts, Faults, Stuck}
use Rattle.cdc_code.specs.Frames.{Kept, Frame, stands}
use Rattle.cdc_code.specs.Rows.{act, first_frame}

-- no instruction asks for the call path
abbrev pub unpathed_kept : Kept → Kept
unpathed_kept l = record l { path = [] }

abbrev pub unpathed : Frame → Frame
unpathed f = stands f.pc f.stack (unpathed_kept f.kept) f.around

abbrev pub unpathed_act : Act Frame → Act Frame
unpathed_act (Goes g) = Goes (unpathed g)
unpathed_act (Reads path site mark word next) = Reads [] site mark word (λ v. unpathed (next v))
unpathed_act (Writes path site word v g) = Writes [] site word v (unpathed g)
unpathed_act (Prints piece g) = Prints piece (unpathed g)
unpathed_act (Forks path number count from by body next) = Forks [] number count from by (λ k. unpathed (body k)) (unpathed next)
unpathed_act Joins = Joins
unpathed_act Halts = Halts
unpathed_act (Faults kind line) = Faults kind line
unpathed_act Stuck = Stuck

-- where a run stands: in a serial task; before iteration k of a fork, which has so many and goes on from a frame after them; or in iteration k
pub data Spot : Type 0 where
  Serial : (frame : Frame) → Spot
  Before : (k count : ℕ) → (body : ℕ → Frame) → (next : Frame) → Spot
  Inside : (frame : Frame) → (k count : ℕ) → (body : ℕ → Frame) → (next : Frame) → Spot

-- a spot on a store
abbrev pub Place : Type 0
Place = Spot × Store

abbrev pub serial_next : Act Frame → Store → Option Place
serial_next (Goes g) s = Some (Serial g, s)
serial_next (Reads path site mark word next) s = Some (Serial (next (s word)), s)
serial_next (Writes path site word v g) s = Some (Serial g, put s word v)
serial_next (Prints piece g) s = Some (Serial g, s)
serial_next (Forks path number count from by body next) s = Some (Before 0 count body next, s)
serial_next a s = None

-- each iteration is over with its join; and so it would be with a fork or a halt
abbrev pub inside_next : Act Frame → (k count : ℕ) → (body : ℕ → Frame) → (next : Frame) → Store → Option Place
inside_next (Goes g) k count body next s = Some (Inside g k count body next, s)
inside_next (Reads path site mark word reads) k count body next s = Some (Inside (reads (s word)) k count body next, s)
inside_next (Writes path site word v g) k count body next s = Some (Inside g k count body next, put s word v)
inside_next (Prints piece g) k count body next s = Some (Inside g k count body next, s)
inside_next (Faults kind line) k count body next s = None
inside_next Stuck k count body next s = None
inside_next a k count body next s = Some (Before (suc k) count body next, s)

-- what follows on one memory, if the run goes on
abbrev pub next_place : Code → Place → Option Place
next_place code (Serial f, s) = serial_next (unpathed_act (act code f)) s
next_place code (Before k count body next, s) = if nat_lt k count then Some (Inside (body k) k count body next, s) else Some (Serial next, s)
next_place code (Inside f k count body next, s) = inside_next (unpathed_act (act code f)) k count body next s

-- the run ends after exactly n more
abbrev pub EndsIn : Code → (n : ℕ) → Option Place → Type 0
EndsIn code zero None = Unit {0}
EndsIn code zero (Some p) = ⊥
EndsIn code (suc n) None = ⊥
EndsIn code (suc n) (Some p) = EndsIn code n (next_place code p)

abbrev pub Lasts : Code → (n : ℕ) → Place → Type 0
Lasts code n p = EndsIn code n (next_place code p)

-- the one-memory run ends
abbrev pub Ends : Code → Input → Type 0
Ends code records = (n : ℕ) × Lasts code n (Serial (first_frame code records), zeros)

-- ---- how much is left is one number
as_many : (code : Code) (n m : ℕ) (o : Option Place) → EndsIn code n o → EndsIn code m o → n ≡ m
as_many code zero zero o e f = refl
as_many code zero (suc m) None e f = absurd f
as_many code zero (suc m) (Some p) e f = absurd e
as_many code (suc n) zero None e f = absurd e
as_many code (suc n) zero (Some p) e f = absurd f
as_many code (suc n) (suc m) None e f = absurd e
as_many code (suc n) (suc m) (Some p) e f = ap suc (as_many code n m (next_place code p) e f)

is_prop : (code : Code) (n : ℕ) (o : Option Place) → IsProp (EndsIn code n o)
is_prop code zero None = λ x y. refl
is_prop code zero (Some p) = λ x y. absurd x
is_prop code (suc n) None = λ x y. absurd x
is_prop code (suc n) (Some p) = is_prop code n (next_place code p)

pub ends_prop : (code : Code) (records : Input) → IsProp (Ends code records)
ends_prop code records =
    let o = next_place code (Serial (first_frame code records), zeros) in
    λ x y. Σ_prop_path (λ n. is_prop code n o) (as_many code x.0 y.0 o x.1 y.1)

-- how much is left, of at most so much
abbrev pub remaining_of : Code → (most : ℕ) → Option Place → ℕ
remaining_of code zero o = 0
remaining_of code (suc n) None = 0
remaining_of code (suc n) (Some p) = suc (remaining_of code n (next_place code p))

abbrev pub remaining : Code → (most : ℕ) → Place → ℕ
remaining code most p = remaining_of code most (next_place code p)
