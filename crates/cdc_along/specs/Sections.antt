-- Accesses that lie in the sections of their sites.
use Rattle.std.specs.Prelude.{◌≡◌, ℕ, ◌<◌, Bool, true, false, ℤ, List, Ok, slice_get}
use Rattle.cdc_num.specs.declared.triplet.Triplet.{Triplet}
use Rattle.cdc_prog.specs.Plain.{Program}
use Rattle.cdc_prog.specs.Data.{Store, put, dims_in, element}
use Rattle.cdc_prog.specs.Process.{Process, Load, Save, Say, Tick, Fork, Join, Halt, Fail}
use Rattle.cdc_prog.specs.InOrder.{after}
use Rattle.cdc_prog.specs.Resolved.{IsWordOf}
use Rattle.cdc_prog.specs.Sections.{IsInSection, ArePositions}
use Rattle.cdc_path.specs.References.{Touches}

-- the word that is accessed at a site under a call path is of an element of an object that the site touches, and the element is in the section of the site. The element has these subscripts in the bounds of the object, and so these positions
pub record LiesInSection (p : Program) (writes : Bool) (path : List ℕ) (site word : ℕ) : Type 0 where
  pub object : ℕ
  pub section : List Triplet
  pub touches : Touches p writes path site object section
  pub subs : List ℤ
  pub number : ℕ
  pub positions : List ℕ
  pub is_word : IsWordOf p.objects object number word
  pub named : element (dims_in (slice_get p.objects object)) subs ≡ Ok number
  pub placed : ArePositions (dims_in (slice_get p.objects object)) subs positions
  pub inside : IsInSection section positions

-- each access of a process in order on one store is such a one, a write or a read at a site under a call path; and so is each access of the iterations of its forks, alone on the store on which the fork comes
abbrev pub EachInOrder : (IsSuch : (writes : Bool) → (path : List ℕ) → (site word : ℕ) → Type 0) → Process → Store → Type 0
EachInOrder IsSuch (Load path site word next) s = IsSuch false path site word × EachInOrder IsSuch (next (s word)) s
EachInOrder IsSuch (Save path site word v next) s = IsSuch true path site word × EachInOrder IsSuch next (put s word v)
EachInOrder IsSuch (Say piece next) s = EachInOrder IsSuch next s
EachInOrder IsSuch (Tick next) s = EachInOrder IsSuch next s
EachInOrder IsSuch (Fork path number count from by body next) s =
    ((k : ℕ) → k < count → EachInOrder IsSuch (body k) (after k body s) × EachInOrder IsSuch (body k) s) × EachInOrder IsSuch next (after count body s)
EachInOrder IsSuch Join s = Unit {0}
EachInOrder IsSuch Halt s = Unit {0}
EachInOrder IsSuch (Fail kind line) s = Unit {0}
