-- The units and blocks that are open after some statements, and what a further statement does.
use Rattle.std.specs.Prelude.{◌≡◌, ℕ, ◌<◌, ◌≤◌, nat_le, Bool, true, false, ◌&&◌, ◌||◌, cond, not, List, [], ◌∷◌, ◌++◌, map, option_map, Option, Some, None, Result, Ok, Err}
use Rattle.cdc_nest.specs.declared.role.Role.{Role}
use Rattle.cdc_nest.specs.declared.role.Role.TheVariants as r
use Rattle.cdc_nest.specs.declared.inside.Inside.{Inside}
use Rattle.cdc_nest.specs.declared.inside.Frame.{Frame}
use Rattle.cdc_nest.specs.declared.inside.Frame as c
use Rattle.cdc_nest.specs.declared.inside.Unfit.{Unfit}
use Rattle.cdc_nest.specs.declared.inside.Unfit.TheVariants.{Misfit, Memory}
use Rattle.cdc_nest.specs.declared.blocks.Blocks.{Blocks}
use Rattle.cdc_nest.specs.declared.blocks.Blocks.TheVariants as d
use Rattle.cdc_nest.specs.declared.blocks.Open.{Open}
use Rattle.cdc_nest.specs.declared.blocks.Progress.{Progress}
use Rattle.cdc_tree.specs.declared.unit.UnitText.{UnitText}
use Rattle.cdc_tree.specs.declared.refusal.ParseRefusal.{ParseRefusal}
use Rattle.cdc_tree.specs.declared.refusal.ParseRefusal.TheVariants as pr
use Rattle.cdc_tree.specs.declared.refusal.ParseRefusal.TheVariants.{NotAStatement, Depth, Nesting}
use Rattle.cdc_tree.specs.Options.{◌>>=◌}
use Rattle.cdc_nest.specs.Roles.{role, ends, opens}
use Rattle.cdc_tree.specs.Forms.{PStatement, statement}
use Rattle.cdc_tree.specs.Units.{PNode, NPlain, NIf, NElse, NLoop, PBody, Empty, More, PBranches, BNone, BMore, branches_of, body, branch, PUnit, unit}
use Rattle.cdc_nest.specs.Units.{blocks_by, first_deep}

-- inside a unit: its parts so far, and each open block with what it has so far, the innermost outside
pub data PInside : Type 0 where
  Top : PStatement → Option PStatement → List PStatement → PBody → PInside
  InIf : PInside → PBranches → PStatement → PBody → PInside
  InElse : PInside → PBranches → PStatement → PBody → PInside
  InLoop : PInside → PStatement → PBody → PInside

-- the units that are whole, and what is open of another
pub data POpen : Type 0 where
  Between : List PUnit → POpen
  Within : List PUnit → PInside → POpen

-- a body with what stands around it
abbrev pub around : Frame → PBody → PInside
around (c.Unit head none declarations) b = Top (statement head) (option_map statement none) (map statement declarations.items) b
around (c.If' p outer before branches head) b = InIf (around outer (body before.items)) (branches_of (map branch branches.items)) (statement head) b
around (c.Else' p outer before branches head) b = InElse (around outer (body before.items)) (branches_of (map branch branches.items)) (statement head) b
around (c.Loop' p outer before head) b = InLoop (around outer (body before.items)) (statement head) b

abbrev pub inside : Inside → PInside
inside i = around i.frame.value (body i.nodes.items)

abbrev pub within : List PUnit → Option Inside → POpen
within us None = Between us
within us (Some i) = Within us (inside i)

abbrev pub opened_so : Open → POpen
opened_so o = within (map unit o.units.items) o.inside

-- What a function returned, seen by view, is what a definition gives, unless memory ran out.
abbrev pub Leaves : {Y : Type 0} → Unfit → Option Y → Type 0
Leaves Memory o = Unit {0}
Leaves Misfit o = o ≡ None

abbrev pub Makes : {X Y : Type 0} → (X → Y) → Result X Unfit → Option Y → Type 0
Makes view (Ok x) o = o ≡ Some (view x)
Makes view (Err e) o = Leaves e o

-- ---- parts put at an end

abbrev pub put : PBody → PNode → PBody
put Empty n = More n Empty
put (More m b) n = More m (put b n)

abbrev pub put_branch : PBranches → PStatement → PBody → PBranches
put_branch BNone h b = BMore h b BNone
put_branch (BMore k a more) h b = BMore k a (put_branch more h b)

-- a node at the end of the innermost body
abbrev pub add : PInside → PNode → PInside
add (Top h n ds b) m = Top h n ds (put b m)
add (InIf o bs h b) m = InIf o bs h (put b m)
add (InElse o bs h b) m = InElse o bs h (put b m)
add (InLoop o h b) m = InLoop o h (put b m)

-- ---- a further statement inside a unit

abbrev pub is_empty : PBody → Bool
is_empty Empty = true
is_empty (More n b) = false

-- nothing stands behind the head
abbrev pub is_bare : Option PStatement → List PStatement → PBody → Bool
is_bare None [] b = is_empty b
is_bare None (d ∷ ds) b = false
is_bare (Some n) ds b = false

abbrev pub implicit : PInside → PStatement → Option PInside
implicit (Top h n ds b) s = cond (is_bare n ds b) (Some (Top h (Some s) ds b)) None
implicit i s = None

abbrev pub declare : PInside → PStatement → Option PInside
declare (Top h n ds b) s = cond (is_empty b) (Some (Top h n (ds ++ (s ∷ [])) b)) None
declare i s = None

abbrev pub else_if : PInside → PStatement → Option PInside
else_if (InIf o bs h b) s = Some (InIf o (put_branch bs h b) s Empty)
else_if i s = None

abbrev pub otherwise : PInside → PStatement → Option PInside
otherwise (InIf o bs h b) s = Some (InElse o (put_branch bs h b) s Empty)
otherwise i s = None

abbrev pub end_if : PInside → PStatement → Option PInside
end_if (InIf o bs h b) s = Some (add o (NIf (put_branch bs h b) s))
end_if (InElse o bs h b) s = Some (add o (NElse bs h b s))
end_if i s = None

-- whether the END ends a loop with this head
abbrev pub ends_loop : Role → Role → Bool
ends_loop r.Do r.EndDo = true
ends_loop r.Doall r.EndDoall = true
ends_loop x y = false

abbrev pub end_loop : PInside → PStatement → Role → Option PInside
end_loop (InLoop o h b) s end = cond (ends_loop (role h.form) end) (Some (add o (NLoop h b s))) None
end_loop i s end = None

abbrev pub step_in : Role → PInside → PStatement → Option PInside
step_in r.Plain i s = Some (add i (NPlain s))
step_in r.If i s = Some (InIf i BNone s Empty)
step_in r.Do i s = Some (InLoop i s Empty)
step_in r.Doall i s = Some (InLoop i s Empty)
step_in r.ImplicitNone i s = implicit i s
step_in r.Declaration i s = declare i s
step_in r.ElseIf i s = else_if i s
step_in r.Else i s = otherwise i s
step_in r.EndIf i s = end_if i s
step_in r.EndDo i s = end_loop i s r.EndDo
step_in r.EndDoall i s = end_loop i s r.EndDoall
step_in x i s = None

-- the unit that the statement ends
abbrev pub close : PInside → PStatement → Option PUnit
close (Top h n ds b) s = cond (ends h.form s.form) (Some (record { head = h; none = n; declarations = ds; body = b; end = s })) None
close i s = None

-- ---- a further statement

abbrev pub is_program : Role → Bool
is_program r.Program = true
is_program x = false

abbrev pub has_main : List PUnit → Bool
has_main [] = false
has_main (u ∷ us) = is_program (role u.head.form) || has_main us

abbrev pub started : List PUnit → PStatement → POpen
started us s = Within us (Top s None [] Empty)

-- whether a unit may begin so
abbrev pub may_begin : Role → List PUnit → Bool
may_begin r.Program us = not (has_main us)
may_begin r.Subroutine us = true
may_begin x us = false

abbrev pub begin : Role → List PUnit → PStatement → Option POpen
begin x us s = cond (may_begin x us) (Some (started us s)) None

abbrev pub continued : Role → List PUnit → PInside → PStatement → Option POpen
continued x us i s = step_in x i s >>= λ j. Some (Within us j)

abbrev pub go_on : Role → List PUnit → PInside → PStatement → Option POpen
go_on r.End us i s = close i s >>= λ u. Some (Between (us ++ (u ∷ [])))
go_on x us i s = continued x us i s

abbrev pub step_as : Role → POpen → PStatement → Option POpen
step_as x (Between us) s = begin x us s
step_as x (Within us i) s = go_on x us i s

abbrev pub step : POpen → PStatement → Option POpen
step o s = step_as (role s.form) o s

abbrev pub run : POpen → List PStatement → Option POpen
run o [] = Some o
run o (s ∷ ss) = step o s >>= λ p. run p ss

abbrev pub start : POpen
start = Between []

-- ---- open blocks

-- at most 64 blocks are open
abbrev pub IsLow : Blocks → Type 0
IsLow (d.Open n) = n ≤ 64
IsLow (d.Over l) = Unit {0}

-- the line of the first statement that opens a 65th block, from here on
abbrev pub deep_from : Blocks → List PStatement → Option ℕ
deep_from (d.Open n) ss = first_deep n ss
deep_from (d.Over l) ss = Some l

abbrev pub counted : Blocks → Role → ℕ → Blocks
counted (d.Open n) x line = cond (opens x && nat_le 64 n) (d.Over line) (d.Open (blocks_by x n))
counted (d.Over l) x line = d.Over l

-- ---- progress

-- not past the line of a 65th block
abbrev pub IsNotPast : Blocks → ℕ → Type 0
IsNotPast (d.Open n) line = Unit {0}
IsNotPast (d.Over l) line = line ≤ l

abbrev pub IsPast : Blocks → ℕ → Option ℕ → Type 0
IsPast blocks line (Some l) = (blocks ≡ d.Over l) × (l < line)
IsPast blocks line None = IsNotPast blocks line

abbrev pub IsFitted : ℕ → Option POpen → Result Open ParseRefusal → Type 0
IsFitted line o (Ok next) = o ≡ Some (opened_so next)
IsFitted line o (Err (Nesting n)) = (n ≡ line) × (o ≡ None)
IsFitted line o (Err (Depth n)) = ⊥
IsFitted line o (Err (NotAStatement n)) = ⊥
IsFitted line o (Err pr.Memory) = Unit {0}

pub record Next (before : Progress) (s : PStatement) (next : Progress) : Type 0 where
  pub taken : step (opened_so before.open) s ≡ Some (opened_so next.open)
  pub blocks_are : next.blocks ≡ counted before.blocks (role s.form) s.place.line
  pub low : IsLow next.blocks
  pub last_is : next.last ≡ s.place.line
  pub not_past : IsNotPast before.blocks s.place.line

abbrev pub Advances : Progress → PStatement → Result Progress ParseRefusal → Type 0
Advances before s (Ok next) = Next before s next
Advances before s (Err (Nesting n)) = (n ≡ s.place.line) × (step (opened_so before.open) s ≡ None) × IsNotPast before.blocks s.place.line
Advances before s (Err (Depth n)) = (before.blocks ≡ d.Over n) × (n < s.place.line)
Advances before s (Err (NotAStatement n)) = ⊥
Advances before s (Err pr.Memory) = Unit {0}

abbrev pub IsOkOf : List PUnit → Result (List UnitText) ParseRefusal → Type 0
IsOkOf us (Ok found) = map unit found ≡ us
IsOkOf us (Err e) = ⊥

abbrev pub IsEnded : Bool → List PUnit → Blocks → ℕ → Result (List UnitText) ParseRefusal → Type 0
IsEnded true us (d.Open n) last r = IsOkOf us r
IsEnded true us (d.Over l) last r = r ≡ Err (Depth l)
IsEnded false us blocks last r = r ≡ Err (Nesting last)

-- what is answered after the last statement
abbrev pub IsFinished : POpen → Blocks → ℕ → Result (List UnitText) ParseRefusal → Type 0
IsFinished (Between us) blocks last r = IsEnded (has_main us) us blocks last r
IsFinished (Within us i) blocks last r = r ≡ Err (Nesting last)
