-- Where no statement opens a 65th block, at most 64 blocks are open at a loop.
use Rattle.std.proofs.Common.{◌≡◌, ℕ, suc, ◌-◌, ◌≤◌, Bool, true, false, List, [], ◌∷◌, ◌++◌, Option, Some, None, inl, inr, subst, append_assoc, refl, arith}
use Rattle.std.specs.Prelude.{nat_le, ◌&&◌, cond}
use Rattle.cdc_nest.specs.declared.role.Role.{Role}
use Rattle.cdc_nest.specs.declared.role.Role.TheVariants as r
use Rattle.cdc_nest.specs.Roles.{role, ends, opens}
use Rattle.cdc_nest.specs.Units.{IsLoop, IsNode, IsBody, AreBranches, AreFurther, IsNone, AllDeclare, IsHead, IsUnit, AreUnits, blocks_by, first_deep}
use Rattle.cdc_tree.specs.Forms.{PStatement, PForm, FEnd}
use Rattle.cdc_tree.specs.Order.{Each}
use Rattle.cdc_tree.specs.Units.{PNode, NPlain, NIf, NElse, NLoop, PBody, Empty, More, PBranches, BNone, BMore, PUnit, node_out, out, branches_out, none_out, unit_out, written_out}

-- where n blocks are open around it, each loop is the 64th block at most
abbrev mutual
  pub NodeFits : ℕ → PNode → Type 0
  NodeFits n (NPlain s) = Unit {0}
  NodeFits n (NIf bs end) = BranchesFit (suc n) bs
  NodeFits n (NElse bs head b end) = BranchesFit (suc n) bs × BodyFits (suc n) b
  NodeFits n (NLoop head b end) = (suc n ≤ 64) × BodyFits (suc n) b

  pub BodyFits : ℕ → PBody → Type 0
  BodyFits n Empty = Unit {0}
  BodyFits n (More x b) = NodeFits n x × BodyFits n b

  pub BranchesFit : ℕ → PBranches → Type 0
  BranchesFit n BNone = Unit {0}
  BranchesFit n (BMore head b more) = BodyFits n b × BranchesFit n more

-- ---- one statement

-- the first 65th block, behind a statement with this role
abbrev deep_by : Role → (line n : ℕ) → List PStatement → Option ℕ
deep_by x line n rest = cond (opens x && nat_le 64 n) (Some line) (first_deep (blocks_by x n) rest)

by_role : (s : PStatement) (x : Role) (n : ℕ) (rest : List PStatement) → role s.form ≡ x → first_deep n (s ∷ rest) ≡ None → deep_by x s.place.line n rest ≡ None
by_role s x n rest e h = subst (λ (y : Role). deep_by y s.place.line n rest ≡ None) e h

-- a block more is open: it is the 64th at most
opened : (b : Bool) (line n : ℕ) (o : Option ℕ) → nat_le 64 n ≡ b → cond b (Some line) o ≡ None → (suc n ≤ 64) × (o ≡ None)
opened true line n o e h = cc
opened false line n o e h = (few, h)
  where
    few : suc n ≤ 64
    few = grind arith

closed : (n : ℕ) (rest : List PStatement) → first_deep (suc n - 1) rest ≡ None → first_deep n rest ≡ None
closed n rest h = let one : suc n - 1 ≡ n = omega arith in subst (λ (m : ℕ). first_deep m rest ≡ None) one h

regroup : (n : ℕ) (xs ys rest : List PStatement) → first_deep n ((xs ++ ys) ++ rest) ≡ None → first_deep n (xs ++ (ys ++ rest)) ≡ None
regroup n xs ys rest h = subst (λ (ss : List PStatement). first_deep n ss ≡ None) (append_assoc xs ys rest) h

loop_opens : (head end : PStatement) (n : ℕ) (rest : List PStatement) → IsLoop (role head.form) (role end.form) → first_deep n (head ∷ rest) ≡ None → (suc n ≤ 64) × (first_deep (suc n) rest ≡ None)
loop_opens head end n rest is h =
    elim is [
      | inl e ↦ opened (nat_le 64 n) head.place.line n (first_deep (suc n) rest) refl (by_role head r.Do n rest e.0 h)
      | inr e ↦ opened (nat_le 64 n) head.place.line n (first_deep (suc n) rest) refl (by_role head r.Doall n rest e.0 h)
    ]

loop_closes : (head end : PStatement) (n : ℕ) (rest : List PStatement) → IsLoop (role head.form) (role end.form) → first_deep (suc n) (end ∷ rest) ≡ None → first_deep n rest ≡ None
loop_closes head end n rest is h =
    elim is [
      | inl e ↦ closed n rest (by_role end r.EndDo (suc n) rest e.1 h)
      | inr e ↦ closed n rest (by_role end r.EndDoall (suc n) rest e.1 h)
    ]

-- ---- constructs, and what stands behind them

mutual
  node_fits : (x : PNode) (n : ℕ) (rest : List PStatement) → IsNode x → first_deep n (node_out x ++ rest) ≡ None → NodeFits n x × (first_deep n rest ≡ None)
  node_fits (NPlain s) n rest is h = (tt, by_role s r.Plain n rest is h)
  node_fits (NIf bs end) n rest is h =
      let inside = branches_fit bs n (end ∷ rest) is.0 (regroup n (branches_out bs) (end ∷ []) rest h) in
      (inside.0, closed n rest (by_role end r.EndIf (suc n) rest is.1 inside.1))
  node_fits (NElse bs head b end) n rest is h =
      let inside = branches_fit bs n (head ∷ ((out b ++ (end ∷ [])) ++ rest)) is.0 (regroup n (branches_out bs) (head ∷ (out b ++ (end ∷ []))) rest h) in
      let behind : first_deep (suc n) ((out b ++ (end ∷ [])) ++ rest) ≡ None = by_role head r.Else (suc n) ((out b ++ (end ∷ [])) ++ rest) is.1 inside.1 in
      let other = body_fits b (suc n) (end ∷ rest) is.2 (regroup (suc n) (out b) (end ∷ []) rest behind) in
      ((inside.0, other.0), closed n rest (by_role end r.EndIf (suc n) rest is.3 other.1))
  node_fits (NLoop head b end) n rest is h =
      let begun = loop_opens head end n ((out b ++ (end ∷ [])) ++ rest) is.0 h in
      let inside = body_fits b (suc n) (end ∷ rest) is.1 (regroup (suc n) (out b) (end ∷ []) rest begun.1) in
      ((begun.0, inside.0), loop_closes head end n rest is.0 inside.1)

  body_fits : (b : PBody) (n : ℕ) (rest : List PStatement) → IsBody b → first_deep n (out b ++ rest) ≡ None → BodyFits n b × (first_deep n rest ≡ None)
  body_fits Empty n rest is h = (tt, h)
  body_fits (More x b) n rest is h =
      let one = node_fits x n (out b ++ rest) is.0 (regroup n (node_out x) (out b) rest h) in
      let more = body_fits b n rest is.1 one.1 in
      ((one.0, more.0), more.1)

  -- from outside the construct
  branches_fit : (bs : PBranches) (n : ℕ) (rest : List PStatement) → AreBranches bs → first_deep n (branches_out bs ++ rest) ≡ None → BranchesFit (suc n) bs × (first_deep (suc n) rest ≡ None)
  branches_fit BNone n rest is h = absurd is
  branches_fit (BMore head b more) n rest is h =
      let begun = opened (nat_le 64 n) head.place.line n (first_deep (suc n) ((out b ++ branches_out more) ++ rest)) refl (by_role head r.If n ((out b ++ branches_out more) ++ rest) is.0 h) in
      let one = body_fits b (suc n) (branches_out more ++ rest) is.1 (regroup (suc n) (out b) (branches_out more) rest begun.1) in
      let others = further_fit more (suc n) rest is.2 one.1 in
      ((one.0, others.0), others.1)

  -- inside it
  further_fit : (bs : PBranches) (n : ℕ) (rest : List PStatement) → AreFurther bs → first_deep n (branches_out bs ++ rest) ≡ None → BranchesFit n bs × (first_deep n rest ≡ None)
  further_fit BNone n rest is h = (tt, h)
  further_fit (BMore head b more) n rest is h =
      let behind : first_deep n ((out b ++ branches_out more) ++ rest) ≡ None = by_role head r.ElseIf n ((out b ++ branches_out more) ++ rest) is.0 h in
      let one = body_fits b n (branches_out more ++ rest) is.1 (regroup n (out b) (branches_out more) rest behind) in
      let others = further_fit more n rest is.2 one.1 in
      ((one.0, others.0), others.1)

-- ---- units

none_passed : (o : Option PStatement) (n : ℕ) (rest : List PStatement) → IsNone o → first_deep n (none_out o ++ rest) ≡ None → first_deep n rest ≡ None
none_passed None n rest is h = h
none_passed (Some s) n rest is h = by_role s r.ImplicitNone n rest is h

declarations_passed : (ds : List PStatement) (n : ℕ) (rest : List PStatement) → AllDeclare ds → first_deep n (ds ++ rest) ≡ None → first_deep n rest ≡ None
declarations_passed [] n rest is h = h
declarations_passed (d ∷ ds) n rest is h = declarations_passed ds n rest is.1 (by_role d r.Declaration n (ds ++ rest) is.0 h)

head_passed : (s : PStatement) (n : ℕ) (rest : List PStatement) → IsHead (role s.form) → first_deep n (s ∷ rest) ≡ None → first_deep n rest ≡ None
head_passed s n rest is h = elim is [ inl e ↦ by_role s r.Program n rest e h | inr e ↦ by_role s r.Subroutine n rest e h ]

end_role : (h f : PForm) → ends h f ≡ true → role f ≡ r.End
end_role h (FEnd x) e = refl
end_role h _ e = cc

unit_fits : (u : PUnit) (rest : List PStatement) → IsUnit u → first_deep 0 (unit_out u ++ rest) ≡ None → BodyFits 0 u.body × (first_deep 0 rest ≡ None)
unit_fits u rest is h =
    let last : List PStatement = u.end ∷ [] in
    let third : List PStatement = out u.body ++ last in
    let second : List PStatement = u.declarations ++ third in
    let a : first_deep 0 ((none_out u.none ++ second) ++ rest) ≡ None = head_passed u.head 0 ((none_out u.none ++ second) ++ rest) is.head_is h in
    let b : first_deep 0 (second ++ rest) ≡ None = none_passed u.none 0 (second ++ rest) is.none_is (regroup 0 (none_out u.none) second rest a) in
    let c : first_deep 0 (third ++ rest) ≡ None = declarations_passed u.declarations 0 (third ++ rest) is.declarations_are (regroup 0 u.declarations third rest b) in
    let d = body_fits u.body 0 (u.end ∷ rest) is.body_is (regroup 0 (out u.body) last rest c) in
    (d.0, by_role u.end r.End 0 rest (end_role u.head.form u.end.form is.ends_it) d.1)

pub units_fit : (us : List PUnit) → AreUnits us → first_deep 0 (written_out us) ≡ None → Each (λ (u : PUnit). BodyFits 0 u.body) us
units_fit [] is h = tt
units_fit (u ∷ us) is h = let one = unit_fits u (written_out us) is.0 h in (one.0, units_fit us is.1 one.1)
