-- In the units of a source each DO and DOALL is the head of its loop.
use Rattle.std.proofs.Common.{◌≡◌, inl, inr, Bool, true, false, List, [], ◌∷◌, ◌++◌, refl, subst, ◌∙◌}
use Rattle.cdc_token.specs.Lines.{Line}
use Rattle.cdc_tree.specs.Forms.{PStatement, PForm, FAssign, FLogicalIf, FDo, FDoall, FCall, FPrint, FRead}
use Rattle.cdc_tree.specs.Order.{Each}
use Rattle.cdc_tree.specs.Units.{PNode, NPlain, NIf, NElse, NLoop, PBody, Empty, More, PBranches, BNone, BMore, PUnit, node_out, out, branches_out, none_out, unit_out, written_out}
use Rattle.cdc_token.specs.declared.token.Lexed.{Lexed}
use Rattle.cdc_parse.specs.Lines.{StandAll}
use Rattle.cdc_parse.specs.Stands.{IsSimple, Stands}
use Rattle.cdc_nest.specs.declared.role.Role.TheVariants as r
use Rattle.cdc_nest.specs.Roles.{role}
use Rattle.cdc_nest.specs.Units.{IsLoop, IsNode, IsBody, AreBranches, AreFurther, AllDeclare, IsHead, IsUnit, AreUnits}
use Rattle.cdc_check.specs.Built.{is_loop, begins_loop, BeginsNone, NodeLoops, BodyLoops, BranchesLoop, HasLoops}

-- the statement of a logical IF is no loop
abbrev pub IsStraight : PStatement → Type 0
IsStraight s = begins_loop s.form ≡ is_loop s.form

simple_none : (f : PForm) (ts : List Lexed) → IsSimple f ts → begins_loop f ≡ false
simple_none (FAssign target value) ts h = refl
simple_none (FCall n actuals) ts h = refl
simple_none (FPrint items) ts h = refl
simple_none (FRead targets) ts h = refl
simple_none _ ts h = absurd h

form_straight : (f : PForm) (ts : List Lexed) → Stands f ts → begins_loop f ≡ is_loop f
form_straight (FLogicalIf c place f) ts h = simple_none f h.2 h.4
form_straight _ ts h = refl

pub lines_straight : (ss : List PStatement) (ls : List Line) → StandAll ss ls → Each IsStraight ss
lines_straight [] [] h = tt
lines_straight [] (l ∷ ls) h = absurd h
lines_straight (s ∷ ss) [] h = absurd h
lines_straight (s ∷ ss) (l ∷ ls) h = (form_straight s.form l.tokens h.1.0, lines_straight ss ls h.2)

each_left : (xs ys : List PStatement) → Each IsStraight (xs ++ ys) → Each IsStraight xs
each_left [] ys h = tt
each_left (x ∷ xs) ys h = (h.0, each_left xs ys h.1)

each_right : (xs ys : List PStatement) → Each IsStraight (xs ++ ys) → Each IsStraight ys
each_right [] ys h = h
each_right (x ∷ xs) ys h = each_right xs ys h.1

no_loop : (f : PForm) → (role f ≡ r.Do → ⊥) → (role f ≡ r.Doall → ⊥) → is_loop f ≡ false
no_loop (FDo l) h k = absurd (h refl)
no_loop (FDoall l privates) h k = absurd (k refl)
no_loop _ h k = refl

do_loop : (f : PForm) → role f ≡ r.Do → is_loop f ≡ true
do_loop (FDo l) h = refl
do_loop (FDoall l privates) h = refl
do_loop _ h = cc

doall_loop : (f : PForm) → role f ≡ r.Doall → is_loop f ≡ true
doall_loop (FDo l) h = refl
doall_loop (FDoall l privates) h = refl
doall_loop _ h = cc

head_loop : (head end : PForm) → IsLoop (role head) (role end) → is_loop head ≡ true
head_loop head end (inl h) = do_loop head h.0
head_loop head end (inr h) = doall_loop head h.0

mutual
  node_loops : (n : PNode) → IsNode n → Each IsStraight (node_out n) → NodeLoops n
  node_loops (NPlain s) h k = k.0 ∙ no_loop s.form (λ e. let same : r.Plain ≡ r.Do = subst (λ x. x ≡ r.Do) h e in cc) (λ e. let same : r.Plain ≡ r.Doall = subst (λ x. x ≡ r.Doall) h e in cc)
  node_loops (NIf bs end) h k = branches_loop bs h.0 (each_left (branches_out bs) (end ∷ []) k)
  node_loops (NElse bs head b end) h k =
      let after : Each IsStraight (head ∷ (out b ++ (end ∷ []))) = each_right (branches_out bs) (head ∷ (out b ++ (end ∷ []))) k in (
        branches_loop bs h.0 (each_left (branches_out bs) (head ∷ (out b ++ (end ∷ []))) k),
        after.0 ∙ no_loop head.form (λ e. let same : r.Else ≡ r.Do = subst (λ x. x ≡ r.Do) h.1 e in cc) (λ e. let same : r.Else ≡ r.Doall = subst (λ x. x ≡ r.Doall) h.1 e in cc),
        body_loops b h.2 (each_left (out b) (end ∷ []) after.1),
      )
  node_loops (NLoop head b end) h k = (head_loop head.form end.form h.0, body_loops b h.1 (each_left (out b) (end ∷ []) k.1))

  body_loops : (b : PBody) → IsBody b → Each IsStraight (out b) → BodyLoops b
  body_loops Empty h k = tt
  body_loops (More n b) h k = (node_loops n h.0 (each_left (node_out n) (out b) k), body_loops b h.1 (each_right (node_out n) (out b) k))

  branches_loop : (bs : PBranches) → AreBranches bs → Each IsStraight (branches_out bs) → BranchesLoop bs
  branches_loop BNone h k = tt
  branches_loop (BMore head b more) h k = (
    k.0 ∙ no_loop head.form (λ e. let same : r.If ≡ r.Do = subst (λ x. x ≡ r.Do) h.0 e in cc) (λ e. let same : r.If ≡ r.Doall = subst (λ x. x ≡ r.Doall) h.0 e in cc),
    body_loops b h.1 (each_left (out b) (branches_out more) k.1),
    further_loop more h.2 (each_right (out b) (branches_out more) k.1),
  )

  further_loop : (bs : PBranches) → AreFurther bs → Each IsStraight (branches_out bs) → BranchesLoop bs
  further_loop BNone h k = tt
  further_loop (BMore head b more) h k = (
    k.0 ∙ no_loop head.form (λ e. let same : r.ElseIf ≡ r.Do = subst (λ x. x ≡ r.Do) h.0 e in cc) (λ e. let same : r.ElseIf ≡ r.Doall = subst (λ x. x ≡ r.Doall) h.0 e in cc),
    body_loops b h.1 (each_left (out b) (branches_out more) k.1),
    further_loop more h.2 (each_right (out b) (branches_out more) k.1),
  )

declared_none : (ss : List PStatement) → AllDeclare ss → Each IsStraight ss → Each BeginsNone ss
declared_none [] h k = tt
declared_none (s ∷ ss) h k = (
  k.0 ∙ no_loop s.form (λ e. let same : r.Declaration ≡ r.Do = subst (λ x. x ≡ r.Do) h.0 e in cc) (λ e. let same : r.Declaration ≡ r.Doall = subst (λ x. x ≡ r.Doall) h.0 e in cc),
  declared_none ss h.1 k.1,
)

head_none : (f : PForm) → IsHead (role f) → is_loop f ≡ false
head_none f (inl h) = no_loop f (λ e. let same : r.Program ≡ r.Do = subst (λ x. x ≡ r.Do) h e in cc) (λ e. let same : r.Program ≡ r.Doall = subst (λ x. x ≡ r.Doall) h e in cc)
head_none f (inr h) = no_loop f (λ e. let same : r.Subroutine ≡ r.Do = subst (λ x. x ≡ r.Do) h e in cc) (λ e. let same : r.Subroutine ≡ r.Doall = subst (λ x. x ≡ r.Doall) h e in cc)

unit_loops : (u : PUnit) → IsUnit u → Each IsStraight (unit_out u) → HasLoops u
unit_loops u h k =
    let a : Each IsStraight (u.declarations ++ (out u.body ++ (u.end ∷ []))) = each_right (none_out u.none) (u.declarations ++ (out u.body ++ (u.end ∷ []))) k.1 in
    record {
      head = k.0 ∙ head_none u.head.form h.head_is;
      declarations = declared_none u.declarations h.declarations_are (each_left u.declarations (out u.body ++ (u.end ∷ [])) a);
      body = body_loops u.body h.body_is (each_left (out u.body) (u.end ∷ []) (each_right u.declarations (out u.body ++ (u.end ∷ [])) a));
    }

pub units_loops : (us : List PUnit) → AreUnits us → Each IsStraight (written_out us) → Each HasLoops us
units_loops [] h k = tt
units_loops (u ∷ us) h k = (unit_loops u h.0 (each_left (unit_out u) (written_out us) k), units_loops us h.1 (each_right (unit_out u) (written_out us) k))
