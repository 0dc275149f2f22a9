-- What is open can be closed, and what begins some units is taken.
use Rattle.std.proofs.Common.{◌≡◌, ℕ, zero, suc, ◌+◌, ◌≤◌, Bool, true, false, cond, not, List, [], ◌∷◌, ◌++◌, Option, Some, None, refl, sym, ap, subst, ◌∙◌, append_assoc, arith, inl, inr}
use Rattle.std.proofs.lemmas.List.{append-nil}
use Rattle.cdc_base.specs.declared.place.Place.{Place}
use Rattle.cdc_tree.specs.declared.tree.Named.{Named}
use Rattle.cdc_tree.specs.declared.form.Ending.TheVariants as e
use Rattle.cdc_nest.specs.declared.role.Role.{Role}
use Rattle.cdc_nest.specs.declared.role.Role.TheVariants as r
use Rattle.cdc_tree.specs.Options.{◌>>=◌}
use Rattle.cdc_tree.specs.Forms.{PForm, PStatement, FProgram, FSubroutine, FEnd, FEndIf, FEndDo, FEndDoall}
use Rattle.cdc_nest.specs.Roles.{role, ends_head, ends}
use Rattle.cdc_tree.specs.Units.{PNode, NPlain, NIf, NElse, NLoop, PBody, Empty, More, PBranches, BNone, BMore, PUnit, node_out, out, branches_out, none_out, unit_out, written_out}
use Rattle.cdc_nest.specs.Units.{Is, IsNode, IsBody, AreBranches, AreFurther, IsNone, AllDeclare, IsHead, IsUnit, AreUnits, is_main, mains, AreWritten, Begins}
use Rattle.cdc_nest.specs.Nesting.{PInside, Top, InIf, InElse, InLoop, POpen, Between, Within, put, put_branch, add, otherwise, end_if, ends_loop, has_main, started, step_as, run, start}
use Rattle.cdc_tree.proofs.Options.{some, bind_some}
use Rattle.cdc_nest.proofs.Grown.{so_in, so_far, ValidIn, head_of, Valid, written_put, run_grown, run_append, end_if_grown, end_loop_grown, no_mains, units_put, mains_put, unit_text, made_unit}

-- ---- statements that close

no_place : Place
no_place = record { line = 0; column = 0 }

abbrev made : PForm → PStatement
made x = record { place = no_place; form = x }

abbrev some_name : Named
some_name = record { name = []; place = no_place }

abbrev is_head : Role → Bool
is_head r.Program = true
is_head r.Subroutine = true
is_head x = false

not_head : (x : Role) → is_head x ≡ false → IsHead x → ⊥
not_head x e h = elim h [ inl p ↦ (let c : true ≡ false = sym (ap is_head p) ∙ e in absurd cc) | inr p ↦ (let c : true ≡ false = sym (ap is_head p) ∙ e in absurd cc) ]

plain_ends : (h : PForm) → IsHead (role h) → ends_head h e.Plain ≡ true
plain_ends (FProgram n) is = refl
plain_ends (FSubroutine n ds) is = refl
plain_ends f is = absurd (not_head (role f) refl is)

-- what is open in a unit, up to the unit that it is part of
record Closes (i : PInside) : Type 0 where
  whole : PUnit
  more : List PStatement
  is_unit : IsUnit whole
  head_is : whole.head ≡ head_of i
  parts : so_in i ++ more ≡ unit_out whole

abbrev deep : PInside → ℕ
deep (Top h n ds b) = 0
deep (InIf o bs h b) = suc (deep o)
deep (InElse o bs h b) = suc (deep o)
deep (InLoop o h b) = suc (deep o)

deep_add : (o : PInside) (n : PNode) → deep (add o n) ≡ deep o
deep_add (Top h m ds b) n = refl
deep_add (InIf o bs h b) n = refl
deep_add (InElse o bs h b) n = refl
deep_add (InLoop o h b) n = refl

-- one statement more, and then what closes the rest
closed_by : (i : PInside) (s : PStatement) (j : PInside) → so_in j ≡ so_in i ++ (s ∷ []) → head_of j ≡ head_of i → Closes j → Closes i
closed_by i s j text head c = record {
  whole = c.whole;
  more = s ∷ c.more;
  is_unit = c.is_unit;
  head_is = c.head_is ∙ head;
  parts = sym (append_assoc (so_in i) (s ∷ []) c.more) ∙ ap (λ (z : List PStatement). z ++ c.more) (sym text) ∙ c.parts;
}

top_closes : (h : PStatement) (n : Option PStatement) (ds : List PStatement) (b : PBody) → ValidIn (Top h n ds b) → Closes (Top h n ds b)
top_closes h n ds b v =
    let s = made (FEnd e.Plain) in
    record {
      whole = made_unit h n ds b s;
      more = s ∷ [];
      is_unit = record { head_is = v.0; none_is = v.1; declarations_are = v.2; body_is = v.3; ends_it = plain_ends h.form v.0 };
      head_is = refl;
      parts = sym (unit_text h n ds b s);
    }

closes_at : (k : ℕ) (i : PInside) → deep i ≡ k → ValidIn i → Closes i
closes_at k (Top h n ds b) d v = top_closes h n ds b v
closes_at zero (InIf o bs h b) d v = absurd (omega arith)
closes_at zero (InElse o bs h b) d v = absurd (omega arith)
closes_at zero (InLoop o h b) d v = absurd (omega arith)
closes_at (suc k) (InIf o bs h b) d v =
    let s = made FEndIf in
    let n = NIf (put_branch bs h b) s in
    let g = end_if_grown (InIf o bs h b) s (add o n) refl refl in
    closed_by (InIf o bs h b) s (add o n) g.text g.head_is (closes_at k (add o n) (omega (arith, deep_add o n)) (g.valid v))
closes_at (suc k) (InElse o bs h b) d v =
    let s = made FEndIf in
    let n = NElse bs h b s in
    let g = end_if_grown (InElse o bs h b) s (add o n) refl refl in
    closed_by (InElse o bs h b) s (add o n) g.text g.head_is (closes_at k (add o n) (omega (arith, deep_add o n)) (g.valid v))
closes_at (suc k) (InLoop o h b) d v =
    elim v.1 [
      | inl is_do ↦
          let s = made FEndDo in
          let n = NLoop h b s in
          let g = end_loop_grown (InLoop o h b) s r.EndDo (add o n) refl (ap (λ (x : Role). cond (ends_loop x r.EndDo) (some (add o n)) None) is_do) in
          closed_by (InLoop o h b) s (add o n) g.text g.head_is (closes_at k (add o n) (omega (arith, deep_add o n)) (g.valid v))
      | inr is_doall ↦
          let s = made FEndDoall in
          let n = NLoop h b s in
          let g = end_loop_grown (InLoop o h b) s r.EndDoall (add o n) refl (ap (λ (x : Role). cond (ends_loop x r.EndDoall) (some (add o n)) None) is_doall) in
          closed_by (InLoop o h b) s (add o n) g.text g.head_is (closes_at k (add o n) (omega (arith, deep_add o n)) (g.valid v))
    ]

-- a main program without statements
abbrev main_unit : PUnit
main_unit = made_unit (made (FProgram some_name)) None [] Empty (made (FEnd e.Plain))

main_valid : IsUnit main_unit
unfolding top_closes
main_valid = (top_closes (made (FProgram some_name)) None [] Empty (inl refl, tt, tt, tt)).is_unit

-- units of which at most one is a main program begin well nested ones
units_begin : (us : List PUnit) (items : List PStatement) (more : List PStatement) → AreUnits us → mains us ≤ 1 → items ++ more ≡ written_out us → Begins items
units_begin us items more hs few e = by_mains (mains us) refl
  where
    by_mains : (n : ℕ) → mains us ≡ n → Begins items
    by_mains zero h = (
      more ++ unit_out main_unit,
      (
        us ++ (main_unit ∷ []),
        record {
          are_units = units_put us main_unit hs main_valid;
          one_main = mains_put us main_unit ∙ omega (arith, h);
          parts = sym (append_assoc items more (unit_out main_unit)) ∙ ap (λ (z : List PStatement). z ++ unit_out main_unit) e ∙ sym (written_put us main_unit);
        },
      ),
    )
    by_mains (suc zero) h = (more, (us, record { are_units = hs; one_main = h; parts = e }))
    by_mains (suc (suc n)) h = absurd (omega (arith, h, few))

-- what is valid can be closed
pub begins_so : (o : POpen) → Valid o → Begins (so_far o)
begins_so (Between us) v = units_begin us (written_out us) [] v.units v.few (append-nil (written_out us))
begins_so (Within us i) v =
    let c = closes_at (deep i) i refl v.parts in
    units_begin (us ++ (c.whole ∷ [])) (written_out us ++ so_in i) c.more (units_put us c.whole v.units c.is_unit)
    (omega (arith, mains_put us c.whole, v.few, ap (λ (h : PStatement). is_main (role h.form)) c.head_is))
    (append_assoc (written_out us) (so_in i) c.more ∙ ap (λ (z : List PStatement). written_out us ++ z) c.parts ∙ sym (written_put us c.whole))

pub start_valid : Valid start
start_valid = record { units = tt; few = omega arith }

pub taken_begins : (ss : List PStatement) (q : POpen) → run start ss ≡ Some q → Begins ss
taken_begins ss q e = let g = run_grown ss start q e in subst Begins g.text (begins_so q (g.valid start_valid))

-- ---- what begins units is taken

taken : (x : Role) (o q : POpen) (s : PStatement) (ts : List PStatement) → Is x s → step_as x o s ≡ Some q → run o (s ∷ ts) ≡ run q ts
taken x o q s ts is e = ap (λ (y : Role). step_as y o s >>= λ p. run p ts) is ∙ ap (λ (z : Option POpen). z >>= λ p. run p ts) e

abbrev adds : PInside → PBody → PInside
adds o Empty = o
adds o (More n b) = adds (add o n) b

abbrev before : PBody → PBody → PBody
before Empty c = c
before (More n b) c = More n (before b c)

before_put : (a : PBody) (n : PNode) (b : PBody) → before (put a n) b ≡ before a (More n b)
before_put Empty n b = refl
before_put (More m a) n b = ap (More m) (before_put a n b)

before_empty : (a : PBody) → before a Empty ≡ a
before_empty Empty = refl
before_empty (More m a) = ap (More m) (before_empty a)

adds_if : (b : PBody) (o : PInside) (bs : PBranches) (h : PStatement) (a : PBody) → adds (InIf o bs h a) b ≡ InIf o bs h (before a b)
adds_if Empty o bs h a = ap (InIf o bs h) (sym (before_empty a))
adds_if (More n b) o bs h a = adds_if b o bs h (put a n) ∙ ap (InIf o bs h) (before_put a n b)

adds_else : (b : PBody) (o : PInside) (bs : PBranches) (h : PStatement) (a : PBody) → adds (InElse o bs h a) b ≡ InElse o bs h (before a b)
adds_else Empty o bs h a = ap (InElse o bs h) (sym (before_empty a))
adds_else (More n b) o bs h a = adds_else b o bs h (put a n) ∙ ap (InElse o bs h) (before_put a n b)

adds_loop : (b : PBody) (o : PInside) (h : PStatement) (a : PBody) → adds (InLoop o h a) b ≡ InLoop o h (before a b)
adds_loop Empty o h a = ap (InLoop o h) (sym (before_empty a))
adds_loop (More n b) o h a = adds_loop b o h (put a n) ∙ ap (InLoop o h) (before_put a n b)

adds_top : (b : PBody) (h : PStatement) (n : Option PStatement) (ds : List PStatement) (a : PBody) → adds (Top h n ds a) b ≡ Top h n ds (before a b)
adds_top Empty h n ds a = ap (Top h n ds) (sym (before_empty a))
adds_top (More m b) h n ds a = adds_top b h n ds (put a m) ∙ ap (Top h n ds) (before_put a m b)

-- after further branches
abbrev further_in : PInside → PBranches → PStatement → PBody → PBranches → PInside
further_in o bs h b BNone = InIf o bs h b
further_in o bs h b (BMore k a more) = further_in o (put_branch bs h b) k a more

abbrev all_of : PBranches → PStatement → PBody → PBranches → PBranches
all_of bs h b BNone = put_branch bs h b
all_of bs h b (BMore k a more) = all_of (put_branch bs h b) k a more

abbrev joined : PBranches → PBranches → PBranches
joined BNone c = c
joined (BMore h b more) c = BMore h b (joined more c)

joined_put : (bs : PBranches) (h : PStatement) (b : PBody) (more : PBranches) → joined (put_branch bs h b) more ≡ joined bs (BMore h b more)
joined_put BNone h b more = refl
joined_put (BMore k a bs) h b more = ap (BMore k a) (joined_put bs h b more)

joined_none : (bs : PBranches) → joined bs BNone ≡ bs
joined_none BNone = refl
joined_none (BMore k a bs) = ap (BMore k a) (joined_none bs)

all_joined : (more bs : PBranches) (h : PStatement) (b : PBody) → all_of bs h b more ≡ joined bs (BMore h b more)
all_joined BNone bs h b = sym (joined_none (put_branch bs h b)) ∙ joined_put bs h b BNone
all_joined (BMore k a more) bs h b = all_joined more (put_branch bs h b) k a ∙ joined_put bs h b (BMore k a more)

end_if_further : (more : PBranches) (o : PInside) (bs : PBranches) (h : PStatement) (b : PBody) (s : PStatement) → end_if (further_in o bs h b more) s ≡ Some (add o (NIf (all_of bs h b more) s))
end_if_further BNone o bs h b s = refl
end_if_further (BMore k a more) o bs h b s = end_if_further more o (put_branch bs h b) k a s

otherwise_further : (more : PBranches) (o : PInside) (bs : PBranches) (h : PStatement) (b : PBody) (s : PStatement) → otherwise (further_in o bs h b more) s ≡ Some (InElse o (all_of bs h b more) s Empty)
otherwise_further BNone o bs h b s = refl
otherwise_further (BMore k a more) o bs h b s = otherwise_further more o (put_branch bs h b) k a s

abbrev on : List PUnit → Option PInside → Option POpen
on us o = o >>= λ j. some (Within us j)

abbrev if_open : PInside → PBranches → PInside
if_open o BNone = o
if_open o (BMore k a more) = further_in o BNone k a more

ends_branches : (bs : PBranches) (us : List PUnit) (o : PInside) (s : PStatement) (ts : List PStatement) → AreBranches bs → Is r.EndIf s → run (Within us (if_open o bs)) (s ∷ ts) ≡ run (Within us (add o (NIf bs s))) ts
ends_branches BNone us o s ts h is = absurd h
ends_branches (BMore k a more) us o s ts h is =
    taken r.EndIf (Within us (further_in o BNone k a more)) (Within us (add o (NIf (BMore k a more) s))) s ts is
    (ap (on us) (end_if_further more o BNone k a s) ∙ ap (λ (z : PBranches). some (Within us (add o (NIf z s)))) (all_joined more BNone k a))

else_branches : (bs : PBranches) (us : List PUnit) (o : PInside) (s : PStatement) (ts : List PStatement) → AreBranches bs → Is r.Else s → run (Within us (if_open o bs)) (s ∷ ts) ≡ run (Within us (InElse o bs s Empty)) ts
else_branches BNone us o s ts h is = absurd h
else_branches (BMore k a more) us o s ts h is =
    taken r.Else (Within us (further_in o BNone k a more)) (Within us (InElse o (BMore k a more) s Empty)) s ts is
    (ap (on us) (otherwise_further more o BNone k a s) ∙ ap (λ (z : PBranches). some (Within us (InElse o z s Empty))) (all_joined more BNone k a))

mutual
  takes_node : (n : PNode) (us : List PUnit) (o : PInside) (ts : List PStatement) → IsNode n → run (Within us o) (node_out n ++ ts) ≡ run (Within us (add o n)) ts
  takes_node (NPlain s) us o ts h = taken r.Plain (Within us o) (Within us (add o (NPlain s))) s ts h refl
  takes_node (NIf bs s) us o ts h =
      ap (run (Within us o)) (append_assoc (branches_out bs) (s ∷ []) ts) ∙ takes_if bs us o (s ∷ ts) h.0 ∙ ends_branches bs us o s ts h.0 h.1
  takes_node (NElse bs k b s) us o ts h =
      ap (run (Within us o)) (append_assoc (branches_out bs) (k ∷ (out b ++ (s ∷ []))) ts) ∙ takes_if bs us o (k ∷ ((out b ++ (s ∷ [])) ++ ts)) h.0
      ∙ else_branches bs us o k ((out b ++ (s ∷ [])) ++ ts) h.0 h.1
      ∙ ap (run (Within us (InElse o bs k Empty))) (append_assoc (out b) (s ∷ []) ts) ∙ takes b us (InElse o bs k Empty) (s ∷ ts) h.2
      ∙ ap (λ (j : PInside). run (Within us j) (s ∷ ts)) (adds_else b o bs k Empty)
      ∙ taken r.EndIf (Within us (InElse o bs k b)) (Within us (add o (NElse bs k b s))) s ts h.3 refl
  takes_node (NLoop k b s) us o ts h =
      elim h.0 [
        | inl is ↦
            taken r.Do (Within us o) (Within us (InLoop o k Empty)) k ((out b ++ (s ∷ [])) ++ ts) is.0 refl
            ∙ ap (run (Within us (InLoop o k Empty))) (append_assoc (out b) (s ∷ []) ts) ∙ takes b us (InLoop o k Empty) (s ∷ ts) h.1
            ∙ ap (λ (j : PInside). run (Within us j) (s ∷ ts)) (adds_loop b o k Empty)
            ∙ taken r.EndDo (Within us (InLoop o k b)) (Within us (add o (NLoop k b s))) s ts is.1 (ap (λ (x : Role). on us (cond (ends_loop x r.EndDo) (some (add o (NLoop k b s))) None)) is.0)
        | inr is ↦
            taken r.Doall (Within us o) (Within us (InLoop o k Empty)) k ((out b ++ (s ∷ [])) ++ ts) is.0 refl
            ∙ ap (run (Within us (InLoop o k Empty))) (append_assoc (out b) (s ∷ []) ts) ∙ takes b us (InLoop o k Empty) (s ∷ ts) h.1
            ∙ ap (λ (j : PInside). run (Within us j) (s ∷ ts)) (adds_loop b o k Empty)
            ∙ taken r.EndDoall (Within us (InLoop o k b)) (Within us (add o (NLoop k b s))) s ts is.1 (ap (λ (x : Role). on us (cond (ends_loop x r.EndDoall) (some (add o (NLoop k b s))) None)) is.0)
      ]

  takes : (b : PBody) (us : List PUnit) (o : PInside) (ts : List PStatement) → IsBody b → run (Within us o) (out b ++ ts) ≡ run (Within us (adds o b)) ts
  takes Empty us o ts h = refl
  takes (More n b) us o ts h = ap (run (Within us o)) (append_assoc (node_out n) (out b) ts) ∙ takes_node n us o (out b ++ ts) h.0 ∙ takes b us (add o n) ts h.1

  -- all branches, up to the last
  takes_if : (bs : PBranches) (us : List PUnit) (o : PInside) (ts : List PStatement) → AreBranches bs → run (Within us o) (branches_out bs ++ ts) ≡ run (Within us (if_open o bs)) ts
  takes_if BNone us o ts h = absurd h
  takes_if (BMore k a more) us o ts h =
      taken r.If (Within us o) (Within us (InIf o BNone k Empty)) k ((out a ++ branches_out more) ++ ts) h.0 refl
      ∙ ap (run (Within us (InIf o BNone k Empty))) (append_assoc (out a) (branches_out more) ts) ∙ takes a us (InIf o BNone k Empty) (branches_out more ++ ts) h.1
      ∙ ap (λ (j : PInside). run (Within us j) (branches_out more ++ ts)) (adds_if a o BNone k Empty)
      ∙ takes_further more us o BNone k a ts h.2

  takes_further : (more : PBranches) (us : List PUnit) (o : PInside) (bs : PBranches) (k : PStatement) (a : PBody) (ts : List PStatement) → AreFurther more → run (Within us (InIf o bs k a)) (branches_out more ++ ts) ≡ run (Within us (further_in o bs k a more)) ts
  takes_further BNone us o bs k a ts h = refl
  takes_further (BMore m b more) us o bs k a ts h =
      taken r.ElseIf (Within us (InIf o bs k a)) (Within us (InIf o (put_branch bs k a) m Empty)) m ((out b ++ branches_out more) ++ ts) h.0 refl
      ∙ ap (run (Within us (InIf o (put_branch bs k a) m Empty))) (append_assoc (out b) (branches_out more) ts) ∙ takes b us (InIf o (put_branch bs k a) m Empty) (branches_out more ++ ts) h.1
      ∙ ap (λ (j : PInside). run (Within us j) (branches_out more ++ ts)) (adds_if b o (put_branch bs k a) m Empty)
      ∙ takes_further more us o (put_branch bs k a) m b ts h.2

takes_none : (n : Option PStatement) (us : List PUnit) (h : PStatement) (ts : List PStatement) → IsNone n → run (Within us (Top h None [] Empty)) (none_out n ++ ts) ≡ run (Within us (Top h n [] Empty)) ts
takes_none None us h ts is = refl
takes_none (Some s) us h ts is = taken r.ImplicitNone (Within us (Top h None [] Empty)) (Within us (Top h (Some s) [] Empty)) s ts is refl

takes_declarations : (es : List PStatement) (us : List PUnit) (h : PStatement) (n : Option PStatement) (ds ts : List PStatement) → AllDeclare es → run (Within us (Top h n ds Empty)) (es ++ ts) ≡ run (Within us (Top h n (ds ++ es) Empty)) ts
takes_declarations [] us h n ds ts is = ap (λ (z : List PStatement). run (Within us (Top h n z Empty)) ts) (sym (append-nil ds))
takes_declarations (s ∷ es) us h n ds ts is =
    taken r.Declaration (Within us (Top h n ds Empty)) (Within us (Top h n (ds ++ (s ∷ [])) Empty)) s (es ++ ts) is.0 refl
    ∙ takes_declarations es us h n (ds ++ (s ∷ [])) ts is.1
    ∙ ap (λ (z : List PStatement). run (Within us (Top h n z Empty)) ts) (append_assoc ds (s ∷ []) es)

-- what ends a unit is an END
ends_role : (h x : PForm) → ends h x ≡ true → role x ≡ r.End
ends_role h (FEnd x) is = refl
ends_role h x is = absurd cc

begins_unit : (us : List PUnit) (s : PStatement) (ts : List PStatement) → IsHead (role s.form) → mains us + is_main (role s.form) ≤ 1 → run (Between us) (s ∷ ts) ≡ run (started us s) ts
begins_unit us s ts is few =
    elim is [
      | inl program ↦
          let none : has_main us ≡ false = no_mains us (omega (arith, few, ap is_main program)) in
          taken r.Program (Between us) (started us s) s ts program (ap (λ (t : Bool). cond (not t) (some (started us s)) None) none)
      | inr subroutine ↦ taken r.Subroutine (Between us) (started us s) s ts subroutine refl
    ]

takes_unit : (u : PUnit) (us : List PUnit) (ts : List PStatement) → IsUnit u → mains us + is_main (role u.head.form) ≤ 1 → run (Between us) (unit_out u ++ ts) ≡ run (Between (us ++ (u ∷ []))) ts
takes_unit u us ts is few =
    let h = u.head in
    let tail : List PStatement = u.end ∷ ts in
    let regrouped : unit_out u ++ ts ≡ h ∷ (none_out u.none ++ (u.declarations ++ (out u.body ++ tail))) = simp append_assoc in
    let all_in : PInside = Top h u.none u.declarations u.body in
    ap (run (Between us)) regrouped
    ∙ begins_unit us h (none_out u.none ++ (u.declarations ++ (out u.body ++ tail))) is.head_is few
    ∙ takes_none u.none us h (u.declarations ++ (out u.body ++ tail)) is.none_is
    ∙ takes_declarations u.declarations us h u.none [] (out u.body ++ tail) is.declarations_are
    ∙ takes u.body us (Top h u.none u.declarations Empty) tail is.body_is
    ∙ ap (λ (j : PInside). run (Within us j) tail) (adds_top u.body h u.none u.declarations Empty)
    ∙ taken r.End (Within us all_in) (Between (us ++ (u ∷ []))) u.end ts (ends_role h.form u.end.form is.ends_it)
    (ap (λ (t : Bool). cond t (some u) None >>= λ v. some (Between (us ++ (v ∷ [])))) is.ends_it)

units_again : (vs us : List PUnit) → AreUnits vs → mains us + mains vs ≤ 1 → run (Between us) (written_out vs) ≡ Some (Between (us ++ vs))
units_again [] us is few = ap (λ (z : List PUnit). some (Between z)) (sym (append-nil us))
units_again (v ∷ vs) us is few =
    takes_unit v us (written_out vs) is.0 (omega (arith, few))
    ∙ units_again vs (us ++ (v ∷ [])) is.1 (omega (arith, few, mains_put us v))
    ∙ ap (λ (z : List PUnit). some (Between z)) (append_assoc us (v ∷ []) vs)

pub nested_taken : (items : List PStatement) (us : List PUnit) → AreWritten us items → run start items ≡ Some (Between us)
nested_taken items us w = ap (run start) w.parts ∙ units_again us [] w.are_units (omega (arith, w.one_main))

pub begins_taken : (items : List PStatement) → Begins items → (q : POpen) × (run start items ≡ Some q)
begins_taken items b =
    let whole : run start (items ++ b.0) ≡ Some (Between b.1.0) = nested_taken (items ++ b.0) b.1.0 b.1.1 in
    let t = bind_some (run start items) (λ p. run p b.0) (Between b.1.0) (sym (run_append items b.0 start) ∙ whole) in
    (t.0, t.1)
