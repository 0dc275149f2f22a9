-- What the steps take begins some units written out, and what begins them is taken.
use Rattle.std.proofs.Common.{◌≡◌, ◌+◌, ◌≤◌, Bool, true, false, ◌||◌, not, List, [], ◌∷◌, ◌++◌, Option, Some, None, refl, sym, ap, subst, ◌∙◌, append_assoc, arith, inl, inr, ◌⊎◌}
use Rattle.std.proofs.lemmas.List.{append-nil}
use Rattle.cdc_tree.specs.Forms.{PStatement}
use Rattle.cdc_nest.specs.declared.role.Role.{Role}
use Rattle.cdc_nest.specs.declared.role.Role.TheVariants as r
use Rattle.cdc_tree.specs.Options.{◌>>=◌}
use Rattle.cdc_nest.specs.Roles.{role, ends}
use Rattle.cdc_tree.specs.Units.{PNode, NPlain, NIf, NElse, NLoop, PBody, Empty, More, PBranches, BNone, BMore, PUnit, node_out, out, branches_out, none_out, unit_out, written_out}
use Rattle.cdc_nest.specs.Units.{Is, IsNode, IsBody, AreBranches, AreFurther, IsLoop, IsNone, AllDeclare, IsHead, IsUnit, AreUnits, is_main, mains}
use Rattle.cdc_nest.specs.Nesting.{PInside, Top, InIf, InElse, InLoop, POpen, Between, Within, put, put_branch, add, is_empty, is_bare, implicit, declare, else_if, otherwise, end_if, ends_loop, end_loop, step_in, close, is_program, has_main, started, may_begin, begin, continued, go_on, step, run}
use Rattle.cdc_tree.proofs.Options.{some, some_is, bind_some, if_some}

-- ---- the statements so far

abbrev pub so_in : PInside → List PStatement
so_in (Top h n ds b) = h ∷ (none_out n ++ (ds ++ out b))
so_in (InIf o bs h b) = so_in o ++ (branches_out bs ++ (h ∷ out b))
so_in (InElse o bs h b) = so_in o ++ (branches_out bs ++ (h ∷ out b))
so_in (InLoop o h b) = so_in o ++ (h ∷ out b)

abbrev pub so_far : POpen → List PStatement
so_far (Between us) = written_out us
so_far (Within us i) = written_out us ++ so_in i

out_put : (b : PBody) (n : PNode) → out (put b n) ≡ out b ++ node_out n
out_put Empty n = append-nil (node_out n)
out_put (More m b) n = ap (λ (x : List PStatement). node_out m ++ x) (out_put b n) ∙ sym (append_assoc (node_out m) (out b) (node_out n))

branches_out_put : (bs : PBranches) (h : PStatement) (b : PBody) → branches_out (put_branch bs h b) ≡ branches_out bs ++ (h ∷ out b)
branches_out_put BNone h b = ap (λ (x : List PStatement). h ∷ x) (append-nil (out b))
branches_out_put (BMore k a more) h b = ap (λ (x : List PStatement). k ∷ (out a ++ x)) (branches_out_put more h b) ∙ ap (λ (x : List PStatement). k ∷ x) (sym (append_assoc (out a) (branches_out more) (h ∷ out b)))

pub written_put : (us : List PUnit) (u : PUnit) → written_out (us ++ (u ∷ [])) ≡ written_out us ++ unit_out u
written_put [] u = append-nil (unit_out u)
written_put (v ∷ us) u = ap (λ (x : List PStatement). unit_out v ++ x) (written_put us u) ∙ sym (append_assoc (unit_out v) (written_out us) (unit_out u))

so_in_add : (o : PInside) (n : PNode) → so_in (add o n) ≡ so_in o ++ node_out n
so_in_add (Top h m ds b) n = ap (λ (x : List PStatement). h ∷ (none_out m ++ (ds ++ x))) (out_put b n) ∙ simp append_assoc
so_in_add (InIf o bs h b) n = ap (λ (x : List PStatement). so_in o ++ (branches_out bs ++ (h ∷ x))) (out_put b n) ∙ simp append_assoc
so_in_add (InElse o bs h b) n = ap (λ (x : List PStatement). so_in o ++ (branches_out bs ++ (h ∷ x))) (out_put b n) ∙ simp append_assoc
so_in_add (InLoop o h b) n = ap (λ (x : List PStatement). so_in o ++ (h ∷ x)) (out_put b n) ∙ simp append_assoc

-- ---- what is valid so far

abbrev pub HeadsIf : PBranches → Role → Type 0
HeadsIf BNone x = x ≡ r.If
HeadsIf (BMore k a more) x = AreBranches (BMore k a more) × (x ≡ r.ElseIf)

abbrev pub ValidIn : PInside → Type 0
ValidIn (Top h n ds b) = IsHead (role h.form) × IsNone n × AllDeclare ds × IsBody b
ValidIn (InIf o bs h b) = ValidIn o × HeadsIf bs (role h.form) × IsBody b
ValidIn (InElse o bs h b) = ValidIn o × AreBranches bs × Is r.Else h × IsBody b
ValidIn (InLoop o h b) = ValidIn o × (Is r.Do h ⊎ Is r.Doall h) × IsBody b

abbrev pub head_of : PInside → PStatement
head_of (Top h n ds b) = h
head_of (InIf o bs h b) = head_of o
head_of (InElse o bs h b) = head_of o
head_of (InLoop o h b) = head_of o

pub record ValidWithin (us : List PUnit) (i : PInside) : Type 0 where
  pub units : AreUnits us
  pub parts : ValidIn i
  pub few : mains us + is_main (role (head_of i).form) ≤ 1

pub record ValidBetween (us : List PUnit) : Type 0 where
  pub units : AreUnits us
  pub few : mains us ≤ 1

abbrev pub Valid : POpen → Type 0
Valid (Between us) = ValidBetween us
Valid (Within us i) = ValidWithin us i

body_put : (b : PBody) (n : PNode) → IsBody b → IsNode n → IsBody (put b n)
body_put Empty n hb hn = (hn, tt)
body_put (More m b) n hb hn = (hb.0, body_put b n hb.1 hn)

further_put : (bs : PBranches) (h : PStatement) (b : PBody) → AreFurther bs → Is r.ElseIf h → IsBody b → AreFurther (put_branch bs h b)
further_put BNone h b hs hh hb = (hh, hb, tt)
further_put (BMore k a more) h b hs hh hb = (hs.0, hs.1, further_put more h b hs.2 hh hb)

branches_put : (bs : PBranches) (h : PStatement) (b : PBody) → HeadsIf bs (role h.form) → IsBody b → AreBranches (put_branch bs h b)
branches_put BNone h b hh hb = (hh, hb, tt)
branches_put (BMore k a more) h b hh hb = (hh.0.0, hh.0.1, further_put more h b hh.0.2 hh.1 hb)

heads_more : (bs : PBranches) (h : PStatement) (b : PBody) (x : Role) → AreBranches (put_branch bs h b) → x ≡ r.ElseIf → HeadsIf (put_branch bs h b) x
heads_more BNone h b x hs e = (hs, e)
heads_more (BMore k a more) h b x hs e = (hs, e)

add_valid : (o : PInside) (n : PNode) → ValidIn o → IsNode n → ValidIn (add o n)
add_valid (Top h m ds b) n v hn = (v.0, v.1, v.2, body_put b n v.3 hn)
add_valid (InIf o bs h b) n v hn = (v.0, v.1, body_put b n v.2 hn)
add_valid (InElse o bs h b) n v hn = (v.0, v.1, v.2, body_put b n v.3 hn)
add_valid (InLoop o h b) n v hn = (v.0, v.1, body_put b n v.2 hn)

head_add : (o : PInside) (n : PNode) → head_of (add o n) ≡ head_of o
head_add (Top h m ds b) n = refl
head_add (InIf o bs h b) n = refl
head_add (InElse o bs h b) n = refl
head_add (InLoop o h b) n = refl

declare_put : (ds : List PStatement) (s : PStatement) → AllDeclare ds → Is r.Declaration s → AllDeclare (ds ++ (s ∷ []))
declare_put [] s h hs = (hs, tt)
declare_put (d ∷ ds) s h hs = (h.0, declare_put ds s h.1 hs)

-- ---- a step adds its statement, and keeps what is valid

pub record Grown (i : PInside) (s : PStatement) (j : PInside) : Type 0 where
  pub text : so_in j ≡ so_in i ++ (s ∷ [])
  pub valid : ValidIn i → ValidIn j
  pub head_is : head_of j ≡ head_of i

grown_now : (i : PInside) (s : PStatement) (made j : PInside) → Grown i s made → some made ≡ Some j → Grown i s j
grown_now i s made j g e = subst (λ (k : PInside). Grown i s k) (some_is made j e) g

added : (i : PInside) (s : PStatement) (j : PInside) → Is r.Plain s → some (add i (NPlain s)) ≡ Some j → Grown i s j
added i s j h e = grown_now i s (add i (NPlain s)) j (record { text = so_in_add i (NPlain s); valid = λ v. add_valid i (NPlain s) v h; head_is = head_add i (NPlain s) }) e

bare_is : (n : Option PStatement) (ds : List PStatement) (b : PBody) → is_bare n ds b ≡ true → (n ≡ None) × (ds ≡ []) × (b ≡ Empty)
bare_is None [] Empty e = (refl, refl, refl)
bare_is n ds b e = absurd cc

empty_is : (b : PBody) → is_empty b ≡ true → b ≡ Empty
empty_is Empty e = refl
empty_is (More m b) e = absurd cc

implicit_grown : (i : PInside) (s : PStatement) (j : PInside) → Is r.ImplicitNone s → implicit i s ≡ Some j → Grown i s j
implicit_grown (Top h n ds b) s j is e =
    let c = if_some (is_bare n ds b) (Top h (Some s) ds b) j e in
    let bare = bare_is n ds b c.0 in
    let before : so_in (Top h n ds b) ≡ h ∷ [] = ap (λ (z : Option PStatement). so_in (Top h z ds b)) bare.0 ∙ ap (λ (z : List PStatement). so_in (Top h None z b)) bare.1 ∙ ap (λ (z : PBody). so_in (Top h None [] z)) bare.2 in
    let after : so_in (Top h (Some s) ds b) ≡ h ∷ (s ∷ []) = ap (λ (z : List PStatement). so_in (Top h (Some s) z b)) bare.1 ∙ ap (λ (z : PBody). so_in (Top h (Some s) [] z)) bare.2 in
    subst (λ (k : PInside). Grown (Top h n ds b) s k) c.1 (record { text = after ∙ ap (λ (z : List PStatement). z ++ (s ∷ [])) (sym before); valid = λ v. (v.0, is, v.2, v.3); head_is = refl })
implicit_grown i s j is e = absurd cc

declared_text : (h : PStatement) (n : Option PStatement) (ds : List PStatement) (s : PStatement) → so_in (Top h n (ds ++ (s ∷ [])) Empty) ≡ so_in (Top h n ds Empty) ++ (s ∷ [])
declared_text h n ds s = ap (λ (x : List PStatement). h ∷ (none_out n ++ x)) (append-nil (ds ++ (s ∷ [])) ∙ ap (λ (x : List PStatement). x ++ (s ∷ [])) (sym (append-nil ds))) ∙ ap (λ (x : List PStatement). h ∷ x) (sym (append_assoc (none_out n) (ds ++ []) (s ∷ [])))

declare_grown : (i : PInside) (s : PStatement) (j : PInside) → Is r.Declaration s → declare i s ≡ Some j → Grown i s j
declare_grown (Top h n ds b) s j is e =
    let c = if_some (is_empty b) (Top h n (ds ++ (s ∷ [])) b) j e in
    let bare = empty_is b c.0 in
    let text : so_in (Top h n (ds ++ (s ∷ [])) b) ≡ so_in (Top h n ds b) ++ (s ∷ []) =
    ap (λ (z : PBody). so_in (Top h n (ds ++ (s ∷ [])) z)) bare ∙ declared_text h n ds s ∙ ap (λ (z : PBody). so_in (Top h n ds z) ++ (s ∷ [])) (sym bare) in
    subst (λ (k : PInside). Grown (Top h n ds b) s k) c.1 (record { text = text; valid = λ v. (v.0, v.1, declare_put ds s v.2 is, v.3); head_is = refl })
declare_grown i s j is e = absurd cc

branch_text : (o : PInside) (bs : PBranches) (h : PStatement) (b : PBody) (s : PStatement) → so_in o ++ (branches_out (put_branch bs h b) ++ (s ∷ [])) ≡ (so_in o ++ (branches_out bs ++ (h ∷ out b))) ++ (s ∷ [])
branch_text o bs h b s = ap (λ (x : List PStatement). so_in o ++ (x ++ (s ∷ []))) (branches_out_put bs h b) ∙ sym (append_assoc (so_in o) (branches_out bs ++ (h ∷ out b)) (s ∷ []))

else_if_grown : (i : PInside) (s : PStatement) (j : PInside) → Is r.ElseIf s → else_if i s ≡ Some j → Grown i s j
else_if_grown (InIf o bs h b) s j is e =
    grown_now (InIf o bs h b) s (InIf o (put_branch bs h b) s Empty) j (record { text = branch_text o bs h b s; valid = λ v. (v.0, heads_more bs h b (role s.form) (branches_put bs h b v.1 v.2) is, tt); head_is = refl }) e
else_if_grown i s j is e = absurd cc

otherwise_grown : (i : PInside) (s : PStatement) (j : PInside) → Is r.Else s → otherwise i s ≡ Some j → Grown i s j
otherwise_grown (InIf o bs h b) s j is e =
    grown_now (InIf o bs h b) s (InElse o (put_branch bs h b) s Empty) j (record { text = branch_text o bs h b s; valid = λ v. (v.0, branches_put bs h b v.1 v.2, is, tt); head_is = refl }) e
otherwise_grown i s j is e = absurd cc

pub end_if_grown : (i : PInside) (s : PStatement) (j : PInside) → Is r.EndIf s → end_if i s ≡ Some j → Grown i s j
end_if_grown (InIf o bs h b) s j is e =
    let n = NIf (put_branch bs h b) s in
    grown_now (InIf o bs h b) s (add o n) j (record { text = so_in_add o n ∙ branch_text o bs h b s; valid = λ v. add_valid o n v.0 (branches_put bs h b v.1 v.2, is); head_is = head_add o n }) e
end_if_grown (InElse o bs h b) s j is e =
    let n = NElse bs h b s in
    grown_now (InElse o bs h b) s (add o n) j (record { text = so_in_add o n ∙ simp append_assoc; valid = λ v. add_valid o n v.0 (v.1, v.2, v.3, is); head_is = head_add o n }) e
end_if_grown i s j is e = absurd cc

-- the heads that an END ends
ends_loop_is : (x y : Role) → ends_loop x y ≡ true → IsLoop x y
ends_loop_is r.Do r.EndDo e = inl (refl, refl)
ends_loop_is r.Doall r.EndDoall e = inr (refl, refl)
ends_loop_is x y e = absurd cc

pub end_loop_grown : (i : PInside) (s : PStatement) (x : Role) (j : PInside) → Is x s → end_loop i s x ≡ Some j → Grown i s j
end_loop_grown (InLoop o h b) s x j is e =
    let n = NLoop h b s in
    let c = if_some (ends_loop (role h.form) x) (add o n) j e in
    let l : IsLoop (role h.form) (role s.form) = subst (λ (y : Role). IsLoop (role h.form) y) (sym is) (ends_loop_is (role h.form) x c.0) in
    subst (λ (k : PInside). Grown (InLoop o h b) s k) c.1 (record { text = so_in_add o n ∙ sym (append_assoc (so_in o) (h ∷ out b) (s ∷ [])); valid = λ v. add_valid o n v.0 (l, v.2); head_is = head_add o n })
end_loop_grown i s x j is e = absurd cc

step_grown : (x : Role) (i : PInside) (s : PStatement) (j : PInside) → Is x s → step_in x i s ≡ Some j → Grown i s j
step_grown r.Plain i s j is e = added i s j is e
step_grown r.If i s j is e = grown_now i s (InIf i BNone s Empty) j (record { text = refl; valid = λ v. (v, is, tt); head_is = refl }) e
step_grown r.Do i s j is e = grown_now i s (InLoop i s Empty) j (record { text = refl; valid = λ v. (v, inl is, tt); head_is = refl }) e
step_grown r.Doall i s j is e = grown_now i s (InLoop i s Empty) j (record { text = refl; valid = λ v. (v, inr is, tt); head_is = refl }) e
step_grown r.ImplicitNone i s j is e = implicit_grown i s j is e
step_grown r.Declaration i s j is e = declare_grown i s j is e
step_grown r.ElseIf i s j is e = else_if_grown i s j is e
step_grown r.Else i s j is e = otherwise_grown i s j is e
step_grown r.EndIf i s j is e = end_if_grown i s j is e
step_grown r.EndDo i s j is e = end_loop_grown i s r.EndDo j is e
step_grown r.EndDoall i s j is e = end_loop_grown i s r.EndDoall j is e
step_grown x i s j is e = absurd cc

-- ---- units

pub units_put : (us : List PUnit) (u : PUnit) → AreUnits us → IsUnit u → AreUnits (us ++ (u ∷ []))
units_put [] u hs hu = (hu, tt)
units_put (v ∷ us) u hs hu = (hs.0, units_put us u hs.1 hu)

pub mains_put : (us : List PUnit) (u : PUnit) → mains (us ++ (u ∷ [])) ≡ mains us + is_main (role u.head.form)
mains_put [] u = omega arith
mains_put (v ∷ us) u = omega (arith, mains_put us u)

pub record GrownOpen (o : POpen) (s : PStatement) (q : POpen) : Type 0 where
  pub text : so_far q ≡ so_far o ++ (s ∷ [])
  pub valid : Valid o → Valid q

grown_open : (o : POpen) (s : PStatement) (made q : POpen) → GrownOpen o s made → some made ≡ Some q → GrownOpen o s q
grown_open o s made q g e = subst (λ (k : POpen). GrownOpen o s k) (some_is made q e) g

continued_grown : (x : Role) (us : List PUnit) (i : PInside) (s : PStatement) (q : POpen) → Is x s → continued x us i s ≡ Some q → GrownOpen (Within us i) s q
continued_grown x us i s q is e =
    let b = bind_some (step_in x i s) (λ j. Some (Within us j)) q e in
    let g = step_grown x i s b.0 is b.1 in
    grown_open (Within us i) s (Within us b.0) q (record {
      text = ap (λ (z : List PStatement). written_out us ++ z) g.text ∙ sym (append_assoc (written_out us) (so_in i) (s ∷ []));
      valid = λ v. record { units = v.units; parts = g.valid v.parts; few = subst (λ (h : PStatement). mains us + is_main (role h.form) ≤ 1) (sym g.head_is) v.few };
    }) b.2

abbrev pub made_unit : PStatement → Option PStatement → List PStatement → PBody → PStatement → PUnit
made_unit h n ds b s = record { head = h; none = n; declarations = ds; body = b; end = s }

pub unit_text : (h : PStatement) (n : Option PStatement) (ds : List PStatement) (b : PBody) (s : PStatement) → unit_out (made_unit h n ds b s) ≡ so_in (Top h n ds b) ++ (s ∷ [])
unit_text h n ds b s = simp append_assoc

close_grown : (us : List PUnit) (i : PInside) (s : PStatement) (q : POpen) → (close i s >>= λ u. Some (Between (us ++ (u ∷ [])))) ≡ Some q → GrownOpen (Within us i) s q
close_grown us (Top h n ds b) s q e =
    let u = bind_some (close (Top h n ds b) s) (λ u. Some (Between (us ++ (u ∷ [])))) q e in
    let made : PUnit = made_unit h n ds b s in
    let c = if_some (ends h.form s.form) made u.0 u.1 in
    let e2 : some (Between (us ++ (made ∷ []))) ≡ Some q = ap (λ (v : PUnit). some (Between (us ++ (v ∷ [])))) c.1 ∙ u.2 in
    grown_open (Within us (Top h n ds b)) s (Between (us ++ (made ∷ []))) q (record {
      text = written_put us made ∙ ap (λ (z : List PStatement). written_out us ++ z) (unit_text h n ds b s) ∙ sym (append_assoc (written_out us) (so_in (Top h n ds b)) (s ∷ []));
      valid = λ v. record {
        units = units_put us made v.units (record { head_is = v.parts.0; none_is = v.parts.1; declarations_are = v.parts.2; body_is = v.parts.3; ends_it = c.0 });
        few = omega (arith, v.few, mains_put us made);
      };
    }) e2
close_grown us i s q e = absurd cc

main_none : (x : Role) → is_program x ≡ false → is_main x ≡ 0
main_none r.Program e = absurd cc
main_none x e = refl

main_one : (x : Role) → is_program x ≡ true → is_main x ≡ 1
main_one r.Program e = refl
main_one x e = absurd cc

or_false : (a b : Bool) → (a || b) ≡ false → (a ≡ false) × (b ≡ false)
or_false true b e = absurd cc
or_false false b e = (refl, e)

pub has_main_none : (us : List PUnit) → has_main us ≡ false → mains us ≡ 0
has_main_none [] e = refl
has_main_none (u ∷ us) e =
    let c = or_false (is_program (role u.head.form)) (has_main us) e in
    omega (arith, main_none (role u.head.form) c.0, has_main_none us c.1)

pub no_mains : (us : List PUnit) → mains us ≡ 0 → has_main us ≡ false
no_mains [] e = refl
no_mains (u ∷ us) e = by_test (is_program (role u.head.form)) refl (no_mains us)
  where
    by_test : (t : Bool) → is_program (role u.head.form) ≡ t → (mains us ≡ 0 → has_main us ≡ false) → (is_program (role u.head.form) || has_main us) ≡ false
    by_test true h rest = absurd (omega (arith, main_one (role u.head.form) h, e))
    by_test false h rest = ap (λ (x : Bool). x || has_main us) h ∙ rest (omega (arith, e))

begun : (us : List PUnit) (s : PStatement) (q : POpen) → IsHead (role s.form) → (ValidBetween us → mains us + is_main (role s.form) ≤ 1) → some (started us s) ≡ Some q → GrownOpen (Between us) s q
begun us s q head few e = grown_open (Between us) s (started us s) q (record { text = refl; valid = λ v. record { units = v.units; parts = (head, tt, tt, tt); few = few v } }) e

not_true : (t : Bool) → not t ≡ true → t ≡ false
not_true true e = absurd cc
not_true false e = refl

may_begin_is : (x : Role) (us : List PUnit) → may_begin x us ≡ true → IsHead x × (mains us ≤ 1 → mains us + is_main x ≤ 1)
may_begin_is r.Program us e = let none = has_main_none us (not_true (has_main us) e) in (inl refl, λ few. omega (arith, none))
may_begin_is r.Subroutine us e = (inr refl, λ few. omega (arith, few))
may_begin_is x us e = absurd cc

begin_grown : (us : List PUnit) (s : PStatement) (q : POpen) → begin (role s.form) us s ≡ Some q → GrownOpen (Between us) s q
begin_grown us s q e =
    let c = if_some (may_begin (role s.form) us) (started us s) q e in
    let h = may_begin_is (role s.form) us c.0 in
    begun us s q h.0 (λ v. h.1 v.few) (ap (λ (z : POpen). some z) c.1)

go_on_grown : (x : Role) (us : List PUnit) (i : PInside) (s : PStatement) (q : POpen) → Is x s → go_on x us i s ≡ Some q → GrownOpen (Within us i) s q
go_on_grown r.End us i s q is e = close_grown us i s q e
go_on_grown x us i s q is e = continued_grown x us i s q is e

pub step_open : (o q : POpen) (s : PStatement) → step o s ≡ Some q → GrownOpen o s q
step_open (Between us) q s e = begin_grown us s q e
step_open (Within us i) q s e = go_on_grown (role s.form) us i s q refl e

pub record GrownRun (o : POpen) (ss : List PStatement) (q : POpen) : Type 0 where
  pub text : so_far q ≡ so_far o ++ ss
  pub valid : Valid o → Valid q

pub run_grown : (ss : List PStatement) (o q : POpen) → run o ss ≡ Some q → GrownRun o ss q
run_grown [] o q e = subst (λ (k : POpen). GrownRun o [] k) (some_is o q e) (record { text = sym (append-nil (so_far o)); valid = λ v. v })
run_grown (s ∷ ss) o q e =
    let b = bind_some (step o s) (λ p. run p ss) q e in
    let g = step_open o b.0 s b.1 in
    let more = run_grown ss b.0 q b.2 in
    record { text = more.text ∙ ap (λ (z : List PStatement). z ++ ss) g.text ∙ append_assoc (so_far o) (s ∷ []) ss; valid = λ v. more.valid (g.valid v) }

pub run_append : (a b : List PStatement) (o : POpen) → run o (a ++ b) ≡ (run o a >>= λ p. run p b)
run_append [] b o = refl
run_append (s ∷ ss) b o = go (λ p. run_append ss b p) (step o s)
  where
    go : ((p : POpen) → run p (ss ++ b) ≡ (run p ss >>= λ x. run x b)) → (x : Option POpen) → (x >>= λ p. run p (ss ++ b)) ≡ ((x >>= λ p. run p ss) >>= λ p. run p b)
    go h (Some p) = h p
    go h None = refl
