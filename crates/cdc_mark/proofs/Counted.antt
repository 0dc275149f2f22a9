-- What counts in a program without CALL, by the references of its main unit.
use Rattle.std.proofs.Common.{◌≡◌, ℕ, zero, suc, ◌+◌, ◌-◌, ◌≤◌, ◌<◌, Bool, true, false, List, [], ◌∷◌, ◌++◌, length, map, get_or, refl, sym, ap, ◌∙◌, subst, inl, inr, slice_index, slice_get, option_map, Option, Some, None, arith}
use Rattle.std.proofs.lemmas.Bool.{cases_lt}
use Rattle.std.proofs.lemmas.Option.{slice_get_within, get_or_from_slice_get, slice_get-map}
use Rattle.cdc_num.specs.declared.triplet.Triplet.{Triplet}
use Rattle.cdc_prog.specs.declared.expr.Var.{Var}
use Rattle.cdc_prog.specs.declared.expr.Var.TheVariants as var
use Rattle.cdc_prog.specs.declared.program.Mark.{Mark}
use Rattle.cdc_prog.specs.declared.program.Mark.TheVariants.{Ordinary}
use Rattle.cdc_prog.specs.Plain.{Actual, Stmt, Skip, Seq, Assign, If, Arm, Do, Doall, Call, Print, Read, Program}
use Rattle.cdc_prog.specs.Numbered.{calls_in}
use Rattle.cdc_prog.specs.Data.{dims_at, dims_of}
use Rattle.cdc_prog.specs.Dependence.{Spot}
use Rattle.cdc_prog.specs.Iterations as iterations
use Rattle.cdc_prog.specs.Paths.{IsUnder, Denotes}
use Rattle.cdc_prog.specs.Resolved.{IsResolved, HasNoCall}
use Rattle.cdc_prog.specs.Sections.{section, Overlap}
use Rattle.cdc_prog.specs.Units.{body_of, binding_of, shapes_in}
use Rattle.cdc_prog.specs.Uses.{HasCall}
use Rattle.cdc_prog.proofs.Serial.{uncalled}
use Rattle.cdc_path.specs.declared.point.Point.{Point}
use Rattle.cdc_path.specs.declared.point.Point.TheVariants as point
use Rattle.cdc_path.specs.PathExpr.{Visit, Passes}
use Rattle.cdc_path.specs.Courses.{IsPath}
use Rattle.cdc_path.specs.Covers.{HasCover}
use Rattle.cdc_path.specs.References.{refs, outside, Touches}
use Rattle.cdc_path.specs.Marks.{visit, Counts, IsMark, LeadsTo, IsAscending, AreWrittenLists, AreMarks}
use Rattle.cdc_path.proofs.Uncalled.{one_unit}
use Rattle.cdc_flow.specs.declared.graph.FlowGraph.{FlowGraph}
use Rattle.cdc_flow.specs.Flow.{HasEdge, point_at, Reach, IsFlow}
use Rattle.cdc_mark.specs.declared.references.Reference.{Reference}
use Rattle.cdc_mark.specs.Least.{IsLeast}
use Rattle.cdc_prog.specs.declared.program.Marks.{Marks}
use Rattle.cdc_mark.specs.Marked.{mark_of, IsMarkAt, AreCovered, AreMarksAt}
use Rattle.cdc_mark.specs.Seen.{unbound, object_in, seen, SameObject, Meets, main_course, main_refs}
use Rattle.cdc_mark.specs.Ways.{here, CountsAt}
use Rattle.cdc_mark.specs.Classes.{HaveRoom, IsWriteAt, IsWriteFor, CountsAny, IsWriteOfAt}
use Rattle.cdc_mark.specs.Rows.{Leads, AreListed}
use Rattle.cdc_mark.proofs.Glue.{kind}
use Rattle.cdc_mark.proofs.Lowered.{some_at, at_some}
use Rattle.cdc_mark.proofs.Marking.{near_mark, far_mark}

-- ---- without CALL
uncalling : (number unit : ℕ) (actuals : List Actual) (s : Stmt) → calls_in s ≡ 0 → HasCall number unit actuals s → ⊥
uncalling number unit actuals Skip none h = h
uncalling number unit actuals (Seq a b) none (inl h) = uncalling number unit actuals a (omega (arith, none)) h
uncalling number unit actuals (Seq a b) none (inr h) = uncalling number unit actuals b (omega (arith, none)) h
uncalling number unit actuals (Assign line t value) none h = h
uncalling number unit actuals (If arms) none h = uncalling number unit actuals arms none h
uncalling number unit actuals (Arm line cond body other) none (inl h) = uncalling number unit actuals body (omega (arith, none)) h
uncalling number unit actuals (Arm line cond body other) none (inr h) = uncalling number unit actuals other (omega (arith, none)) h
uncalling number unit actuals (Do k first body again bump) none h = uncalling number unit actuals body none h
uncalling number unit actuals (Doall k n slots body) none h = uncalling number unit actuals body none h
uncalling number unit actuals (Call line n u others) none h = cc
uncalling number unit actuals (Print line items) none h = h
uncalling number unit actuals (Read line targets) none h = h

-- ---- lists
is_in_at : (a : Spot) (xs : List Spot) → iterations.IsIn a xs → (i : ℕ) × (slice_get xs i ≡ Some a)
is_in_at a [] h = absurd h
is_in_at a (x ∷ xs) (inl e) = (0, ap Some (sym e))
is_in_at a (x ∷ xs) (inr h) = (let r = is_in_at a xs h in (suc r.0, r.1))

same_spot : (a b : Spot) → Some a ≡ Some b → a ≡ b
same_spot a b e = cc

same_reference : (a b : Reference) → Some a ≡ Some b → a ≡ b
same_reference a b e = cc

at_is_in : (a : Spot) (xs : List Spot) (i : ℕ) → slice_get xs i ≡ Some a → iterations.IsIn a xs
at_is_in a [] i e = cc
at_is_in a (x ∷ xs) zero e = inl (sym (same_spot x a e))
at_is_in a (x ∷ xs) (suc i) e = inr (at_is_in a xs i e)

at_map : (f : Spot → Reference) (xs : List Spot) (i : ℕ) (q : Reference) → slice_get (map f xs) i ≡ Some q → (s : Spot) × (slice_get xs i ≡ Some s) × (f s ≡ q)
at_map f [] i q e = cc
at_map f (x ∷ xs) zero q e = (x, refl, same_reference (f x) q e)
at_map f (x ∷ xs) (suc i) q e = at_map f xs i q e

member_cases : (x y : Visit) (xs : List Visit) (A : Type 0) → iterations.IsIn x (y ∷ xs) → (x ≡ y → A) → (iterations.IsIn x xs → A) → A
member_cases x y xs A (inl e) f g = f e
member_cases x y xs A (inr i) f g = g i

-- ---- objects
same_number : (a b : ℕ) → Some a ≡ Some b → a ≡ b
same_number a b e = cc

objects_of : (a b : Option ℕ) → SameObject a b → (o : ℕ) × (a ≡ Some o) × (b ≡ Some o)
objects_of (Some a) (Some b) e = (a, refl, ap Some (sym e))
objects_of (Some a) None e = absurd e
objects_of None (Some b) e = absurd e
objects_of None None e = absurd e

one_object : (a b : Option ℕ) (o : ℕ) → a ≡ Some o → b ≡ Some o → SameObject a b
one_object (Some a) (Some b) o e f = same_number a o e ∙ sym (same_number b o f)
one_object (Some a) None o e f = cc
one_object None b o e f = cc

denoted : (p : Program) (path : List ℕ) (u : ℕ) (bound : List ℕ) (v : Var) (object : ℕ) → bound ≡ [] → Denotes (binding_of p path u bound) v object → object_in v ≡ Some object
denoted p path u bound (var.Object k) object e d = ap Some d
denoted p path u bound (var.Dummy k) object e d = ap Some (sym (ap (λ b. get_or b k 0) e) ∙ d)
denoted p path u bound (var.Slot k) object e d = absurd d

denotes : (p : Program) (v : Var) (object : ℕ) → object_in v ≡ Some object → Denotes (binding_of p [] p.main []) v object
denotes p (var.Object k) object e = same_number k object e
denotes p (var.Dummy k) object e = same_number 0 object e
denotes p (var.Slot k) object e = cc

-- a reference that touches an object in a section
pub record Touching (rs : List Reference) (w : Bool) (site object : ℕ) (ts : List Triplet) : Type 0 where
  pub place : ℕ
  pub ref : Reference
  pub is : slice_get rs place ≡ Some ref
  pub writes : ref.writes ≡ w
  pub site_is : ref.site ≡ site
  pub object_is : ref.object ≡ Some object
  pub section_is : ref.section ≡ ts

module _ (p : Program) (r : IsResolved p) (n : HasNoCall p) where
  under_main : (path : List ℕ) (u : ℕ) (bound : List ℕ) → IsUnder p path u bound → (path ≡ []) × (u ≡ p.main) × (bound ≡ [])
  under_main [] u bound h = (refl, h.0, h.1)
  under_main (number ∷ path) u bound (caller, outer, actuals, under, has, passed) = absurd (uncalling number u actuals (body_of p caller) (uncalled p r n caller) has)

  same_dims : (path : List ℕ) (u : ℕ) (bound : List ℕ) (v : Var) → u ≡ p.main → dims_of (binding_of p path u bound) v ≡ dims_of (unbound p.objects) v
  same_dims path u bound v e = ap (λ shapes. dims_at p.objects shapes v) (ap (λ k. shapes_in (slice_get p.units k)) e ∙ r.main_alone)

  touching : (w : Bool) (path : List ℕ) (site object : ℕ) (ts : List Triplet) → Touches p w path site object ts → (path ≡ []) × Touching (main_refs p) w site object ts
  touching w path site object ts t =
      let m = under_main path t.unit t.bound t.under in
      let spots = refs outside (body_of p p.main) in
      let f = seen (unbound p.objects) in
      let i = is_in_at t.at spots (subst (λ u. iterations.IsIn t.at (refs outside (body_of p u))) m.1 t.stands) in (
        m.0,
        record {
          place = i.0;
          ref = f t.at;
          is = slice_get-map f spots i.0 ∙ ap (option_map f) i.1;
          writes = t.kind;
          site_is = t.site_is;
          object_is = denoted p path t.unit t.bound t.at.at.var object m.2 t.object_is;
          section_is = ap (section t.at.scope t.at.subs) (sym (same_dims path t.unit t.bound t.at.at.var m.1)) ∙ t.section_is;
        },
      )

  touches : (w : Bool) (site object : ℕ) (ts : List Triplet) → Touching (main_refs p) w site object ts → Touches p w [] site object ts
  touches w site object ts t =
      let spots = refs outside (body_of p p.main) in
      let x = at_map (seen (unbound p.objects)) spots t.place t.ref t.is in
      let s = x.0 in record {
        unit = p.main;
        bound = [];
        under = (refl, refl);
        at = s;
        stands = at_is_in s spots t.place x.1;
        kind = ap (λ (q : Reference). q.writes) x.2 ∙ t.writes;
        site_is = ap (λ (q : Reference). q.site) x.2 ∙ t.site_is;
        object_is = denotes p s.at.var object (ap (λ (q : Reference). q.object) x.2 ∙ t.object_is);
        section_is = ap (section s.scope s.subs) (same_dims [] p.main [] s.at.var refl) ∙ (ap (λ (q : Reference). q.section) x.2 ∙ t.section_is);
      }

  inward : (u : List Visit) → IsPath p u → Passes (main_course p) [] u
  inward u h = subst (λ c. Passes c [] u) (one_unit p r n) h

  outward : (u : List Visit) → Passes (main_course p) [] u → IsPath p u
  outward u h = subst (λ c. Passes c [] u) (sym (one_unit p r n)) h

  -- ---- marks
  pub counted : (site k : ℕ) → Counts p site k → (j : ℕ) × (k ≡ j + 1) × CountsAny (main_course p) (main_refs p) site j
  counted site k h =
      let w = touching true h.write_path h.write_site h.object h.written h.writes in
      let q = touching false h.read_path site h.object h.read h.reads in
      let way : Passes (main_course p) [] (h.after ++ (here (point.Read site) ∷ (h.between ++ (here (point.Write h.write_site) ∷ h.before)))) =
      subst (λ b. Passes (main_course p) [] (h.after ++ (here (point.Read site) ∷ (h.between ++ (visit b (point.Write h.write_site) ∷ h.before))))) w.0
      (subst (λ a. Passes (main_course p) [] (h.after ++ (visit a (point.Read site) ∷ (h.between ++ (visit h.write_path (point.Write h.write_site) ∷ h.before))))) q.0 (inward _ h.on_path)) in
      let e : k ≡ (k - 1) + 1 = omega (arith, h.apart) in
      let at : CountsAt (main_course p) h.write_site site ((k - 1) + 1) = record { before = h.before; between = h.between; after = h.after; on_path = way; later = h.later; count = h.count ∙ e; apart = omega arith } in
      let one : SameObject w.1.ref.object q.1.ref.object = one_object w.1.ref.object q.1.ref.object h.object w.1.object_is q.1.object_is in
      let over : Overlap w.1.ref.section q.1.ref.section = subst (λ ts. Overlap ts q.1.ref.section) (sym w.1.section_is) (subst (Overlap h.written) (sym q.1.section_is) h.overlap) in
      let for : IsWriteFor (main_refs p) q.1.ref h.write_site = some_at (IsWriteAt q.1.ref h.write_site) (main_refs p) w.1.place w.1.ref w.1.is (w.1.writes, (one, over), w.1.site_is) in
      (k - 1, e, (q.1.place, q.1.ref, q.1.is, q.1.writes, q.1.site_is, (h.write_site, for, at)))

  pub counting : (site j : ℕ) → CountsAny (main_course p) (main_refs p) site j → Counts p site (j + 1)
  counting site j (i, q, is, reads, at_site, (w, for, at)) =
      let s = at_some (IsWriteAt q w) (main_refs p) for in
      let write = s.1 in
      let meets : Meets q write = s.3.1 in
      let o = objects_of write.object q.object meets.0 in record {
        write_path = [];
        write_site = w;
        read_path = [];
        before = at.before;
        between = at.between;
        after = at.after;
        on_path = outward _ at.on_path;
        later = at.later;
        count = at.count;
        apart = at.apart;
        object = o.0;
        written = write.section;
        read = q.section;
        writes = touches true w o.0 write.section (record { place = s.0; ref = write; is = s.2; writes = s.3.0; site_is = s.3.2; object_is = o.1; section_is = refl });
        reads = touches false site o.0 q.section (record { place = i; ref = q; is = is; writes = reads; site_is = at_site; object_is = o.2; section_is = refl });
        overlap = meets.1;
      }

  pub mark_is : (site d : ℕ) → IsLeast (CountsAny (main_course p) (main_refs p) site) d → (HasCover p site → ⊥) → IsMark p site (mark_of d)
  mark_is site d l bare = elim (cases_lt 255 d) [
    | inl far ↦ subst (IsMark p site) (sym (far_mark d far)) (inr (λ k x. (let y = counted site k x in absurd (omega (arith, l.least y.0 y.2, far)))))
    | inr near ↦ subst (IsMark p site) (sym (near_mark d near)) (
      bare,
      λ k x. (let y = counted site k x in omega (arith, l.least y.0 y.2, y.1)),
      let m = l.met near in (m.0 + 1, counting site m.0 m.1, omega (arith, m.2)),
    )
  ]

  -- for a site at which no reference is nothing counts
  unread : (room site k : ℕ) → HaveRoom (main_refs p) room → room ≤ site → Counts p site k → ⊥
  unread room site k all ge h =
      let q = (touching false h.read_path site h.object h.read h.reads).1 in
      let below : q.ref.site < room = subst (λ (x : Reference). x.site < room) (get_or_from_slice_get (main_refs p) q.place q.ref q.ref q.is) (all q.place q.ref (slice_get_within (main_refs p) q.place q.ref q.is)) in
      omega (arith, below, q.site_is, ge)

  pub marked : (best : List ℕ) (covered : List Bool) (room site : ℕ) (m : Mark) → HaveRoom (main_refs p) room → length best ≡ room → ((s : ℕ) → s < room → IsLeast (CountsAny (main_course p) (main_refs p) s) (slice_index best s)) →
      AreCovered p room covered → IsMarkAt best covered site m → IsMark p site m
  marked best covered room site m all count l cover (inl h) = subst (IsMark p site) (sym h.1) (inr (λ k x. unread room site k all (omega (arith, h.0, count)) x))
  marked best covered room site m all count l cover (inr (inl h)) = elim (cases_lt site room) [
    | inl lt ↦ subst (IsMark p site) (sym h.1) (inl ((cover site lt).0 h.0))
    | inr ge ↦ subst (IsMark p site) (sym h.1) (inr (λ k x. unread room site k all ge x))
  ]
  marked best covered room site m all count l cover (inr (inr h)) =
      let lt : site < room = omega (arith, h.0, count) in
      subst (IsMark p site) (sym h.2) (mark_is site (slice_index best site) (l site lt) (λ x. h.1 ((cover site lt).1 x)))

  -- ---- lists
  pub leading : (b : Point) (object : ℕ) → Leads (main_course p) (main_refs p) object b → LeadsTo p b object
  leading b object (w, of, at) =
      let s = at_some (IsWriteOfAt object w) (main_refs p) of in
      let write = s.1 in record {
        write_path = [];
        write_site = w;
        path = [];
        before = at.before;
        between = at.between;
        after = at.after;
        on_path = outward _ at.on_path;
        near = at.near;
        section = write.section;
        writes = touches true w object write.section (record { place = s.0; ref = write; is = s.2; writes = s.3.0; site_is = s.3.2; object_is = s.3.1; section_is = refl });
      }

  -- the points on the paths of a graph stand under the empty call path
  reach_path : (P : ℕ → Point) (E : ℕ → ℕ → Type 0) (start k v : ℕ) (t : List Visit) → Reach P E start k v t → (x : Visit) → iterations.IsIn x t → x.path ≡ []
  reach_path P E start zero v t r x h = absurd (subst (iterations.IsIn x) r.1 h)
  reach_path P E start (suc k) v t r x h = elim (kind (P v)) [
    | inl l ↦ reach_path P E start k r.0 r.1 r.2 x (subst (iterations.IsIn x) (r.4 ∙ l.same r.1) h)
    | inr f ↦ member_cases x (here (P v)) r.1 (x.path ≡ []) (subst (iterations.IsIn x) (r.4 ∙ f r.1) h) (λ e. ap (λ (y : Visit). y.path) e) (λ i. reach_path P E start k r.0 r.1 r.2 x i)
  ]

  in_middle : (x : Visit) (xs ys : List Visit) → iterations.IsIn x (xs ++ (x ∷ ys))
  in_middle x [] ys = inl refl
  in_middle x (z ∷ xs) ys = inr (in_middle x xs ys)

  pub led : (g : FlowGraph) (b : Point) (object : ℕ) → IsFlow (main_course p) g → LeadsTo p b object → Leads (main_course p) (main_refs p) object b
  led g b object flow h =
      let w = touching true h.write_path h.write_site object h.section h.writes in
      let rest = h.between ++ (visit h.write_path (point.Write h.write_site) ∷ h.before) in
      let way : Passes (main_course p) [] (h.after ++ (visit h.path b ∷ rest)) = inward _ h.on_path in
      let reached = (flow.paths (h.after ++ (visit h.path b ∷ rest))).0 way in
      let empty : h.path ≡ [] = reach_path (point_at g.points) (HasEdge g.edges) g.start reached.0 g.end _ reached.1 (visit h.path b) (in_middle (visit h.path b) h.after rest) in
      let on : Passes (main_course p) [] (h.after ++ (here b ∷ (h.between ++ (here (point.Write h.write_site) ∷ h.before)))) =
      subst (λ a. Passes (main_course p) [] (h.after ++ (here b ∷ (h.between ++ (visit a (point.Write h.write_site) ∷ h.before))))) w.0
      (subst (λ a. Passes (main_course p) [] (h.after ++ (visit a b ∷ rest))) empty way) in (
        h.write_site,
        some_at (IsWriteOfAt object h.write_site) (main_refs p) w.1.place w.1.ref w.1.is (w.1.writes, w.1.object_is, w.1.site_is),
        record { before = h.before; between = h.between; after = h.after; on_path = on; near = h.near },
      )

  pub lists_are : (g : FlowGraph) (at : ℕ → Point) (lists : List (List ℕ)) → IsFlow (main_course p) g → AreListed (main_course p) (main_refs p) at p.doalls lists → AreWrittenLists p at lists
  lists_are g at lists flow h = record {
    count = h.count;
    each = λ k objects e.
        let lt : k < p.doalls = omega (arith, slice_get_within lists k objects e, h.count) in
        let q = get_or_from_slice_get lists k objects [] e in record {
          ascending = subst IsAscending q (h.ascending k lt);
          written = λ object. (
            λ m. leading (at (suc k)) object ((h.each k lt object).0 (subst (iterations.IsIn object) (sym q) m)),
            λ x. subst (iterations.IsIn object) q ((h.each k lt object).1 (led g (at (suc k)) object flow x)),
          );
        };
  }

  pub are_marks : (g : FlowGraph) (rs : List Reference) (best : List ℕ) (covered : List Bool) (room : ℕ) (m : Marks) → rs ≡ main_refs p → IsFlow (main_course p) g → HaveRoom rs room → length best ≡ room →
      ((s : ℕ) → s < room → IsLeast (CountsAny (main_course p) rs s) (slice_index best s)) → AreCovered p room covered → AreMarksAt best covered p.sites m.reads →
      AreListed (main_course p) rs point.Entry p.doalls m.entries → AreListed (main_course p) rs point.Exit p.doalls m.exits → AreMarks p m
  are_marks g rs best covered room m e flow all count l cover marks entries exits = record {
    count = marks.count;
    reads = λ site one last.
        let q : (site - 1) + 1 ≡ site = omega (arith, one) in
        marked best covered room site (get_or m.reads (site - 1) Ordinary) (subst (λ (x : List Reference). HaveRoom x room) e all) count
        (λ s lt. subst (λ (x : List Reference). IsLeast (CountsAny (main_course p) x s) (slice_index best s)) e (l s lt)) cover
        (subst (λ s. IsMarkAt best covered s (get_or m.reads (site - 1) Ordinary)) q (marks.each (site - 1) (omega (arith, one, last))));
    entries = lists_are g point.Entry m.entries flow (subst (λ (x : List Reference). AreListed (main_course p) x point.Entry p.doalls m.entries) e entries);
    exits = lists_are g point.Exit m.exits flow (subst (λ (x : List Reference). AreListed (main_course p) x point.Exit p.doalls m.exits) e exits);
  }
