-- Rows and columns of written lists.
use Rattle.std.proofs.Common.{◌≡◌, ◌↔◌, ◌⊎◌, ℕ, suc, ◌+◌, ◌*◌, ◌≤◌, ◌<◌, Bool, true, false, List, [], ◌∷◌, ◌++◌, length, get_or, take, refl, sym, ap, ◌∙◌, subst, inl, inr, IsTrue, Some, length-append, arith}
use Rattle.std.proofs.lemmas.List.{get_or_push, get_or_append_left, get_or_past, get_or_default, take_all}
use Rattle.std.proofs.lemmas.List.Elements.{All-more, All-same}
use Rattle.std.proofs.lemmas.Bool.{cases_lt}
use Rattle.std.proofs.lemmas.Option.{slice_get_within, get_or_from_slice_get}
use Rattle.cdc_prog.specs.Iterations as iterations
use Rattle.cdc_path.specs.declared.point.Point.{Point}
use Rattle.cdc_path.specs.declared.point.Point.TheVariants.{Read, Write, Entry, Exit, Call, Plain}
use Rattle.cdc_path.specs.PathExpr.{PathExpr, crosses}
use Rattle.cdc_path.specs.Marks.{IsAscending}
use Rattle.cdc_flow.specs.declared.graph.FlowGraph.{FlowGraph}
use Rattle.cdc_flow.specs.Flow.{point_at, IsFlow}
use Rattle.cdc_mark.specs.declared.references.Reference.{Reference}
use Rattle.cdc_mark.specs.Least.{IsIn}
use Rattle.cdc_mark.specs.Lists.{AreWritten}
use Rattle.cdc_mark.specs.Classes.{IsWriteOfAt, IsWriteOf}
use Rattle.cdc_mark.specs.Rows.{IsBelow, AreBelow, place_of, HasPlace, IsRow, AreRows, with_object, IsColumn, AreColumns, AreListed}
use Rattle.cdc_mark.proofs.Listed.{written_first, first_written}
use Rattle.cdc_mark.proofs.Lowered.{at_some}

-- ---- places
same_number : (a b : ℕ) → Some a ≡ Some b → a ≡ b
same_number a b e = cc

entry_at : (p : Point) (m n : ℕ) → place_of p ≡ Some n → n ≡ 2 * m → p ≡ Entry m
entry_at (Entry k) m n e q = ap Entry (omega (arith, same_number (2 * k) n e, q))
entry_at (Exit k) m n e q = absurd (omega (arith, same_number (2 * k + 1) n e, q))
entry_at (Read k) m n e q = cc
entry_at (Write k) m n e q = cc
entry_at (Call k) m n e q = cc
entry_at Plain m n e q = cc

exit_at : (p : Point) (m n : ℕ) → place_of p ≡ Some n → n ≡ 2 * m + 1 → p ≡ Exit m
exit_at (Entry k) m n e q = absurd (omega (arith, same_number (2 * k) n e, q))
exit_at (Exit k) m n e q = ap Exit (omega (arith, same_number (2 * k + 1) n e, q))
exit_at (Read k) m n e q = cc
exit_at (Write k) m n e q = cc
exit_at (Call k) m n e q = cc
exit_at Plain m n e q = cc

same_place : (p q : Point) (n : ℕ) → place_of p ≡ Some n → place_of q ≡ Some n → p ≡ q
same_place p (Entry m) n e f = entry_at p m n e (sym (same_number (2 * m) n f))
same_place p (Exit m) n e f = exit_at p m n e (sym (same_number (2 * m + 1) n f))
same_place p (Read m) n e f = cc
same_place p (Write m) n e f = cc
same_place p (Call m) n e f = cc
same_place p Plain n e f = cc

is_crossing : (b : Point) (n : ℕ) → place_of b ≡ Some n → crosses b ≡ 1
is_crossing (Entry m) n e = refl
is_crossing (Exit m) n e = refl
is_crossing (Read m) n e = cc
is_crossing (Write m) n e = cc
is_crossing (Call m) n e = cc
is_crossing Plain n e = cc

is_inside : (ps : List Point) (b : Point) (v : ℕ) → crosses b ≡ 1 → point_at ps v ≡ b → v < length ps
is_inside ps b v one e = elim (cases_lt v (length ps)) [
  | inl lt ↦ lt
  | inr ge ↦ absurd (omega (arith, one, ap crosses (sym (get_or_past ps v Plain ge) ∙ e)))
]

-- ---- rows
pub row_is : (c : PathExpr) (g : FlowGraph) (rs : List Reference) (object places : ℕ) (wanted bits row : List Bool) → IsFlow c g → ((w : ℕ) → IsIn wanted w ↔ IsWriteOf rs object w) → AreWritten g wanted bits →
    ((n : ℕ) → IsIn row n ↔ HasPlace g.points bits (length g.points) places n) → IsRow c rs object places row
row_is c g rs object places wanted bits row flow hw wr h place b is lt =
    let one = is_crossing b place is in (
      λ x. (let v = (h place).0 x in
          let w = first_written c g wanted b v.0 flow one (same_place (point_at g.points v.0) b place v.3 is) ((wr v.0 v.1).0 v.2) in
          (w.0, (hw w.0).0 w.1, w.2)),
      λ x. (let f = written_first c g wanted b flow one (x.0, (hw x.0).1 x.1, x.2) in
          let below = is_inside g.points b f.0 one f.1 in
          (h place).1 (f.0, below, (wr f.0 below).1 f.2, ap place_of f.1 ∙ is, lt)),
    )

-- the bit of one more point
pub placed_more : (ps : List Point) (bits : List Bool) (n size places place : ℕ) (q : Point) (set : Bool) (New Old First : Type 0) → n < length ps → size ≡ places → (IsTrue set ↔ IsIn bits n) →
    (New ↔ (Old ⊎ (IsTrue set × (place_of (get_or ps n q) ≡ Some place) × (place < size)))) → (Old ↔ (First ⊎ HasPlace ps bits n places place)) → New ↔ (First ⊎ HasPlace ps bits (n + 1) places place)
placed_more ps bits n size places place q set New Old First lt z s f h =
    let same : get_or ps n q ≡ point_at ps n = get_or_default ps n q Plain lt in (
      λ x. elim (f.0 x) [
        | inl o ↦ elim (h.0 o) [ inl a ↦ inl a | inr a ↦ inr (a.0, omega (arith, a.1), a.2, a.3, a.4) ]
        | inr a ↦ inr (n, omega arith, s.0 a.0, ap place_of (sym same) ∙ a.1, omega (arith, a.2, z))
      ],
      λ x. elim x [
        | inl a ↦ f.1 (inl (h.1 (inl a)))
        | inr a ↦ elim (cases_lt a.0 n) [
          | inl below ↦ f.1 (inl (h.1 (inr (a.0, below, a.2, a.3, a.4))))
          | inr above ↦
              (let e : a.0 ≡ n = omega (arith, a.1) in
              f.1 (inr (s.1 (subst (IsIn bits) e a.2), ap place_of same ∙ subst (λ v. place_of (point_at ps v) ≡ Some place) e a.3, omega (arith, a.4, z))))
        ]
      ],
    )

pub placed_none : (ps : List Point) (bits : List Bool) (places place : ℕ) (First : Type 0) → First ↔ (First ⊎ HasPlace ps bits 0 places place)
placed_none ps bits places place First = (λ x. inl x, λ x. elim x [ inl a ↦ a | inr a ↦ absurd (omega (arith, a.1)) ])

pub placed_all : (ps : List Point) (bits : List Bool) (n places place : ℕ) (New First : Type 0) → n ≡ length ps → (New ↔ (First ⊎ HasPlace ps bits n places place)) → New ↔ (First ⊎ HasPlace ps bits (length ps) places place)
placed_all ps bits n places place New First e h = subst (λ k. New ↔ (First ⊎ HasPlace ps bits k places place)) e h

pub rows_more : (c : PathExpr) (rs : List Reference) (places n : ℕ) (rows new : List (List Bool)) (row : List Bool) → new ≡ rows ++ row ∷ [] → length rows ≡ n → IsRow c rs n places row → AreRows c rs places n rows → AreRows c rs places (n + 1) new
rows_more c rs places n rows new row e l r h = subst (AreRows c rs places (n + 1)) (sym e) (λ object lt. elim (cases_lt object n) [
  | inl below ↦ subst (IsRow c rs object places) (sym (get_or_append_left rows (row ∷ []) [] object (omega arith))) (h object below)
  | inr above ↦
      (let q : n ≡ object = omega arith in
      subst (λ k. IsRow c rs k places (get_or (rows ++ row ∷ []) k [])) q (subst (IsRow c rs n places) (sym (get_or_push rows row [] n l)) r))
])

-- ---- columns
member_push : (x n : ℕ) (xs : List ℕ) → iterations.IsIn x (xs ++ n ∷ []) ↔ (iterations.IsIn x xs ⊎ (x ≡ n))
member_push x n [] = (λ h. elim h [ inl e ↦ inr e | inr b ↦ absurd b ], λ h. elim h [ inl b ↦ absurd b | inr e ↦ inl e ])
member_push x n (y ∷ ys) =
    let r = member_push x n ys in (
      λ h. elim h [ inl e ↦ inl (inl e) | inr m ↦ elim (r.0 m) [ inl a ↦ inl (inr a) | inr e ↦ inr e ] ],
      λ h. elim h [ inl (inl e) ↦ inl e | inl (inr a) ↦ inr (r.1 (inl a)) | inr e ↦ inr (r.1 (inr e)) ],
    )

ascending_push : (n : ℕ) (xs : List ℕ) → IsAscending xs → ((x : ℕ) → iterations.IsIn x xs → x < n) → IsAscending (xs ++ n ∷ [])
ascending_push n [] a h = tt
ascending_push n (x ∷ []) a h = (h x (inl refl), tt)
ascending_push n (x ∷ (y ∷ ys)) a h = (a.0, ascending_push n (y ∷ ys) a.1 (λ z m. h z (inr m)))

pub column_none : (rows : List (List Bool)) (place : ℕ) → IsColumn rows place 0 []
column_none rows place = record { ascending = tt; members = λ x. (λ m. absurd m, λ b. absurd (omega (arith, b.0))) }

pub column_more : (rows : List (List Bool)) (place n : ℕ) (old new : List ℕ) (set : Bool) (row : List Bool) → n < length rows → row ≡ get_or rows n row → (IsTrue set ↔ IsIn row place) → new ≡ with_object set n old → IsColumn rows place n old →
    IsColumn rows place (n + 1) new
column_more rows place n old new true row lt is s e h = subst (IsColumn rows place (n + 1)) (sym e) (record {
  ascending = ascending_push n old h.ascending (λ x m. ((h.members x).0 m).0);
  members = λ x.
      let p = member_push x n old in (
        λ m. elim (p.0 m) [
          | inl a ↦ (let b = (h.members x).0 a in (omega (arith, b.0), b.1))
          | inr q ↦ (omega (arith, q), subst (λ k. IsIn (get_or rows k []) place) (sym q) here)
        ],
        λ b. elim (cases_lt x n) [
          | inl below ↦ p.1 (inl ((h.members x).1 (below, b.1)))
          | inr above ↦ p.1 (inr (omega (arith, b.0)))
        ],
      );
})
  where
    here : IsIn (get_or rows n []) place
    here = subst (λ (r : List Bool). IsIn r place) (is ∙ get_or_default rows n row [] lt) (s.0 refl)
column_more rows place n old new false row lt is s e h = subst (IsColumn rows place (n + 1)) (sym e) (record {
  ascending = h.ascending;
  members = λ x. (
    λ m. (let b = (h.members x).0 m in (omega (arith, b.0), b.1)),
    λ b. elim (cases_lt x n) [
      | inl below ↦ (h.members x).1 (below, b.1)
      | inr above ↦
          (let q : x ≡ n = omega (arith, b.0) in
          let in_row : IsIn row place = subst (λ (r : List Bool). IsIn r place) (sym (is ∙ get_or_default rows n row [] lt)) (subst (λ k. IsIn (get_or rows k []) place) q b.1) in
          let no : false ≡ true = s.1 in_row in
          cc)
    ],
  );
})

pub columns_more : (rows : List (List Bool)) (side n : ℕ) (lists new : List (List ℕ)) (list : List ℕ) → new ≡ lists ++ list ∷ [] → IsColumn rows (2 * (n + 1) + side) (length rows) list → AreColumns rows side n lists → AreColumns rows side (n + 1) new
columns_more rows side n lists new list e l h = subst (AreColumns rows side (n + 1)) (sym e) (record {
  count = omega (arith, length-append lists (list ∷ []), h.count);
  each = λ k lt. elim (cases_lt k n) [
    | inl below ↦ subst (IsColumn rows (2 * (k + 1) + side) (length rows)) (sym (get_or_append_left lists (list ∷ []) [] k (omega (arith, h.count)))) (h.each k below)
    | inr above ↦
        (let q : n ≡ k = omega arith in
        subst (λ j. IsColumn rows (2 * (j + 1) + side) (length rows) (get_or (lists ++ list ∷ []) j [])) q (subst (IsColumn rows (2 * (n + 1) + side) (length rows)) (sym (get_or_push lists list [] n h.count)) l))
  ];
})

pub columns_none : (rows : List (List Bool)) (side : ℕ) → AreColumns rows side 0 []
columns_none rows side = record { count = refl; each = λ k lt. absurd (omega (arith, lt)) }

-- ---- objects
pub below_more : (rs : List Reference) (i old new : ℕ) (q : Reference) → i < length rs → q ≡ get_or rs i q → old ≤ new → IsBelow q.object new → AreBelow (take i rs) old → AreBelow (take (i + 1) rs) new
below_more rs i old new q lt is le below h =
    All-more (λ (x : Reference). IsBelow x.object new) rs i q lt (λ k d n o e. (let m = h k d n o e in omega (arith, m, le))) (subst (λ (x : Reference). IsBelow x.object new) is below)

pub below_all : (rs : List Reference) (i n : ℕ) → length rs ≤ i → AreBelow (take i rs) n → AreBelow rs n
below_all rs i n le h = All-same (λ (x : Reference). IsBelow x.object n) rs (take i rs) (sym (take_all i rs le)) h

object_below : (rs : List Reference) (n object w : ℕ) → AreBelow rs n → IsWriteOf rs object w → object < n
object_below rs n object w all h =
    let s = at_some (IsWriteOfAt object w) rs h in
    let q = s.1 in
    subst (λ (x : Reference). IsBelow x.object n) (get_or_from_slice_get rs s.0 q q s.2) (all s.0 q (slice_get_within rs s.0 q s.2)) object s.3.1

-- ---- lists
pub listed : (c : PathExpr) (rs : List Reference) (rows : List (List Bool)) (places side n : ℕ) (at : ℕ → Point) (lists : List (List ℕ)) → AreBelow rs (length rows) → AreRows c rs places (length rows) rows → places ≡ 2 * (n + 1) → side ≤ 1 →
    ((k : ℕ) → place_of (at (suc k)) ≡ Some (2 * (k + 1) + side)) → AreColumns rows side n lists → AreListed c rs at n lists
listed c rs rows places side n at lists below are size one is h = record {
  count = h.count;
  ascending = λ k lt. (h.each k lt).ascending;
  each = λ k lt object.
      let place = 2 * (k + 1) + side in
      let m = (h.each k lt).members object in (
        λ x. (let y = m.0 x in (are object y.0 place (at (suc k)) (is k) (omega (arith, lt, size, one))).0 y.1),
        λ x. (let o = object_below rs (length rows) object x.0 below x.1 in m.1 (o, (are object o place (at (suc k)) (is k) (omega (arith, lt, size, one))).1 x)),
      );
}

pub entry_places : (k : ℕ) → place_of (Entry (suc k)) ≡ Some (2 * (k + 1) + 0)
entry_places k = ap Some (omega arith)

pub exit_places : (k : ℕ) → place_of (Exit (suc k)) ≡ Some (2 * (k + 1) + 1)
exit_places k = ap Some (omega arith)
