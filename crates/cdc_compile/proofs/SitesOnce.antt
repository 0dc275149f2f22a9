-- The sites of an accepted program stand once: what is resolved has the sites behind the last one before it, one after another.
use Rattle.std.proofs.Common.{◌≡◌, ℕ, ◌+◌, ◌<◌, ◌≤◌, ◌==◌, Bool, true, false, if◌then◌else◌, List, [], ◌∷◌, ◌++◌, map, Option, Some, None, Ok, refl, sym, subst, arith}
use Rattle.std.specs.Prelude.{nat_lt}
use Rattle.cdc_base.specs.declared.place.Place.{Place}
use Rattle.cdc_prog.specs.declared.affine.Scope.{Scope}
use Rattle.cdc_prog.specs.declared.expr.Var.{Var}
use Rattle.cdc_prog.specs.declared.expr.Var.TheVariants.{Object, Dummy, Slot}
use Rattle.cdc_prog.specs.Plain as plain
use Rattle.cdc_prog.specs.Dependence.{Spot, spot, index_of, inside}
use Rattle.cdc_prog.specs.Numbered.{calls_in, calls_numbered, units_numbered}
use Rattle.cdc_prog.specs.Translation.{listed, chain, in_arms}
use Rattle.cdc_prog.proofs.Numbered.{same_without_calls}
use Rattle.cdc_tree.specs.declared.tree.Named.{Named}
use Rattle.cdc_tree.specs.declared.tree.Intrinsic.{Intrinsic}
use Rattle.cdc_tree.specs.declared.tree.Intrinsic.TheVariants.{Abs, Mod, Min, Max}
use Rattle.cdc_tree.specs.Plain.{Plain, PNumber, PName, PApply, PParen, PPlus, PUn, PBin, PKnown, Plains, PEnd, PMore, plains}
use Rattle.cdc_tree.specs.Forms.{PSpot, PLoop, PShown, PText, PValue, PForm, FAssign, FIfThen, FElseIf, FLogicalIf, FDo, FDoall, FPrint, FRead}
use Rattle.cdc_tree.specs.Units.{PNode, NPlain, NIf, NElse, NLoop, PBody, Empty, More, PBranches, BNone, BMore, PUnit}
use Rattle.cdc_names.specs.Scopes.{PScope, scope_of}
use Rattle.cdc_check.specs.declared.meaning.Meaning.{Meaning}
use Rattle.cdc_check.specs.declared.meaning.Meaning.TheVariants.{Variable, Number}
use Rattle.cdc_check.specs.declared.progress.Progress.{Progress}
use Rattle.cdc_check.specs.Threads.{next, each}
use Rattle.cdc_check.specs.Meanings.{Surroundings, surroundings, meaning_of, var_of, sites_after, reference}
use Rattle.cdc_check.specs.Expressions.{name_expr, begun, further, combined, intrinsic, subscripted, resolved, resolved_in}
use Rattle.cdc_check.specs.Objects.{named_in}
use Rattle.cdc_check.specs.Statements.{Resolves, at_site, targets, item, items, formed, step_expr, controls, with_doall, looped, condition, arm, noded, nodes_in, arms_in}
use Rattle.cdc_check.specs.Units.{Whole, unit_in, units_from, nothing_yet}
use Rattle.cdc_check.specs.Check.{checked}
use Rattle.cdc_check.proofs.Doalls.{body_counts}
use Rattle.cdc_path.specs.References.{expr_refs, exprs_refs, store_ref, controls_refs, items_refs, reads_refs, inside_doall, refs, outside}
use Rattle.cdc_along.specs.Sites.{times_at, times_in, SitesStandOnce}
use Rattle.cdc_along.proofs.Sites.{times_append}
use Rattle.cdc_compile.proofs.RoomLaws.{Passed, passed}

-- how many of the sites up to a last one are this one
up_to : (last site : ℕ) → ℕ
up_to last site = if nat_lt last site then 0 else 1

-- from a last site to another each site stands at most once, if no count is at its end
record Sites (from to : ℕ) (qs : List Spot) : Type 0 where
  more : from ≤ to
  stand : to < 4294967295 → (site : ℕ) → 1 ≤ site → times_at site qs + up_to from site ≤ up_to to site

sites_none : (k : ℕ) → Sites k k []
sites_none k = record { more = omega arith; stand = λ within site some. omega arith }

sites_both : (a b c : ℕ) (xs ys : List Spot) → Sites a b xs → Sites b c ys → Sites a c (xs ++ ys)
sites_both a b c xs ys f g =
    let low : a ≤ b = f.more in
    let high : b ≤ c = g.more in
    record {
      more = omega (arith, low, high);
      stand = λ within site some. omega (arith, times_append site xs ys, f.stand (omega (arith, within, high)) site some, g.stand within site some);
    }

sites_fewer : (a b : ℕ) (xs ys : List Spot) → ((site : ℕ) → times_at site xs ≤ times_at site ys) → Sites a b ys → Sites a b xs
sites_fewer a b xs ys fewer f = record { more = f.more; stand = λ within site some. omega (arith, fewer site, f.stand within site some) }

-- ---- one reference
slot_stands : (k site : ℕ) → 1 ≤ site → (if 0 == site then 1 else 0) + up_to k site ≤ up_to k site
slot_stands k site some = grind arith

next_le : (k : ℕ) → k ≤ next k
next_le k = grind arith

next_stands : (k site : ℕ) → next k < 4294967295 → (if next k == site then 1 else 0) + up_to k site ≤ up_to (next k) site
unfolding up_to
next_stands k site within = grind arith

one_site : (sc : Scope) (v : Var) (writes : Bool) (place : Place) (subs : plain.Exprs) (k : ℕ) → Sites k (sites_after v k) (spot sc writes (reference v place k) subs ∷ [])
one_site sc (Slot i) writes place subs k = record { more = omega arith; stand = λ within site some. slot_stands k site some }
one_site sc (Object i) writes place subs k = record { more = next_le k; stand = λ within site some. next_stands k site within }
one_site sc (Dummy i) writes place subs k = record { more = next_le k; stand = λ within site some. next_stands k site within }

-- ---- expressions
name_sites : (sc : Scope) (m : Option Meaning) (place : Place) (k : ℕ) → Sites k ((name_expr m place k).1) (expr_refs sc ((name_expr m place k).0))
name_sites sc None place k = one_site sc (Object 0) false place plain.Empty k
name_sites sc (Some (Variable v)) place k = one_site sc v false place plain.Empty k
name_sites sc (Some (Number x)) place k = sites_none k

subscripted_sites : (sc : Scope) (s : Surroundings) (n : Named) (es : List plain.Expr) (k m : ℕ) → Sites k m (exprs_refs sc (listed es)) → Sites k ((subscripted s n es m).1) (expr_refs sc ((subscripted s n es m).0))
subscripted_sites sc s n [] k m f =
    sites_both k m ((name_expr (meaning_of s n.name) n.place m).1) [] (expr_refs sc ((name_expr (meaning_of s n.name) n.place m).0)) f (name_sites sc (meaning_of s n.name) n.place m)
subscripted_sites sc s n (e ∷ es) k m f =
    sites_both k m (sites_after (var_of s n) m) (exprs_refs sc (listed (e ∷ es))) (spot sc false (reference (var_of s n) n.place m) (listed (e ∷ es)) ∷ []) f (one_site sc (var_of s n) false n.place (listed (e ∷ es)) m)

-- an intrinsic has no references but those of its arguments
module _ (sc : Scope) (which : Intrinsic) (site : ℕ) where
  abbrev times : plain.Expr → ℕ
  times e = times_at site (expr_refs sc e)

  abbrev all_times : List plain.Expr → ℕ
  all_times es = times_at site (exprs_refs sc (listed es))

  begun_times : (w : Intrinsic) (a : plain.Expr) → times (begun w a) ≡ times a
  begun_times Abs a = refl
  begun_times Mod a = refl
  begun_times Min a = refl
  begun_times Max a = refl

  further_times : (w : Intrinsic) (a b : plain.Expr) → times (further w a b) ≤ times a + times b
  further_times Abs a b = omega arith
  further_times Mod a b = omega (arith, times_append site (expr_refs sc a) (expr_refs sc b))
  further_times Min a b = omega (arith, times_append site (expr_refs sc a) (expr_refs sc b))
  further_times Max a b = omega (arith, times_append site (expr_refs sc a) (expr_refs sc b))

  combined_times : (a : plain.Expr) (bs : List plain.Expr) → times (combined which a bs) ≤ times a + all_times bs
  combined_times a [] = omega arith
  combined_times a (b ∷ bs) = omega (arith, further_times which a b, combined_times (further which a b) bs, times_append site (expr_refs sc b) (exprs_refs sc (listed bs)))

  intrinsic_times : (es : List plain.Expr) → times (intrinsic which es) ≤ all_times es
  intrinsic_times [] = omega arith
  intrinsic_times (a ∷ es) = omega (arith, begun_times which a, combined_times (begun which a) es, times_append site (expr_refs sc a) (exprs_refs sc (listed es)))

mutual
  tree_sites : (t : Plain) (sc : Scope) (s : Surroundings) (k : ℕ) → Sites k ((resolved s t k).1) (expr_refs sc ((resolved s t k).0))
  tree_sites (PNumber place n) sc s k = sites_none k
  tree_sites (PName n) sc s k = name_sites sc (meaning_of s n.name) n.place k
  tree_sites (PApply n subs) sc s k = subscripted_sites sc s n ((resolved_in s subs k).0) k ((resolved_in s subs k).1) (trees_sites subs sc s k)
  tree_sites (PParen place a) sc s k = tree_sites a sc s k
  tree_sites (PPlus place a) sc s k = tree_sites a sc s k
  tree_sites (PUn place op a) sc s k = tree_sites a sc s k
  tree_sites (PBin op a b) sc s k =
      let m : ℕ = (resolved s a k).1 in
      sites_both k m ((resolved s b m).1) (expr_refs sc ((resolved s a k).0)) (expr_refs sc ((resolved s b m).0)) (tree_sites a sc s k) (tree_sites b sc s m)
  tree_sites (PKnown place which args) sc s k =
      let es : List plain.Expr = (resolved_in s args k).0 in
      sites_fewer k ((resolved_in s args k).1) (expr_refs sc (intrinsic which es)) (exprs_refs sc (listed es)) (λ site. intrinsic_times sc which site es) (trees_sites args sc s k)

  trees_sites : (ts : Plains) (sc : Scope) (s : Surroundings) (k : ℕ) → Sites k ((resolved_in s ts k).1) (exprs_refs sc (listed ((resolved_in s ts k).0)))
  trees_sites PEnd sc s k = sites_none k
  trees_sites (PMore a more) sc s k =
      let m : ℕ = (resolved s a k).1 in
      sites_both k m ((resolved_in s more m).1) (expr_refs sc ((resolved s a k).0)) (exprs_refs sc (listed ((resolved_in s more m).0))) (tree_sites a sc s k) (trees_sites more sc s m)

-- ---- statements alone
targets_sites : (spots : List PSpot) (sc : Scope) (s : Surroundings) (k : ℕ) → Sites k ((targets s spots k).1) (reads_refs sc ((targets s spots k).0))
targets_sites [] sc s k = sites_none k
targets_sites (x ∷ xs) sc s k =
    let n : ℕ = (resolved_in s (plains x.1) k).1 in
    let subs : plain.Exprs = listed ((resolved_in s (plains x.1) k).0) in
    let after : ℕ = sites_after (var_of s x.0) n in
    let stored : List Spot = store_ref sc (reference (var_of s x.0) x.0.place n) subs in
    let rest : List Spot = reads_refs sc ((targets s xs after).0) in
    let last : ℕ = (targets s xs after).1 in
    sites_both k n last (exprs_refs sc subs) (stored ++ rest) (trees_sites (plains x.1) sc s k)
    (sites_both n after last stored rest (one_site sc (var_of s x.0) true x.0.place subs n) (targets_sites xs sc s after))

items_sites : (shown : List PShown) (sc : Scope) (s : Surroundings) (k : Progress) → Sites k.sites ((items s shown k).1.sites) (items_refs sc ((items s shown k).0))
items_sites [] sc s k = sites_none k.sites
items_sites (PText text ∷ xs) sc s k = items_sites xs sc s ((item s (PText text) k).1)
items_sites (PValue t ∷ xs) sc s k =
    let m : Progress = (item s (PValue t) k).1 in
    sites_both k.sites m.sites ((items s xs m).1.sites) (expr_refs sc ((resolved s t k.sites).0)) (items_refs sc ((items s xs m).0)) (tree_sites t sc s k.sites) (items_sites xs sc s m)

form_sites : (f : PForm) (line : ℕ) (sc : Scope) (s : Surroundings) (k : Progress) → Sites k.sites ((formed f line s k).1.sites) (refs sc ((formed f line s k).0))
form_sites (FAssign x value) line sc s k =
    let m : ℕ = (resolved_in s (plains x.1) k.sites).1 in
    let subs : plain.Exprs = listed ((resolved_in s (plains x.1) k.sites).0) in
    let n : ℕ = (resolved s value m).1 in
    let found : List Spot = expr_refs sc ((resolved s value m).0) in
    let stored : List Spot = store_ref sc (reference (var_of s x.0) x.0.place n) subs in
    let last : ℕ = sites_after (var_of s x.0) n in
    sites_both k.sites m last (exprs_refs sc subs) (found ++ stored) (trees_sites (plains x.1) sc s k.sites)
    (sites_both m n last found stored (tree_sites value sc s m) (one_site sc (var_of s x.0) true x.0.place subs n))
form_sites (FLogicalIf cond place simple) line sc s k =
    let n : ℕ = (resolved s cond k.sites).1 in
    let start : Progress = at_site n k in
    let body : List Spot = refs sc ((formed simple line s start).0) in
    let last : ℕ = (formed simple line s start).1.sites in
    sites_both k.sites n last (expr_refs sc ((resolved s cond k.sites).0)) ((body ++ []) ++ []) (tree_sites cond sc s k.sites)
    (sites_both n last last (body ++ []) [] (sites_both n last last body [] (form_sites simple line sc s start) (sites_none last)) (sites_none last))
form_sites (FPrint shown) line sc s k = items_sites shown sc s k
form_sites (FRead spots) line sc s k = targets_sites spots sc s k.sites
form_sites _ line sc s k = sites_none k.sites

-- ---- loops
step_sites : (by : Option Plain) (sc : Scope) (s : Surroundings) (k : ℕ) → Sites k ((step_expr s by k).1) (expr_refs sc ((step_expr s by k).0))
step_sites None sc s k = sites_none k
step_sites (Some t) sc s k = tree_sites t sc s k

controls_sites : (line : ℕ) (l : PLoop) (sc : Scope) (s : Surroundings) (k : ℕ) → Sites k ((controls line s l k).1) (controls_refs sc ((controls line s l k).0))
controls_sites line l sc s k =
    let m : ℕ = (resolved s l.1 k).1 in
    let n : ℕ = (resolved s l.2 m).1 in
    let last : ℕ = (step_expr s l.3 n).1 in
    let to : List Spot = expr_refs sc ((resolved s l.2 m).0) in
    let by : List Spot = expr_refs sc ((step_expr s l.3 n).0) in
    sites_both k m last (expr_refs sc ((resolved s l.1 k).0)) (to ++ by) (tree_sites l.1 sc s k) (sites_both m n last to by (tree_sites l.2 sc s m) (step_sites l.3 sc s n))

abbrev Inner : Resolves → Type 0
Inner inner = (sc : Scope) (s : Surroundings) (k : Progress) → Sites k.sites ((inner s k).1.sites) (refs sc (chain ((inner s k).0)))

loop_sites : (f : PForm) (line : ℕ) (inner : Resolves) → Inner inner → (sc : Scope) (s : Surroundings) (k : Progress) → Sites k.sites ((looped line f inner s k).1.sites) (refs sc ((looped line f inner s k).0))
loop_sites (FDo l) line inner h sc s k =
    let v : Var = var_of s l.0 in
    let control : plain.Control = (controls line s l k.sites).0 in
    let n : ℕ = (controls line s l k.sites).1 in
    let start : Progress = at_site (sites_after v n) k in
    let within : Scope = inside sc (index_of control (reference v l.0.place n)) in
    let body : List Spot = refs within (chain ((inner s start).0)) in
    let m : ℕ = (inner s start).1.sites in
    let raised : ℕ = sites_after v m in
    let last : ℕ = sites_after v raised in
    let first : List Spot = store_ref sc (reference v l.0.place n) plain.Empty in
    let again : List Spot = spot sc false (reference v l.0.place m) plain.Empty ∷ [] in
    let bump : List Spot = spot sc true (reference v l.0.place raised) plain.Empty ∷ [] in
    sites_both k.sites n last (controls_refs sc control) (first ++ (body ++ (again ++ bump))) (controls_sites line l sc s k.sites)
    (sites_both n (sites_after v n) last first (body ++ (again ++ bump)) (one_site sc v true l.0.place plain.Empty n)
    (sites_both (sites_after v n) m last body (again ++ bump) (h within s start)
    (sites_both m raised last again bump (one_site sc v false l.0.place plain.Empty m) (one_site sc v true l.0.place plain.Empty raised))))
loop_sites (FDoall l privates) line inner h sc s k =
    let control : plain.Control = (controls line s l k.sites).0 in
    let n : ℕ = (controls line s l k.sites).1 in
    let start : Progress = with_doall n k in
    let around : Surroundings = surroundings s.names (l.0 ∷ privates) in
    sites_both k.sites n ((inner around start).1.sites) (controls_refs sc control) (refs (inside_doall sc control) (chain ((inner around start).0)))
    (controls_sites line l sc s k.sites) (h (inside_doall sc control) around start)
loop_sites _ line inner h sc s k = sites_none k.sites

-- ---- constructs
condition_sites : (f : PForm) (sc : Scope) (s : Surroundings) (k : ℕ) → Sites k ((condition f s k).1) (expr_refs sc ((condition f s k).0))
condition_sites (FIfThen c) sc s k = tree_sites c sc s k
condition_sites (FElseIf c) sc s k = tree_sites c sc s k
condition_sites _ sc s k = sites_none k

mutual
  node_sites : (n : PNode) (sc : Scope) (s : Surroundings) (k : Progress) → Sites k.sites ((noded n s k).1.sites) (refs sc ((noded n s k).0))
  node_sites (NPlain st) sc s k = form_sites st.form st.place.line sc s k
  node_sites (NIf bs end) sc s k =
      let m : Progress = (arms_in bs s k).1 in
      arms_sites bs sc s k m.sites plain.Skip (sites_none m.sites)
  node_sites (NElse bs head other end) sc s k =
      let m : Progress = (arms_in bs s k).1 in
      arms_sites bs sc s k ((nodes_in other s m).1.sites) (chain ((nodes_in other s m).0)) (body_sites other sc s m)
  node_sites (NLoop head inner end) sc s k = loop_sites head.form head.place.line (nodes_in inner) (body_sites inner) sc s k

  body_sites : (b : PBody) (sc : Scope) (s : Surroundings) (k : Progress) → Sites k.sites ((nodes_in b s k).1.sites) (refs sc (chain ((nodes_in b s k).0)))
  body_sites Empty sc s k = sites_none k.sites
  body_sites (More n rest) sc s k =
      let m : Progress = (noded n s k).1 in
      sites_both k.sites m.sites ((nodes_in rest s m).1.sites) (refs sc ((noded n s k).0)) (refs sc (chain ((nodes_in rest s m).0))) (node_sites n sc s k) (body_sites rest sc s m)

  -- arms before what has the sites behind theirs
  arms_sites : (bs : PBranches) (sc : Scope) (s : Surroundings) (k : Progress) (last : ℕ) (other : plain.Stmt) → Sites ((arms_in bs s k).1.sites) last (refs sc other) → Sites k.sites last (refs sc (in_arms ((arms_in bs s k).0) other))
  arms_sites BNone sc s k last other h = h
  arms_sites (BMore head inner rest) sc s k last other h =
      let n : ℕ = (condition head.form s k.sites).1 in
      let start : Progress = at_site n k in
      let m : Progress = (arm head (nodes_in inner) s k).1 in
      let body : List Spot = refs sc (chain ((nodes_in inner s start).0)) in
      let more : List Spot = refs sc (in_arms ((arms_in rest s m).0) other) in
      sites_both k.sites n last (expr_refs sc ((condition head.form s k.sites).0)) (body ++ more) (condition_sites head.form sc s k.sites)
      (sites_both n m.sites last body more (body_sites inner sc s start) (arms_sites rest sc s m last other h))

-- ---- units
-- the same of units, one after another
record UnitSites (from to : ℕ) (us : List plain.ProgramUnit) : Type 0 where
  more : from ≤ to
  stand : to < 4294967295 → (site : ℕ) → 1 ≤ site → times_in site us + up_to from site ≤ up_to to site

-- whatever the numbers of their CALLs are, of which there are none
units_sites : (us : List PUnit) (ss : List PScope) (number before : ℕ) (k : Whole)
    → UnitSites k.progress.sites ((each (units_from number us ss) k).1.progress.sites) (units_numbered before ((each (units_from number us ss) k).0))
units_sites [] ss number before k = record { more = omega arith; stand = λ within site some. omega arith }
units_sites (u ∷ us) [] number before k = record { more = omega arith; stand = λ within site some. omega arith }
units_sites (u ∷ us) (s ∷ ss) number before k =
    let names : Surroundings = surroundings ((named_in number s k.objects).names) [] in
    let body : plain.Stmt = chain ((nodes_in u.body names k.progress).0) in
    let m : Whole = (unit_in number u s k).1 in
    let last : ℕ = (each (units_from (next number) us ss) m).1.progress.sites in
    let rest : List plain.ProgramUnit = units_numbered (before + calls_in body) ((each (units_from (next number) us ss) m).0) in
    let calls : calls_in body ≡ 0 = (body_counts u.body names k.progress).calls in
    let one : Sites k.progress.sites m.progress.sites (refs outside (calls_numbered before body)) =
    subst (λ st. Sites k.progress.sites m.progress.sites (refs outside st)) (sym (same_without_calls before body calls)) (body_sites u.body outside names k.progress) in
    let others : UnitSites m.progress.sites last rest = units_sites us ss (next number) (before + calls_in body) m in
    let low : k.progress.sites ≤ m.progress.sites = one.more in
    let high : m.progress.sites ≤ last = others.more in
    record {
      more = omega (arith, low, high);
      stand = λ within site some. omega (arith, one.stand (omega (arith, within, high)) site some, others.stand within site some);
    }

at_most_one : (last site : ℕ) → up_to last site ≤ 1
unfolding up_to
at_most_one last site = go (nat_lt last site)
  where
    go : (b : Bool) → (if b then 0 else 1) ≤ 1
    go true = omega arith
    go false = omega arith

-- the sites of units stand once, where the last of them is within the limit
units_once : (us : List PUnit) (ss : List PScope) → (each (units_from 0 us ss) nothing_yet).1.progress.sites ≤ 16384
    → (site : ℕ) → 1 ≤ site → times_in site (units_numbered 0 ((each (units_from 0 us ss) nothing_yet).0)) ≤ 1
units_once us ss limit site some =
    let last : ℕ = (each (units_from 0 us ss) nothing_yet).1.progress.sites in
    omega (arith, (units_sites us ss 0 0 nothing_yet).stand (omega (arith, limit)) site some, at_most_one last site)

-- and so do those of a program that the check accepts
pub sites_once : (us : List PUnit) (q : plain.Program) → checked us ≡ Ok q → SitesStandOnce q
sites_once us q h site some =
    let done : Passed us q = passed us q h in
    subst (λ vs. times_in site vs ≤ 1) (sym done.units_are) (units_once us (map scope_of us) done.sites site some)
