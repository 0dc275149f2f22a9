-- Statements have room: what is resolved of trees within the limits, inside at most 64 blocks.
use Rattle.std.proofs.Common.{ℕ, suc, ◌≤◌, List, [], ◌∷◌, ◌++◌, map, Option, Some, None, arith}
use Rattle.std.specs.List.{AllByRecursion}
use Rattle.std.proofs.lemmas.List.Elements.{All-from_recursion}
use Rattle.cdc_prog.specs.Plain as plain
use Rattle.cdc_prog.specs.Translation.{listed, chain, in_arms}
use Rattle.cdc_tree.specs.Order.{Each}
use Rattle.cdc_tree.specs.Plain.{Plain, plains}
use Rattle.cdc_tree.specs.Forms.{PSpot, PLoop, PShown, PText, PValue, PStatement, PForm, FAssign, FIfThen, FElseIf, FLogicalIf, FDo, FDoall, FPrint, FRead}
use Rattle.cdc_tree.specs.Units.{PNode, NPlain, NIf, NElse, NLoop, PBody, Empty, More, PBranches, BNone, BMore, node_out, out, branches_out}
use Rattle.cdc_names.specs.declared.name_use.Role.{Role}
use Rattle.cdc_names.specs.declared.name_use.Role.TheVariants.{Input, Private}
use Rattle.cdc_names.specs.Places.{joined}
use Rattle.cdc_names.specs.Uses.{tree_uses, trees_uses, optional_uses, names_uses, spot_uses, shown_uses, spots_uses, control_uses, form_uses, statement_uses, closing_uses, node_uses, body_uses, branches_uses}
use Rattle.cdc_check.specs.declared.progress.Progress.{Progress}
use Rattle.cdc_check.specs.Meanings.{Surroundings}
use Rattle.cdc_check.specs.Expressions.{resolved, resolved_in}
use Rattle.cdc_check.specs.Statements.{Resolves, at_site, target, targets, item, items, formed, step_expr, controls, looped, condition, arm, noded, nodes_in, arms_in}
use Rattle.cdc_code.specs.declared.room.TheConstants.{STACK, NEST, ARGUMENTS}
use Rattle.cdc_code.specs.Room.{ValueRoom, ControlRoom, ItemRoom, StmtRoom}
use Rattle.cdc_compile.proofs.Narrow.{AreNarrow, narrow_left, narrow_right}
use Rattle.cdc_compile.proofs.Waiting.{Room, SubscriptsRoom, tree_room, trees_room}
use Rattle.cdc_compile.proofs.Standing.{ShownIsShallow, SpotIsShallow, StepIsShallow, LoopIsShallow, FormIsShallow, AreShallow, shallow_left, shallow_right}
use Rattle.cdc_compile.proofs.Open.{NodeFits, BodyFits, BranchesFit}

-- statements have room, where n DO loops of the unit are open
abbrev pub Roomy : ℕ → plain.Stmt → Type 0
Roomy n t = StmtRoom (λ k. k ≤ STACK) (λ k. k ≤ NEST) (λ k. k ≤ ARGUMENTS) n t

-- ---- statements alone

value_room : (es : plain.Exprs) (value : plain.Expr) → Room 0 value → Room 1 value → ValueRoom (λ k. k ≤ STACK) (λ k. k ≤ NEST) (λ k. k ≤ ARGUMENTS) es value
value_room plain.Empty value h i = h
value_room (plain.More e es) value h i = i

spot_room : (s : Surroundings) (role : Role) (spot : PSpot) → SpotIsShallow spot → AreNarrow (spot_uses role spot) → (k : ℕ) → SubscriptsRoom 0 (listed ((resolved_in s (plains spot.1) k).0))
spot_room s role spot h few k = trees_room s spot.1 h few.1 0 k (omega (arith, few.0))

abbrev TargetRoom : plain.Target → Type 0
TargetRoom t = SubscriptsRoom 0 t.subs

targets_room : (s : Surroundings) (spots : List PSpot) → Each SpotIsShallow spots → AreNarrow (spots_uses Input spots) → (k : ℕ) → AllByRecursion TargetRoom ((targets s spots k).0)
targets_room s [] h few k = tt
targets_room s (spot ∷ spots) h few k = (
  spot_room s Input spot h.0 (narrow_left (spot_uses Input spot) (spots_uses Input spots) few) k,
  targets_room s spots h.1 (narrow_right (spot_uses Input spot) (spots_uses Input spots) few) ((target s spot k).1),
)

abbrev ShownRoom : plain.Item → Type 0
ShownRoom i = ItemRoom (λ k. k ≤ STACK) (λ k. k ≤ NEST) (λ k. k ≤ ARGUMENTS) i

item_room : (s : Surroundings) (shown : PShown) → ShownIsShallow shown → AreNarrow (shown_uses shown) → (k : Progress) → ShownRoom ((item s shown k).0)
item_room s (PText text) h few k = tt
item_room s (PValue t) h few k = tree_room s t h few 0 k.sites (omega arith)

items_room : (s : Surroundings) (shown : List PShown) → Each ShownIsShallow shown → AreNarrow (joined (map shown_uses shown)) → (k : Progress) → AllByRecursion ShownRoom ((items s shown k).0)
items_room s [] h few k = tt
items_room s (x ∷ xs) h few k = (
  item_room s x h.0 (narrow_left (shown_uses x) (joined (map shown_uses xs)) few) k,
  items_room s xs h.1 (narrow_right (shown_uses x) (joined (map shown_uses xs)) few) ((item s x k).1),
)

form_room : (f : PForm) → FormIsShallow f → AreNarrow (form_uses f) → (line : ℕ) (s : Surroundings) (k : Progress) (n : ℕ) → Roomy n ((formed f line s k).0)
form_room (FAssign spot value) h few line s k n =
    let after = (resolved_in s (plains spot.1) k.sites).1 in
    let narrow : AreNarrow (tree_uses value) = narrow_right (trees_uses (plains spot.1)) (tree_uses value) few.1 in (
      trees_room s spot.1 h.0 (narrow_left (trees_uses (plains spot.1)) (tree_uses value) few.1) 0 k.sites (omega (arith, few.0)),
      value_room (listed ((resolved_in s (plains spot.1) k.sites).0)) ((resolved s value after).0) (tree_room s value h.1 narrow 0 after (omega arith)) (tree_room s value h.1 narrow 1 after (omega arith)),
    )
form_room (FLogicalIf c place f) h few line s k n = (
  tree_room s c h.0 (narrow_left (tree_uses c) (form_uses f) few) 0 k.sites (omega arith),
  (form_room f h.1 (narrow_right (tree_uses c) (form_uses f) few) line s (at_site ((resolved s c k.sites).1) k) n, tt),
  tt,
)
form_room (FPrint shown) h few line s k n = All-from_recursion ShownRoom ((items s shown k).0) (items_room s shown h few k)
form_room (FRead spots) h few line s k n = All-from_recursion TargetRoom ((targets s spots k.sites).0) (targets_room s spots h few k.sites)
form_room _ h few line s k n = tt

-- ---- loops

step_room : (s : Surroundings) (by : Option Plain) → StepIsShallow by → AreNarrow (optional_uses by) → (k : ℕ) → Room 2 ((step_expr s by k).0)
step_room s None h few k = omega arith
step_room s (Some t) h few k = tree_room s t h few 2 k (omega arith)

control_room : (line : ℕ) (s : Surroundings) (l : PLoop) → LoopIsShallow l → AreNarrow (control_uses l) → (k : ℕ) → ControlRoom (λ n. n ≤ STACK) (λ n. n ≤ NEST) (λ n. n ≤ ARGUMENTS) ((controls line s l k).0)
control_room line s l h few k =
    let two : AreNarrow (tree_uses l.1 ++ tree_uses l.2) = narrow_left (tree_uses l.1 ++ tree_uses l.2) (optional_uses l.3) few in
    let first = (resolved s l.1 k).1 in
    let second = (resolved s l.2 first).1 in (
      tree_room s l.1 h.0 (narrow_left (tree_uses l.1) (tree_uses l.2) two) 0 k (omega arith),
      tree_room s l.2 h.1 (narrow_right (tree_uses l.1) (tree_uses l.2) two) 1 first (omega arith),
      step_room s l.3 h.2 (narrow_right (tree_uses l.1 ++ tree_uses l.2) (optional_uses l.3) few) second,
    )

-- what the statements of a body resolve to has room, where at most n blocks are open
abbrev Resolving : ℕ → Resolves → Type 0
Resolving n inner = (m : ℕ) → m ≤ n → (s : Surroundings) (k : Progress) → Roomy m (chain ((inner s k).0))

loop_room : (f : PForm) (line : ℕ) (inner : Resolves) (n : ℕ) → FormIsShallow f → AreNarrow (form_uses f) → suc n ≤ 64 → Resolving (suc n) inner → (m : ℕ) → m ≤ n → (s : Surroundings) (k : Progress)
    → Roomy m ((looped line f inner s k).0)
loop_room (FDo l) line inner n h few low body m le s k = (control_room line s l h few.1 k.sites, omega arith, body (suc m) (omega arith) s _)
loop_room (FDoall l privates) line inner n h few low body m le s k = (control_room line s l h (narrow_left (control_uses l) (names_uses Private privates) few.1) k.sites, body m (omega arith) _ _)
loop_room _ line inner n h few low body m le s k = tt

-- ---- branches

condition_room : (f : PForm) → FormIsShallow f → AreNarrow (form_uses f) → (s : Surroundings) (k : ℕ) → Room 0 ((condition f s k).0)
condition_room (FIfThen c) h few s k = tree_room s c h few 0 k (omega arith)
condition_room (FElseIf c) h few s k = tree_room s c h few 0 k (omega arith)
condition_room _ h few s k = omega arith

-- each arm has room before an other part that has
abbrev ArmsRoom : ℕ → List (plain.Stmt → plain.Stmt) → Type 0
ArmsRoom n [] = Unit {0}
ArmsRoom n (a ∷ more) = ((other : plain.Stmt) → Roomy n other → Roomy n (a other)) × ArmsRoom n more

in_arms_room : (n : ℕ) (arms : List (plain.Stmt → plain.Stmt)) (other : plain.Stmt) → ArmsRoom n arms → Roomy n other → Roomy n (in_arms arms other)
in_arms_room n [] other h o = o
in_arms_room n (a ∷ more) other h o = h.0 (in_arms more other) (in_arms_room n more other h.1 o)

-- ---- constructs

mutual
  node_room : (x : PNode) (n : ℕ) → NodeFits n x → AreShallow (node_out x) → AreNarrow (node_uses x) → (m : ℕ) → m ≤ n → (s : Surroundings) (k : Progress) → Roomy m ((noded x s k).0)
  node_room (NPlain st) n fits h few m le s k = form_room st.form h.0 few st.place.line s k m
  node_room (NIf bs end) n fits h few m le s k =
      in_arms_room m ((arms_in bs s k).0) plain.Skip (arms_room bs (suc n) fits (shallow_left (branches_out bs) (end ∷ []) h) few m (omega arith) s k) tt
  node_room (NElse bs head b end) n fits h few m le s k =
      let rest : List PStatement = head ∷ (out b ++ (end ∷ [])) in
      let behind : AreShallow rest = shallow_right (branches_out bs) rest h in
      let uses : AreNarrow (statement_uses head ++ body_uses b) = narrow_right (branches_uses bs) (statement_uses head ++ body_uses b) few in
      let middle : Progress = (arms_in bs s k).1 in
      in_arms_room m ((arms_in bs s k).0) (chain ((nodes_in b s middle).0))
      (arms_room bs (suc n) fits.0 (shallow_left (branches_out bs) rest h) (narrow_left (branches_uses bs) (statement_uses head ++ body_uses b) few) m (omega arith) s k)
      (body_room b (suc n) fits.1 (shallow_left (out b) (end ∷ []) behind.1) (narrow_right (statement_uses head) (body_uses b) uses) m (omega arith) s middle)
  node_room (NLoop head b end) n fits h few m le s k =
      let two : AreNarrow (statement_uses head ++ body_uses b) = narrow_left (statement_uses head ++ body_uses b) (closing_uses head.form) few in
      loop_room head.form head.place.line (nodes_in b) n h.0 (narrow_left (statement_uses head) (body_uses b) two) fits.0
      (body_room b (suc n) fits.1 (shallow_left (out b) (end ∷ []) h.1) (narrow_right (statement_uses head) (body_uses b) two)) m le s k

  pub body_room : (b : PBody) (n : ℕ) → BodyFits n b → AreShallow (out b) → AreNarrow (body_uses b) → (m : ℕ) → m ≤ n → (s : Surroundings) (k : Progress) → Roomy m (chain ((nodes_in b s k).0))
  body_room Empty n fits h few m le s k = tt
  body_room (More x b) n fits h few m le s k = (
    node_room x n fits.0 (shallow_left (node_out x) (out b) h) (narrow_left (node_uses x) (body_uses b) few) m le s k,
    body_room b n fits.1 (shallow_right (node_out x) (out b) h) (narrow_right (node_uses x) (body_uses b) few) m le s ((noded x s k).1),
  )

  arms_room : (bs : PBranches) (n : ℕ) → BranchesFit n bs → AreShallow (branches_out bs) → AreNarrow (branches_uses bs) → (m : ℕ) → m ≤ n → (s : Surroundings) (k : Progress) → ArmsRoom m ((arms_in bs s k).0)
  arms_room BNone n fits h few m le s k = tt
  arms_room (BMore head b more) n fits h few m le s k =
      let two : AreNarrow (statement_uses head ++ body_uses b) = narrow_left (statement_uses head ++ body_uses b) (branches_uses more) few in
      let start : Progress = at_site ((condition head.form s k.sites).1) k in
      let cond : Room 0 ((condition head.form s k.sites).0) = condition_room head.form h.0 (narrow_left (statement_uses head) (body_uses b) two) s k.sites in
      let inner : Roomy m (chain ((nodes_in b s start).0)) = body_room b n fits.0 (shallow_left (out b) (branches_out more) h.1) (narrow_right (statement_uses head) (body_uses b) two) m le s start in (
        λ other o. (cond, inner, o),
        arms_room more n fits.1 (shallow_right (out b) (branches_out more) h.1) (narrow_right (statement_uses head ++ body_uses b) (branches_uses more) few) m le s ((arm head (nodes_in b) s k).1),
      )
