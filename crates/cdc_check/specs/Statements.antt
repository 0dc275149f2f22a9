-- What statements resolve to, in the order of the template code: the tree, and the numbers after it.
use Rattle.std.specs.Prelude.{ℕ, pos, List, [], ◌∷◌, ◌++◌, map, length, Option, Some, None}
use Rattle.cdc_tree.specs.declared.tree.Named.{Named}
use Rattle.cdc_tree.specs.Plain.{Plain, plains}
use Rattle.cdc_tree.specs.Forms.{PSpot, PLoop, PShown, PText, PValue, PStatement, PForm, FAssign, FIfThen, FElseIf, FLogicalIf, FDo, FDoall, FPrint, FRead}
use Rattle.cdc_tree.specs.Units.{PNode, NPlain, NIf, NElse, NLoop, PBody, Empty, More, PBranches, BNone, BMore}
use Rattle.cdc_prog.specs.Plain as plain
use Rattle.cdc_prog.specs.Translation.{listed, chain, in_arms}
use Rattle.cdc_check.specs.declared.progress.Progress.{Progress}
use Rattle.cdc_check.specs.Threads.{next, numbered, on, each}
use Rattle.cdc_check.specs.Meanings.{Surroundings, surroundings, var_of, reference, sites_after}
use Rattle.cdc_check.specs.Expressions.{resolved, resolved_in}

abbrev pub at_site : ℕ → Progress → Progress
at_site n k = record k { sites = n }

-- the subscripts of a target, the value, the store
abbrev pub assigned : ℕ → Surroundings → PSpot → Plain → ℕ → plain.Stmt × ℕ
assigned line s spot value k =
    on (resolved_in s (plains spot.1) k) (λ subs m. on (resolved s value m) (λ v n.
    (plain.Assign line (record { at = reference (var_of s spot.0) spot.0.place n; subs = listed subs }) v, sites_after (var_of s spot.0) n)))

-- the subscripts of a target, the store
abbrev pub target : Surroundings → PSpot → ℕ → plain.Target × ℕ
target s spot k =
    on (resolved_in s (plains spot.1) k) (λ subs n.
    (record { at = reference (var_of s spot.0) spot.0.place n; subs = listed subs }, sites_after (var_of s spot.0) n))

abbrev pub targets : Surroundings → List PSpot → ℕ → List plain.Target × ℕ
targets s spots = each (map (target s) spots)

-- each text has a number of its own
abbrev pub with_text : List ℕ → Progress → ℕ × Progress
with_text text k = (numbered (length k.texts), record k { texts = k.texts ++ text ∷ [] })

abbrev pub item : Surroundings → PShown → Progress → plain.Item × Progress
item s (PText text) k = on (with_text text k) (λ n m. (plain.Text n, m))
item s (PValue t) k = on (resolved s t k.sites) (λ e n. (plain.Value e, at_site n k))

abbrev pub items : Surroundings → List PShown → Progress → List plain.Item × Progress
items s shown = each (map (item s) shown)

-- the statement within a logical IF has the line of the IF
abbrev pub formed : PForm → ℕ → Surroundings → Progress → plain.Stmt × Progress
formed (FAssign spot value) line s k = on (assigned line s spot value k.sites) (λ st n. (st, at_site n k))
formed (FLogicalIf cond place simple) line s k =
    on (resolved s cond k.sites) (λ c n. on (formed simple line s (at_site n k)) (λ body m.
    (plain.If (plain.Arm line c (chain (body ∷ [])) plain.Skip), m)))
formed (FPrint shown) line s k = on (items s shown k) (λ is m. (plain.Print line is, m))
formed (FRead spots) line s k = on (targets s spots k.sites) (λ ts n. (plain.Read line ts, at_site n k))
formed _ line s k = (plain.If plain.Skip, k)

-- a missing step is 1
abbrev pub step_expr : Surroundings → Option Plain → ℕ → plain.Expr × ℕ
step_expr s None k = (plain.Number (pos 1), k)
step_expr s (Some t) k = resolved s t k

abbrev pub controls : ℕ → Surroundings → PLoop → ℕ → plain.Control × ℕ
controls line s l k =
    on (resolved s l.1 k) (λ a k. on (resolved s l.2 k) (λ b k. on (step_expr s l.3 k) (λ c k.
    (record { line = line; from = a; to = b; by = c }, k))))

-- what the statements of a body resolve to
abbrev pub Resolves : Type 0
Resolves = Surroundings → Progress → List plain.Stmt × Progress

-- the variable of a DO has three sites: the first store, and after the body the load and the store that raise it
abbrev pub counted : ℕ → Surroundings → PLoop → Resolves → Progress → plain.Stmt × Progress
counted line s l inner k =
    on (controls line s l k.sites) (λ c n.
    on (inner s (at_site (sites_after (var_of s l.0) n) k)) (λ b m. (
      plain.Do c (reference (var_of s l.0) l.0.place n) (chain b)
          (reference (var_of s l.0) l.0.place m.sites)
          (reference (var_of s l.0) l.0.place (sites_after (var_of s l.0) m.sites)),
      at_site (sites_after (var_of s l.0) (sites_after (var_of s l.0) m.sites)) m,
    )))

abbrev pub with_doall : ℕ → Progress → Progress
with_doall n k = record k { sites = n; doalls = next k.doalls }

-- the controls mean the names outside; the slots are the index and the private names
abbrev pub parallel : ℕ → Surroundings → PLoop → List Named → Resolves → Progress → plain.Stmt × Progress
parallel line s l privates inner k =
    on (controls line s l k.sites) (λ c n.
    on (inner (surroundings s.names (l.0 ∷ privates)) (with_doall n k)) (λ b m.
    (plain.Doall c (next k.doalls) (next (numbered (length privates))) (chain b), m)))

abbrev pub looped : ℕ → PForm → Resolves → Surroundings → Progress → plain.Stmt × Progress
looped line (FDo l) inner s k = counted line s l inner k
looped line (FDoall l privates) inner s k = parallel line s l privates inner k
looped line _ inner s k = (plain.If plain.Skip, k)

-- an ELSE has no condition
abbrev pub condition : PForm → Surroundings → ℕ → plain.Expr × ℕ
condition (FIfThen c) s k = resolved s c k
condition (FElseIf c) s k = resolved s c k
condition _ s k = (plain.Number (pos 1), k)

-- a branch of an IF, before what comes where no condition holds
abbrev pub arm : PStatement → Resolves → Surroundings → Progress → (plain.Stmt → plain.Stmt) × Progress
arm head inner s k =
    on (condition head.form s k.sites) (λ c n. on (inner s (at_site n k)) (λ b m. (plain.Arm head.place.line c (chain b), m)))

abbrev mutual
  pub noded : PNode → Surroundings → Progress → plain.Stmt × Progress
  noded (NPlain st) s k = formed st.form st.place.line s k
  noded (NIf branches end) s k = on (arms_in branches s k) (λ arms m. (plain.If (in_arms arms plain.Skip), m))
  noded (NElse branches head other end) s k =
      on (arms_in branches s k) (λ arms m. on (nodes_in other s m) (λ rest n. (plain.If (in_arms arms (chain rest)), n)))
  noded (NLoop head inner end) s k = looped head.place.line head.form (nodes_in inner) s k

  pub nodes_in : PBody → Surroundings → Progress → List plain.Stmt × Progress
  nodes_in Empty s k = ([], k)
  nodes_in (More n rest) s k = on (noded n s k) (λ a m. on (nodes_in rest s m) (λ more n. (a ∷ more, n)))

  pub arms_in : PBranches → Surroundings → Progress → List (plain.Stmt → plain.Stmt) × Progress
  arms_in BNone s k = ([], k)
  arms_in (BMore head inner rest) s k = on (arm head (nodes_in inner) s k) (λ a m. on (arms_in rest s m) (λ more n. (a ∷ more, n)))
