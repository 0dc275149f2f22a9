-- What is left of a walk over a tree: the references and the DOALLs of the parts that follow.
use Rattle.std.proofs.Common.{◌≡◌, ℕ, suc, true, false, ◌+◌, ◌<◌, List, [], ◌∷◌, ◌++◌, map, length, get_or, drop, refl, sym, ap, ap₂, ◌∙◌, drop-cons, add-one, append_assoc, append-nil, arith}
use Rattle.std.specs.Prelude.{flat_map}
use Rattle.cdc_prog.specs.declared.affine.Scope.{Scope}
use Rattle.cdc_prog.specs.declared.stmt.Arm.{Arm}
use Rattle.cdc_prog.specs.declared.program.Unit.{Unit as ProgramUnit}
use Rattle.cdc_prog.specs.Dependence.{Spot, spot, index_of, inside}
use Rattle.cdc_prog.specs.Numbered.{calls_in, calls_numbered, units_numbered}
use Rattle.cdc_prog.specs.Plain as plain
use Rattle.cdc_prog.specs.Translation.{expr_of, stmts_of, arms_of, unit_of}
use Rattle.cdc_prog.proofs.Translated.{at_arm}
use Rattle.cdc_path.specs.References.{expr_refs, exprs_refs, controls_refs, items_refs, reads_refs, actuals_refs, store_ref, inside_doall, refs}
use Rattle.cdc_report.specs.declared.boundaries.Loop.{Loop}
use Rattle.cdc_report.specs.MarkLines.{loops}

pub one_left : {A : Type 0} (xs : List A) (i : ℕ) (x : A) → i < length xs → x ≡ get_or xs i x → drop i xs ≡ x ∷ drop (i + 1) xs
one_left xs i x lt item = rw (add-one, drop-cons xs i x) (ap (λ y. y ∷ drop (suc i) xs) (sym item))

pub one_read : {A : Type 0} (xs : List A) (i : ℕ) (d : A) → i < length xs → drop i xs ≡ get_or xs i d ∷ drop (i + 1) xs
one_read xs i d lt =
    let next : suc i ≡ i + 1 = omega arith in
    drop-cons xs i d lt ∙ ap (λ (n : ℕ). get_or xs i d ∷ drop n xs) next

pub arms_next : (arms : List Arm) (other : plain.Stmt) (i : ℕ) (a : Arm) → i < length arms → a ≡ get_or arms i a → arms_of (drop i arms) other ≡ plain.Arm a.line (expr_of a.cond) (stmts_of a.body) (arms_of (drop (i + 1) arms) other)
arms_next arms other i a lt item = ap (λ l. arms_of l other) (one_left arms i a lt item) ∙ at_arm a (arms_of (drop (i + 1) arms) other)

-- ---- the numbers of CALLs change no reference and no DOALL
pub same_refs : (sc : Scope) (before : ℕ) (s : plain.Stmt) → refs sc (calls_numbered before s) ≡ refs sc s
same_refs sc before plain.Skip = refl
same_refs sc before (plain.Seq a b) = ap₂ (λ (x y : List Spot). x ++ y) (same_refs sc before a) (same_refs sc (before + calls_in a) b)
same_refs sc before (plain.Assign line t value) = refl
same_refs sc before (plain.If arms) = same_refs sc before arms
same_refs sc before (plain.Arm line cond body other) = ap₂ (λ (x y : List Spot). expr_refs sc cond ++ (x ++ y)) (same_refs sc before body) (same_refs sc (before + calls_in body) other)
same_refs sc before (plain.Do k first body again bump) =
    ap (λ (x : List Spot). controls_refs sc k ++ (store_ref sc first plain.Empty ++ (x ++ (spot sc false again plain.Empty ∷ spot sc true bump plain.Empty ∷ [])))) (same_refs (inside sc (index_of k first)) before body)
same_refs sc before (plain.Doall k number slots body) = ap (λ (x : List Spot). controls_refs sc k ++ x) (same_refs (inside_doall sc k) before body)
same_refs sc before (plain.Call line number unit actuals) = refl
same_refs sc before (plain.Print line items) = refl
same_refs sc before (plain.Read line targets) = refl

pub same_loops : (before : ℕ) (s : plain.Stmt) → loops (calls_numbered before s) ≡ loops s
same_loops before plain.Skip = refl
same_loops before (plain.Seq a b) = ap₂ (λ (x y : List Loop). x ++ y) (same_loops before a) (same_loops (before + calls_in a) b)
same_loops before (plain.Assign line t value) = refl
same_loops before (plain.If arms) = same_loops before arms
same_loops before (plain.Arm line cond body other) = ap₂ (λ (x y : List Loop). x ++ y) (same_loops before body) (same_loops (before + calls_in body) other)
same_loops before (plain.Do k first body again bump) = same_loops before body
same_loops before (plain.Doall k number slots body) = refl
same_loops before (plain.Call line number unit actuals) = refl
same_loops before (plain.Print line items) = refl
same_loops before (plain.Read line targets) = refl

-- lines that are the same for a unit with its CALLs numbered
pub same_units : (line : plain.ProgramUnit → List ℕ)
    → ((before : ℕ) (u : plain.ProgramUnit) → line (record { name = u.name; dummies = u.dummies; body = calls_numbered before u.body }) ≡ line u)
    → (before : ℕ) (us : List ProgramUnit) → flat_map (λ (u : ProgramUnit). line (unit_of u)) us ≡ flat_map line (units_numbered before (map unit_of us))
same_units line same before [] = refl
same_units line same before (u ∷ us) = ap₂ (λ (a b : List ℕ). a ++ b) (sym (same before (unit_of u))) (same_units line same (before + calls_in (unit_of u).body) us)

-- ---- arms, before what comes where no condition holds
pub arms_refs : (sc : Scope) (arms : List Arm) (other : plain.Stmt) → refs sc (arms_of arms other) ≡ refs sc (arms_of arms plain.Skip) ++ refs sc other
arms_refs sc [] other = refl
arms_refs sc (a ∷ arms) other =
    let cond : List Spot = expr_refs sc (expr_of a.cond) in
    let body : List Spot = refs sc (stmts_of a.body) in
    let more : List Spot = refs sc (arms_of arms plain.Skip) in
    ap (refs sc) (at_arm a (arms_of arms other))
    ∙ ap (λ (xs : List Spot). cond ++ (body ++ xs)) (arms_refs sc arms other)
    ∙ ap (λ (xs : List Spot). cond ++ xs) (sym (append_assoc body more (refs sc other)))
    ∙ sym (append_assoc cond (body ++ more) (refs sc other))
    ∙ ap (λ (xs : List Spot). xs ++ refs sc other) (sym (ap (refs sc) (at_arm a (arms_of arms plain.Skip))))

pub arms_loops : (arms : List Arm) (other : plain.Stmt) → loops (arms_of arms other) ≡ loops (arms_of arms plain.Skip) ++ loops other
arms_loops [] other = refl
arms_loops (a ∷ arms) other =
    let body : List Loop = loops (stmts_of a.body) in
    let more : List Loop = loops (arms_of arms plain.Skip) in
    ap loops (at_arm a (arms_of arms other))
    ∙ ap (λ (xs : List Loop). body ++ xs) (arms_loops arms other)
    ∙ sym (append_assoc body more (loops other))
    ∙ ap (λ (xs : List Loop). xs ++ loops other) (sym (ap loops (at_arm a (arms_of arms plain.Skip))))

-- one item, target or actual before others
pub items_more : (sc : Scope) (i : plain.Item) (more : List plain.Item) → items_refs sc (i ∷ more) ≡ items_refs sc (i ∷ []) ++ items_refs sc more
items_more sc (plain.Text number) more = refl
items_more sc (plain.Value value) more = ap (λ (xs : List Spot). xs ++ items_refs sc more) (sym (append-nil (expr_refs sc value)))

pub targets_more : (sc : Scope) (t : plain.Target) (more : List plain.Target) → reads_refs sc (t ∷ more) ≡ reads_refs sc (t ∷ []) ++ reads_refs sc more
targets_more sc t more = sym (append_assoc (exprs_refs sc t.subs) (store_ref sc t.at t.subs) (reads_refs sc more))

pub actuals_more : (sc : Scope) (a : plain.Actual) (more : List plain.Actual) → actuals_refs sc (a ∷ more) ≡ actuals_refs sc (a ∷ []) ++ actuals_refs sc more
actuals_more sc (plain.Whole v) more = refl
actuals_more sc (plain.Copy r value) more = sym (append_assoc (expr_refs sc value) (store_ref sc r plain.Empty) (actuals_refs sc more))
