-- What statements do, part by part.
use Rattle.std.proofs.Common.{◌≡◌, ℕ, zero, suc, ◌+◌, ◌-◌, ◌<◌, ◌≤◌, ℤ, pos, negsuc, List, [], ◌∷◌, length, drop, get_or, map, Ok, refl, sym, ap, ◌∙◌, subst, arith}
use Rattle.std.specs.List.{All}
use Rattle.cdc_prog.specs.declared.expr.Target.{Target}
use Rattle.cdc_prog.specs.declared.stmt.Stmt.{Stmt}
use Rattle.cdc_prog.specs.declared.stmt.Arm.{Arm}
use Rattle.cdc_prog.specs.Plain as plain
use Rattle.cdc_prog.specs.Data.{Store, Binding}
use Rattle.cdc_prog.specs.Input.{Input, take}
use Rattle.cdc_prog.specs.Process.{Process, or_fail}
use Rattle.cdc_prog.specs.Expressions as process
use Rattle.cdc_prog.specs.Expressions.{Surroundings, keep, target}
use Rattle.cdc_prog.specs.Statements.{Work, turns, reads, branch}
use Rattle.cdc_prog.specs.Translation.{expr_of, target_of, stmt_of, stmts_of, arms_of}
use Rattle.cdc_prog.proofs.Translated.{at_arm}
use Rattle.cdc_prog.specs.Held.{store_of, Same, around}
use Rattle.cdc_meaning.specs.Carried.{State, Follows}
use Rattle.cdc_prog.proofs.Same.{same_after}
use Rattle.cdc_meaning.proofs.Comes.{follows_after, ticked, one_left}

pub one_statement : (statements : List Stmt) (i : ℕ) (s : Stmt) → i < length statements → s ≡ get_or statements i s → stmts_of (drop i statements) ≡ plain.Seq (stmt_of s) (stmts_of (drop (i + 1) statements))
one_statement statements i s lt item = ap stmts_of (one_left statements i s lt item)

pub one_arm : (arms : List Arm) (other : plain.Stmt) (i : ℕ) (a : Arm) → i < length arms → a ≡ get_or arms i a → arms_of (drop i arms) other ≡ plain.Arm a.line (expr_of a.cond) (stmts_of a.body) (arms_of (drop (i + 1) arms) other)
one_arm arms other i a lt item = ap (λ l. arms_of l other) (one_left arms i a lt item) ∙ at_arm a (arms_of (drop (i + 1) arms) other)

pub is_taken : (v : ℤ) (body other : Process) → (v ≡ pos 0 → ⊥) → branch v body other ≡ body
is_taken (pos zero) body other some = absurd (some refl)
is_taken (pos (suc n)) body other some = refl
is_taken (negsuc n) body other some = refl

pub is_passed : (v : ℤ) (body other : Process) → v ≡ pos 0 → branch v body other ≡ other
is_passed v body other none = ap (λ (x : ℤ). branch x body other) none

pub one_turn : (texts : List (List ℕ)) (n k : ℕ) (body raised : Work) (rest : Surroundings → Process) (p : Process) (x y : State) → k < n → Follows texts p x (turns (n - k) body raised y.around rest) y → Follows texts p x (body y.around (λ d. raised d (λ e. turns (n - (k + 1)) body raised e rest))) y
one_turn texts n k body raised rest p x y lt h =
    let left : n - k ≡ suc (n - (k + 1)) = omega arith in
    follows_after texts (subst (λ m. Follows texts p x (turns m body raised y.around rest) y) left h) (ticked texts)

pub no_turn : (texts : List (List ℕ)) (n k : ℕ) (body raised : Work) (rest : Surroundings → Process) (p : Process) (x y : State) → n ≤ k → Follows texts p x (turns (n - k) body raised y.around rest) y → Follows texts p x (rest y.around) y
no_turn texts n k body raised rest p x y le h =
    let left : n - k ≡ 0 = omega arith in
    follows_after texts (subst (λ m. Follows texts p x (turns m body raised y.around rest) y) left h) (ticked texts)

-- a fact of each of a list's images is one of each of its elements
pub each_image : {A B : Type 0} (P : B → Type 0) (f : A → B) (xs : List A) → All P (map f xs) → All (λ x. P (f x)) xs
each_image P f [] h k d lt = absurd (omega (arith, lt))
each_image P f (x ∷ xs) h zero d lt = h 0 (f d) (omega arith)
each_image P f (x ∷ xs) h (suc k) d lt = each_image P f xs (λ j e below. h (suc j) e (omega (arith, below))) k d (omega (arith, lt))

-- one target is read
pub one_target : (b : Binding) (line : ℕ) (targets : List Target) (i : ℕ) (at : Target) (slots after : List ℤ) (s t : Store) (left later : Input) (v : ℤ) (cell : process.Cell) (rest : Surroundings → Process) →
    i < length targets → at ≡ get_or targets i at →
    ((k : process.Cell → Process) → Same (target b line (target_of at) (around slots left) k) s (k cell) s) → take left ≡ Ok (v, later) →
    ((k : Surroundings → Process) → Same (keep cell v (around slots later) k) s (k (around after later)) t) →
    Same (reads b line (map target_of (drop i targets)) (around slots left) rest) s (reads b line (map target_of (drop (i + 1) targets)) (around after later) rest) t
one_target b line targets i at slots after s t left later v cell rest lt item located took kept =
    let more = map target_of (drop (i + 1) targets) in
    let next = λ (d : Surroundings). reads b line more d rest in
    let store = λ (got : ℤ × Input). keep cell got.0 (record { slots = store_of slots; input = got.1 }) next in
    let k = λ (c : process.Cell). or_fail line (take left) (λ (got : ℤ × Input). keep c got.0 (record { slots = store_of slots; input = got.1 }) next) in
    let stored : Same (or_fail line (take left) store) s (next (around after later)) t = subst (λ g. Same (or_fail line g store) s (next (around after later)) t) (sym took) (kept next) in
    let all = same_after (located k) stored in
    subst (λ (l : List Target). Same (reads b line (map target_of l) (around slots left) rest) s (next (around after later)) t) (sym (one_left targets i at lt item))
    (record { output = all.output; ends = all.ends })
