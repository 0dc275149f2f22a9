-- Jumps are written after the instructions that they pass.
use Rattle.std.proofs.Common.{◌≡◌, ℕ, suc, ◌+◌, ◌-◌, ◌<◌, Some, Bool, true, false, List, [], ◌∷◌, ◌++◌, length, refl, sym, ap, ◌∙◌, arith, append_assoc, length-append, length-set}
use Rattle.std.specs.Prelude.{slice_set, pos, negsuc, neg_ℤ}
use Rattle.std.proofs.Math.Seq.{set-append_seam}
use Rattle.std.proofs.lemmas.List.{append-nil}
use Rattle.std.proofs.lemmas.List.Elements.{All-weaker, All-append, All-same, All-nil, All-cons, All-pop}
use Rattle.cdc_prog.specs.declared.expr.Ref.{Ref}
use Rattle.cdc_prog.specs.declared.program.Mark.{Mark}
use Rattle.cdc_prog.specs.Plain.{Expr, Control}
use Rattle.cdc_code.specs.declared.instr.Instr.{Instr}
use Rattle.cdc_code.specs.declared.instr.Instr.TheVariants.{Jump, Jumpz, Dotest, Doadd, Fork, Join}
use Rattle.cdc_code.specs.declared.instr.Step.{Step}
use Rattle.cdc_code.specs.Template.{at_line, get_instr, set_instr, expr_code, controls_code, condition_code, raise_code, turns_code, doall_code}
use Rattle.cdc_emit.specs.declared.conditions.Pending.{Pending}
use Rattle.cdc_emit.specs.Parts.{arm_code, pending_code, pending_at, AreWithin, written, closed}
use Rattle.cdc_emit.proofs.Coded.{has_step}

-- a step that counts those behind it
pub filled : (base inner code : List Step) (x : Step) (g : ℕ → Step) (place end : ℕ) → place ≡ length base → code ≡ base ++ x ∷ inner → end ≡ length code → slice_set code place (g (end - place)) ≡ base ++ g (length inner + 1) ∷ inner
filled base inner code x g place end at is all =
    let d : end - place ≡ length inner + 1 = omega (arith, ap length is, length-append base (x ∷ inner)) in
    ap (λ k. slice_set code place (g k)) d
    ∙ ap (λ k. slice_set code k (g (length inner + 1))) at
    ∙ ap (λ s. slice_set s (length base) (g (length inner + 1))) is
    ∙ set-append_seam base x inner (g (length inner + 1))

-- the last jump is written first
pub written_last : (end : ℕ) (ps : List Pending) (q : Pending) (steps : List Step) → written end (ps ++ q ∷ []) steps ≡ written end ps (slice_set steps q.place (at_line q.line (Jump (pos (end - q.place)))))
written_last end [] q steps = refl
written_last end (p ∷ ps) q steps = ap (λ (l : List Step). slice_set l p.place (at_line p.line (Jump (pos (end - p.place))))) (written_last end ps q steps)

-- an arm whose test is written at its end
pub arm_filled : (line : ℕ) (base cond body leave c1 c2 c3 c4 c5 : List Step) (x : Step) (i : Instr) (m n : ℕ) →
    c1 ≡ base ++ cond → m ≡ length c1 → c2 ≡ c1 ++ x ∷ [] → c3 ≡ c2 ++ body → c4 ≡ c3 ++ leave → n ≡ length c4 → i ≡ Jumpz (pos (n - m)) → c5 ≡ slice_set c4 m (at_line line i) →
    c5 ≡ base ++ arm_code line cond body leave
arm_filled line base cond body leave c1 c2 c3 c4 c5 x i m n e1 em e2 e3 e4 en ei e5 =
    let inner = body ++ leave in
    let test = λ (d : ℕ). at_line line (Jumpz (pos d)) in
    let all : c4 ≡ ((c1 ++ x ∷ []) ++ body) ++ leave = cc in
    let flat : ((c1 ++ x ∷ []) ++ body) ++ leave ≡ c1 ++ x ∷ inner = simp append_assoc in
    e5 ∙ ap (λ j. slice_set c4 m (at_line line j)) ei ∙ filled c1 inner c4 x test m n em (all ∙ flat) en
    ∙ ap (λ (l : List Step). l ++ test (length inner + 1) ∷ inner) e1 ∙ append_assoc base cond (test (length inner + 1) ∷ inner)

-- the turns of a loop, whose test is written at their end
pub turns_filled : (marks : List Mark) (line : ℕ) (again bump : Ref) (base body c1 c2 c3 c4 c5 c6 c7 : List Step) (x : Step) (i j : Instr) (m k n : ℕ) →
    m ≡ length base → c1 ≡ base ++ x ∷ [] → c2 ≡ c1 ++ body → c3 ≡ c2 ++ at_line line (get_instr marks again.site again.var) ∷ [] → c4 ≡ c3 ++ at_line line Doadd ∷ [] → c5 ≡ c4 ++ at_line line (set_instr bump.site bump.var) ∷ [] →
    k ≡ length c5 → j ≡ Jump (neg_ℤ (pos (k - m))) → c6 ≡ c5 ++ at_line line j ∷ [] → n ≡ length c6 → i ≡ Dotest (pos (n - m)) → c7 ≡ slice_set c6 m (at_line line i) →
    c7 ≡ base ++ turns_code marks line again bump body
turns_filled marks line again bump base body c1 c2 c3 c4 c5 c6 c7 x i j m k n em e1 e2 e3 e4 e5 ek ej e6 en ei e7 =
    let get = at_line line (get_instr marks again.site again.var) in
    let add = at_line line Doadd in
    let set = at_line line (set_instr bump.site bump.var) in
    let l1 = ap length e1 ∙ length-append base (x ∷ []) in
    let l2 = ap length e2 ∙ length-append c1 body in
    let l3 = ap length e3 ∙ length-append c2 (get ∷ []) in
    let l4 = ap length e4 ∙ length-append c3 (add ∷ []) in
    let l5 = ap length e5 ∙ length-append c4 (set ∷ []) in
    let d : k - m ≡ suc (length body + 3) = omega arith in
    let last = at_line line (Jump (negsuc (length body + 3))) in
    let here : at_line line j ≡ last = ap (at_line line) ej ∙ ap (λ q. at_line line (Jump (neg_ℤ (pos q)))) d in
    let inner = body ++ raise_code marks line again bump (negsuc (length body + 3)) in
    let test = λ (q : ℕ). at_line line (Dotest (pos q)) in
    let all : c6 ≡ (((((base ++ x ∷ []) ++ body) ++ get ∷ []) ++ add ∷ []) ++ set ∷ []) ++ last ∷ [] = cc in
    let flat : (((((base ++ x ∷ []) ++ body) ++ get ∷ []) ++ add ∷ []) ++ set ∷ []) ++ last ∷ [] ≡ base ++ x ∷ inner = simp append_assoc in
    let long : length inner + 1 ≡ length body + 5 = omega (arith, length-append body (raise_code marks line again bump (negsuc (length body + 3)))) in
    e7 ∙ ap (λ q. slice_set c6 m (at_line line q)) ei ∙ filled base inner c6 x test m n em (all ∙ flat) en ∙ ap (λ q. base ++ test q ∷ inner) long

-- a DOALL whose fork is written at its end
pub doall_filled : (marks : List Mark) (control : Control) (number : ℕ) (base body c1 c2 c3 c4 c5 : List Step) (x : Step) (i : Instr) (m n : ℕ) →
    c1 ≡ base ++ controls_code marks control → m ≡ length c1 → c2 ≡ c1 ++ x ∷ [] → c3 ≡ c2 ++ body → c4 ≡ c3 ++ at_line control.line Join ∷ [] → n ≡ length c4 → i ≡ Fork number (pos (n - m)) → c5 ≡ slice_set c4 m (at_line control.line i) →
    c5 ≡ base ++ doall_code marks control number body
doall_filled marks control number base body c1 c2 c3 c4 c5 x i m n e1 em e2 e3 e4 en ei e5 =
    let inner = body ++ at_line control.line Join ∷ [] in
    let fork = λ (d : ℕ). at_line control.line (Fork number (pos d)) in
    let all : c4 ≡ ((c1 ++ x ∷ []) ++ body) ++ at_line control.line Join ∷ [] = cc in
    let flat : ((c1 ++ x ∷ []) ++ body) ++ at_line control.line Join ∷ [] ≡ c1 ++ x ∷ inner = simp append_assoc in
    let long : length inner + 1 ≡ length body + 2 = omega (arith, length-append body (at_line control.line Join ∷ [])) in
    e5 ∙ ap (λ j. slice_set c4 m (at_line control.line j)) ei ∙ filled c1 inner c4 x fork m n em (all ∙ flat) en ∙ ap (λ d. c1 ++ fork d ∷ inner) long
    ∙ ap (λ (l : List Step). l ++ fork (length body + 2) ∷ inner) e1 ∙ append_assoc base (controls_code marks control) (fork (length body + 2) ∷ inner)

-- an arm with the code behind it, when its jump to the end is written
pub arm_closed : (marks : List Mark) (line : ℕ) (base : List Step) (cond : Expr) (body rest new : List Step) (is_followed : Bool) (ends : List Pending) →
    is_followed ≡ has_step rest → new ≡ base ++ arm_code line (expr_code marks line cond) body (pending_code line is_followed) →
    closed (ends ++ pending_at (length new - 1) line is_followed) (new ++ rest) ≡ closed ends (base ++ condition_code marks line cond body rest)
arm_closed marks line base cond body [] new true ends same is = cc
arm_closed marks line base cond body (r ∷ rest) new false ends same is = cc
arm_closed marks line base cond body [] new false ends same is =
    let code = condition_code marks line cond body [] in
    let flat : (base ++ arm_code line (expr_code marks line cond) body []) ++ [] ≡ base ++ code = simp append_assoc in
    ap (λ ps. closed ps (new ++ [])) (append-nil ends) ∙ ap (λ (l : List Step). closed ends (l ++ [])) is ∙ ap (closed ends) flat
arm_closed marks line base cond body (r ∷ rest) new true ends same is =
    let tail = r ∷ rest in
    let jump = λ (d : ℕ). at_line line (Jump (pos d)) in
    let test = λ (d : ℕ). at_line line (Jumpz (pos d)) in
    let pending = jump 0 in
    let leave = jump (length tail + 1) in
    let front = base ++ (expr_code marks line cond ++ test (length (body ++ pending ∷ []) + 1) ∷ body) in
    let place = length new - 1 in
    let end = length (new ++ tail) in
    let code : new ++ tail ≡ front ++ pending ∷ tail = ap (λ (l : List Step). l ++ tail) is ∙ simp append_assoc in
    let at : place ≡ length front = omega (arith, ap length code, length-append new tail, length-append front (pending ∷ tail)) in
    let same_length : length (body ++ pending ∷ []) ≡ length (body ++ leave ∷ []) = length-append body (pending ∷ []) ∙ sym (length-append body (leave ∷ [])) in
    let flat : front ++ leave ∷ tail ≡ base ++ (expr_code marks line cond ++ (test (length (body ++ pending ∷ []) + 1) ∷ ((body ++ leave ∷ []) ++ tail))) = simp append_assoc in
    let whole = base ++ condition_code marks line cond body tail in
    let set : slice_set (new ++ tail) place (jump (end - place)) ≡ whole = filled front tail (new ++ tail) pending jump place end at code refl ∙ flat
    ∙ ap (λ d. base ++ (expr_code marks line cond ++ (test (d + 1) ∷ ((body ++ leave ∷ []) ++ tail)))) same_length in
    let long : end ≡ length whole = sym (length-set (new ++ tail) place (jump (end - place))) ∙ ap length set in
    written_last end ends (record { place = place; line = line }) (new ++ tail) ∙ ap (written end ends) set ∙ ap (λ n. written n ends whole) long

-- the places of jumps stay within code that grows
pub within_more : (steps more new : List Step) (ends : List Pending) → new ≡ steps ++ more → AreWithin steps ends → AreWithin new ends
within_more steps more new ends is within =
    let long : length new ≡ length steps + length more = ap length is ∙ length-append steps more in
    All-weaker (λ (p : Pending). p.place < length steps) (λ (p : Pending). p.place < length new) (λ p lt. omega arith) ends within

pub within_arm : (line : ℕ) (steps cond body new : List Step) (is_followed : Bool) (ends later : List Pending) → new ≡ steps ++ arm_code line cond body (pending_code line is_followed) → later ≡ ends ++ pending_at (length new - 1) line is_followed → AreWithin steps ends → AreWithin new later
within_arm line steps cond body new is_followed ends later is are within =
    let P = λ (p : Pending). p.place < length new in
    let inner = body ++ pending_code line is_followed in
    let test = at_line line (Jumpz (pos (length inner + 1))) in
    let long : length new ≡ length steps + (length cond + (length inner + 1)) = omega (arith, ap length is, length-append steps (cond ++ test ∷ inner), length-append cond (test ∷ inner)) in
    let all = All-append P ends (pending_at (length new - 1) line is_followed) (within_more steps (arm_code line cond body (pending_code line is_followed)) new ends is within) (last is_followed (omega arith)) in
    All-same P later (ends ++ pending_at (length new - 1) line is_followed) are all
  where
    last : (b : Bool) → length new - 1 < length new → AreWithin new (pending_at (length new - 1) line b)
    last false lt = All-nil (λ (p : Pending). p.place < length new)
    last true lt = All-cons (λ (p : Pending). p.place < length new) (record { place = length new - 1; line = line }) [] lt (All-nil (λ (p : Pending). p.place < length new))

-- a jump that is taken from the end of a list of them, and the others
pub within_left : (steps : List Step) (ends left : List Pending) (p : Pending) → ends ≡ left ++ p ∷ [] → AreWithin steps ends → (p.place < length steps) × AreWithin steps left
within_left steps ends left p is within =
    let both = All-pop (λ (q : Pending). q.place < length steps) ends left (Some p) is within in
    (both.1, both.0)
