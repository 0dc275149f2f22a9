-- Tokens that are cut into lines: one more token, and the end of a line.
use Rattle.std.proofs.Common.{◌≡◌, ℕ, ◌+◌, ◌≤◌, List, [], ◌∷◌, ◌++◌, length, take, drop, length-append, append_assoc, None, Some, sym, refl, ap, ◌∙◌, subst, arith}
use Rattle.std.proofs.lemmas.List.{nil_from_length, take_all, drop_all, take-append-le, drop-append-le, length-drop}
use Rattle.cdc_token.specs.declared.token.Lexed.{Lexed}
use Rattle.cdc_token.specs.declared.gathered.Gathered.{Gathered}
use Rattle.cdc_token.specs.Lines.{Line, closed, cut, behind, Leaves}
use Rattle.cdc_token.specs.Logical.{gather}
use Rattle.cdc_token.specs.Taking.{Takes}

-- ---- tokens at the end

pub leaves_more : (ns : List ℕ) (k : ℕ) (ts us : List Lexed) → Leaves ns k ts → Leaves ns (k + length us) (ts ++ us)
leaves_more [] k ts us h = omega (arith, h, length-append ts us)
leaves_more (n ∷ ns) k ts us h =
    (h.0, omega (arith, h.1, length-append ts us), subst (Leaves ns (k + length us)) (sym (drop-append-le n ts us h.1)) (leaves_more ns k (drop n ts) us h.2))

pub cut_more : (ns : List ℕ) (k : ℕ) (ts us : List Lexed) → Leaves ns k ts → cut ns (ts ++ us) ≡ cut ns ts
cut_more [] k ts us h = refl
cut_more (n ∷ ns) k ts us h =
    let rest : cut ns (drop n (ts ++ us)) ≡ cut ns (drop n ts) = ap (cut ns) (drop-append-le n ts us h.1) ∙ cut_more ns k (drop n ts) us h.2 in
    λ i. closed (take-append-le n ts us h.1 i) (rest i)

pub behind_more : (ns : List ℕ) (k : ℕ) (ts us : List Lexed) → Leaves ns k ts → behind ns (ts ++ us) ≡ behind ns ts ++ us
behind_more [] k ts us h = refl
behind_more (n ∷ ns) k ts us h = ap (behind ns) (drop-append-le n ts us h.1) ∙ behind_more ns k (drop n ts) us h.2

pub leaves_few : (ns : List ℕ) (k : ℕ) (ts : List Lexed) → Leaves ns k ts → k ≤ length ts
leaves_few [] k ts h = omega (arith, h)
leaves_few (n ∷ ns) k ts h = omega (arith, leaves_few ns k (drop n ts) h.2, length-drop n ts)

pub length_behind : (ns : List ℕ) (k : ℕ) (ts : List Lexed) → Leaves ns k ts → length (behind ns ts) ≡ k
length_behind [] k ts h = sym h
length_behind (n ∷ ns) k ts h = length_behind ns k (drop n ts) h.2

-- ---- one line more

closed_append : (ts : List Lexed) (ls ms : List Line) → closed ts (ls ++ ms) ≡ closed ts ls ++ ms
closed_append [] ls ms = refl
closed_append (t ∷ ts) ls ms = refl

pub leaves_end : (ns : List ℕ) (k : ℕ) (ts : List Lexed) → Leaves ns k ts → 1 ≤ k → Leaves (ns ++ k ∷ []) 0 ts
leaves_end [] k ts h some = (some, omega (arith, h), omega (arith, h, length-drop k ts))
leaves_end (n ∷ ns) k ts h some = (h.0, h.1, leaves_end ns k (drop n ts) h.2 some)

pub cut_end : (ns : List ℕ) (k : ℕ) (ts : List Lexed) → Leaves ns k ts → cut (ns ++ k ∷ []) ts ≡ cut ns ts ++ closed (behind ns ts) []
cut_end [] k ts h = ap (λ us. closed us []) (take_all k ts (omega (arith, h)))
cut_end (n ∷ ns) k ts h = ap (closed (take n ts)) (cut_end ns k (drop n ts) h.2) ∙ closed_append (take n ts) (cut ns (drop n ts)) (closed (behind ns (drop n ts)) [])

pub behind_end : (ns : List ℕ) (k : ℕ) (ts : List Lexed) → Leaves ns k ts → behind (ns ++ k ∷ []) ts ≡ []
behind_end [] k ts h = drop_all k ts (omega (arith, h))
behind_end (n ∷ ns) k ts h = behind_end ns k (drop n ts) h.2

-- no line is begun
pub behind_none : (ns : List ℕ) (ts : List Lexed) → Leaves ns 0 ts → behind ns ts ≡ []
behind_none ns ts h = nil_from_length (behind ns ts) (length_behind ns 0 ts h)

-- ---- what is gathered

-- the line that is begun ends
pub takes_end : (old new : Gathered) → new.done ≡ old.done ++ closed old.begun [] → new.begun ≡ [] → Takes old new (None ∷ [])
takes_end old new done begun more =
    (λ i. done i ++ gather (begun i) more) ∙ append_assoc old.done (closed old.begun []) (gather [] more) ∙ ap (λ ls. old.done ++ ls) (sym (closed_append old.begun [] (gather [] more)))

pub takes_none : (g : Gathered) → g.begun ≡ [] → Takes g g (None ∷ [])
takes_none g begun more = (λ i. g.done ++ gather (begun i) more) ∙ (λ i. g.done ++ gather (sym begun i) (None ∷ more))

pub takes_token : (old new : Gathered) (t : Lexed) → new.done ≡ old.done → new.begun ≡ old.begun ++ t ∷ [] → Takes old new (Some t ∷ [])
takes_token old new t done begun more = λ i. done i ++ gather (begun i) more
