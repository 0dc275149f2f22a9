-- A file has a header or a bad line, never both, and one bad line at most.
use Rattle.std.proofs.Common.{◌≡◌, ◌⊎◌, ℕ, ◌<◌, ◌≤◌, List, [], ◌∷◌, ◌++◌, length, take, drop, map, Ok, Err, Result, refl, sym, ◌∙◌, ap, subst, ⊎_elim, arith, append_assoc, length-append}
use Rattle.std.specs.Prelude.{filter, IfOk, IfErr, IsOk}
use Rattle.std.specs.Str.Lines.{lines}
use Rattle.std.proofs.lemmas.List.{map-append}
use Rattle.std.proofs.lemmas.List.Elements.{filter-append}
use Rattle.cdc_sched.specs.declared.header.Header.{Header}
use Rattle.cdc_sched.specs.declared.read.HeaderRefusal.{HeaderRefusal}
use Rattle.cdc_sched.specs.declared.read.HeaderRefusal.TheVariants.{BadHeader}
use Rattle.cdc_sched.specs.Headers.{Place, places, SayAll, kept_words, IsFront, HasHeader, IsBadHeader, Departs, bad_number}
use Rattle.cdc_sched.specs.Lines.{is_kept, read_words}

-- the longer of two fronts of one list goes on with the next element behind the shorter
record GoesOn (xs ys longer : List (List ℕ)) : Type 0 where
  next : List ℕ
  more : List (List ℕ)
  left : List (List ℕ)
  front : longer ≡ xs ++ next ∷ more
  rest : ys ≡ next ∷ left

goes_on : (xs ys longer zs : List (List ℕ)) → xs ++ ys ≡ longer ++ zs → length xs < length longer → GoesOn xs ys longer
goes_on xs ys [] zs e less = absurd (omega (arith, less))
goes_on [] ys (l ∷ longer) zs e less = record { next = l; more = longer; left = longer ++ zs; front = refl; rest = e }
goes_on (x ∷ xs) ys (l ∷ longer) zs e less =
    let same : x ≡ l = cc in
    let rest : xs ++ ys ≡ longer ++ zs = cc in
    let g = goes_on xs ys longer zs rest (omega (arith, less)) in
    record { next = g.next; more = g.more; left = g.left; front = (λ i. sym same i ∷ g.front i); rest = g.rest }

said_front : (ps : List Place) (h : Header) (xs ys : List (List (List ℕ))) → SayAll ps h (xs ++ ys) → SayAll ps h xs
said_front ps h [] ys s = tt
said_front [] h (x ∷ xs) ys s = s
said_front (p ∷ ps) h (x ∷ xs) ys s = (s.0, said_front ps h xs ys s.1)

pub kept_append : (xs ys : List (List ℕ)) → kept_words (xs ++ ys) ≡ kept_words xs ++ kept_words ys
kept_append xs ys = ap (map read_words) (filter-append is_kept xs ys) ∙ map-append read_words (filter is_kept xs) (filter is_kept ys)

front_front : (xs ys : List (List ℕ)) → IsFront (xs ++ ys) → IsFront xs
front_front xs ys f =
    (f.0, record { limits = f.1.limits; built = f.1.built; says = said_front places f.0 (kept_words xs) (kept_words ys) (subst (SayAll places f.0) (kept_append xs ys) f.1.says) })

-- lines that depart do not go on as a front
no_more : (above rest longer zs : List (List ℕ)) → above ++ rest ≡ longer ++ zs → Departs above rest → IsFront longer → length above < length longer → ⊥
no_more above rest longer zs e d f less =
    let g = goes_on above rest longer zs e less in
    let split : longer ≡ (above ++ g.next ∷ []) ++ g.more = g.front ∙ sym (append_assoc above (g.next ∷ []) g.more) in
    let not : IsFront (above ++ g.next ∷ []) → ⊥ = subst (λ r. Departs above r) g.rest d in
    not (front_front (above ++ g.next ∷ []) g.more (subst IsFront split f))

pub order : (m n : ℕ) → (m < n) ⊎ (n ≤ m)
order m n = grind arith

pub fewer : (xs ys zs ws : List (List ℕ)) → xs ++ ys ≡ zs ++ ws → length zs ≤ length xs → length (kept_words zs) ≤ length (kept_words xs)
fewer xs ys [] ws e le = omega arith
fewer [] ys (z ∷ zs) ws e le = absurd (omega (arith, le))
fewer (x ∷ xs) ys (z ∷ zs) ws e le =
    let same : x ≡ z = cc in
    let rest : xs ++ ys ≡ zs ++ ws = cc in
    let less = fewer xs ys zs ws rest (omega (arith, le)) in
    let a = ap length (kept_append (x ∷ []) xs) ∙ length-append (kept_words (x ∷ [])) (kept_words xs) in
    let b = ap length (kept_append (z ∷ []) zs) ∙ length-append (kept_words (z ∷ [])) (kept_words zs) in
    let first : length (kept_words (x ∷ [])) ≡ length (kept_words (z ∷ [])) = ap (λ l. length (kept_words (l ∷ []))) same in
    omega (arith, less, a, b, first)

pub not_both : {bytes : List ℕ} {header : Header} {at n : ℕ} → HasHeader bytes header at → IsBadHeader bytes n → ⊥
not_both {bytes} {header} {at} h b =
    let e : b.above ++ b.rest ≡ lines (take at bytes) ++ lines (drop at bytes) = sym b.split ∙ h.start.split in
    ⊎_elim
    (λ (less : length b.above < length (lines (take at bytes))). no_more b.above b.rest (lines (take at bytes)) (lines (drop at bytes)) e b.departs (header, h.front) less)
    (λ (le : length (lines (take at bytes)) ≤ length b.above). absurd (omega (arith, fewer b.above b.rest (lines (take at bytes)) (lines (drop at bytes)) e le, b.short, h.all)))
    (order (length b.above) (length (lines (take at bytes))))

pub same_bad : {bytes : List ℕ} {m n : ℕ} → IsBadHeader bytes m → IsBadHeader bytes n → m ≡ n
same_bad a b =
    let e : a.above ++ a.rest ≡ b.above ++ b.rest = sym a.split ∙ b.split in
    ⊎_elim
    (λ (less : length a.above < length b.above). absurd (no_more a.above a.rest b.above b.rest e a.departs b.fits less))
    (λ (le : length b.above ≤ length a.above). ⊎_elim
    (λ (less : length b.above < length a.above). absurd (no_more b.above b.rest a.above a.rest (sym e) b.departs a.fits less))
    (λ (ge : length a.above ≤ length b.above). omega (arith, le, ge, a.number_is, b.number_is))
    (order (length b.above) (length a.above)))
    (order (length a.above) (length b.above))

pub accepts : {T : Type 0} {bytes : List ℕ} (r : Result T HeaderRefusal) → IfErr r (λ e. IsBadHeader bytes (bad_number e)) → (header : Header) (at : ℕ) → HasHeader bytes header at → IsOk r
accepts (Ok v) bad header at h = refl
accepts (Err e) bad header at h = absurd (not_both h bad)

pub refuses : {T : Type 0} {bytes : List ℕ} (header_of : T → Header) (place_of : T → ℕ) (r : Result T HeaderRefusal) → IfOk r (λ v. HasHeader bytes (header_of v) (place_of v)) → IfErr r (λ e. IsBadHeader bytes (bad_number e)) → (n : ℕ) → IsBadHeader bytes n → r ≡ Err (BadHeader n)
refuses header_of place_of (Ok v) has bad n b = absurd (not_both has b)
refuses header_of place_of (Err (BadHeader m)) has bad n b = ap (λ k. Err (BadHeader k)) (same_bad bad b)
