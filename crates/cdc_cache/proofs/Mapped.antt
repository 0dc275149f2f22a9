-- A list whose elements are replaced one after another.
use Rattle.std.proofs.Common.{◌≡◌, ℕ, zero, suc, ◌+◌, ◌<◌, ◌≤◌, List, [], ◌∷◌, ◌++◌, length, get_or, set, take, drop, refl, sym, ◌∙◌, ap, arith, replicate, length-append, append_assoc, map}
use Rattle.std.proofs.lemmas.List.{drop_more, take_more, set_at, length-take-le, append-nil, take-append-drop, take_all, get_or_at, length-set}
use Rattle.cdc_cache.specs.Lines.{map_from}

module _ {A : Type 0} (f : ℕ → A → A) where
  pub length-map_from : (y : ℕ) (xs : List A) → length (map_from f y xs) ≡ length xs
  length-map_from y [] = refl
  length-map_from y (x ∷ xs) = ap suc (length-map_from (y + 1) xs)

  pub map_from-append : (y : ℕ) (xs ys : List A) → map_from f y (xs ++ ys) ≡ map_from f y xs ++ map_from f (y + length xs) ys
  map_from-append y [] ys = ap (λ n. map_from f n ys) (omega arith)
  map_from-append y (x ∷ xs) ys =
      ap (λ rest. f y x ∷ rest) (map_from-append (y + 1) xs ys ∙ ap (λ n. map_from f (y + 1) xs ++ map_from f n ys) (omega arith))

  pub get_or-map_from : (y : ℕ) (xs : List A) (j : ℕ) (d : A) → j < length xs → get_or (map_from f y xs) j d ≡ f (y + j) (get_or xs j d)
  get_or-map_from y [] j d within = absurd (omega (arith, within))
  get_or-map_from y (x ∷ xs) zero d within = ap (λ n. f n x) (omega arith)
  get_or-map_from y (x ∷ xs) (suc j) d within = get_or-map_from (y + 1) xs j d (omega (arith, within)) ∙ ap (λ n. f n (get_or xs j d)) (omega arith)

  -- the element at j is replaced, where those before it are
  pub map_from-more : (y : ℕ) (xs : List A) (j : ℕ) (v d : A) → j < length xs → v ≡ f (y + j) (get_or xs j d) → set (map_from f y (take j xs) ++ drop j xs) j v ≡ map_from f y (take (j + 1) xs) ++ drop (j + 1) xs
  map_from-more y xs j v d within is =
      let long : length (take j xs) ≡ j = length-take-le j xs (omega (arith, within)) in
      let front : length (map_from f y (take j xs)) ≡ j = length-map_from y (take j xs) ∙ long in
      ap (λ rest. set (map_from f y (take j xs) ++ rest) j v) (drop_more xs j d within)
      ∙ set_at (map_from f y (take j xs)) (get_or xs j d) (drop (j + 1) xs) v j front
      ∙ sym (append_assoc (map_from f y (take j xs)) (v ∷ []) (drop (j + 1) xs))
      ∙ ap (λ done. done ++ drop (j + 1) xs)
      (ap (λ w. map_from f y (take j xs) ++ w ∷ []) (is ∙ ap (λ n. f (y + n) (get_or xs j d)) (sym long))
      ∙ sym (map_from-append y (take j xs) (get_or xs j d ∷ []))
      ∙ ap (map_from f y) (sym (take_more xs j d within)))

  -- the list so far, which has the length of the whole, and the element that is next
  pub length-map_front : (y : ℕ) (xs : List A) (j : ℕ) → j ≤ length xs → length (map_from f y (take j xs) ++ drop j xs) ≡ length xs
  length-map_front y xs j within =
      length-append (map_from f y (take j xs)) (drop j xs)
      ∙ ap (λ n. n + length (drop j xs)) (length-map_from y (take j xs))
      ∙ sym (length-append (take j xs) (drop j xs))
      ∙ ap length (take-append-drop j xs)

  pub get_or-map_front : (y : ℕ) (xs : List A) (j : ℕ) (d : A) → j < length xs → get_or (map_from f y (take j xs) ++ drop j xs) j d ≡ get_or xs j d
  get_or-map_front y xs j d within =
      ap (λ rest. get_or (map_from f y (take j xs) ++ rest) j d) (drop_more xs j d within)
      ∙ get_or_at (map_from f y (take j xs)) (get_or xs j d) (drop (j + 1) xs) d j (length-map_from y (take j xs) ∙ length-take-le j xs (omega (arith, within)))

  pub map_front-all : (y : ℕ) (xs : List A) (j : ℕ) → length xs ≤ j → map_from f y (take j xs) ++ drop j xs ≡ map_from f y xs
  map_front-all y xs j past =
      ap (λ rest. map_from f y (take j xs) ++ rest) (drop_past j xs past) ∙ append-nil (map_from f y (take j xs)) ∙ ap (map_from f y) (take_all j xs past)
    where
      drop_past : (n : ℕ) (ys : List A) → length ys ≤ n → drop n ys ≡ []
      drop_past zero [] le = refl
      drop_past (suc n) [] le = refl
      drop_past zero (z ∷ ys) le = absurd (omega (arith, le))
      drop_past (suc n) (z ∷ ys) le = drop_past n ys (omega (arith, le))

  -- a step of the loop: the element at j is read, and what f gives for it is put in its place
  pub map_from-step : (y : ℕ) (xs ws after : List A) (j : ℕ) (held v : A) → ws ≡ map_from f y (take j xs) ++ drop j xs → length ws ≡ length xs → j < length ws → held ≡ get_or ws j held → v ≡ f (y + j) held → after ≡ set ws j v
      → (after ≡ map_from f y (take (j + 1) xs) ++ drop (j + 1) xs) × (length after ≡ length xs)
  map_from-step y xs ws after j held v words long within read is put =
      let below : j < length xs = omega (arith, long, within) in
      let same : held ≡ get_or xs j held = read ∙ ap (λ l. get_or l j held) words ∙ get_or-map_front y xs j held below in
      let made : v ≡ f (y + j) (get_or xs j held) = is ∙ ap (f (y + j)) same in (
        put ∙ ap (λ l. set l j v) words ∙ map_from-more y xs j v held below made,
        ap length put ∙ length-set ws j v ∙ long,
      )

pub map_from-same : {A : Type 0} (f : ℕ → A → A) (a : A) → ((n : ℕ) (x : A) → f n x ≡ a) → (y : ℕ) (xs : List A) → map_from f y xs ≡ replicate (length xs) a
map_from-same f a same y [] = refl
map_from-same f a same y (x ∷ xs) = ap (λ v. v ∷ map_from f (y + 1) xs) (same y x) ∙ ap (λ rest. a ∷ rest) (map_from-same f a same (y + 1) xs)

-- the same where f looks at no number
map_from-map : {A : Type 0} (f : A → A) (y : ℕ) (xs : List A) → map_from (λ _. f) y xs ≡ map f xs
map_from-map f y [] = refl
map_from-map f y (x ∷ xs) = ap (λ rest. f x ∷ rest) (map_from-map f (y + 1) xs)

pub get_or-map : {A : Type 0} (f : A → A) (xs : List A) (j : ℕ) (d : A) → j < length xs → get_or (map f (take j xs) ++ drop j xs) j d ≡ get_or xs j d
get_or-map f xs j d within = ap (λ front. get_or (front ++ drop j xs) j d) (sym (map_from-map f 0 (take j xs))) ∙ get_or-map_front (λ _. f) 0 xs j d within
