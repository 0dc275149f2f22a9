-- What holds of each item of a list, and of lists in order.
use Rattle.std.proofs.Common.{ℕ, ◌≤◌, List, [], ◌∷◌, ◌++◌}
use Rattle.cdc_tree.specs.Order.{Each, Ascending}

pub each_append : {A : Type 0} (P : A → Type 0) (xs ys : List A) → Each P xs → Each P ys → Each P (xs ++ ys)
each_append P [] ys a b = b
each_append P (x ∷ xs) ys a b = (a.0, each_append P xs ys a.1 b)

pub each_map : {A : Type 0} (P Q : A → Type 0) → ((x : A) → P x → Q x) → (xs : List A) → Each P xs → Each Q xs
each_map P Q f [] a = tt
each_map P Q f (x ∷ xs) a = (f x a.0, each_map P Q f xs a.1)

pub each_at : {A : Type 0} (P : A → Type 0) (before : List A) (x : A) (after : List A) → Each P (before ++ (x ∷ after)) → P x
each_at P [] x after h = h.0
each_at P (y ∷ before) x after h = each_at P before x after h.1

pub ascending_after : {A : Type 0} (number : A → ℕ) (before : List A) (x : A) (after : List A) → Ascending number (before ++ (x ∷ after)) → Each (λ y. number x ≤ number y) after
ascending_after number [] x after h = h.0
ascending_after number (y ∷ before) x after h = ascending_after number before x after h.1

pub ascending_before : {A : Type 0} (number : A → ℕ) (before : List A) (x : A) (after : List A) → Ascending number (before ++ (x ∷ after)) → Each (λ y. number y ≤ number x) before
ascending_before number [] x after h = tt
ascending_before number (y ∷ before) x after h = (each_at (λ z. number y ≤ number z) before x after h.0, ascending_before number before x after h.1)
