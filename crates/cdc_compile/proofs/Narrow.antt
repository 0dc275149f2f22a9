-- In a unit that no shape refuses, no use of a name has more than three subscripts.
use Rattle.std.proofs.Common.{◌≡◌, ℕ, zero, suc, ◌≤◌, Bool, true, false, List, [], ◌∷◌, ◌++◌, length, Option, Some, None, sym, subst, arith}
use Rattle.std.specs.Prelude.{ℤ, if◌then◌else◌, nat_eq, nat_lt, not, ◌||◌, ◌&&◌, is_some}
use Rattle.std.specs.Str.{bytes_eq}
use Rattle.std.specs.List.{list_any}
use Rattle.cdc_tree.specs.Order.{Each}
use Rattle.cdc_tree.specs.Units.{PUnit}
use Rattle.cdc_names.specs.declared.name_use.Role.{Role}
use Rattle.cdc_names.specs.declared.scope.Sort.{Sort}
use Rattle.cdc_names.specs.declared.scope.Sort.TheVariants.{Scalar, Array, Parameter}
use Rattle.cdc_names.specs.Declarations.{Declares}
use Rattle.cdc_names.specs.Places.{first_of}
use Rattle.cdc_names.specs.Scopes.{PScope, scope_of, sort_by_dimensions, sort_of, sorts_from}
use Rattle.cdc_names.specs.Shapes.{may_be_whole, is_read, is_reversed, is_misused, misused, misshapen, shape_in}
use Rattle.cdc_names.specs.Table.{found, placed, added}
use Rattle.cdc_names.specs.Used.{Used}
use Rattle.cdc_names.specs.Uses.{statement_uses, statements_uses, body_uses}
use Rattle.cdc_names.proofs.Nexts.{found_placed}
use Rattle.cdc_check.proofs.Extents.{sooner_none, at_none, EachNone, none_first}
use Rattle.cdc_check.proofs.Fitting.{rank_of}

-- no use has more than three subscripts
abbrev pub AreNarrow : List Used → Type 0
AreNarrow us = Each (λ (u : Used). u.subs ≤ 3) us

pub narrow_left : (xs ys : List Used) → AreNarrow (xs ++ ys) → AreNarrow xs
narrow_left [] ys h = tt
narrow_left (x ∷ xs) ys h = (h.0, narrow_left xs ys h.1)

pub narrow_right : (xs ys : List Used) → AreNarrow (xs ++ ys) → AreNarrow ys
narrow_right [] ys h = h
narrow_right (x ∷ xs) ys h = narrow_right xs ys h.1

-- no name is declared with more than three dimensions
abbrev AreSmall : List (List ℕ × Sort) → Type 0
AreSmall sorts = (name : List ℕ) → rank_of (found name sorts) ≤ 3

added_small : (name : List ℕ) (sort : Sort) (sorts : List (List ℕ × Sort)) → rank_of (Some sort) ≤ 3 → AreSmall sorts → AreSmall (added name sort sorts)
added_small name sort sorts le h = go (is_some (found name sorts))
  where
    pick : (m : List ℕ) (b : Bool) → rank_of (if b then Some sort else found m sorts) ≤ 3
    pick m true = le
    pick m false = h m

    go : (b : Bool) → AreSmall (if b then sorts else placed name sort sorts)
    go true = h
    go false = λ m. subst (λ o. rank_of o ≤ 3) (sym (found_placed m name sort sorts)) (pick m (bytes_eq m name))

dimensions_rank : (n : ℕ) → n ≤ 3 → rank_of (Some (sort_by_dimensions n)) ≤ 3
dimensions_rank zero le = omega arith
dimensions_rank (suc n) le = le

or_false : (a b : Bool) → (a || b) ≡ false → a ≡ false
or_false true b h = h
or_false false b h = λ _. false

not_more : (n : ℕ) → nat_lt 3 n ≡ false → n ≤ 3
not_more n h = grind arith

sort_small : (values : List (List ℕ × ℤ)) (d : Declares) → misshapen values d ≡ None → rank_of (Some (sort_of d)) ≤ 3
sort_small values d none = go (is_some d.value)
  where
    few : length d.bounds ≤ 3
    few =
        let test : (nat_lt 3 (length d.bounds) || list_any (is_reversed values) d.bounds) ≡ false = at_none (nat_lt 3 (length d.bounds) || list_any (is_reversed values) d.bounds) d.named.place none in
        not_more (length d.bounds) (or_false (nat_lt 3 (length d.bounds)) (list_any (is_reversed values) d.bounds) test)

    go : (b : Bool) → rank_of (Some (if b then Parameter else sort_by_dimensions (length d.bounds))) ≤ 3
    go true = omega arith
    go false = dimensions_rank (length d.bounds) few

sorts_small : (values : List (List ℕ × ℤ)) (ds : List Declares) (sorts : List (List ℕ × Sort)) → EachNone (misshapen values) ds → AreSmall sorts → AreSmall (sorts_from sorts ds)
sorts_small values [] sorts none h = h
sorts_small values (d ∷ ds) sorts none h = sorts_small values ds (added d.named.name (sort_of d) sorts) none.1 (added_small d.named.name (sort_of d) sorts (sort_small values d none.0) h)

-- a use has no more subscripts than its name has dimensions
no_subscripts : (n : ℕ) → not (nat_eq n 0) ≡ false → n ≤ 0
no_subscripts n h = grind arith

as_many : (n m : ℕ) (b : Bool) → (not (nat_eq n m) && not (b && nat_eq n 0)) ≡ false → n ≤ m
as_many n m true h = grind arith
as_many n m false h = grind arith

use_fits : (sort : Option Sort) (role : Role) (n : ℕ) → is_misused sort role n ≡ false → n ≤ rank_of sort
use_fits None role n h = no_subscripts n h
use_fits (Some Scalar) role n h = no_subscripts n h
use_fits (Some (Array m)) role n h = as_many n m (may_be_whole role) h
use_fits (Some Parameter) role n h = no_subscripts n (or_false (not (nat_eq n 0)) (not (is_read role)) h)

uses_narrow : (s : PScope) (us : List Used) → EachNone (misused s) us → AreSmall s.sorts → AreNarrow us
uses_narrow s [] none h = tt
uses_narrow s (u ∷ us) none h =
    let fits : u.subs ≤ rank_of (found u.name s.sorts) = use_fits (found u.name s.sorts) u.role u.subs (at_none (is_misused (found u.name s.sorts) u.role u.subs) u.place none.0) in
    let small : rank_of (found u.name s.sorts) ≤ 3 = h u.name in
    (omega arith, uses_narrow s us none.1 h)

-- the uses in the body of a unit
pub body_narrow : (u : PUnit) → shape_in (scope_of u) ≡ None → AreNarrow (body_uses u.body)
body_narrow u none =
    let s : PScope = scope_of u in
    let both : (first_of (misused s) s.uses ≡ None) × (first_of (misshapen s.values) s.declarations ≡ None) = sooner_none (first_of (misused s) s.uses) (first_of (misshapen s.values) s.declarations) none in
    let small : AreSmall s.sorts = sorts_small s.values s.declarations [] (none_first (misshapen s.values) s.declarations both.1) (λ name. omega arith) in
    narrow_right (statement_uses u.head ++ statements_uses u.declarations) (body_uses u.body) (uses_narrow s s.uses (none_first (misused s) s.uses both.0) small)
