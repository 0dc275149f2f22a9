-- Each name that a unit uses stands for something that agrees with its declaration; and the objects of units.
use Rattle.std.proofs.Common.{◌≡◌, ℕ, suc, ◌≤◌, Bool, true, false, List, [], ◌∷◌, ◌++◌, map, length, Option, Some, None, refl, ap, sym, subst, ◌∙◌, append_assoc}
use Rattle.std.specs.Prelude.{if◌then◌else◌, is_some}
use Rattle.std.specs.Str.{bytes_eq}
use Rattle.std.proofs.lemmas.Slice.Eq.{bytes_eq-Decides}
use Rattle.cdc_tree.specs.Units.{PUnit}
use Rattle.cdc_prog.specs.declared.expr.Var.TheVariants.{Object}
use Rattle.cdc_names.specs.declared.scope.Sort.{Sort}
use Rattle.cdc_names.specs.Places.{first_of}
use Rattle.cdc_names.specs.Scopes.{PScope, scope_of}
use Rattle.cdc_names.specs.Shapes.{is_misused, misused, misshapen, shape_in}
use Rattle.cdc_names.specs.Table.{found, placed}
use Rattle.cdc_names.specs.Used.{Used}
use Rattle.cdc_names.proofs.Nexts.{found_placed}
use Rattle.cdc_check.specs.declared.meaning.Meaning.{Meaning}
use Rattle.cdc_check.specs.declared.meaning.Meaning.TheVariants as meaning
use Rattle.cdc_check.specs.declared.progress.Shape.{Shape}
use Rattle.cdc_check.specs.Threads.{next, numbered, each}
use Rattle.cdc_check.specs.Layout.{laid_from}
use Rattle.cdc_check.specs.Meanings.{surroundings}
use Rattle.cdc_check.specs.Objects.{Naming, naming, shape, with_object, declared_from, implied_from, named_in}
use Rattle.cdc_check.specs.Units.{Whole, unit_in, units_from}
use Rattle.cdc_check.proofs.Fitting as fitting
use Rattle.cdc_check.proofs.Tables as tables
use Rattle.cdc_check.proofs.Tables.{Grown, is_there, grown_by, declared_grown, implied_grown, same}
use Rattle.cdc_check.proofs.Extents.{EachNone, none_first, sooner_none, at_none, AllFine, declared_fine, implied_fine}

-- ---- each used name stands for something
there_kept : (unit : ℕ) (name : List ℕ) (n : Naming) (m : List ℕ) → is_there n.names m → is_there ((with_object unit name [] n).names) m
there_kept unit name n m h = go (is_some (found name n.names))
  where
    pick : (b : Bool) → is_some (if b then Some (meaning.Variable (Object (numbered (length n.objects)))) else found m n.names) ≡ true
    pick true = refl
    pick false = h

    go : (b : Bool) → is_there ((if b then n else naming (placed name (meaning.Variable (Object (numbered (length n.objects)))) n.names) (n.objects ++ shape unit name [] ∷ [])).names) m
    go true = h
    go false = subst (λ o. is_some o ≡ true) (sym (found_placed m name (meaning.Variable (Object (numbered (length n.objects)))) n.names)) (pick (bytes_eq m name))

there_new : (unit : ℕ) (name : List ℕ) (n : Naming) → is_there ((with_object unit name [] n).names) name
there_new unit name n = go (is_some (found name n.names)) refl
  where
    pick : (b : Bool) → b ≡ true → is_some (if b then Some (meaning.Variable (Object (numbered (length n.objects)))) else found name n.names) ≡ true
    pick true e = refl
    pick false e = cc

    go : (b : Bool) → is_some (found name n.names) ≡ b → is_there ((if b then n else naming (placed name (meaning.Variable (Object (numbered (length n.objects)))) n.names) (n.objects ++ shape unit name [] ∷ [])).names) name
    go true e = e
    go false e = subst (λ o. is_some o ≡ true) (sym (found_placed name name (meaning.Variable (Object (numbered (length n.objects)))) n.names)) (pick (bytes_eq name name) ((bytes_eq-Decides name name).1 refl))

implied_there : (unit : ℕ) (us : List Used) (n : Naming) (m : List ℕ) → is_there n.names m → is_there ((implied_from unit n us).names) m
implied_there unit [] n m h = h
implied_there unit (u ∷ us) n m h = implied_there unit us (with_object unit u.name [] n) m (there_kept unit u.name n m h)

abbrev EachThere : List (List ℕ × Meaning) → List Used → Type 0
EachThere names [] = Unit {0}
EachThere names (u ∷ us) = is_there names u.name × EachThere names us

implied_all : (unit : ℕ) (us : List Used) (n : Naming) → EachThere ((implied_from unit n us).names) us
implied_all unit [] n = tt
implied_all unit (u ∷ us) n =
    (implied_there unit us (with_object unit u.name [] n) u.name (there_new unit u.name n), implied_all unit us (with_object unit u.name [] n))

module _ (F : List Shape) (small : length F ≤ 1024) where
  agree : (a : Option Meaning) (b : Option Sort) → is_some a ≡ true → tables.Half F small [] 0 a b → fitting.Agrees (laid_from 0 F) [] 0 a b
  agree None b t h = cc
  agree (Some m) b t h = h

  all_good : (s : PScope) (names : List (List ℕ × Meaning)) (us : List Used) → EachThere names us → ((m : List ℕ) → tables.Half F small [] 0 (found m names) (found m s.sorts)) → EachNone (misused s) us
      → fitting.AllGood (laid_from 0 F) [] 0 s.sorts (surroundings names []) us
  all_good s names [] t h none = tt
  all_good s names (u ∷ us) t h none = (
    record {
      fits = at_none (is_misused (found u.name s.sorts) u.role u.subs) u.place none.0;
      agrees = agree (found u.name names) (found u.name s.sorts) t.0 (h u.name);
    },
    all_good s names us t.1 h none.1,
  )

  pub named_good : (number : ℕ) (u : PUnit) (objects rest : List Shape) → F ≡ (named_in number (scope_of u) objects).objects ++ rest → shape_in (scope_of u) ≡ None
      → fitting.AllGood (laid_from 0 F) [] 0 ((scope_of u).sorts) (surroundings ((named_in number (scope_of u) objects).names) []) ((scope_of u).uses)
  named_good number u objects rest e none =
      let s : PScope = scope_of u in
      let d : Naming = declared_from number s.values (naming [] objects) s.declarations in
      let both : (first_of (misused s) s.uses ≡ None) × (first_of (misshapen s.values) s.declarations ≡ None) = sooner_none (first_of (misused s) s.uses) (first_of (misshapen s.values) s.declarations) none in
      let g : Grown d.objects ((implied_from number d s.uses).objects) = implied_grown number d s.uses in
      let h : F ≡ d.objects ++ (g.more ++ rest) = e ∙ ap (λ l. l ++ rest) g.is ∙ append_assoc d.objects g.more rest in
      let locked : tables.Locked F small [] 0 d.names s.sorts = tables.declared_locked F small [] 0 number s.values s.declarations (naming [] objects) [] (g.more ++ rest) h (λ m. tt) in
      all_good s ((implied_from number d s.uses).names) s.uses (implied_all number s.uses d)
      (tables.implied_half F small [] 0 number s.uses d s.sorts rest e (tables.locked_half F small [] 0 d.names s.sorts locked)) (none_first (misused s) s.uses both.0)

-- ---- objects only grow, and are well shaped
named_grown : (number : ℕ) (s : PScope) (objects : List Shape) → Grown objects ((named_in number s objects).objects)
named_grown number s objects =
    grown_by objects ((declared_from number s.values (naming [] objects) s.declarations).objects) ((named_in number s objects).objects)
    (declared_grown number s.values (naming [] objects) s.declarations) (implied_grown number (declared_from number s.values (naming [] objects) s.declarations) s.uses)

named_fine : (number : ℕ) (s : PScope) (objects : List Shape) → shape_in s ≡ None → AllFine objects → AllFine ((named_in number s objects).objects)
named_fine number s objects none f =
    let both : (first_of (misused s) s.uses ≡ None) × (first_of (misshapen s.values) s.declarations ≡ None) = sooner_none (first_of (misused s) s.uses) (first_of (misshapen s.values) s.declarations) none in
    implied_fine number s.uses (declared_from number s.values (naming [] objects) s.declarations)
    (declared_fine number s.values s.declarations (naming [] objects) (none_first (misshapen s.values) s.declarations both.1) f)

pub units_grown : (us : List PUnit) (number : ℕ) (k : Whole) → Grown k.objects ((each (units_from number us (map scope_of us)) k).1.objects)
units_grown [] number k = same k.objects
units_grown (u ∷ us) number k =
    grown_by k.objects ((unit_in number u (scope_of u) k).1.objects) ((each (units_from (next number) us (map scope_of us)) ((unit_in number u (scope_of u) k).1)).1.objects)
    (named_grown number (scope_of u) k.objects) (units_grown us (next number) ((unit_in number u (scope_of u) k).1))

pub units_fine : (us : List PUnit) (number : ℕ) (k : Whole) → EachNone shape_in (map scope_of us) → AllFine k.objects → AllFine ((each (units_from number us (map scope_of us)) k).1.objects)
units_fine [] number k none f = f
units_fine (u ∷ us) number k none f = units_fine us (next number) ((unit_in number u (scope_of u) k).1) none.1 (named_fine number (scope_of u) k.objects none.0 f)

pub units_length : (us : List PUnit) (number : ℕ) (k : Whole) → length ((each (units_from number us (map scope_of us)) k).0) ≡ length us
units_length [] number k = refl
units_length (u ∷ us) number k = ap suc (units_length us (next number) ((unit_in number u (scope_of u) k).1))
