-- What is carried out under a call path.
use Rattle.std.specs.Prelude.{◌≡◌, ℕ, List, [], ◌∷◌, map}
use Rattle.cdc_prog.specs.declared.expr.Var.{Var}
use Rattle.cdc_prog.specs.declared.expr.Var.TheVariants as var
use Rattle.cdc_prog.specs.Plain.{Actual, Whole, Copy, Program}
use Rattle.cdc_prog.specs.Data.{Binding, object_of}
use Rattle.cdc_prog.specs.Units.{body_of, binding_of}
use Rattle.cdc_prog.specs.Resolved.{IsWordOf}
use Rattle.cdc_prog.specs.Uses.{UsesAt, HasCall, HasDoall}

-- the variable that is passed: a value goes in its hidden object
abbrev pub passed_var : Actual → Var
passed_var (Whole v) = v
passed_var (Copy at value) = at.var

-- under a call path this unit is carried out, with its dummies bound to these objects
abbrev pub IsUnder : Program → (path : List ℕ) → (unit : ℕ) → (bound : List ℕ) → Type 0
IsUnder p [] u bound = (u ≡ p.main) × (bound ≡ [])
IsUnder p (number ∷ path) u bound =
    (caller : ℕ) × (outer : List ℕ) × (actuals : List Actual) × IsUnder p path caller outer × HasCall number u actuals (body_of p caller)
    × (bound ≡ map (λ a. object_of (binding_of p path caller outer) (passed_var a)) actuals)

-- a variable stands for an object; a slot for none
abbrev pub Denotes : Binding → Var → (object : ℕ) → Type 0
Denotes b (var.Slot k) object = ⊥
Denotes b v object = object_of b v ≡ object

-- an access: it has the call path of a unit that is carried out, the site of a reference there, and the word of an element of the object for which the variable stands
abbrev pub IsOfReference : Program → (path : List ℕ) → (site word : ℕ) → Type 0
IsOfReference p path site word =
    (u : ℕ) × (bound : List ℕ) × (v : Var) × (n : ℕ) × IsUnder p path u bound × UsesAt site v (body_of p u) × IsWordOf p.objects (object_of (binding_of p path u bound) v) n word

-- a fork: it has the call path of a unit that is carried out, and the number of a DOALL there
abbrev pub IsOfDoall : Program → (path : List ℕ) → (number : ℕ) → Type 0
IsOfDoall p path number = (u : ℕ) × (bound : List ℕ) × IsUnder p path u bound × HasDoall number (body_of p u)
