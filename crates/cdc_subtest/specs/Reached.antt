-- At which moment of an iteration each access is made.
use Rattle.std.specs.Prelude.{◌≡◌, ◌⊎◌, ℕ, ◌+◌, true, ℤ, List, [], ◌∷◌, Ok}
use Rattle.cdc_prog.specs.declared.expr.Var.{Var}
use Rattle.cdc_prog.specs.declared.affine.Index.{Index}
use Rattle.cdc_prog.specs.declared.affine.Scope.{Scope}
use Rattle.cdc_prog.specs.Data.{Store, Binding, base_of, dims_of, element}
use Rattle.cdc_prog.specs.Expressions.{Surroundings}
use Rattle.cdc_prog.specs.Affine.{is_in}
use Rattle.cdc_prog.specs.Dependence.{Spot}
use Rattle.cdc_prog.specs.Iterations.{held, Values, Lies, IsIn, IsThere}

-- the word of an element of an array
pub record IsElementWord (b : Binding) (w : ℕ) : Type 0 where
  pub var : Var
  pub there : IsThere b var
  pub first : ℤ
  pub others : List ℤ
  pub number : ℕ
  pub element : element (dims_of b var) (first ∷ others) ≡ Ok number
  pub word : w ≡ base_of b var + number

-- the word of a scalar in memory
pub record IsScalarWord (b : Binding) (w : ℕ) : Type 0 where
  pub var : Var
  pub there : IsThere b var
  pub scalar : dims_of b var ≡ []
  pub word : w ≡ base_of b var

-- the surroundings and the store of a moment in an iteration that opened with `c0` and `s`: each index is in its range, and the index of the DOALL and the fixed scalars are as they were
pub record Fits (b : Binding) (known : List Var) (c0 : Surroundings) (s : Store) (sc : Scope) (c : Surroundings) (t : Store) : Type 0 where
  pub own : c.slots 0 ≡ c0.slots 0
  pub ranges : (i : Index) → IsIn i sc.indexes → Lies i.range (held b c t i.var)
  pub told : sc.fixed ≡ known
  pub fixed : (v : Var) → is_in known v ≡ true → held b c t v ≡ held b c0 s v

-- at some moment of the iteration the reference names this word
pub record Reaches (b : Binding) (known : List Var) (c0 : Surroundings) (s : Store) (p : Spot) (w : ℕ) : Type 0 where
  pub surroundings : Surroundings
  pub store : Store
  pub there : IsThere b p.at.var
  pub fits : Fits b known c0 s p.scope surroundings store
  pub first : ℤ
  pub others : List ℤ
  pub values : Values b surroundings store p.subs (first ∷ others)
  pub number : ℕ
  pub element : element (dims_of b p.at.var) (first ∷ others) ≡ Ok number
  pub word : w ≡ base_of b p.at.var + number

module _ (b : Binding) (known : List Var) (c0 : Surroundings) (s : Store) (all : List Spot) where
  -- what is written at a site, and what is read
  abbrev pub IsWritten : (site word : ℕ) → Type 0
  IsWritten site w = (p : Spot) × IsIn p all × (p.at.site ≡ site) × (p.writes ≡ true) × Reaches b known c0 s p w

  abbrev pub IsRead : (site word : ℕ) → Type 0
  IsRead site w = ((p : Spot) × IsIn p all × (p.at.site ≡ site) × Reaches b known c0 s p w) ⊎ IsScalarWord b w
