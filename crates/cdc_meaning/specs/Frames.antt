-- What the variables of a unit stand for, as code holds it.
use Rattle.std.specs.Prelude.{ℕ, ◌^◌, ◌≤◌, List, [], map, length}
use Rattle.std.specs.List.{All}
use Rattle.cdc_prog.specs.declared.program.Dim.{Dim}
use Rattle.cdc_prog.specs.declared.expr.Var.{Var}
use Rattle.cdc_prog.specs.Plain.{Exprs}
use Rattle.cdc_prog.specs.Data.{Binding, dims_of}
use Rattle.cdc_prog.specs.Resolved.{AreLaidOut, AreBound, IsVar, SubsFit}
use Rattle.cdc_meaning.specs.declared.frame.Frame.{Frame}

-- the dimensions of the dummies
abbrev pub shapes_of : Frame → List (List Dim)
shapes_of f = map (λ d. d.dims) f.dummies.now

-- serial code without CALL is that of the PROGRAM unit, whose call path is empty
abbrev pub binding : Frame → Binding
binding f = record { path = []; objects = f.program.now.objects; shapes = shapes_of f; bound = f.bound.now }

-- the objects lie in the memory of the program, and each dummy is bound
pub record IsPlaced (f : Frame) : Type 0 where
  pub laid_out : AreLaidOut 0 f.program.now.objects f.program.now.words
  pub shaped : All (λ o. length o.dims ≤ 3) f.program.now.objects
  pub small : f.program.now.words ≤ 2 ^ 22
  pub bound : AreBound f.program.now.objects (shapes_of f) f.bound.now

-- what a reference to an element needs: a variable that is no slot, and a subscript for each dimension
pub record IsElement (f : Frame) (slots : ℕ) (v : Var) (subs : Exprs) : Type 0 where
  pub known : IsVar f.program.now.objects (shapes_of f) 0 v
  pub fits : SubsFit f.program.now.objects (shapes_of f) slots (dims_of (binding f) v) subs
