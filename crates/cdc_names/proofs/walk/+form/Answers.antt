use Rattle.cdc_tree.specs.declared.form.Form.{the_lemmas}
use Rattle.cdc_names.proofs.walk.+form.Goals as goal

pub returns-in-Subroutine : goal.returns-in-Subroutine
returns-in-Subroutine t c = simp (c.in-Subroutine.is, ← c.as_slice.ensures, the_lemmas) c.names.ensures

pub returns-in-Integer : goal.returns-in-Integer
returns-in-Integer t c = simp (c.in-Integer.is, ← c.as_slice-in-Integer.ensures, the_lemmas) c.variables.ensures

pub returns-in-Parameter : goal.returns-in-Parameter
returns-in-Parameter t c = simp (c.in-Parameter.is, ← c.as_slice-in-Parameter.ensures, the_lemmas) c.parameters.ensures

pub returns-in-IfThen : goal.returns-in-IfThen
returns-in-IfThen t c = simp (c.in-IfThen.is, the_lemmas) c.tree.ensures

pub returns-in-ElseIf : goal.returns-in-ElseIf
returns-in-ElseIf t c = simp (c.in-ElseIf.is, the_lemmas) c.tree-in-ElseIf.ensures

pub returns-in-Do : goal.returns-in-Do
returns-in-Do t c = simp (c.in-Do.is, the_lemmas) c.counted.ensures

pub returns-in-Call : goal.returns-in-Call
returns-in-Call t c = simp (c.in-Call.is, ← c.as_slice-in-Call.ensures, the_lemmas) c.actuals.ensures

pub returns-in-Print : goal.returns-in-Print
returns-in-Print t c = simp (c.in-Print.is, ← c.as_slice-in-Print.ensures, the_lemmas) c.shown_items.ensures

pub returns-in-Read : goal.returns-in-Read
returns-in-Read t c = simp (c.in-Read.is, ← c.as_slice-in-Read.ensures, the_lemmas) c.spots.ensures
