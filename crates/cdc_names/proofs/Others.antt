-- What the definitions give for the forms that they do not name.
use Rattle.std.proofs.Common.{◌≡◌, false, List, [], refl, ap}
use Rattle.cdc_tree.specs.declared.tree.Named.{Named}
use Rattle.cdc_tree.specs.declared.form.Declared.{Declared}
use Rattle.cdc_tree.specs.declared.form.Define.{Define}
use Rattle.cdc_tree.specs.declared.form.Loop.{Loop}
use Rattle.cdc_tree.specs.declared.form.Form.{Form, Program, Subroutine, Integer, Parameter, LogicalIf', Do, Doall, the_lemmas}
use Rattle.cdc_tree.specs.Forms.{form}
use Rattle.cdc_tree.proofs.Logical.{form_logical}
use Rattle.cdc_names.specs.Declarations.{declared_by}
use Rattle.cdc_names.specs.DoallBodies.{is_doall}
use Rattle.cdc_names.specs.Duplicates.{slot_names, dummy_names, unit_name}
use Rattle.cdc_names.specs.Uses.{closing_uses}

pub no_slots : (f : Form) → ((l : Loop) (names : List Named) → f ≡ Doall l names → ⊥) → slot_names (form f) ≡ []
no_slots (Doall l names) other = absurd (other l names refl)
no_slots (LogicalIf' cond p place simple) other = ap slot_names (form_logical cond p place simple)
no_slots _ other = simp the_lemmas

pub no_dummies : (f : Form) → ((name : Named) (names : List Named) → f ≡ Subroutine name names → ⊥) → dummy_names (form f) ≡ []
no_dummies (Subroutine name names) other = absurd (other name names refl)
no_dummies (LogicalIf' cond p place simple) other = ap dummy_names (form_logical cond p place simple)
no_dummies _ other = simp the_lemmas

pub no_name : (f : Form) → ((name : Named) → f ≡ Program name → ⊥) → ((name : Named) (names : List Named) → f ≡ Subroutine name names → ⊥) → unit_name (form f) ≡ []
no_name (Program name) program other = absurd (program name refl)
no_name (Subroutine name names) program other = absurd (other name names refl)
no_name (LogicalIf' cond p place simple) program other = ap unit_name (form_logical cond p place simple)
no_name _ program other = simp the_lemmas

pub no_declared : (f : Form) → ((items : List Declared) → f ≡ Integer items → ⊥) → ((items : List Define) → f ≡ Parameter items → ⊥) → declared_by (form f) ≡ []
no_declared (Integer items) integer other = absurd (integer items refl)
no_declared (Parameter items) integer other = absurd (other items refl)
no_declared (LogicalIf' cond p place simple) integer other = ap declared_by (form_logical cond p place simple)
no_declared _ integer other = simp the_lemmas

pub no_closing : (f : Form) → ((l : Loop) → f ≡ Do l → ⊥) → ((l : Loop) (names : List Named) → f ≡ Doall l names → ⊥) → closing_uses (form f) ≡ []
no_closing (Do l) counted other = absurd (counted l refl)
no_closing (Doall l names) counted other = absurd (other l names refl)
no_closing (LogicalIf' cond p place simple) counted other = ap closing_uses (form_logical cond p place simple)
no_closing _ counted other = simp the_lemmas

pub no_doall : (f : Form) → ((l : Loop) (names : List Named) → f ≡ Doall l names → ⊥) → is_doall (form f) ≡ false
no_doall (Doall l names) other = absurd (other l names refl)
no_doall (LogicalIf' cond p place simple) other = ap is_doall (form_logical cond p place simple)
no_doall _ other = simp the_lemmas
