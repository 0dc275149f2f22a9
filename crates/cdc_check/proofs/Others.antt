-- What the definitions give for the forms that they do not name.
use Rattle.std.proofs.Common.{◌≡◌, ℕ, List, [], false, refl, ap, sym, ◌∙◌, rules}
use Rattle.std.specs.Prelude.{pos}
use Rattle.cdc_tree.specs.declared.tree.Named.{Named}
use Rattle.cdc_tree.specs.declared.tree.Tree.{Tree}
use Rattle.cdc_tree.specs.declared.form.Loop.{Loop}
use Rattle.cdc_tree.specs.declared.form.Form.{Form, Program, Subroutine, IfThen, ElseIf, LogicalIf', Do, Doall, the_lemmas}
use Rattle.cdc_tree.specs.Forms.{PForm, form}
use Rattle.cdc_tree.proofs.Logical.{form_logical}
use Rattle.cdc_prog.specs.Plain as plain
use Rattle.cdc_check.specs.declared.progress.Progress.{Progress}
use Rattle.cdc_check.specs.Meanings.{Surroundings}
use Rattle.cdc_check.specs.Statements.{Resolves, looped, condition}
use Rattle.cdc_check.specs.Units.{head_name, is_program}

pub no_condition : (f : Form) (s : Surroundings) (k : ℕ) → ((c : Tree) → f ≡ IfThen c → ⊥) → ((c : Tree) → f ≡ ElseIf c → ⊥) → condition (form f) s k ≡ (plain.Number (pos 1), k)
no_condition (IfThen c) s k first other = absurd (first c refl)
no_condition (ElseIf c) s k first other = absurd (other c refl)
no_condition (LogicalIf' cond p place simple) s k first other = ap (λ (f : PForm). condition f s k) (form_logical cond p place simple)
no_condition _ s k first other = search (rules, the_lemmas)

pub no_name : (f : Form) → ((name : Named) → f ≡ Program name → ⊥) → ((name : Named) (names : List Named) → f ≡ Subroutine name names → ⊥) → head_name (form f) ≡ []
no_name (Program name) first other = absurd (first name refl)
no_name (Subroutine name names) first other = absurd (other name names refl)
no_name (LogicalIf' cond p place simple) first other = ap head_name (form_logical cond p place simple)
no_name _ first other = search (rules, the_lemmas)

pub no_program : (f : Form) → ((name : Named) → f ≡ Program name → ⊥) → is_program (form f) ≡ false
no_program (Program name) other = absurd (other name refl)
no_program (LogicalIf' cond p place simple) other = ap is_program (form_logical cond p place simple)
no_program _ other = search (rules, the_lemmas)

pub no_loop : (f : Form) (line : ℕ) (inner : Resolves) (s : Surroundings) (k : Progress) → ((l : Loop) → f ≡ Do l → ⊥) → ((l : Loop) (names : List Named) → f ≡ Doall l names → ⊥) → looped line (form f) inner s k ≡ (plain.If plain.Skip, k)
no_loop (Do l) line inner s k first other = absurd (first l refl)
no_loop (Doall l names) line inner s k first other = absurd (other l names refl)
no_loop (LogicalIf' cond p place simple) line inner s k first other = ap (λ (f : PForm). looped line f inner s k) (form_logical cond p place simple)
no_loop _ line inner s k first other = search (rules, the_lemmas)

pub with_state : {A S : Type 0} (a b : A) (k : S) (r : A × S) → a ≡ b → r ≡ (b, k) → (a, k) ≡ r
with_state {A} {S} a b k r e f = let P : A → A × S = λ x. (x, k) in ap P e ∙ sym f
