-- A logical IF without the pointer to its statement.
use Rattle.std.proofs.Common.{◌≡◌, ap, ◌∙◌, rules}
use Rattle.cdc_base.specs.declared.place.Place.{Place}
use Rattle.cdc_tree.specs.declared.tree.Tree.{Tree}
use Rattle.cdc_tree.specs.declared.form.Form.{Form, LogicalIf', the_lemmas, fold_out-Form, map-Form}
use Rattle.cdc_tree.specs.declared.form.Form.TheVariants.{outs-LogicalIf'}
use Rattle.cdc_tree.specs.declared.form.Statement.{Statement, fold-Statement}
use Rattle.cdc_tree.specs.Plain.{plain}
use Rattle.cdc_tree.specs.Forms.{PForm, PStatement, FLogicalIf, form_node, statement_node, form, statement}

view_of : (s : Statement) → fold-Statement PForm PStatement form_node statement_node s ≡ statement s
view_of s = search (rules, the_lemmas)

pub form_logical : (cond : Tree) (p : _) (place : Place) (simple : Form) → form (LogicalIf' cond p place simple) ≡ FLogicalIf (plain cond) place (form simple)
form_logical cond p place simple =
    fold_out-Form PForm PStatement form_node statement_node (LogicalIf' cond p place simple)
    ∙ ap (λ x. form_node (map-Form Form Statement PForm PStatement form (fold-Statement PForm PStatement form_node statement_node) x)) (outs-LogicalIf' cond p place simple)
    ∙ ap (λ (s : PStatement). FLogicalIf (plain cond) s.place s.form) (view_of (record { place = place; form = simple }))
