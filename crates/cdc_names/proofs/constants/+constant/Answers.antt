use Rattle.cdc_tree.specs.declared.tree.Tree.{the_lemmas}
use Rattle.cdc_names.proofs.constants.+constant.Goals as goal

pub constant-returns-in-Known : goal.constant-returns-in-Known
constant-returns-in-Known t c = simp (c.in-Known.is, ← c.as_slice-in-Known.ensures, the_lemmas) c.known.ensures
