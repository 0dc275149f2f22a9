use Rattle.std.proofs.Common.{◌≡◌, ◌++◌, ◌∷◌, map, rules, ap, ◌∙◌}
use Rattle.cdc_tree.specs.declared.tree.Tree.{the_lemmas}
use Rattle.cdc_tree.specs.Plain.{plain, plains, count}
use Rattle.cdc_tree.proofs.Counts.{count_view}
use Rattle.cdc_names.specs.declared.name_use.Role.TheVariants.{Read}
use Rattle.cdc_names.specs.Used.{used}
use Rattle.cdc_names.specs.Uses.{tree_uses, trees_uses}
use Rattle.cdc_names.proofs.Added.{added_twice}
use Rattle.cdc_names.proofs.walk.+tree.Goals as goal

pub tree-returns-in_ok-name-in-Apply : goal.tree-returns-in_ok-name-in-Apply
tree-returns-in_ok-name-in-Apply t c =
    let e : tree_uses (plain c.args.t.now) ≡ used c.in-Apply.n Read (count (plains (map plain c.as_slice-subs.result.now))) ∷ trees_uses (plains (map plain c.as_slice-subs.result.now)) = simp (c.in-Apply.is, c.as_slice-subs.ensures, the_lemmas) in
    let n = count_view c.as_slice-subs.result.now in
    added_twice c.trees.result _ _ _ _ _ _ c.in_ok-name-in-Apply.ensures c.trees.ensures (e ∙ ap (λ k. used c.in-Apply.n Read k ∷ trees_uses (plains (map plain c.as_slice-subs.result.now))) n)

pub tree-returns-in_ok-tree-in-Bin : goal.tree-returns-in_ok-tree-in-Bin
tree-returns-in_ok-tree-in-Bin t c =
    let e : tree_uses (plain c.args.t.now) ≡ tree_uses (plain c.deref-in-Bin.result.now) ++ tree_uses (plain c.deref-in-Bin-2.result.now) = search (rules, the_lemmas) in
    added_twice c.tree-in-Bin-2.result _ _ _ _ _ _ c.in_ok-tree-in-Bin.ensures c.tree-in-Bin-2.ensures e
