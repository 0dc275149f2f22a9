-- Trees without the pointers of their boxes, and what kind of thing each stands for.
use Rattle.std.specs.Prelude.{ℕ, suc, ℤ, List, [], ◌∷◌}
use Rattle.cdc_base.specs.declared.place.Place.{Place}
use Rattle.cdc_prog.specs.declared.expr.UnOp.{UnOp}
use Rattle.cdc_prog.specs.declared.expr.BinOp.{BinOp}
use Rattle.cdc_tree.specs.declared.tree.Named.{Named}
use Rattle.cdc_tree.specs.declared.tree.Intrinsic.{Intrinsic}
use Rattle.cdc_tree.specs.declared.tree.Tree.{Tree, fold-Tree}
use Rattle.cdc_tree.specs.declared.tree.Tree.TheOpen.{Tree-F}

mutual
  pub data Plain : Type 0 where
    PNumber : Place → ℤ → Plain
    PName : Named → Plain
    PApply : Named → Plains → Plain
    PParen : Place → Plain → Plain
    PPlus : Place → Plain → Plain
    PUn : Place → UnOp → Plain → Plain
    PBin : BinOp → Plain → Plain → Plain
    PKnown : Place → Intrinsic → Plains → Plain

  pub data Plains : Type 0 where
    PEnd : Plains
    PMore : Plain → Plains → Plains

abbrev pub plains : List Plain → Plains
plains [] = PEnd
plains (a ∷ more) = PMore a (plains more)

-- how many trees there are
abbrev pub count : Plains → ℕ
count PEnd = 0
count (PMore a more) = suc (count more)

abbrev pub tree_node : Tree-F Plain → Plain
tree_node (Tree-F.Number p z) = PNumber p z
tree_node (Tree-F.Name n) = PName n
tree_node (Tree-F.Apply n arguments) = PApply n (plains arguments)
tree_node (Tree-F.Paren p a) = PParen p a.value
tree_node (Tree-F.Plus p a) = PPlus p a.value
tree_node (Tree-F.Un p op a) = PUn p op a.value
tree_node (Tree-F.Bin op a c) = PBin op a.value c.value
tree_node (Tree-F.Known p f arguments) = PKnown p f (plains arguments)

-- a tree without pointers
abbrev pub plain : Tree → Plain
plain = fold-Tree Plain tree_node
