use Rattle.std.proofs.Common.{◌≡◌, ◌≤◌, ◌+◌, ◌++◌, drop}
use Rattle.cdc_check.specs.Layout.{laid_from, words_of}
use Rattle.cdc_check.proofs.layout.layout.Given as goal

abbrev pub invariant-loop-shape : goal.invariant-loop-shape
invariant-loop-shape l = record {
  placed : l.objects ++ laid_from l.next (drop l.shape-index l.shapes) ≡ laid_from 0 l.shapes;
  counted : l.next + words_of (drop l.shape-index l.shapes) ≡ words_of l.shapes;
  within : l.next ≤ 4194304;
}
