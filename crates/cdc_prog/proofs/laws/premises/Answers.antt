use Rattle.cdc_prog.proofs.Premises as lemma
use Rattle.cdc_prog.proofs.laws.premises.Goals as goal

pub returns : goal.returns
returns c = record {
  own_apart = lemma.own_apart;
  own_forks = lemma.own_is_apart;
  met_forks = lemma.met_is_not_apart;
  least_stores = lemma.least_stores_alone;
  met_stores = lemma.met_stores_in_one;
  largest_keeps = lemma.largest_keeps;
  overwritten_keeps = lemma.overwritten_keeps_not;
  by_call_keeps = lemma.by_call_keeps_not;
  swapped_written = lemma.moves_tells;
  untold_written = lemma.untold_tells_not;
  swapped_objects = lemma.swapped_unaliased;
  aliased_objects = lemma.aliased_is;
  next_trees = lemma.next_same;
  turned_trees = lemma.turned_not_same;
}
