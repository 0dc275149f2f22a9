use Rattle.std.proofs.Common.{inl, inr}
use Rattle.cdc_mark.proofs.Lowered.{least_next, passed_more, own_class}
use Rattle.cdc_mark.proofs.classes.search_next.Goals as goal

pub returns-in_ok-search_class-clause-least : goal.returns-in_ok-search_class-clause-least
returns-in_ok-search_class-clause-least c = λ x flow l.
    least_next x c.args.refs.now c.args.done.now c.finish.new.done c.index-refs-at.result c.search_class.new.best c.finish.ensures.bits (c.in_ok-search_class.ensures.least x c.args.done.now flow l)

pub returns-in_ok-search_class-clause-passed : goal.returns-in_ok-search_class-clause-passed
returns-in_ok-search_class-clause-passed c = λ i h.
    let q = c.index-refs-at.result in
    passed_more c.args.refs.now c.args.done.now c.finish.new.done c.args.at i q c.requires.at c.index-refs-at.is (λ d. (c.finish.ensures.bits i).1 (inl d))
    (λ reads. (c.finish.ensures.bits c.args.at).1 (inr (own_class c.args.refs.now c.args.at q c.requires.at c.index-refs-at.is reads))) h

pub returns-else-is_left-clause-passed : goal.returns-else-is_left-clause-passed
returns-else-is_left-clause-passed c = λ i h.
    passed_more c.args.refs.now c.args.done.now c.args.done.now c.args.at i c.index-refs-at.result c.requires.at c.index-refs-at.is (λ d. d) (c.is_left.ensures c.if-is_left.false) h
