use Rattle.std.proofs.Common.{ℕ, List, Bool, sym, subst, slice_index, arith}
use Rattle.cdc_mark.specs.Least.{IsIn, IsLeast}
use Rattle.cdc_mark.specs.Classes.{CountsNext}
use Rattle.cdc_mark.proofs.Lowered.{next_least_of, next_same}
use Rattle.cdc_mark.proofs.classes.search_class.Goals as goal
use Rattle.cdc_mark.proofs.classes.search_class.Goals.{then-any_bit+in_ok-reads+in_ok-dist, else-any_bit}

pub returns-clause-least : goal.returns-clause-least
returns-clause-least c = λ x done flow l r lt.
    let g = c.args.g.now in
    let refs = c.args.refs.now in
    let p = c.args.p.now in
    let writes = c.in_ok-writes.writes.items in
    elim c.if-any_bit.branch [
      | then-any_bit+in_ok-reads+in_ok-dist w ↦
          subst (λ (b : List ℕ). IsLeast (CountsNext x refs done p r) (slice_index b r)) (sym w.best-is)
          (next_least_of x g refs done p writes w.in_ok-reads.reads.items _ _ w.in_ok-dist.dist.items _ _ r (slice_index c.args.best.now r) (slice_index w.lower_all.new.best r)
          w.deref-then-any_bit.ensures.value w.deref-then-any_bit-2.ensures.value w.as_slice.ensures w.deref-then-any_bit-3.ensures.value flow
          c.in_ok-writes.ensures w.in_ok-reads.ensures w.in_ok-dist.ensures.far (l r (omega (arith, lt, c.if-any_bit.auto.best))) (w.lower_all.ensures.lowered r (omega (arith, lt, c.if-any_bit.auto.best))))
      | else-any_bit w ↦
          subst (λ (b : List ℕ). IsLeast (CountsNext x refs done p r) (slice_index b r)) (sym w.best-is)
          (next_same x refs done p writes r (slice_index c.args.best.now r) c.in_ok-writes.ensures (subst (λ (bits : List Bool). (v : ℕ) → IsIn bits v → ⊥) c.deref.ensures.value (c.any_bit.ensures w.if-any_bit.false)) (l r (omega (arith, lt, c.if-any_bit.auto.best))))
    ]
