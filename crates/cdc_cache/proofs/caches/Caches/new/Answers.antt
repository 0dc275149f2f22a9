use Rattle.std.proofs.Common.{◌≡◌, ℕ, ◌<◌, [], length, get_or, replicate, sym, ◌∙◌, ap, subst, arith, rules}
use Rattle.std.specs.Prelude.{pos, All, IsTrue}
use Rattle.std.proofs.lemmas.List.Elements.{All-weaker}
use Rattle.cdc_fabric.specs.Made.{owners_from}
use Rattle.cdc_cache.proofs.Processors.{owners_length, owners_below, get_same}
use Rattle.cdc_cache.proofs.caches.Caches.new.Goals as goal

pub invariant_of-result : goal.invariant_of-result
invariant_of-result g c =
    let objects = c.args.objects.now in
    let state = c.in_ok-state.state in
    let owner : c.of-2.result ≡ owners_from 0 objects = search rules in
    let owners : length c.of-2.result ≡ c.args.words = omega (arith, ap length owner, owners_length 0 0 c.args.words objects c.requires.words) in
    let cells : length c.of.result ≡ c.args.words = search rules in
    record {
      words = search rules;
      counted = search rules;
      owned = owners ∙ sym cells;
      listed = c.in_ok-state.ensures.objects;
      owners = subst (All (λ o. IsTrue (g.S.Scheme.has_object state o))) (sym owner)
          (All-weaker (λ o. o < length objects) (λ o. IsTrue (g.S.Scheme.has_object state o)) (λ o below. c.in_ok-state.ensures.objects o (omega (arith, below, ap length c.as_slice-2.ensures)))
          (owners_from 0 objects) (owners_below 0 (length objects) objects (omega arith)));
    }

pub returns-clause-stands : goal.returns-clause-stands
returns-clause-stands g c =
    let cells : c.of.result ≡ replicate c.args.words (pos 0) = search rules in
    let zero_at : (x : ℕ) → get_or c.of.result x (pos 0) ≡ pos 0 = λ x. ap (λ l. get_or l x (pos 0)) cells ∙ get_same c.args.words x (pos 0) in (
      λ p. [],
      c.in_ok-caches.ensures.1,
      record {
        holds = zero_at;
        fresh = λ yes q x copy known at. absurd (cc at);
        good = λ strict. record {
          known = g.met.S.Scheme.knows_start c.args.header.now.width (length c.as_slice-2.result.now) c.in_ok-state.state c.in_ok-state.ensures.start;
          holds = zero_at;
          good = λ q x copy at. absurd (cc at);
        };
      },
    )
