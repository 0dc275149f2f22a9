use Rattle.std.proofs.Common.{true-eqb, length}
use Rattle.std.proofs.lemmas.List.{nil_from_length}
use Rattle.std.proofs.lemmas.Result.{err_from_is_err_and}
use Rattle.cdc_token.proofs.Reached.{stop_seen, stray_seen, wrong_seen, reached_end, reached_step, piece_of}
use Rattle.cdc_token.proofs.line.take_pieces.Goals as goal

pub returns-in_default-clause-seen : goal.returns-in_default-clause-seen
returns-in_default-clause-seen c = stop_seen c.loop-rest.invariant _ c.in_default.ensures.none c.nothing_begins.ensures

pub returns-then-is_stray-clause-seen : goal.returns-then-is_stray-clause-seen
returns-then-is_stray-clause-seen c =
    let parts = c.split_at.ensures in
    let piece = piece_of _ _ _ _ _ parts.front parts.back c.in-Some.ensures.found in
    stray_seen c.loop-rest.invariant _ _ _ parts.by_index.0 piece (c.is_stray.ensures.stray c.if-is_stray.true)

pub returns-in_err-means-clause-seen : goal.returns-in_err-means-clause-seen
returns-in_err-means-clause-seen c =
    let p = err_from_is_err_and c.from_residual.result c.from_residual.ensures.1 in
    let parts = c.split_at.ensures in
    let piece = piece_of _ _ _ _ _ parts.front parts.back c.in-Some.ensures.found in
    rw (p.1, p.2) (wrong_seen c.loop-rest.invariant _ _ _ parts.by_index.0 piece _ c.in_err-means.ensures.wrong)

pub loop-rest-preserved : goal.loop-rest-preserved
loop-rest-preserved c =
    let parts = c.split_at.ensures in
    let piece = piece_of _ _ _ _ _ parts.front parts.back c.in-Some.ensures.found in
    let means = c.in_ok-means.ensures.ok in
    reached_step c.loop-rest.invariant _ _ _ _ _ _ _ _ parts.by_index.0 piece means.1 (c.is_stray.ensures.fine c.if-is_stray.false) means.0 c.in_ok-add.ensures parts.front_len c.still_first-first.ensures c.still_open-goes_on.ensures

pub returns-clause-ok : goal.returns-clause-ok
returns-clause-ok c = reached_end c.loop-rest.invariant (nil_from_length _ (true-eqb (length c.loop-rest.rest.now) 0 c.loop-rest-test.ensures))
