use Rattle.std.proofs.Common.{◌≡◌, ◌-◌, Ok, to_z, of_z, rules}
use mir.Syntax.{w64}
use Rattle.std.proofs.lemmas.Int.{to_z-of_z}
use Rattle.cdc_prog.specs.Value.{trips}
use Rattle.cdc_affine.proofs.Turns.{last_at}
use Rattle.cdc_affine.proofs.ranges.range_from.Goals as goal

pub spread-requires-clause-low : goal.spread-requires-clause-low
spread-requires-clause-low c =
    let t : trips c.args.m1 c.args.m2 c.args.m3 ≡ Ok c.in-Ok.n = search rules in
    let r : c.saturating_sub.result ≡ c.in-Ok.n - 1 = search rules in
    (last_at c.args.m1 c.args.m2 c.args.m3 (to_z w64 (of_z w64 c.args.m1)) (to_z w64 (of_z w64 c.args.m3)) c.in-Ok.n c.saturating_sub.result c.ranges.m1 c.ranges.m2 t (to_z-of_z w64 c.args.m1 c.ranges.m1) (to_z-of_z w64 c.args.m3 c.ranges.m3) r).low

pub spread-requires-clause-high : goal.spread-requires-clause-high
spread-requires-clause-high c =
    let t : trips c.args.m1 c.args.m2 c.args.m3 ≡ Ok c.in-Ok.n = search rules in
    let r : c.saturating_sub.result ≡ c.in-Ok.n - 1 = search rules in
    (last_at c.args.m1 c.args.m2 c.args.m3 (to_z w64 (of_z w64 c.args.m1)) (to_z w64 (of_z w64 c.args.m3)) c.in-Ok.n c.saturating_sub.result c.ranges.m1 c.ranges.m2 t (to_z-of_z w64 c.args.m1 c.ranges.m1) (to_z-of_z w64 c.args.m3 c.ranges.m3) r).high

pub spread-requires-clause-room : goal.spread-requires-clause-room
spread-requires-clause-room c =
    let t : trips c.args.m1 c.args.m2 c.args.m3 ≡ Ok c.in-Ok.n = search rules in
    let r : c.saturating_sub.result ≡ c.in-Ok.n - 1 = search rules in
    (last_at c.args.m1 c.args.m2 c.args.m3 (to_z w64 (of_z w64 c.args.m1)) (to_z w64 (of_z w64 c.args.m3)) c.in-Ok.n c.saturating_sub.result c.ranges.m1 c.ranges.m2 t (to_z-of_z w64 c.args.m1 c.ranges.m1) (to_z-of_z w64 c.args.m3 c.ranges.m3) r).room
