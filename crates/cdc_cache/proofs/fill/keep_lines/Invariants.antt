use Rattle.std.proofs.Common.{◌≡◌, ◌++◌, ◌-◌, ◌^◌, take, drop}
use Rattle.std.specs.Prelude.{min}
use Rattle.cdc_cache.specs.Lines.{after_boundary, lost_count}
use Rattle.cdc_cache.proofs.fill.keep_lines.Given as goal

abbrev pub invariant-loop-place : goal.invariant-loop-place
invariant-loop-place g l = record {
  lines : l.lines ≡ after_boundary g.S.Scheme l.state l.memory l.words l.written (take l.place l.initial.lines) ++ drop l.place l.initial.lines;
  lost : l.lost ≡ min (lost_count g.S.Scheme l.state l.memory l.words l.written (take l.place l.initial.lines)) (2 ^ 64 - 1);
}
