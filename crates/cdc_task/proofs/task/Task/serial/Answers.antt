use Rattle.std.proofs.Common.{◌∙◌, pos, [], map, get_or, ap}
use Rattle.std.specs.Prelude.{reverse, replicate}
use Rattle.cdc_prog.specs.Data.{zeros}
use Rattle.cdc_code.specs.Frames.{Kept, stands}
use Rattle.cdc_task.specs.Held.{Held, left_at}
use Rattle.cdc_task.specs.Parts.{loop_of, caller_of}
use Rattle.cdc_task.proofs.Begins.{IsEmpty, empty_frame}
use Rattle.cdc_task.proofs.Slots.{of_zeros}
use Rattle.cdc_task.proofs.task.Task.serial.Goals as goal

pub returns : goal.returns
returns c =
    λ records. let h : Held = record {
      pc = c.start_of.result;
      stack = reverse c.new.result.items;
      loops = map loop_of (reverse c.new-2.result.items);
      args = reverse c.new-3.result.items;
      unit = c.args.code.now.main;
      bound = c.new-4.result.items;
      callers = map caller_of (reverse c.new-5.result.items);
      slots = replicate 33 (pos 0);
      place = c.first.result;
      after = 0;
    } in
    let empty : IsEmpty h zeros = record {
      stack = ap reverse c.new.ensures;
      loops = ap (λ l. map loop_of (reverse l)) c.new-2.ensures;
      args = ap reverse c.new-3.ensures;
      callers = ap (λ l. map caller_of (reverse l)) c.new-5.ensures;
      zeros = of_zeros 33;
    } in
    let code = c.args.code.now in
    let kept : Kept = record { loops = []; args = []; path = []; unit = code.main; bound = h.bound; callers = [] } in
    let start = get_or code.starts code.main 0 in
    empty_frame [] records h zeros empty
    ∙ (ap (λ pc. stands pc [] kept (record { slots = zeros; input = left_at records c.first.result })) c.start_of.ensures
    ∙ (ap (λ left. stands start [] kept (record { slots = zeros; input = left })) (c.first.ensures records)
    ∙ ap (λ bound. stands start [] (record { loops = []; args = []; path = []; unit = code.main; bound = bound; callers = [] }) (record { slots = zeros; input = records })) c.new-4.ensures))
