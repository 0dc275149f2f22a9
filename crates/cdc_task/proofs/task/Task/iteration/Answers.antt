use Rattle.std.proofs.Common.{◌≡◌, ◌∙◌, [], map, ap}
use Rattle.std.specs.Prelude.{reverse}
use Rattle.std.proofs.lemmas.Int.{to_z-of_z}
use Rattle.cdc_prog.specs.Data.{zeros, put}
use Rattle.cdc_code.specs.Frames.{stands}
use Rattle.cdc_task.specs.Held.{Held, left_at, begun}
use Rattle.cdc_task.specs.Parts.{loop_of, caller_of}
use Rattle.cdc_task.proofs.Begins.{IsEmpty, empty_frame}
use Rattle.cdc_task.proofs.task.Task.iteration.Goals as goal

pub returns : goal.returns
returns c =
    λ path records. let index = c.args.index in
    let h : Held = record {
      pc = c.serial.inside.pc;
      stack = reverse c.clear.new.self.items;
      loops = map loop_of (reverse c.clear-2.new.self.items);
      args = reverse c.clear-3.new.self.items;
      unit = c.serial.inside.unit;
      bound = c.extend.new.bound.items;
      callers = map caller_of (reverse c.clear-5.new.self.items);
      slots = c.first_slots-self-inside.result;
      place = c.serial.inside.place;
      after = c.self.inside.after;
    } in
    let empty : IsEmpty h (put zeros 0 index) = record {
      stack = ap reverse c.clear.ensures;
      loops = ap (λ l. map loop_of (reverse l)) c.clear-2.ensures;
      args = ap reverse c.clear-3.ensures;
      callers = ap (λ l. map caller_of (reverse l)) c.clear-5.ensures;
      zeros = c.first_slots-self-inside.ensures ∙ ap (put zeros 0) (to_z-of_z _ index c.ranges.index);
    } in
    let bound : c.extend.new.bound.items ≡ c.serial.inside.bound.items = c.extend.ensures ∙ c.as_slice.ensures.value in
    empty_frame path records h (put zeros 0 index) empty
    ∙ (ap (λ bound. stands h.pc [] (record { loops = []; args = []; path = path; unit = h.unit; bound = bound; callers = [] }) (record { slots = put zeros 0 index; input = left_at records h.place })) bound
    ∙ ap (λ serial. begun path records serial index) c.serial.view_is)
