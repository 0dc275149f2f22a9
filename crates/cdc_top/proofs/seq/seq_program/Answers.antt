use Rattle.std.proofs.Common.{ap, sym, subst, refl, Err, inl}
use Rattle.std.specs.Prelude.{List, ℕ}
use Rattle.cdc_top.specs.Answer.{IsTold}
use Rattle.cdc_top.specs.Sequential.{input_too_long}
use Rattle.cdc_top.proofs.Ends.{with_input, ended_memory, ended_read, ended_said, ended_one_of, unread, unread_told, too_long, too_long_told, too_long_long, whole_told}
use Rattle.cdc_top.specs.declared.limits.TheConstants.{INPUT_LIMIT}
use Rattle.cdc_top.proofs.seq.seq_program.Goals as goal

pub returns-in-Err-Memory : goal.returns-in-Err-Memory
returns-in-Err-Memory g c = let told = g.S.Store.told c.args.store.now c.args.input.now in ended_memory (with_input (unread told)) (unread_told told) _ _ _ _

pub returns-in-Err-Failed : goal.returns-in-Err-Failed
returns-in-Err-Failed g c =
    let told = g.S.Store.told c.args.store.now c.args.input.now in
    ended_read (with_input (unread told)) (unread_told told) _ _ _ _ (c.in-Err-Failed.ensures.cause.failed (ap Err c.in-Err-Failed.field-0-is))

pub returns-in-Err-TooLong : goal.returns-in-Err-TooLong
returns-in-Err-TooLong g c =
    let told = g.S.Store.told c.args.store.now c.args.input.now in
    let long = too_long_long INPUT_LIMIT told (c.in-Err-TooLong.ensures.long (ap Err c.in-Err-TooLong.field-0-is)) in
    ended_said (with_input (too_long INPUT_LIMIT told)) input_too_long _ _ _ _ _ _ _ (too_long_told INPUT_LIMIT told) (inl (long, refl)) (inl (long, refl)) (c.in-Err-TooLong.ensures.cause.kept (λ e. cc (e, c.in-Err-TooLong.field-0-is))) c.say_long_input.ensures

pub returns-in-Ok : goal.returns-in-Ok
returns-in-Ok g c =
    let told = g.S.Store.told c.args.store.now c.args.input.now in
    let bytes = c.deref.result.now in
    let read : IsTold told bytes = subst (λ (b : List ℕ). IsTold told b) (sym c.deref.ensures.value) (whole_told INPUT_LIMIT _ _ c.in-Ok.ensures.whole) in
    ended_one_of (with_input bytes) _ _ _ _ _ _ _ read (λ a is. is) (c.in-Ok.ensures.cause.kept (λ e. cc e)) c.play_input.ensures
