use Rattle.std.proofs.Common.{sym}
use Rattle.cdc_words.proofs.Scales.{scale_read, scale_unread}
use Rattle.cdc_words.proofs.scale.scale_of.Goals as goal

pub returns-then-scale-le-MOST : goal.returns-then-scale-le-MOST
returns-then-scale-le-MOST c =
    scale_read _ c.args.word.now c.parse.result c.in-Ok.scale (sym c.if-has_plus.ensures) c.parse.ensures.value.0 c.in-Ok.is c.if-scale-ge1.true c.if-scale-le-MOST.true

pub returns-in-Err : goal.returns-in-Err
returns-in-Err c = scale_unread _ c.args.word.now c.parse.result c.in-Err.field-0 (sym c.if-has_plus.ensures) c.parse.ensures.value.0 c.in-Err.is
