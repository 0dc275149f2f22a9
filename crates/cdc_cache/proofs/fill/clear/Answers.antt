use Rattle.std.proofs.Common.{◌≡◌, ◌<◌, length, get_or, ap, ◌∙◌, arith, refl}
use Rattle.std.specs.Prelude.{None}
use Rattle.std.proofs.lemmas.List.{get_or_default}
use Rattle.cdc_cache.proofs.Mapped.{map_from-step, map_from-same, map_front-all}
use Rattle.cdc_cache.proofs.fill.clear.Goals as goal

pub loop-j-preserved : goal.loop-j-preserved
loop-j-preserved g c =
    let j = c.loop-j.j in
    let within : j < length c.loop-j.words = omega (arith, ap length c.as_slice-j-end.ensures, c.loop-j.invariant.long) in
    let held = get_or c.loop-j.words j None in
    let read : held ≡ get_or c.loop-j.words j held = get_or_default c.loop-j.words j None held within in
    let step = map_from-step (λ _ _. None) 0 c.args.words.now c.loop-j.words c.set.new.self j held None c.loop-j.invariant.words c.loop-j.invariant.long within read refl c.set.ensures.now in
    record { words = step.0; long = step.1 }

pub returns : goal.returns
returns g c =
    c.loop-j.invariant.words
    ∙ map_front-all (λ _ _. None) 0 c.args.words.now c.loop-j.j (omega (arith, ap length c.as_slice-j-end.ensures))
    ∙ map_from-same (λ _ _. None) None (λ n x. refl) 0 c.args.words.now
