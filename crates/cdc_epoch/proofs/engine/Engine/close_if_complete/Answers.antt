use Rattle.std.proofs.Common.{◌≡◌, Option, None, List, ℕ, refl, sym, ◌∙◌, subst}
use Rattle.std.specs.Prelude.{All}
use Rattle.cdc_code.specs.Frames.{Frame}
use Rattle.cdc_machine.specs.Machine.{DeedOf, Rests, Closes, closing}
use Rattle.cdc_epoch.specs.Ties.{AllEnded, DoesDeed}
use Rattle.cdc_epoch.proofs.Applies.{same_can, from_mid}
use Rattle.cdc_epoch.proofs.Closing.{some_rests, busy_rests, none_ended, closes}
use Rattle.cdc_epoch.proofs.Taking.{idles}
use Rattle.cdc_epoch.proofs.engine.Engine.close_if_complete.Goals as goal
use Rattle.cdc_epoch.proofs.engine.Engine.close_if_complete.Goals.{then-is_some-via-then-is_some, then-is_some-via-else-is_some+then-not-is_at_rest}

abbrev Rest : List (Option ℕ) → Type 0
Rest held = All (λ h. h ≡ None) held

pub returns-then-is_some : goal.returns-then-is_some
returns-then-is_some g c =
    λ m can. let l = c.least_free.ensures in
    let keeps = (can.ties.live can.live).roster in
    let rests : closing m ≡ Rests = elim c.then-is_some.branch [
      | then-is_some-via-then-is_some w ↦ some_rests c.args.self.now.roster m keeps c.least_free.result (sym c.is_some.ensures ∙ w.if-is_some.true) l.least
      | then-is_some-via-else-is_some+then-not-is_at_rest w ↦ busy_rests c.args.self.now.roster m keeps (λ rest. let up = w.is_at_rest.ensures.1 (subst Rest (sym l.held) rest) in let down = w.if-not-is_at_rest.true in cc)
    ] in
    idles g.F.Fabric c.args.self.now m can (closing m) rests _ (record { code = refl; records = refl; memory = refl; parts = refl }) l.count l.taken l.held

pub close-requires : goal.close-requires
close-requires g c =
    let m = c.requires.can.0 in
    let can = c.requires.can.1 in
    let l = c.least_free.ensures in
    record {
      can = (
        m,
        same_can g.F.Fabric c.args.self.now _ refl refl refl m refl l.count l.taken l.held can,
        none_ended c.args.self.now.roster m (can.ties.live can.live).roster c.least_free.result (sym c.is_some.ensures ∙ c.if-is_some.false) l.least (subst Rest l.held (c.is_at_rest.ensures.0 c.if-not-is_at_rest.false)),
      );
    }

pub returns : goal.returns
returns g c =
    λ m can. let l = c.least_free.ensures in
    let none_free = sym c.is_some.ensures ∙ c.if-is_some.false in
    let ended : AllEnded m = none_ended c.args.self.now.roster m (can.ties.live can.live).roster c.least_free.result none_free l.least (subst Rest l.held (c.is_at_rest.ensures.0 c.if-not-is_at_rest.false)) in
    subst (λ (d : DeedOf Frame). DoesDeed g.F.Fabric d m c.args.self.now c.close.result c.close.new.self) (sym (closes m ended)) (from_mid g.F.Fabric c.args.self.now _ refl refl refl Closes m c.close.result c.close.new.self
    (c.close.ensures m (same_can g.F.Fabric c.args.self.now _ refl refl refl m refl l.count l.taken l.held can) ended))
