use Rattle.std.proofs.Common.{◌-◌, [], List, ℕ, get_or, refl, ap, ◌∙◌, subst}
use Rattle.cdc_epoch.proofs.Opening.{opens_doall, few_opened}
use Rattle.cdc_epoch.proofs.engine.Engine.open_doall.Goals as goal

pub open-requires : goal.open-requires
open-requires g c = let can = c.requires.can in few_opened g.F.Fabric c.args.self.now can.0 can.1 can.2 c.args.fork c.requires.epoch

pub returns : goal.returns
returns g c =
    λ m can ended. let b = c.boundary.ensures in
    let r = c.open.ensures in
    let list = c.list_of.ensures ∙ ap (λ (lists : List (List ℕ)). get_or lists (c.args.fork.number - 1) []) c.as_slice.ensures in
    opens_doall g.F.Fabric c.args.self.now m can ended c.args.fork c.requires.epoch _ c.boundary.new.self c.open.new.self c.saturating_add-self.result
    (record { code = refl; records = refl; memory = refl; parts = refl }) (record { count = r.count; free = r.taken; held = r.held }) (record {
      made = subst (λ (written : List ℕ). g.F.Fabric.bounds c.args.self.now.side written c.boundary.new.self) list b.step;
      stays = record { procs = b.procs; words = b.words; made = b.made; lines = b.lines; plain = b.plain };
      counted = c.saturating_add-self.ensures;
    })
