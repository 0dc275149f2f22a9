use Rattle.std.proofs.Common.{◌≡◌, ℕ, ◌<◌, get_or, replicate, true, false, refl, ◌∙◌, sym, ap, ap₂, subst, rules}
use Rattle.std.proofs.lemmas.List.{get_or-replicate}
use Rattle.cdc_fabric.specs.declared.counts.Counts.{Counts}
use Rattle.cdc_epoch.proofs.Applies.{begins}
use Rattle.cdc_epoch.proofs.engine.Engine.around.Goals as goal

pub returns-clause-counts : goal.returns-clause-counts
returns-clause-counts g c = λ p lt.
    let steps : c.of.result ≡ replicate c.args.procs 0 = search rules in
    ap₂ (λ (k : Counts) (n : ℕ). record k { steps = n }) (c.requires.counts p lt) (ap (λ l. get_or l p 0) steps ∙ get_or-replicate c.args.procs p 0 0 lt)

pub returns-clause-stands : goal.returns-clause-stands
returns-clause-stands g c =
    let roster = c.in_ok-roster.ensures in
    let steps : c.of.result ≡ replicate c.args.procs 0 = search rules in
    let taken : (i : ℕ) → i < 1 → get_or c.in_ok-roster.roster.taken i true ≡ false = λ i lt. roster.taken i (subst (λ n. i < n) (sym roster.count) lt) in
    begins g.F.Fabric _ c.args.procs refl c.requires.procs steps roster.count taken roster.held (c.serial-serial.ensures c.args.records.records) c.requires.start
