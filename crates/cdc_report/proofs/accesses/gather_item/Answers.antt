use Rattle.std.proofs.Common.{[], ◌∷◌, append-nil, ap, ◌∙◌}
use Rattle.cdc_prog.specs.Translation.{expr_of, item_of}
use Rattle.cdc_path.specs.References.{expr_refs, items_refs}
use Rattle.cdc_report.specs.MarkLines.{access_line}
use Rattle.cdc_report.proofs.Reached.{start, finished}
use Rattle.cdc_report.proofs.accesses.gather_item.Goals as goal

pub returns-in-Value : goal.returns-in-Value
returns-in-Value g c = λ sc.
    let L = access_line c.args.sites.now in
    let a = expr_refs sc (expr_of c.in-Value.value) in
    let is = ap (λ i. items_refs sc (item_of i ∷ [])) c.in-Value.is ∙ append-nil a in
    finished L a c.gather_expr.result (start L a _ _ _ is) (c.gather_expr.ensures sc)
