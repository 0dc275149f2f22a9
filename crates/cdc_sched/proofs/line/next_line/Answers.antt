use Rattle.std.proofs.Common.{◌+◌, ◌-◌, List, ℕ, length, take, drop, sym, ◌∙◌, subst}
use Rattle.std.proofs.Math.Seq.{drop-length}
use Rattle.std.specs.Str.Lines.{strip_carriage_return}
use Rattle.cdc_sched.specs.Kept.{IsCutLine}
use Rattle.cdc_sched.proofs.Cuts.{first_line, last_line, rest_whole}
use Rattle.cdc_sched.proofs.line.next_line.Goals as goal

pub returns-in-Some-clause-line : goal.returns-in-Some-clause-line
returns-in-Some-clause-line c =
    let bytes = c.args.bytes.now in
    let end = c.in-Some.end in
    let cut = first_line bytes end c.in-Some.ensures in
    subst (λ (l : List ℕ). IsCutLine bytes l (take (length bytes - (end + 1)) (drop (end + 1) bytes))) (sym c.without_return.ensures)
    (subst (λ (r : List ℕ). IsCutLine bytes (strip_carriage_return (take end bytes)) r) (sym (rest_whole (end + 1) bytes)) cut)

pub returns-in-None-clause-line : goal.returns-in-None-clause-line
returns-in-None-clause-line c =
    let bytes = c.args.bytes.now in
    subst (λ (r : List ℕ). IsCutLine bytes bytes r) (sym (rest_whole (length bytes) bytes ∙ drop-length bytes)) (last_line bytes c.requires c.in-None.ensures)
