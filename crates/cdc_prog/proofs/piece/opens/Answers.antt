use Rattle.std.proofs.Common.{◌≡◌, ◌-◌, ◌+◌, ℕ, Bool, true, [], length, get_or, inl, inr, sym, ap, ◌∙◌, subst, arith, rules}
use Rattle.std.specs.Prelude.{not, ◌==◌}
use Rattle.std.proofs.lemmas.List.{get_or_default}
use mir.Val.{SFits}
use mir.Syntax.{w64}
use Rattle.cdc_prog.specs.Lines.{opened}
use Rattle.cdc_prog.specs.Meaning.{bytes_of_piece}
use Rattle.cdc_prog.specs.declared.piece.Piece.{Piece}
use Rattle.cdc_prog.specs.Pieces.{IsThere}
use Rattle.cdc_num.proofs.Texts.{signed_text}
use Rattle.cdc_prog.proofs.Opened.{number_opens, last_opens}
use Rattle.cdc_prog.proofs.piece.opens.Goals as goal

pub returns-in-Number : goal.returns-in-Number
returns-in-Number c =
    let after : Piece → Bool = λ piece. opened c.args.before (bytes_of_piece c.args.texts.now piece) in
    elim c.in-Number.is as (λ _. true ≡ after c.args.piece) [
      | inl n ↦ let fits : SFits w64 n.0 = search rules in sym (ap after n.1 ∙ number_opens c.args.before n.0 (signed_text n.0 fits.sfits))
      | inr e ↦ ap after (sym e)
    ]

pub returns-in-Some : goal.returns-in-Some
returns-in-Some c =
    let text = c.as_slice.result.now in
    let i = c.in-Some.ensures.item in
    let last : length text ≡ (length text - 1) + 1 = omega (arith, i.3.0) in
    let is : text ≡ get_or c.args.texts.now c.in-Text.number [] =
    c.as_slice.ensures ∙ c.index-texts-number.is ∙ get_or_default c.args.texts.now c.in-Text.number c.index-texts-number.result [] (subst (IsThere (length c.args.texts.now)) c.in-Text.is c.requires) in
    ap (λ (b : ℕ). not (b == 10)) (i.3.1 0) ∙ sym (last_opens c.args.before text (length text - 1) 0 last) ∙ ap (opened c.args.before) is
    ∙ ap (λ (piece : Piece). opened c.args.before (bytes_of_piece c.args.texts.now piece)) (sym c.in-Text.is)
