-- The main unit of a program.
use Rattle.std.proofs.Common.{◌≡◌, ℕ, ◌+◌, ◌<◌, true, false, List, [], ◌∷◌, ◌++◌, length, map, get_or, take, refl, sym, ap, ap₂, ◌∙◌, arith}
use Rattle.std.proofs.lemmas.List.{length-map}
use Rattle.cdc_prog.specs.declared.affine.Scope.{Scope}
use Rattle.cdc_prog.specs.declared.program.Unit.{Unit as ProgramUnit}
use Rattle.cdc_prog.specs.declared.program.Program.{Program}
use Rattle.cdc_prog.specs.Plain.{Stmt, Skip, Seq, Assign, If, Arm, Do, Doall, Call, Print, Read}
use Rattle.cdc_prog.specs.Numbered.{calls_in, calls_numbered, calls_in_units}
use Rattle.cdc_prog.specs.Translation.{stmts_of, unit_of, program_of}
use Rattle.cdc_prog.specs.Resolved.{IsResolved}
use Rattle.cdc_prog.specs.Dependence.{Spot, spot, index_of, inside}
use Rattle.cdc_prog.specs.Plain.{Empty}
use Rattle.cdc_prog.proofs.Numbered.{as_many}
use Rattle.cdc_path.specs.References.{expr_refs, controls_refs, store_ref, inside_doall, refs, outside}
use Rattle.cdc_flow.proofs.Numbers.{body_at}
use Rattle.cdc_mark.specs.Seen.{unbound, seen, main_refs}

-- the number of a CALL changes no reference
same_refs : (sc : Scope) (before : ℕ) (s : Stmt) → refs sc (calls_numbered before s) ≡ refs sc s
same_refs sc before Skip = refl
same_refs sc before (Seq a b) = ap₂ (λ (x y : List Spot). x ++ y) (same_refs sc before a) (same_refs sc (before + calls_in a) b)
same_refs sc before (Assign line t value) = refl
same_refs sc before (If arms) = same_refs sc before arms
same_refs sc before (Arm line cond body other) = ap₂ (λ (x y : List Spot). expr_refs sc cond ++ (x ++ y)) (same_refs sc before body) (same_refs sc (before + calls_in body) other)
same_refs sc before (Do k first body again bump) =
    ap (λ (x : List Spot). controls_refs sc k ++ (store_ref sc first Empty ++ (x ++ (spot sc false again Empty ∷ spot sc true bump Empty ∷ [])))) (same_refs (inside sc (index_of k first)) before body)
same_refs sc before (Doall k number slots body) = ap (λ (x : List Spot). controls_refs sc k ++ x) (same_refs (inside_doall sc k) before body)
same_refs sc before (Call line number unit actuals) = refl
same_refs sc before (Print line items) = refl
same_refs sc before (Read line targets) = refl

pub main_below : (p : Program) → IsResolved (program_of p) → p.main < length p.units
main_below p r = omega (arith, r.main, as_many 0 (map unit_of p.units), length-map p.units unit_of)

pub main_refs_of : (p : Program) (d : ProgramUnit) → p.main < length p.units → map (seen (unbound p.objects)) (refs outside (stmts_of (get_or p.units p.main d).body)) ≡ main_refs (program_of p)
main_refs_of p d lt =
    let f = λ (s : Stmt). map (seen (unbound p.objects)) (refs outside s) in
    let n = calls_in_units (map unit_of (take p.main p.units)) in
    ap (map (seen (unbound p.objects))) (sym (same_refs outside n (stmts_of (get_or p.units p.main d).body))) ∙ ap f (sym (body_at p.units p.main d lt))
