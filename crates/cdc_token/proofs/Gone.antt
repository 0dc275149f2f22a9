-- The loop over the lines: what is left from here is the whole from the start.
use Rattle.std.proofs.Common.{◌≡◌, ℕ, ◌+◌, ◌≤◌, ◌<◌, Bool, false, List, [], ◌∷◌, ◌++◌, length, append-nil, None, sym, refl, ap, ◌∙◌, subst, inl, inr, arith}
use Rattle.std.specs.List.{AllZip}
use Rattle.std.specs.Str.Lines.{lines}
use Rattle.cdc_base.specs.declared.place.Place.{Place}
use Rattle.cdc_token.specs.declared.fault.Fault.{Fault}
use Rattle.cdc_token.specs.declared.fault.Fault.TheVariants.{BadByte, OpenText, NameLong, NumberWide, LineLong}
use Rattle.cdc_token.specs.declared.fault.LineRefusal.{LineRefusal}
use Rattle.cdc_token.specs.declared.fault.LineRefusal.TheVariants.{At, Memory}
use Rattle.cdc_token.specs.declared.token.LexRefusal.{LexRefusal}
use Rattle.cdc_token.specs.declared.gathered.Gathered.{Gathered}
use Rattle.cdc_token.specs.Pieces.{Piece, Leads, goes_on}
use Rattle.cdc_token.specs.Refusals.{HoldsIn, HoldsAt, ComesFirst, IsFirst, IsRefused}
use Rattle.cdc_token.specs.Logical.{line_items, ending, items, gather, AreLogicalLines}
use Rattle.cdc_token.specs.Taking.{whole, Takes, TakesLine, FirstHeld, Fails, refusal, in_line}
use Rattle.cdc_token.proofs.Laws.{one_reading}

-- ---- the lines that are left

abbrev Read : List (List Piece) → List (List ℕ) → Type 0
Read = AllZip (λ ps z. Leads ps z [])

-- pieces of the whole source, with the lines that those of the rest give from here
pub record All (source : List ℕ) (g : Gathered) (n : ℕ) (was : Bool) (pss : List (List Piece)) : Type 0 where
  pub pieces : List (List Piece)
  pub cut : Read pieces (lines source)
  pub same : whole g (items n was pss) ≡ gather [] (items 1 false pieces)

pub record Gone (source : List ℕ) (g : Gathered) (n : ℕ) (was : Bool) (rest : List ℕ) : Type 0 where
  pub read : (pss : List (List Piece)) → Read pss (lines rest) → All source g n was pss
  pub left : (d : Fault) (l c : ℕ) → HoldsAt source d l c → HoldsIn n was (lines rest) d l c
  pub back : (d : Fault) (l c : ℕ) → HoldsIn n was (lines rest) d l c → HoldsAt source d l c
  pub small : n + length rest ≤ length source + 1

pub gone_start : (source : List ℕ) (g : Gathered) → g.done ≡ [] → g.begun ≡ [] → Gone source g 1 false source
gone_start source g done begun = record {
  read = λ pss cut. record { pieces = pss; cut = cut; same = λ i. done i ++ gather (begun i) (items 1 false pss) };
  left = λ d l c h. h;
  back = λ d l c h. h;
  small = omega arith;
}

not_before : (n : ℕ) (was : Bool) (zs : List (List ℕ)) (d : Fault) (l c : ℕ) → HoldsIn n was zs d l c → n ≤ l
not_before n was [] d l c h = absurd h
not_before n was (z ∷ zs) d l c (inl (at, h)) = omega (arith, at)
not_before n was (z ∷ zs) d l c (inr (ps, leads, h)) = let rec = not_before (n + 1) (goes_on was ps) zs d l c h in omega (arith, rec)

module _ {source : List ℕ} {g : Gathered} {n : ℕ} {was : Bool} {rest : List ℕ} (gone : Gone source g n was rest) (line next : List ℕ) (cut : lines rest ≡ line ∷ lines next) where
  fault_first : (d : Fault) (c : ℕ) → FirstHeld was line d c → IsFirst source d (record { line = n; column = c })
  fault_first d c first = record {
    holds = gone.back d n c (subst (λ zs. HoldsIn n was zs d n c) (sym cut) (inl (refl, first.holds)));
    least = λ e m x h. least e m x (subst (λ zs. HoldsIn n was zs e m x) cut (gone.left e m x h));
  }
    where
      least : (e : Fault) (m x : ℕ) → HoldsIn n was (line ∷ lines next) e m x → ComesFirst d n c e m x
      least e m x (inl (at, h)) = inr (sym at, first.least e x h)
      least e m x (inr (ps, leads, h)) = let after = not_before (n + 1) (goes_on was ps) (lines next) e m x h in inl (omega (arith, after))

  refused : (d : Fault) (place : Place) → IsFirst source d place → IsRefused source (refusal d place)
  refused BadByte place h = h
  refused OpenText place h = h
  refused NameLong place h = h
  refused NumberWide place h = h
  refused LineLong place h = h

  pub line_fails : (e : LineRefusal) → Fails was line e → (r : LexRefusal) → r ≡ in_line n e → IsRefused source r
  line_fails Memory fails r is = subst (IsRefused source) (sym is) tt
  line_fails (At d c) fails r is = subst (IsRefused source) (sym is) (refused d (record { line = n; column = c }) (fault_first d c fails))

  pub gone_more : (new : Gathered) (on : Bool) → TakesLine was line n g new on → length next < length rest → Gone source new (n + 1) on next
  gone_more new on taken shorter = record {
    read = λ pss more.
        let all = gone.read (taken.pieces ∷ pss) (subst (Read (taken.pieces ∷ pss)) (sym cut) (taken.leads, more)) in
        record {
          pieces = all.pieces;
          cut = all.cut;
          same = taken.taken (items (n + 1) on pss)
              ∙ ap (λ b. whole g ((line_items n 1 taken.pieces ++ ending b) ++ items (n + 1) b pss)) taken.open_is
              ∙ all.same;
        };
    left = λ d l c h. later d l c (subst (λ zs. HoldsIn n was zs d l c) cut (gone.left d l c h));
    back = λ d l c h. gone.back d l c (subst (λ zs. HoldsIn n was zs d l c) (sym cut)
        (inr (taken.pieces, taken.leads, subst (λ b. HoldsIn (n + 1) b (lines next) d l c) taken.open_is h)));
    small = let small = gone.small in omega (arith, small, shorter);
  }
    where
      later : (d : Fault) (l c : ℕ) → HoldsIn n was (line ∷ lines next) d l c → HoldsIn (n + 1) on (lines next) d l c
      later d l c (inl (at, h)) = absurd (taken.none d c h)
      later d l c (inr (ps, leads, h)) =
          let same : ps ≡ taken.pieces = one_reading ps taken.pieces line leads taken.leads in
          subst (λ b. HoldsIn (n + 1) b (lines next) d l c) (ap (goes_on was) same ∙ sym taken.open_is) h

pub gone_end : (source : List ℕ) (g new : Gathered) (n : ℕ) (was : Bool) (rest : List ℕ) → Gone source g n was rest → rest ≡ [] → Takes g new (None ∷ []) → new.begun ≡ [] → AreLogicalLines source new.done
gone_end source g new n was rest gone none takes empty =
    let nothing : lines rest ≡ [] = ap lines none in
    let all = gone.read [] (subst (Read []) (sym nothing) tt) in
    let done : whole new [] ≡ new.done = ap (λ xs. new.done ++ gather xs []) empty ∙ append-nil _ in
    record {
      pieces = all.pieces;
      cut = all.cut;
      sound = λ d l c h. subst (λ zs. HoldsIn n was zs d l c) nothing (gone.left d l c h);
      gathered = sym done ∙ takes [] ∙ all.same;
    }
