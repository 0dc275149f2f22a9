-- Sets that grow by one reference after another.
use Rattle.std.proofs.Common.{◌≡◌, ◌↔◌, ◌⊎◌, ℕ, suc, ◌+◌, ◌≤◌, ◌<◌, List, [], ◌∷◌, length, get_or, drop, take, refl, sym, ap, ◌∙◌, subst, inl, inr, add-one, slice_get, Option, Some, arith}
use Rattle.std.proofs.Math.Seq.{drop-cons}
use Rattle.std.proofs.lemmas.List.{take_all}
use Rattle.std.proofs.lemmas.List.Elements.{All-more, All-same}
use Rattle.std.proofs.lemmas.Option.{slice_get-get_or, slice_get_past}
use Rattle.cdc_prog.specs.declared.affine.Scope.{Scope}
use Rattle.cdc_prog.specs.Plain.{Exprs, Empty, More}
use Rattle.cdc_prog.specs.declared.program.Object.{Object}
use Rattle.cdc_prog.specs.Data.{dims_in}
use Rattle.cdc_prog.specs.Sections.{section}
use Rattle.cdc_mark.specs.declared.references.Reference.{Reference}
use Rattle.cdc_mark.specs.Classes.{Some_of, HaveRoom}

pub left_is : (rs : List Reference) (i : ℕ) (q : Reference) → i < length rs → q ≡ get_or rs i q → drop i rs ≡ q ∷ drop (i + 1) rs
left_is rs i q lt is = rw (add-one, drop-cons rs i q) (ap (λ b. b ∷ drop (suc i) rs) (sym is))

-- the set New has what Old has and the reference q; so Old with what is left before is New with what is left after
pub grown_by : (New Old All : Type 0) (P : Reference → Type 0) (rs : List Reference) (i : ℕ) (q : Reference) → i < length rs → q ≡ get_or rs i q → (New ↔ (Old ⊎ P q)) →
    ((Old ⊎ Some_of P (drop i rs)) ↔ All) → (New ⊎ Some_of P (drop (i + 1) rs)) ↔ All
grown_by New Old All P rs i q lt is f h =
    let e = left_is rs i q lt is in
    let g : (Old ⊎ Some_of P (q ∷ drop (i + 1) rs)) ↔ All = subst (λ l. (Old ⊎ Some_of P l) ↔ All) e h in (
      λ x. g.0 (elim x [ inl n ↦ elim (f.0 n) [ inl o ↦ inl o | inr p ↦ inr (inl p) ] | inr s ↦ inr (inr s) ]),
      λ a. elim (g.1 a) [ inl o ↦ inl (f.1 (inl o)) | inr (inl p) ↦ inl (f.1 (inr p)) | inr (inr s) ↦ inr s ],
    )

-- ---- sections
pub no_dims : (sc : Scope) (es : Exprs) → section sc es [] ≡ []
no_dims sc Empty = refl
no_dims sc (More e es) = refl

-- ---- room
pub room_more : (rs : List Reference) (i old new : ℕ) (q : Reference) → i < length rs → q ≡ get_or rs i q → old ≤ new → q.site < new → HaveRoom (take i rs) old → HaveRoom (take (i + 1) rs) new
room_more rs i old new q lt is le below h =
    All-more (λ (x : Reference). x.site < new) rs i q lt (λ k d n. (let m = h k d n in omega (arith, m, le))) (subst (λ (x : Reference). x.site < new) is below)

pub room_all : (rs : List Reference) (i n : ℕ) → length rs ≤ i → HaveRoom (take i rs) n → HaveRoom rs n
room_all rs i n le h = All-same (λ (x : Reference). x.site < n) rs (take i rs) (sym (take_all i rs le)) h

-- the section of a reference to an object that exists, and to one that does not
pub object_there : (sc : Scope) (es : Exprs) (objects : List Object) (k : ℕ) (o : Object) → k < length objects → o ≡ get_or objects k o → section sc es o.dims ≡ section sc es (dims_in (slice_get objects k))
object_there sc es objects k o lt is = sym (ap (λ (x : Option Object). section sc es (dims_in x)) (slice_get-get_or objects k o lt ∙ ap Some (sym is)))

pub object_absent : (sc : Scope) (es : Exprs) (objects : List Object) (k : ℕ) → length objects ≤ k → section sc es (dims_in (slice_get objects k)) ≡ []
object_absent sc es objects k le = ap (λ (x : Option Object). section sc es (dims_in x)) (slice_get_past objects k le) ∙ no_dims sc es
