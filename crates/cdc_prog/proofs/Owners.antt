-- Each word of memory has one owner.
use Rattle.std.proofs.Common.{◌≡◌, ℕ, zero, suc, ◌+◌, ◌-◌, ◌<◌, ◌≤◌, ◌⊎◌, inl, inr, ℤ, List, [], ◌∷◌, Ok, refl, ap, subst, arith}
use Rattle.cdc_prog.specs.declared.expr.Var.{Var}
use Rattle.cdc_prog.specs.declared.expr.Var.TheVariants as var
use Rattle.cdc_prog.specs.declared.program.Object.{Object}
use Rattle.cdc_prog.specs.Data.{element, Binding, object_of, base_of, dims_of}
use Rattle.cdc_prog.specs.Resolved.{AreLaidOut, IsWordOf, AreBound, IsVar}
use Rattle.cdc_prog.proofs.Numbers.{element_within}
use Rattle.cdc_prog.proofs.Words.{bound_to}

-- no word of the objects lies before the first of them
starts_after : (from : ℕ) (os : List Object) (words k n w : ℕ) → AreLaidOut from os words → IsWordOf os k n w → from ≤ w
starts_after from [] words k n w laid is = absurd (omega (arith, is.0))
starts_after from (o ∷ os) words zero n w laid is = omega (arith, laid.0, is.2)
starts_after from (o ∷ os) words (suc k) n w laid is =
    omega (arith, starts_after (from + o.words) os words k n w laid.3 (omega (arith, is.0), is.1, is.2))

one_owner_from : (from : ℕ) (os : List Object) (words k j n m w : ℕ) → AreLaidOut from os words → IsWordOf os k n w → IsWordOf os j m w → (k ≡ j) × (n ≡ m)
one_owner_from from [] words k j n m w laid is also = absurd (omega (arith, is.0))
one_owner_from from (o ∷ os) words zero zero n m w laid is also = (refl, omega (arith, is.2, also.2))
one_owner_from from (o ∷ os) words zero (suc j) n m w laid is also =
    absurd (omega (arith, laid.0, laid.1, is.1, is.2, starts_after (from + o.words) os words j m w laid.3 (omega (arith, also.0), also.1, also.2)))
one_owner_from from (o ∷ os) words (suc k) zero n m w laid is also =
    absurd (omega (arith, laid.0, laid.1, also.1, also.2, starts_after (from + o.words) os words k n w laid.3 (omega (arith, is.0), is.1, is.2)))
one_owner_from from (o ∷ os) words (suc k) (suc j) n m w laid is also =
    let both = one_owner_from (from + o.words) os words k j n m w laid.3 (omega (arith, is.0), is.1, is.2) (omega (arith, also.0), also.1, also.2) in
    (ap suc both.0, both.1)

pub one_owner : (os : List Object) (words k j n m w : ℕ) → AreLaidOut 0 os words → IsWordOf os k n w → IsWordOf os j m w → (k ≡ j) × (n ≡ m)
one_owner = one_owner_from 0

owner_from : (from : ℕ) (os : List Object) (words w : ℕ) → AreLaidOut from os words → from ≤ w → w < words → (k : ℕ) × (n : ℕ) × IsWordOf os k n w
owner_from from [] words w laid low high = absurd (omega (arith, laid, low, high))
owner_from from (o ∷ os) words w laid low high =
    let here_or_later : (w < from + o.words) ⊎ (from + o.words ≤ w) = grind arith in
    elim here_or_later [
      | inl lt ↦ (0, w - from, (omega arith, omega (arith, laid.0, laid.1, low, lt), omega (arith, laid.0, low)))
      | inr le ↦
          let later = owner_from (from + o.words) os words w laid.3 le high in
          (suc later.0, later.1, (omega (arith, later.2.0), later.2.1, later.2.2))
    ]

pub owner : (os : List Object) (words w : ℕ) → AreLaidOut 0 os words → w < words → (k : ℕ) × (n : ℕ) × IsWordOf os k n w
owner os words w laid lt = owner_from 0 os words w laid (omega arith) lt

pub word_of_variable : (b : Binding) (words : ℕ) (v : Var) (subs : List ℤ) (n : ℕ) → AreLaidOut 0 b.objects words → AreBound b.objects b.shapes b.bound → IsVar b.objects b.shapes 0 v → element (dims_of b v) subs ≡ Ok n → IsWordOf b.objects (object_of b v) n (base_of b v + n)
word_of_variable b words (var.Object k) subs n laid bound is e = (is, element_within (dims_of b (var.Object k)) subs n e, refl)
word_of_variable b words (var.Dummy k) subs n laid bound is e =
    let at = bound_to b.objects b.shapes b.bound k bound is in
    (at.there, subst (λ size. n < size) at.size (element_within (dims_of b (var.Dummy k)) subs n e), refl)
word_of_variable b words (var.Slot k) subs n laid bound is e = absurd (omega (arith, is))
