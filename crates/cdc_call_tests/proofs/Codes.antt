-- The code of the test is sound.
use Rattle.std.proofs.Common.{◌≡◌, ◌⊎◌, inl, inr, ℕ, zero, suc, ◌≤◌, [], ◌∷◌, refl, sym, subst, ◌∙◌, arith, rules}
use Rattle.std.specs.List.{Any}
use Rattle.cdc_prog.specs.declared.expr.Var.{Var}
use Rattle.cdc_prog.specs.declared.program.Marks.{Marks}
use Rattle.cdc_prog.specs.declared.expr.Var.TheVariants.{Object}
use Rattle.cdc_prog.specs.Plain.{Program}
use Rattle.cdc_prog.specs.Input.{Input}
use Rattle.cdc_prog.specs.Units.{body_of, process_of}
use Rattle.cdc_prog.specs.Uses.{Uses, ItemMentions}
use Rattle.cdc_prog.specs.Premises.{IsUnaliased}
use Rattle.cdc_prog.specs.Apart.{IsApart}
use Rattle.cdc_prog.specs.Examples.{one}
use Rattle.cdc_code.specs.declared.room.TheConstants.{STACK, NEST, ARGUMENTS}
use Rattle.cdc_code.specs.declared.code.Code.{Code}
use Rattle.cdc_code.specs.Examples.{unmarked}
use Rattle.cdc_code.specs.Room.{SlotsRoom, StmtRoom}
use Rattle.cdc_code.specs.Sound.{IsSound}
use Rattle.cdc_prog.proofs.Examples.{one_resolved}
use Rattle.cdc_code.proofs.Alone.{code_is_sound}

-- no reference is marked
abbrev none : Marks
none = record { reads = []; entries = []; exits = [] }

-- of one alone
any_one : {A : Type 0} (P : A → Type 0) (x : A) → Any P (x ∷ []) → P x
any_one P x (zero, y, lt, e, h) = subst P (sym e) h
any_one P x (suc k, y, lt, e, h) = absurd (omega (arith, lt))

-- one variable alone has no alias
unaliased : (p : Program) → ((u : ℕ) (v : Var) → Uses v (body_of p u) → v ≡ Object 0) → IsUnaliased p
unaliased p only path u bound v w k under of_v of_w differ stores denotes_v denotes_w = differ (only u v of_v ∙ sym (only u w of_w))

-- N = 2 + 3; PRINT *, N + 1
one_slots : (u : ℕ) → SlotsRoom (body_of one u)
one_slots zero = search rules
one_slots (suc u) = tt

one_bodies : (u : ℕ) → StmtRoom (λ k. k ≤ STACK) (λ k. k ≤ NEST) (λ k. k ≤ ARGUMENTS) 0 (body_of one u)
one_bodies zero = search rules
one_bodies (suc u) = tt

one_uses : (u : ℕ) (v : Var) → Uses v (body_of one u) → v ≡ Object 0
one_uses zero v (inl (inl (inl e))) = sym e
one_uses zero v (inl (inl (inr z))) = absurd z
one_uses zero v (inl (inr (inl z))) = absurd z
one_uses zero v (inl (inr (inr z))) = absurd z
one_uses zero v (inr (inl a)) = in_item (any_one (ItemMentions (λ at. at.var ≡ v)) _ a)
  where
    in_item : (Object 0 ≡ v) ⊎ ⊥ → v ≡ Object 0
    in_item (inl e) = sym e
    in_item (inr z) = absurd z
one_uses zero v (inr (inr z)) = absurd z
one_uses (suc u) v z = absurd z

one_apart : (records : Input) → IsApart (process_of one records)
one_apart records s = tt

pub one_sound : (code : Code) → code ≡ unmarked one → IsSound code
one_sound code is = subst IsSound (sym is) (code_is_sound one none one_resolved refl (record { units = omega arith; slots = one_slots; bodies = one_bodies }) (unaliased one one_uses) one_apart)
