-- The slots of iterations: how many there are, and what they are in the beginning.
use Rattle.std.proofs.Common.{◌≡◌, ℕ, zero, suc, ◌<◌, ◌≤◌, ℤ, pos, replicate, refl, sym, ◌∙◌, arith}
use Rattle.std.specs.Prelude.{slice_set}
use Rattle.cdc_prog.specs.Plain.{Stmt, Skip, Seq, Assign, If, Arm, Do, Doall, Call, Print, Read}
use Rattle.cdc_prog.specs.Data.{zeros, put}
use Rattle.cdc_prog.specs.Bodies.{HasOnly}
use Rattle.cdc_prog.specs.Held.{store_of}
use Rattle.cdc_prog.proofs.Alone.{put_other}
use Rattle.cdc_prog.proofs.Answers.{all_zeros}
use Rattle.cdc_meaning.specs.Doall.{SlotsWithin}

pub within_more : (m n : ℕ) (s : Stmt) → m ≤ n → SlotsWithin m s → SlotsWithin n s
within_more m n Skip le h = tt
within_more m n (Seq a b) le h = (within_more m n a le h.0, within_more m n b le h.1)
within_more m n (Assign line target value) le h = tt
within_more m n (If arms) le h = within_more m n arms le h
within_more m n (Arm line cond body other) le h = (within_more m n body le h.0, within_more m n other le h.1)
within_more m n (Do k first body again bump) le h = within_more m n body le h
within_more m n (Doall k number slots body) le h = omega (arith, le, h)
within_more m n (Call line number u actuals) le h = tt
within_more m n (Print line items) le h = tt
within_more m n (Read line targets) le h = tt

-- statements without DOALL need none
pub none_needed : (talks calls : Type 0) (n : ℕ) (s : Stmt) → HasOnly talks ⊥ calls s → SlotsWithin n s
none_needed talks calls n Skip h = tt
none_needed talks calls n (Seq a b) h = (none_needed talks calls n a h.0, none_needed talks calls n b h.1)
none_needed talks calls n (Assign line target value) h = tt
none_needed talks calls n (If arms) h = none_needed talks calls n arms h
none_needed talks calls n (Arm line cond body other) h = (none_needed talks calls n body h.0, none_needed talks calls n other h.1)
none_needed talks calls n (Do k first body again bump) h = none_needed talks calls n body h
none_needed talks calls n (Doall k number slots body) h = absurd h
none_needed talks calls n (Call line number u actuals) h = tt
none_needed talks calls n (Print line items) h = tt
none_needed talks calls n (Read line targets) h = tt

-- the index in slot 0, and 0 in each other
pub first_of_zeros : (n : ℕ) (v : ℤ) → 0 < n → store_of (slice_set (replicate n (pos 0)) 0 v) ≡ put zeros 0 v
first_of_zeros zero v lt = absurd (omega (arith, lt))
first_of_zeros (suc n) v lt = λ i w. at w i
  where
    at : (w : ℕ) → store_of (slice_set (replicate (suc n) (pos 0)) 0 v) w ≡ put zeros 0 v w
    at zero = refl
    at (suc w) = (λ i. all_zeros (replicate n (pos 0)) n refl i w) ∙ sym (put_other zeros 0 v (suc w) (λ e. omega (arith, e)))
