-- Numbers of CALLs change nothing else.
use Rattle.std.proofs.Common.{◌≡◌, ℕ, suc, zero, ◌+◌, ◌<◌, List, [], ◌∷◌, ◌++◌, length, refl, sym, ap, ap₂, ◌∙◌, subst, arith}
use Rattle.std.specs.Prelude.{slice_get}
use Rattle.std.specs.List.{range_with_len}
use Rattle.cdc_prog.specs.declared.program.Dim.{Dim}
use Rattle.cdc_prog.specs.Plain.{Stmt, Skip, Seq, Assign, If, Arm, Do, Doall, Call, Print, Read, ProgramUnit, Program}
use Rattle.cdc_prog.specs.Numbered.{calls_in, calls_numbered, units_numbered, program_numbered, call_numbers, unit_call_numbers, calls_in_units}
use Rattle.cdc_prog.specs.Units.{shapes_in, body_in, body_of}
use Rattle.cdc_prog.specs.Bodies.{HasOnly}
use Rattle.cdc_prog.specs.Resolved.{ActualsFit, StmtFits, IsResolved, IsSerial}

pub only_numbered : (talks doalls calls : Type 0) (before : ℕ) (s : Stmt) → HasOnly talks doalls calls s → HasOnly talks doalls calls (calls_numbered before s)
only_numbered talks doalls calls before Skip h = h
only_numbered talks doalls calls before (Seq a b) h = (only_numbered talks doalls calls before a h.0, only_numbered talks doalls calls (before + calls_in a) b h.1)
only_numbered talks doalls calls before (Assign line target value) h = h
only_numbered talks doalls calls before (If arms) h = only_numbered talks doalls calls before arms h
only_numbered talks doalls calls before (Arm line cond body other) h =
    (only_numbered talks doalls calls before body h.0, only_numbered talks doalls calls (before + calls_in body) other h.1)
only_numbered talks doalls calls before (Do k first body again bump) h = only_numbered talks doalls calls before body h
only_numbered talks doalls calls before (Doall k number slots body) h = h
only_numbered talks doalls calls before (Call line number unit actuals) h = h
only_numbered talks doalls calls before (Print line items) h = h
only_numbered talks doalls calls before (Read line targets) h = h

-- statements without CALL have no number to change
pub same_without_calls : (before : ℕ) (s : Stmt) → calls_in s ≡ 0 → calls_numbered before s ≡ s
same_without_calls before Skip h = refl
same_without_calls before (Seq a b) h =
    ap₂ Seq (same_without_calls before a (omega (arith, h))) (same_without_calls (before + calls_in a) b (omega (arith, h)))
same_without_calls before (Assign line target value) h = refl
same_without_calls before (If arms) h = ap If (same_without_calls before arms h)
same_without_calls before (Arm line cond body other) h =
    ap₂ (Arm line cond) (same_without_calls before body (omega (arith, h))) (same_without_calls (before + calls_in body) other (omega (arith, h)))
same_without_calls before (Do k first body again bump) h = ap (λ s. Do k first s again bump) (same_without_calls before body h)
same_without_calls before (Doall k number slots body) h = ap (Doall k number slots) (same_without_calls before body h)
same_without_calls before (Call line number unit actuals) h = cc
same_without_calls before (Print line items) h = refl
same_without_calls before (Read line targets) h = refl

pub no_calls : (talks : Type 0) (s : Stmt) → HasOnly talks ⊥ ⊥ s → calls_in s ≡ 0
no_calls talks Skip h = refl
no_calls talks (Seq a b) h = omega (arith, no_calls talks a h.0, no_calls talks b h.1)
no_calls talks (Assign line target value) h = refl
no_calls talks (If arms) h = no_calls talks arms h
no_calls talks (Arm line cond body other) h = omega (arith, no_calls talks body h.0, no_calls talks other h.1)
no_calls talks (Do k first body again bump) h = no_calls talks body h
no_calls talks (Doall k number slots body) h = absurd h
no_calls talks (Call line number unit actuals) h = absurd h
no_calls talks (Print line items) h = refl
no_calls talks (Read line targets) h = refl

-- the bodies of DOALLs that fit have no CALL either
pub fit_without_calls : (p : Program) (ranks : ℕ → ℕ) (rank : ℕ) (shapes : List (List Dim)) (slots : ℕ) (talks doalls : Type 0) (s : Stmt) → StmtFits p ranks rank shapes slots s → HasOnly talks doalls ⊥ s → calls_in s ≡ 0
fit_without_calls p ranks rank shapes slots talks doalls Skip f h = refl
fit_without_calls p ranks rank shapes slots talks doalls (Seq a b) f h =
    omega (arith, fit_without_calls p ranks rank shapes slots talks doalls a f.0 h.0, fit_without_calls p ranks rank shapes slots talks doalls b f.1 h.1)
fit_without_calls p ranks rank shapes slots talks doalls (Assign line target value) f h = refl
fit_without_calls p ranks rank shapes slots talks doalls (If arms) f h = fit_without_calls p ranks rank shapes slots talks doalls arms f h
fit_without_calls p ranks rank shapes slots talks doalls (Arm line cond body other) f h =
    omega (arith, fit_without_calls p ranks rank shapes slots talks doalls body f.1 h.0, fit_without_calls p ranks rank shapes slots talks doalls other f.2 h.1)
fit_without_calls p ranks rank shapes slots talks doalls (Do k first body again bump) f h = fit_without_calls p ranks rank shapes slots talks doalls body f.4 h
fit_without_calls p ranks rank shapes slots talks doalls (Doall k number own body) f h = no_calls ⊥ body f.3
fit_without_calls p ranks rank shapes slots talks doalls (Call line number unit actuals) f h = absurd h
fit_without_calls p ranks rank shapes slots talks doalls (Print line items) f h = refl
fit_without_calls p ranks rank shapes slots talks doalls (Read line targets) f h = refl

units_without_calls : (before : ℕ) (us : List ProgramUnit) → ((u : ℕ) → calls_in (body_in (slice_get us u)) ≡ 0) → units_numbered before us ≡ us
units_without_calls before [] h = refl
units_without_calls before (u ∷ us) h =
    ap₂ (λ (body : Stmt) (rest : List ProgramUnit). record { name = u.name; dummies = u.dummies; body = body } ∷ rest)
    (same_without_calls before u.body (h 0)) (units_without_calls (before + calls_in u.body) us (λ k. h (suc k)))

pub without_calls : (p : Program) → ((u : ℕ) → calls_in (body_of p u) ≡ 0) → program_numbered p ≡ p
without_calls p h = ap (λ (us : List ProgramUnit). record p { units = us }) (units_without_calls 0 p.units h)

pub serial_numbered : (p : Program) → IsSerial p → program_numbered p ≡ p
serial_numbered p h = without_calls p (λ u. no_calls (Unit {0}) (body_of p u) (h u))

-- ---- units
pub as_many : (before : ℕ) (us : List ProgramUnit) → length (units_numbered before us) ≡ length us
as_many before [] = refl
as_many before (u ∷ us) = ap suc (as_many (before + calls_in u.body) us)

pub same_shapes : (before : ℕ) (us : List ProgramUnit) (k : ℕ) → shapes_in (slice_get (units_numbered before us) k) ≡ shapes_in (slice_get us k)
same_shapes before [] k = refl
same_shapes before (u ∷ us) zero = refl
same_shapes before (u ∷ us) (suc k) = same_shapes (before + calls_in u.body) us k

pub body_numbered : (before : ℕ) (us : List ProgramUnit) (k : ℕ) → (n : ℕ) × (body_in (slice_get (units_numbered before us) k) ≡ calls_numbered n (body_in (slice_get us k)))
body_numbered before [] k = (0, refl)
body_numbered before (u ∷ us) zero = (before, refl)
body_numbered before (u ∷ us) (suc k) = body_numbered (before + calls_in u.body) us k

-- ---- what a resolved program keeps
module _ (p : Program) (ranks : ℕ → ℕ) (rank : ℕ) (shapes : List (List Dim)) where
  fits_numbered : (slots before : ℕ) (s : Stmt) → StmtFits p ranks rank shapes slots s → StmtFits (program_numbered p) ranks rank shapes slots (calls_numbered before s)
  fits_numbered slots before Skip f = f
  fits_numbered slots before (Seq a b) f = (fits_numbered slots before a f.0, fits_numbered slots (before + calls_in a) b f.1)
  fits_numbered slots before (Assign line target value) f = f
  fits_numbered slots before (If arms) f = fits_numbered slots before arms f
  fits_numbered slots before (Arm line cond body other) f =
      (f.0, fits_numbered slots before body f.1, fits_numbered slots (before + calls_in body) other f.2)
  fits_numbered slots before (Do k first body again bump) f = (f.0, f.1, f.2, f.3, fits_numbered slots before body f.4)
  fits_numbered slots before (Doall k number own body) f =
      (f.0, f.1, f.2, only_numbered ⊥ ⊥ ⊥ before body f.3, fits_numbered own before body f.4)
  fits_numbered slots before (Call line number u actuals) f = (
    f.0,
    subst (λ n. u < n) (sym (as_many 0 p.units)) f.1,
    f.2,
    subst (λ s. ActualsFit p.objects shapes s actuals) (sym (same_shapes 0 p.units u)) f.3,
  )
  fits_numbered slots before (Print line items) f = f
  fits_numbered slots before (Read line targets) f = f

pub resolved_numbered : (p : Program) → IsResolved p → IsResolved (program_numbered p)
resolved_numbered p h =
    let n = as_many 0 p.units in
    record {
      laid_out = h.laid_out;
      shaped = h.shaped;
      small = h.small;
      main = subst (λ k. p.main < k) (sym n) h.main;
      main_alone = same_shapes 0 p.units p.main ∙ h.main_alone;
      ranks = h.ranks;
      ranked = λ u lt. subst (λ k. h.ranks u < k) (sym n) (h.ranked u (subst (λ k. u < k) n lt));
      fits = λ u lt.
          let b = body_numbered 0 p.units u in
          subst (λ s. StmtFits (program_numbered p) h.ranks (h.ranks u) (shapes_in (slice_get (units_numbered 0 p.units) u)) 0 s) (sym b.1)
          (subst (λ shapes. StmtFits (program_numbered p) h.ranks (h.ranks u) shapes 0 (calls_numbered b.0 (body_of p u))) (sym (same_shapes 0 p.units u))
          (fits_numbered p h.ranks (h.ranks u) (shapes_in (slice_get p.units u)) 0 b.0 (body_of p u) (h.fits u (subst (λ k. u < k) n lt))));
    }

-- ---- the numbers
joined : (a b m n : ℕ) → b ≡ a + m → range_with_len a m ++ range_with_len b n ≡ range_with_len a (m + n)
joined a b zero n e =
    let start : b ≡ a = omega (arith, e) in
    let count : n ≡ 0 + n = omega arith in
    ap₂ range_with_len start count
joined a b (suc m) n e =
    let count : suc (m + n) ≡ suc m + n = omega arith in
    ap (λ l. a ∷ l) (joined (a + 1) b m n (omega (arith, e))) ∙ ap (range_with_len a) count

pub numbers_in_order : (before : ℕ) (s : Stmt) → call_numbers (calls_numbered before s) ≡ range_with_len (suc before) (calls_in s)
numbers_in_order before Skip = refl
numbers_in_order before (Seq a b) =
    ap₂ (λ (x y : List ℕ). x ++ y) (numbers_in_order before a) (numbers_in_order (before + calls_in a) b) ∙ joined (suc before) (suc (before + calls_in a)) (calls_in a) (calls_in b) (omega arith)
numbers_in_order before (Assign line target value) = refl
numbers_in_order before (If arms) = numbers_in_order before arms
numbers_in_order before (Arm line cond body other) =
    ap₂ (λ (x y : List ℕ). x ++ y) (numbers_in_order before body) (numbers_in_order (before + calls_in body) other) ∙ joined (suc before) (suc (before + calls_in body)) (calls_in body) (calls_in other) (omega arith)
numbers_in_order before (Do k first body again bump) = numbers_in_order before body
numbers_in_order before (Doall k number slots body) = numbers_in_order before body
numbers_in_order before (Call line number unit actuals) = refl
numbers_in_order before (Print line items) = refl
numbers_in_order before (Read line targets) = refl

pub unit_numbers_in_order : (before : ℕ) (us : List ProgramUnit) → unit_call_numbers (units_numbered before us) ≡ range_with_len (suc before) (calls_in_units us)
unit_numbers_in_order before [] = refl
unit_numbers_in_order before (u ∷ us) =
    ap₂ (λ (x y : List ℕ). x ++ y) (numbers_in_order before u.body) (unit_numbers_in_order (before + calls_in u.body) us) ∙ joined (suc before) (suc (before + calls_in u.body)) (calls_in u.body) (calls_in_units us) (omega arith)
