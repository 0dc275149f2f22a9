-- The slots of a task.
use Rattle.std.proofs.Common.{◌≡◌, ◌≢◌, ℕ, zero, suc, ℤ, pos, ◌∷◌, get_or, refl, sym, ◌∙◌, arith}
use Rattle.std.specs.Prelude.{replicate}
use Rattle.std.proofs.Math.Path.{fun_ext}
use Rattle.cdc_prog.specs.Data.{zeros, put}
use Rattle.cdc_prog.specs.Held.{store_of}
use Rattle.cdc_prog.proofs.Alone.{put_other}

zeros_past : (n i : ℕ) → get_or (replicate n (pos 0)) i (pos 0) ≡ pos 0
zeros_past zero i = refl
zeros_past (suc n) zero = refl
zeros_past (suc n) (suc i) = zeros_past n i

-- slots of 0
pub of_zeros : (n : ℕ) → store_of (replicate n (pos 0)) ≡ zeros
of_zeros n = fun_ext (zeros_past n)

-- and an index before them
pub of_index : (n : ℕ) (index : ℤ) → store_of (index ∷ replicate n (pos 0)) ≡ put zeros 0 index
of_index n index = fun_ext go
  where
    go : (i : ℕ) → store_of (index ∷ replicate n (pos 0)) i ≡ put zeros 0 index i
    go zero = refl
    go (suc i) =
        let ne : suc i ≢ 0 = λ q. omega (arith, q) in
        zeros_past n i ∙ sym (put_other zeros 0 index (suc i) ne)
