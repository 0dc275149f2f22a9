-- The lines on the processors.
use Rattle.std.proofs.Common.{◌≡◌, ℕ, zero, suc, List, [], ◌++◌, ◌+◌, ◌-◌, ◌≤◌, sym, ◌∙◌, ap, append_assoc, append-nil, arith}
use Rattle.cdc_fabric.specs.declared.counts.Counts.{Counts}
use Rattle.cdc_report.specs.End.{count_line, count_lines}

module _ (counts : ℕ → Counts) where
  -- one processor more
  pub one_more : (p : ℕ) → count_lines counts p ++ count_line p (counts p) ≡ count_lines counts (p + 1)
  one_more p = let z : suc p ≡ p + 1 = omega arith in ap (count_lines counts) z

  -- the lines on some begin those on more of them
  begins : (p k : ℕ) → (rest : List ℕ) × (count_lines counts p ++ rest ≡ count_lines counts (p + k))
  begins p zero = let z : p ≡ p + 0 = omega arith in ([], append-nil (count_lines counts p) ∙ ap (count_lines counts) z)
  begins p (suc k) =
      let before = begins p k in
      let z : suc (p + k) ≡ p + suc k = omega arith in
      let last = count_line (p + k) (counts (p + k)) in
      (before.0 ++ last, sym (append_assoc (count_lines counts p) before.0 last) ∙ (ap (λ (l : List ℕ). l ++ last) before.1 ∙ ap (count_lines counts) z))

  pub begins_all : (p procs : ℕ) → p ≤ procs → (rest : List ℕ) × (count_lines counts p ++ rest ≡ count_lines counts procs)
  begins_all p procs within =
      let more = begins p (procs - p) in
      let z : p + (procs - p) ≡ procs = omega (arith, within) in
      (more.0, more.1 ∙ ap (count_lines counts) z)
