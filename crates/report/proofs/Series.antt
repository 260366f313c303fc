-- Texts of a series, one turn of a loop for each. Assumes nothing.
use mathlib.Core.Path.{◌≡◌, refl}
use mathlib.Core.List.{List}
use Prim.Native.Nat.{ℕ, zero, suc, ◌+◌, ◌*◌, ◌≤◌, ◌<◌, zero-le}
use native.Mathlib.Nat.{mul-suc}
use native.Mathlib.Omega.{arith}
use lib.ListN.{length, length-append}
use Rattle.report.specs.Text.{series}

module _ (f : ℕ → List ℕ) where
  length_more : (n : ℕ) → length (series f (suc n)) ≡ length (series f n) + length (f n)
  unfolding series
  length_more n = length-append (series f n) (f n)

  pub length-series : (b n : ℕ) → ((k : ℕ) → k < n → length (f k) ≤ b) → length (series f n) ≤ b * n
  unfolding series
  length-series b zero h = zero-le
  length-series b (suc n) h =
      omega (arith, length_more n, h n (omega arith), length-series b n (λ k g. h k (omega arith)), mul-suc b n)

-- texts that are the same one by one
pub series_same : (f g : ℕ → List ℕ) (n : ℕ) → ((k : ℕ) → k < n → f k ≡ g k) → series f n ≡ series g n
unfolding series
series_same f g zero h = refl
series_same f g (suc n) h = rw (series_same f g n (λ k l. h k (omega arith)), h n (omega arith)) refl
