-- Sums and maxima over the numbers below a bound, and the samples of a table.
use Rattle.std.specs.Prelude.{ℕ, zero, suc, ◌+◌, ◌/◌, max}

-- f 0 + … + f (n − 1)
unfoldable pub sum_below : ℕ → (ℕ → ℕ) → ℕ
sum_below zero f = 0
sum_below (suc n) f = sum_below n f + f n

-- the largest of f 0, …, f (n − 1), and 0 where there is none
unfoldable pub largest_below : ℕ → (ℕ → ℕ) → ℕ
largest_below zero f = 0
largest_below (suc n) f = max (largest_below n f) (f n)

-- the sum of t at ⌊(p + s)/D⌋ over the samples s from 0 to D − 1; their mean is this over D
unfoldable pub samples : (ℕ → ℕ) → ℕ → ℕ → ℕ
samples t D p = sum_below D (λ s. t ((p + s) / D))
