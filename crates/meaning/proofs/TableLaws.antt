-- Tables of counts: entries some steps apart, and steps turned into grains by the steepness. Assumes nothing.
use Rattle.std.proofs.Common.{◌≡◌, ℕ, zero, suc, ◌+◌, ◌-◌, ◌*◌, ◌<◌, ◌≤◌, ap, ⊎_elim, add-zero, add-suc, mul-le-mul_right, add-mul, mul-le-mul_left, add-one, arith}
use Rattle.std.proofs.lemmas.Bool.{cases_lt}
use Rattle.meaning.specs.Colours.{max_count, grains, ceiling}
use Rattle.meaning.specs.Distances.{gap}
use Rattle.meaning.specs.Stages.{unclaimed}
use Rattle.meaning.specs.Curves.{steepness_of_curve}
use Rattle.meaning.proofs.Rounding.{ceiling_covers}

-- a difference, n times larger
gap_times : (a b n : ℕ) → gap (a * n) (b * n) ≡ gap a b * n
gap_times a b n =
    ⊎_elim
    (λ (h : a < b).
    let e : b ≡ a + (b - a) = omega arith in
    let g : gap a b ≡ b - a = omega arith in
    rw g (omega (arith, ap (λ k. k * n) e, add-mul a (b - a) n)))
    (λ (h : b ≤ a).
    let e : a ≡ b + (a - b) = omega arith in
    let g : gap a b ≡ a - b = omega arith in
    rw g (omega (arith, ap (λ k. k * n) e, add-mul b (a - b) n)))
    (cases_lt a b)

-- values p/q counts apart, over the denominator d, in steps of a table of m steps that count j each
pub steps_near : (a b m j d p q : ℕ) → a * q ≤ b * q + p * d → b * q ≤ a * q + p * d → q * (j * gap (a * m) (b * m)) ≤ m * (p * d) * j
steps_near a b m j d p q above below =
    let near : gap a b * q ≤ p * d = let e = gap_times a b q in omega arith in
    rw (gap_times a b m) (omega (arith, mul-le-mul_right (m * j) near))

-- those steps in grains, where l is the steepness
pub steps_grown : (w m j l d p q : ℕ) → q * w ≤ m * (p * d) * j → grains * m * j ≤ l * max_count → w * (grains * q) ≤ l * p * (max_count * d)
steps_grown w m j l d p q near covers = omega (arith, mul-le-mul_left grains near, mul-le-mul_right (p * d) covers)

-- a claimed steepness is no smaller than its fraction
pub steepness_covers : (n j : ℕ) → steepness_of_curve n j < unclaimed → grains * (n - 1) * j ≤ steepness_of_curve n j * max_count
steepness_covers n j claimed =
    let c = ceiling_covers (grains * (n - 1) * j) max_count (omega arith) in
    let e : steepness_of_curve n j ≡ ceiling (grains * (n - 1) * j) max_count = omega arith in
    rw e c

-- ---- one table, whose first m neighbouring pairs differ by at most j
module _ (t : ℕ → ℕ) (m j : ℕ) (steps : (i : ℕ) → i < m → gap (t i) (t (i + 1)) ≤ j) where
  climb : (i d : ℕ) → i + d ≤ m → (t i ≤ t (i + d) + j * d) × (t (i + d) ≤ t i + j * d)
  climb i zero h = rw add-zero (omega arith)
  climb i (suc d) h =
      rw add-suc
      (let before = climb i d (omega arith) in
      let step = rw add-one at (steps (i + d) (omega arith)) in
      (omega arith, omega arith))

  -- entries i and k differ by at most j for each step between them
  pub entries_apart : (i k : ℕ) → i ≤ m → k ≤ m → t i ≤ t k + j * gap i k
  entries_apart i k hi hk =
      ⊎_elim
      (λ (l : i < k).
      let e : i + (k - i) ≡ k = omega arith in
      let g : gap i k ≡ k - i = omega arith in
      rw g (rw e at (climb i (k - i) (omega arith)).0))
      (λ (l : k ≤ i).
      let e : k + (i - k) ≡ i = omega arith in
      let g : gap i k ≡ i - k = omega arith in
      rw g (rw e at (climb k (i - k) (omega arith)).1))
      (cases_lt i k)
